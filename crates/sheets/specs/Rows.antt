use Rattle.std.specs.Prelude.{ℕ, ◌+◌, ◌-◌, ◌*◌, ◌/◌, Bool, cond, ◌&&◌, ◌||◌, List, [], ◌∷◌, ◌++◌, length, is_ok, Some, None, Ok, Err, sum_by, codes, decimal, Option, Result, ◌==◌, nat_lt}
use Rattle.sheets.specs.declared.row.Row.{Row}
use Rattle.sheets.specs.declared.fault.Location.{Location}
use Rattle.sheets.specs.declared.fault.RecordStart.{RecordStart}
use Rattle.sheets.specs.declared.fault.FileFault.{FileFault}
use Rattle.sheets.specs.declared.fault.FileFault.TheVariants.{OutOfOrder, WrongLength}
use Rattle.sheets.specs.Faults.{spot, then}
use Rattle.demand.specs.Fields.{from_to}
use Rattle.sheets.specs.Fields.{power_of_two, field}

-- the fields of a row in file order, two bytes each, from `offset` bytes into the record on
abbrev pub row_fields : Row → RecordStart → ℕ → Result (Unit {0}) FileFault
row_fields r start offset =
    then (field (power_of_two r.period) (spot start offset)) (λ _.
    then (field (from_to 1 r.period r.deadline) (spot start (offset + 2))) (λ _.
    then (field (from_to 1 4096 r.budget) (spot start (offset + 4))) (λ _.
    field (from_to 1 16 r.copies) (spot start (offset + 6)))))

-- sheet order: by deadline, then period, then budget
abbrev pub before : Row → Row → Bool
before r s =
    nat_lt r.deadline s.deadline
    || (r.deadline == s.deadline
    && (nat_lt r.period s.period
    || (r.period == s.period && nat_lt r.budget s.budget)))

-- a row that is refused unless it comes after the last one, if any
abbrev pub in_order : Option Row → Row → Location → Result (Unit {0}) FileFault
in_order None r at = Ok tt
in_order (Some last) r at = cond (before last r) (Ok tt) (Err (OutOfOrder at))

-- one row, after the last one, if any
abbrev pub row_judged : Option Row → Row → RecordStart → ℕ → Result (Unit {0}) FileFault
row_judged last r start offset = then (row_fields r start offset) (λ _. in_order last r (spot start offset))

-- rows one after the other, eight bytes each
abbrev pub rows_from : Option Row → List Row → RecordStart → ℕ → Result (Unit {0}) FileFault
rows_from last [] start offset = Ok tt
rows_from last (r ∷ rs) start offset =
    then (row_judged last r start offset) (λ _. rows_from (Some r) rs start (offset + 8))

-- the rows of one record: one to eight, which begin behind its length and its kind
abbrev pub rows_judged : List Row → RecordStart → Result (Unit {0}) FileFault
rows_judged rs start = cond (from_to 1 8 (length rs)) (rows_from None rs start 4) (Err (WrongLength (spot start 0)))

-- rows that the rules accept
abbrev pub sound_rows : List Row → Bool
sound_rows rs = is_ok (rows_judged rs (record { index = 0; place = 0 }))

-- the units that a row brings in a window of l ticks, and the units that 4,096 further ticks add
abbrev pub row_bound : Row → ℕ → ℕ
row_bound r l = cond (nat_lt l r.deadline) 0 (r.copies * r.budget * ((l - r.deadline) / r.period + 1))

abbrev pub row_gain : Row → ℕ
row_gain r = r.copies * r.budget * 4096 / r.period

-- of all rows of a sheet
abbrev pub rows_bound : List Row → ℕ → ℕ
rows_bound rs l = sum_by (λ r. row_bound r l) rs

abbrev pub rows_gain : List Row → ℕ
rows_gain rs = sum_by row_gain rs

-- a row as it is printed
abbrev pub row_words : Row → List ℕ
row_words r =
    codes "period " ++ (decimal r.period ++ (codes " deadline " ++ (decimal r.deadline ++ (codes " budget " ++ (decimal r.budget ++ (codes " copies " ++ decimal r.copies))))))
