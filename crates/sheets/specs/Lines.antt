use Rattle.std.specs.Prelude.{ℕ, ◌+◌, ◌-◌, ◌*◌, ◌/◌, Bool, cond, List, ◌++◌, is_ok, codes, decimal, Result, nat_le, nat_lt}
use Rattle.sheets.specs.declared.line.Line.{Line}
use Rattle.sheets.specs.declared.fault.RecordStart.{RecordStart}
use Rattle.sheets.specs.declared.fault.FileFault.{FileFault}
use Rattle.sheets.specs.Faults.{spot, then}
use Rattle.demand.specs.Fields.{from_to}
use Rattle.sheets.specs.Fields.{power_of_two, field}

-- the fields of a line in file order, which begin behind the record's length and its kind
abbrev pub line_judged : Line → RecordStart → Result (Unit {0}) FileFault
line_judged x start =
    then (field (from_to 1 4096 x.deadline) (spot start 4)) (λ _.
    then (field (nat_le x.burst 4096) (spot start 6)) (λ _.
    then (field (power_of_two x.per) (spot start 8)) (λ _.
    field (nat_le x.rate x.per) (spot start 10))))

-- a line that the rules accept
abbrev pub sound_line : Line → Bool
sound_line x = is_ok (line_judged x (record { index = 0; place = 0 }))

-- the units that a line allows in a window of l ticks, and the units that 4,096 further ticks add
abbrev pub line_bound : Line → ℕ → ℕ
line_bound x l = cond (nat_lt l x.deadline) 0 (x.burst + x.rate * (l - x.deadline) / x.per)

abbrev pub line_gain : Line → ℕ
line_gain x = x.rate * 4096 / x.per

-- a line as it is printed
abbrev pub line_words : Line → List ℕ
line_words x =
    codes "deadline " ++ (decimal x.deadline ++ (codes " burst " ++ (decimal x.burst ++ (codes " rate " ++ (decimal x.rate ++ (codes " per " ++ decimal x.per))))))
