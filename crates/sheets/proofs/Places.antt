use Rattle.std.proofs.Common.{◌≡◌, ℕ, ◌+◌, ◌*◌, ◌%◌, ◌≤◌, Bool, true, false, cond, eqb, leb, List, [], ◌∷◌, length, Some, None, Ok, Err, Option, Result, refl, ⊎_elim, arith}
use Rattle.std.proofs.lemmas.Bool.{cases_Bool, cond-true, cond-false}
use Rattle.sheets.specs.declared.row.Row.{Row}
use Rattle.sheets.specs.declared.fault.RecordStart.{RecordStart}
use Rattle.sheets.specs.declared.fault.FileFault.{FileFault}
use Rattle.sheets.specs.declared.fault.FileFault.TheVariants.{OutOfOrder, WrongLength}
use Rattle.sheets.specs.Faults.{spot, then, fault_numbers}
use Rattle.demand.specs.Fields.{from_to}
use Rattle.sheets.specs.Fields.{power_of_two, field}
use Rattle.sheets.specs.Rows.{row_fields, before, in_order, row_judged, rows_from, rows_judged}
use Rattle.sheets.specs.Lines.{line_judged}
use Rattle.sheets.specs.Kinds.{rows_in, line_in, rows_record, line_record}
use Rattle.demand.proofs.Fields.{range_from}

-- a fault, if there is one, lies at m or before
abbrev pub Near : {X : Type 0} → ℕ → Result X FileFault → Type 0
Near m (Ok x) = Unit {0}
Near m (Err f) = (fault_numbers f).2 ≤ m

pub near_then : {X Y : Type 0} (m : ℕ) (a : Result X FileFault) (f : X → Result Y FileFault) → Near m a → ((x : X) → Near m (f x)) → Near m (then a f)
near_then m (Ok x) f p q = q x
near_then m (Err e) f p q = p

-- the same, where the next step may use that the first went well
pub near_then_so : {X Y : Type 0} (m : ℕ) (a : Result X FileFault) (f : X → Result Y FileFault) → Near m a → ((x : X) → a ≡ Ok x → Near m (f x)) → Near m (then a f)
near_then_so m (Ok x) f p q = q x refl
near_then_so m (Err e) f p q = p

pub near_cond : {X : Type 0} (m : ℕ) (b : Bool) (r s : Result X FileFault) → Near m r → Near m s → Near m (cond b r s)
near_cond m true r s p q = p
near_cond m false r s p q = q

near_field : (m : ℕ) (ok : Bool) (start : RecordStart) (offset : ℕ) → start.place + offset ≤ m → Near m (field ok (spot start offset))
near_field m true start offset h = tt
near_field m false start offset h = h

near_fields : (m : ℕ) (r : Row) (start : RecordStart) (offset : ℕ) → start.place + offset + 6 ≤ m → Near m (row_fields r start offset)
near_fields m r start offset h =
    near_then m (field (power_of_two r.period) (spot start offset)) _ (near_field m (power_of_two r.period) start offset (omega arith)) (λ _.
    near_then m (field (from_to 1 r.period r.deadline) (spot start (offset + 2))) _ (near_field m (from_to 1 r.period r.deadline) start (offset + 2) (omega arith)) (λ _.
    near_then m (field (from_to 1 4096 r.budget) (spot start (offset + 4))) _ (near_field m (from_to 1 4096 r.budget) start (offset + 4) (omega arith)) (λ _.
    near_field m (from_to 1 16 r.copies) start (offset + 6) (omega arith))))

near_order : (m : ℕ) (last : Option Row) (r : Row) (start : RecordStart) (offset : ℕ) → start.place + offset ≤ m → Near m (in_order last r (spot start offset))
near_order m None r start offset h = tt
near_order m (Some last) r start offset h = near_cond m (before last r) (Ok tt) (Err (OutOfOrder (spot start offset))) tt h

near_rows : (m : ℕ) (last : Option Row) (rs : List Row) (start : RecordStart) (offset : ℕ) → start.place + offset + 8 * length rs ≤ m → Near m (rows_from last rs start offset)
near_rows m last [] start offset h = tt
near_rows m last (r ∷ rs) start offset h =
    near_then m (row_judged last r start offset) _
    (near_then m (row_fields r start offset) _ (near_fields m r start offset (omega arith)) (λ _. near_order m last r start offset (omega arith)))
    (λ _. near_rows m (Some r) rs start (offset + 8) (omega arith))

near_judged : (m : ℕ) (rs : List Row) (start : RecordStart) → start.place + 68 ≤ m → Near m (rows_judged rs start)
near_judged m rs start h =
    ⊎_elim (λ (t : from_to 1 8 (length rs) ≡ true).
    let few = (range_from 1 8 (length rs) t).1 in
    rw (cond-true (from_to 1 8 (length rs)) (rows_from None rs start 4) (Err (WrongLength (spot start 0))) t) (near_rows m None rs start 4 (omega arith)))
    (λ (f : from_to 1 8 (length rs) ≡ false).
    rw (cond-false (from_to 1 8 (length rs)) (rows_from None rs start 4) (Err (WrongLength (spot start 0))) f) (omega arith))
    (cases_Bool (from_to 1 8 (length rs)))

-- a fault in a record lies within 68 bytes of its start
pub rows_near : (m : ℕ) (fs : List ℕ) (start : RecordStart) → start.place + 68 ≤ m → Near m (rows_record fs start)
rows_near m fs start h =
    near_cond m (eqb (length fs % 4) 0) _ _ (near_then m (rows_judged (rows_in fs) start) _ (near_judged m (rows_in fs) start h) (λ _. tt)) (omega arith)

pub line_near : (m : ℕ) (fs : List ℕ) (start : RecordStart) → start.place + 68 ≤ m → Near m (line_record fs start)
line_near m fs start h =
    let x = line_in fs in
    near_cond m (eqb (length fs) 4) _ _
    (near_then m (line_judged x start) _
    (near_then m (field (from_to 1 4096 x.deadline) (spot start 4)) _ (near_field m (from_to 1 4096 x.deadline) start 4 (omega arith)) (λ _.
    near_then m (field (leb x.burst 4096) (spot start 6)) _ (near_field m (leb x.burst 4096) start 6 (omega arith)) (λ _.
    near_then m (field (power_of_two x.per) (spot start 8)) _ (near_field m (power_of_two x.per) start 8 (omega arith)) (λ _.
    near_field m (leb x.rate x.per) start 10 (omega arith)))))
    (λ _. tt))
    (omega arith)
