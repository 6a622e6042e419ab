use Rattle.std.proofs.Common.{◌≡◌, ℕ, zero, suc, ◌+◌, ◌-◌, ◌*◌, ◌/◌, ◌<◌, ◌≤◌, eqb, ltb, List, [], length, Ok, Err, Result, ap, subst, ⊎_elim, arith}
use Rattle.std.proofs.lemmas.Bool.{eqb-false}
use Rattle.sheets.specs.declared.fault.RecordStart.{RecordStart}
use Rattle.sheets.specs.declared.fault.FileFault.{FileFault}
use Rattle.sheets.specs.declared.fault.FileFault.TheVariants.{RecordCount}
use Rattle.sheets.specs.Faults.{spot, fault_numbers}
use Rattle.sheets.specs.Sheets.{Declaration, component_bound, component_gain}
use Rattle.demand.proofs.Admitted.{numbers_fit}
use Rattle.sheets.proofs.Inverting.{not_caught}
use Rattle.sheets.proofs.Places.{Near, near_then, near_then_so, near_cond, rows_near, line_near}
use Rattle.binder_file.specs.Boot.{verdict_on}
use Rattle.binder_file.specs.Format.{fields_at, length_at, kind_at, ends_inside, whole_fields, record_judged, next_start, records_from, decode}
use Rattle.binder_file.proofs.Format.{Ended, First, none_left, first_left}
use Rattle.binder_file.proofs.Rewriting.{record_accepted}

near_record : (m : ℕ) (bs : List ℕ) (start : RecordStart) → start.place + 68 ≤ m → Near m (record_judged bs start)
near_record m bs start h =
    let n = (length_at bs start - 2) / 2 in
    near_cond m (ends_inside bs start) _ _ (omega arith)
    (near_cond m (eqb (kind_at bs start) 1) _ _
    (near_cond m (whole_fields (length_at bs start)) _ _ (rows_near m (fields_at bs (start.place + 4) n) start h) (omega arith))
    (near_cond m (eqb (kind_at bs start) 2) _ _
    (near_cond m (whole_fields (length_at bs start)) _ _ (line_near m (fields_at bs (start.place + 4) n) start h) (omega arith))
    (omega arith)))

-- an accepted record has at most 84 bytes, so the fault of a file is never far
near_records : (m most : ℕ) (bs : List ℕ) (start : RecordStart) → start.place + 84 * most + 68 ≤ m → Near m (records_from most bs start)
unfolding records_from
near_records m zero bs start h = near_cond m (ltb start.place (length bs)) (Err (RecordCount (spot start 0))) (Ok []) (omega arith) tt
near_records m (suc most) bs start h =
    near_cond m (ltb start.place (length bs)) _ (Ok [])
    (near_then_so m (record_judged bs start) _ (near_record m bs start (omega arith))
    (λ d e.
    let a = record_accepted bs start d e in
    near_then m (records_from most bs (next_start bs start)) _ (near_records m most bs (next_start bs start) (omega (arith, a.size, a.few))) (λ _. tt)))
    tt

near_file : (bs : List ℕ) → Near 65535 (decode bs)
near_file bs =
    near_cond 65535 (eqb (length bs) 0) (Err (RecordCount (record { index = 0; place = 0 }))) (records_from 8 bs (record { index = 0; place = 0 })) (omega arith) (near_records 65535 8 bs (record { index = 0; place = 0 }) (omega arith))

near_err : (r : Result (List Declaration) FileFault) (f : FileFault) → Near 65535 r → r ≡ Err f → (fault_numbers f).2 ≤ 65535
near_err r f n e = subst (λ (x : Result (List Declaration) FileFault). Near 65535 x) e n

pub fault_near : (bs : List ℕ) (f : FileFault) → decode bs ≡ Err f → (fault_numbers f).2 < 65536
fault_near bs f e = omega (arith, near_err (decode bs) f (near_file bs) e)

-- an accepted file has one to eight sheets
count_most : (most : ℕ) (bs : List ℕ) (start : RecordStart) (ds : List Declaration) → records_from most bs start ≡ Ok ds → (length ds ≤ most) × (start.place < length bs → 1 ≤ length ds)
count_most zero bs start ds e =
    let p = none_left bs start ds e in
    (omega (arith, ap (λ (l : List Declaration). length l) p.1), λ h. absurd (omega (arith, p.0)))
count_most (suc most) bs start ds e =
    ⊎_elim (λ (p : Ended bs start ds). (omega (arith, ap (λ (l : List Declaration). length l) p.1), λ h. absurd (omega (arith, p.0))))
    (λ (r : First most bs start ds).
    let n = ap (λ (l : List Declaration). length l) r.all in
    (omega (arith, n, (count_most most bs (next_start bs start) r.others r.rest).0), λ h. omega (arith, n)))
    (first_left most bs start ds e)

pub file_counted : (bs : List ℕ) (ds : List Declaration) → decode bs ≡ Ok ds → (1 ≤ length ds) × (length ds ≤ 8)
file_counted bs ds e =
    let p = not_caught (eqb (length bs) 0) (records_from 8 bs (record { index = 0; place = 0 })) (RecordCount (record { index = 0; place = 0 })) ds e in
    let c = count_most 8 bs (record { index = 0; place = 0 }) ds p.1 in
    (c.1 (omega (arith, eqb-false (length bs) 0 p.0)), c.0)

-- the verdict on the sheets of an accepted file fits the number for boot code
pub verdict_fits : (bs : List ℕ) (ds : List Declaration) → decode bs ≡ Ok ds → ((verdict_on ds).0 ≤ 9) × ((verdict_on ds).1 ≤ 8192)
verdict_fits bs ds e =
    let c = file_counted bs ds e in
    numbers_fit (length ds) (component_bound ds) (component_gain ds) c.0 c.1
