use Rattle.std.proofs.Common.{◌≡◌, ℕ, zero, suc, ◌+◌, ◌-◌, ◌*◌, ◌/◌, ◌^◌, ◌<◌, ◌≤◌, Bool, true, false, cond, ◌&&◌, eqb, ltb, leb, List, [], ◌∷◌, length, get_or, is_ok, Some, None, Ok, Err, sum_by, Option, Result, sym, refl, ap, subst, ◌∙◌, ⊎_elim, div-le_self, arith, pow_mono}
use Rattle.std.specs.List.{AllByRecursion}
use Rattle.std.proofs.lemmas.Bool.{cond_both, and_parts, or_cases, eqb-true}
use Rattle.std.proofs.lemmas.Nat.{mul-le, pow_pos}
use Rattle.std.proofs.ByRecursion.{All-get_or, All-weaker, sum_by_le}
use Rattle.sheets.specs.declared.line.Line.{Line}
use Rattle.sheets.specs.declared.row.Row.{Row}
use Rattle.sheets.specs.declared.fault.Location.{Location}
use Rattle.sheets.specs.declared.fault.RecordStart.{RecordStart}
use Rattle.sheets.specs.declared.fault.FileFault.{FileFault}
use Rattle.sheets.specs.declared.fault.FileFault.TheVariants.{OutOfOrder, WrongLength}
use Rattle.sheets.specs.Faults.{spot, then}
use Rattle.demand.specs.Fields.{from_to}
use Rattle.sheets.specs.Fields.{power_up_to, power_of_two, field}
use Rattle.sheets.specs.Rows.{row_fields, before, in_order, row_judged, rows_from, rows_judged, sound_rows, row_bound, row_gain}
use Rattle.sheets.specs.Lines.{line_judged, sound_line}
use Rattle.demand.proofs.Fields.{range_from}
use Rattle.sheets.proofs.Faults.{IsOk-then}

-- the ranges of a row's fields
abbrev pub row_ranges : Row → Bool
row_ranges r = power_of_two r.period && (from_to 1 r.period r.deadline && (from_to 1 4096 r.budget && from_to 1 16 r.copies))

pub four_fields : (a b c d : Bool) (i j k l : Location) → is_ok (then (field a i) (λ _. then (field b j) (λ _. then (field c k) (λ _. field d l)))) ≡ (a && (b && (c && d)))
four_fields false b c d i j k l = refl
four_fields true false c d i j k l = refl
four_fields true true false d i j k l = refl
four_fields true true true false i j k l = refl
four_fields true true true true i j k l = refl

-- r may follow the last row, if any
abbrev pub follows : Option Row → Row → Bool
follows None r = true
follows (Some last) r = before last r

order_ok : (last : Option Row) (r : Row) (at : Location) → is_ok (in_order last r at) ≡ follows last r
order_ok None r at = refl
order_ok (Some last) r at =
    elim (before last r) as (λ b. is_ok (cond {A = Result (Unit {0}) FileFault} b (Ok (tt {0})) (Err (OutOfOrder at))) ≡ b) [ true ↦ refl | false ↦ refl ]

row_ok : (last : Option Row) (r : Row) (start : RecordStart) (offset : ℕ) → is_ok (row_judged last r start offset) ≡ (row_ranges r && follows last r)
row_ok last r start offset =
    IsOk-then (row_fields r start offset) (in_order last r (spot start offset))
    ∙ ap (λ b. b && is_ok (in_order last r (spot start offset))) (four_fields (power_of_two r.period) (from_to 1 r.period r.deadline) (from_to 1 4096 r.budget) (from_to 1 16 r.copies) (spot start offset) (spot start (offset + 2)) (spot start (offset + 4)) (spot start (offset + 6)))
    ∙ ap (λ b. row_ranges r && b) (order_ok last r (spot start offset))

-- rows in range and in order
abbrev pub rows_fine : Option Row → List Row → Bool
rows_fine last [] = true
rows_fine last (r ∷ rs) = (row_ranges r && follows last r) && rows_fine (Some r) rs

rows_ok : (last : Option Row) (rs : List Row) (start : RecordStart) (offset : ℕ) → is_ok (rows_from last rs start offset) ≡ rows_fine last rs
rows_ok last [] start offset = refl
rows_ok last (r ∷ rs) start offset =
    IsOk-then (row_judged last r start offset) (rows_from (Some r) rs start (offset + 8))
    ∙ ap (λ b. b && is_ok (rows_from (Some r) rs start (offset + 8))) (row_ok last r start offset)
    ∙ ap (λ b. (row_ranges r && follows last r) && b) (rows_ok (Some r) rs start (offset + 8))

pub judged_ok : (rs : List Row) (start : RecordStart) → is_ok (rows_judged rs start) ≡ (from_to 1 8 (length rs) && rows_fine None rs)
judged_ok rs start =
    elim (from_to 1 8 (length rs)) as (λ b. is_ok (cond b (rows_from None rs start 4) (Err (WrongLength (spot start 0)))) ≡ (b && rows_fine None rs))
    [ true ↦ rows_ok None rs start 4 | false ↦ refl ]

-- rows that are accepted in one place are so in every place, and so is a line
pub judged_anywhere : (rs : List Row) (start : RecordStart) → is_ok (rows_judged rs start) ≡ sound_rows rs
judged_anywhere rs start = judged_ok rs start ∙ sym (judged_ok rs (record { index = 0; place = 0 }))

pub sound_anywhere : (rs : List Row) (start : RecordStart) → is_ok (rows_judged rs start) ≡ true → sound_rows rs ≡ true
sound_anywhere rs start e = sym (judged_anywhere rs start) ∙ e

pub line_ok : (x : Line) (start : RecordStart) → is_ok (line_judged x start) ≡ (from_to 1 4096 x.deadline && (leb x.burst 4096 && (power_of_two x.per && leb x.rate x.per)))
line_ok x start = four_fields (from_to 1 4096 x.deadline) (leb x.burst 4096) (power_of_two x.per) (leb x.rate x.per) (spot start 4) (spot start 6) (spot start 8) (spot start 10)

pub line_anywhere : (x : Line) (start : RecordStart) → is_ok (line_judged x start) ≡ sound_line x
line_anywhere x start = line_ok x start ∙ sym (line_ok x (record { index = 0; place = 0 }))

power_low : (e x : ℕ) → power_up_to e x ≡ true → (k : ℕ) × (k ≤ e) × (x ≡ 2 ^ k)
power_low zero x h = (0, omega arith, eqb-true x 1 h)
power_low (suc e) x h =
    ⊎_elim (λ (a : eqb x (2 ^ suc e) ≡ true). (suc e, omega arith, eqb-true x (2 ^ suc e) a))
    (λ (b : power_up_to e x ≡ true). let p = power_low e x b in (p.0, omega (arith, p.1), p.2))
    (or_cases (eqb x (2 ^ suc e)) (power_up_to e x) h)

-- what the test for a power of two says
pub power_from : (x : ℕ) → power_of_two x ≡ true → (k : ℕ) × (k ≤ 12) × (x ≡ 2 ^ k)
power_from x h = power_low 12 x h

-- a power of two is at least 1
pub power_pos : {x : ℕ} → (k : ℕ) × (k ≤ 12) × (x ≡ 2 ^ k) → 1 ≤ x
power_pos p = omega (arith, p.2, pow_pos p.0)

pub power_most : {x : ℕ} → (k : ℕ) × (k ≤ 12) × (x ≡ 2 ^ k) → x ≤ 4096
power_most p = let h : 2 ^ p.0 ≤ 2 ^ 12 = pow_mono p.1 in omega (arith, p.2)

-- the ranges of a row's fields, one by one
pub record Ranges (r : Row) : Type 0 where
  pub power : (k : ℕ) × (k ≤ 12) × (r.period ≡ 2 ^ k)
  pub deadline_low : 1 ≤ r.deadline
  pub deadline_high : r.deadline ≤ 4096
  pub budget_high : r.budget ≤ 4096
  pub copies_high : r.copies ≤ 16

pub ranges_from : (r : Row) → row_ranges r ≡ true → Ranges r
ranges_from r h =
    let a = and_parts (power_of_two r.period) (from_to 1 r.period r.deadline && (from_to 1 4096 r.budget && from_to 1 16 r.copies)) h in
    let b = and_parts (from_to 1 r.period r.deadline) (from_to 1 4096 r.budget && from_to 1 16 r.copies) a.1 in
    let c = and_parts (from_to 1 4096 r.budget) (from_to 1 16 r.copies) b.1 in
    let d = range_from 1 r.period r.deadline b.0 in
    let p = power_from r.period a.0 in
    record { power = p; deadline_low = d.0; deadline_high = omega (arith, d.1, power_most p); budget_high = (range_from 1 4096 r.budget c.0).1; copies_high = (range_from 1 16 r.copies c.1).1 }

fine_all : (last : Option Row) (rs : List Row) → rows_fine last rs ≡ true → AllByRecursion Ranges rs
fine_all last [] h = tt
fine_all last (r ∷ rs) h =
    let a = and_parts (row_ranges r && follows last r) (rows_fine (Some r) rs) h in
    (ranges_from r (and_parts (row_ranges r) (follows last r) a.0).0, fine_all (Some r) rs a.1)

-- a sound sheet has one to eight rows, each in its ranges
pub sound_all : (rs : List Row) → sound_rows rs ≡ true → (1 ≤ length rs) × (length rs ≤ 8) × AllByRecursion Ranges rs
sound_all rs h =
    let e = sym (judged_ok rs (record { index = 0; place = 0 })) ∙ h in
    let a = and_parts (from_to 1 8 (length rs)) (rows_fine None rs) e in
    let b = range_from 1 8 (length rs) a.0 in
    (b.0, b.1, fine_all None rs a.1)

pub row_steps_fit : (r : Row) (l : ℕ) → l < 2 ^ 32 → Ranges r → r.copies * r.budget * ((l - r.deadline) / r.period + 1) ≤ 2 ^ 48
row_steps_fit r l h g =
    mul-le (r.copies * r.budget) ((l - r.deadline) / r.period + 1) (16 * 4096) (2 ^ 32) (mul-le r.copies r.budget 16 4096 g.copies_high g.budget_high)
    (omega (arith, div-le_self (l - r.deadline) r.period))

row_bound_fits : (r : Row) (l : ℕ) → l < 2 ^ 32 → Ranges r → row_bound r l ≤ 2 ^ 48
row_bound_fits r l h g =
    cond_both (ltb l r.deadline) 0 (r.copies * r.budget * ((l - r.deadline) / r.period + 1)) (λ n. n ≤ 2 ^ 48) (λ _. omega arith)
    (λ _. row_steps_fit r l h g)

row_gain_fits : (r : Row) → Ranges r → row_gain r ≤ 2 ^ 48
row_gain_fits r g =
    omega (arith, div-le_self (r.copies * r.budget * 4096) r.period, mul-le r.copies r.budget 16 4096 g.copies_high g.budget_high)

pub row_bounds_fit : (rs : List Row) (l : ℕ) → l < 2 ^ 32 → AllByRecursion Ranges rs → sum_by (λ r. row_bound r l) rs ≤ length rs * 2 ^ 48
row_bounds_fit rs l h a = sum_by_le (λ r. row_bound r l) (2 ^ 48) rs (All-weaker Ranges (λ r. row_bound r l ≤ 2 ^ 48) (λ r g. row_bound_fits r l h g) rs a)

pub row_gains_fit : (rs : List Row) → AllByRecursion Ranges rs → sum_by row_gain rs ≤ length rs * 2 ^ 48
row_gains_fit rs a = sum_by_le row_gain (2 ^ 48) rs (All-weaker Ranges (λ r. row_gain r ≤ 2 ^ 48) row_gain_fits rs a)

-- a row of the list is in its ranges
pub ranges_at : (rs : List Row) → AllByRecursion Ranges rs → (k : ℕ) (r : Row) → k < length rs → r ≡ get_or rs k r → (1 ≤ r.period) × (r.budget ≤ 4096) × (r.copies ≤ 16)
ranges_at rs a k r h e =
    let g = subst Ranges (sym e) (All-get_or Ranges rs k r h a) in
    (power_pos g.power, g.budget_high, g.copies_high)
