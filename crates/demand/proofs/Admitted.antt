use Rattle.std.proofs.Common.{◌≡◌, ℕ, zero, suc, ◌+◌, ◌-◌, ◌*◌, ◌^◌, ◌<◌, ◌≤◌, Bool, true, false, cond, ltb, leb, Some, None, Ok, Err, Option, Result, sym, refl, ap, ◌∙◌, ⊎_elim, mul-le-mul_left, add-one, arith}
use Rattle.std.proofs.lemmas.Bool.{cond-true, cond-false, and_from, le-leb, leb-true, le-ltb, ltb-false, cases_lt, cases_Bool}
use Rattle.demand.specs.declared.verdict.TestRefusal.{TestRefusal}
use Rattle.demand.specs.declared.verdict.TestRefusal.TheVariants.{DemandExceeds, GainsExceed, SheetCount}
use Rattle.demand.specs.Fields.{from_to}
use Rattle.demand.proofs.Firsts.{first_where-none}
use Rattle.demand.proofs.Fields.{range_from}
use Rattle.demand.specs.Verdicts.{verdict_numbers}
use Rattle.demand.specs.Admission.{total, demand, first_where, first_exceeded, by_gains, admission, DemandFits}

-- one component more
pub total_more : (n : ℕ) (f : ℕ → ℕ) → total (n + 1) f ≡ total n f + f n
total_more n f = rw add-one refl

-- a gain is no larger than the bound at 8,192
pub gain_fits : (f : ℕ → ℕ) (g : ℕ) → f (4096 + 4096) ≡ f 4096 + g → f (4096 + 4096) ≤ 2 ^ 52 → g ≤ 2 ^ 52
gain_fits f g e h = omega arith

-- none is found exactly where every length suffices
none_step : (d : ℕ → ℕ) (l more : ℕ) (b : Bool) → cond b (Some l) (first_exceeded d (l + 1) more) ≡ None → (b ≡ false) × (first_exceeded d (l + 1) more ≡ None)
none_step d l more true e = let z : ◌≡◌ {A = ℕ} 0 1 = cc in absurd (omega arith)
none_step d l more false e = (refl, e)

none_suffices : (d : ℕ → ℕ) (l more : ℕ) → first_exceeded d l more ≡ None → (m : ℕ) → l ≤ m → m < l + more → d m ≤ m
unfolding first_where
none_suffices d l zero e m h k = absurd (omega arith)
none_suffices d l (suc more) e m h k =
    let s = none_step d l more (ltb l (d l)) e in
    ⊎_elim (λ (q : l < m). none_suffices d (l + 1) more s.1 m (omega arith) (omega arith))
    (λ (q : m ≤ l). let i : l ≡ m = omega arith in rw i at (ltb-false l (d l) s.0))
    (cases_lt l m)

suffices_none : (d : ℕ → ℕ) (l more : ℕ) → ((m : ℕ) → l ≤ m → m < l + more → d m ≤ m) → first_exceeded d l more ≡ None
suffices_none d l more h = first_where-none (λ n. ltb n (d n)) l more (λ m p q. le-ltb m (d m) (h m p q))

-- the demand repeats itself as each bound does
demand_repeats : (n : ℕ) (bound : ℕ → ℕ → ℕ) (gain : ℕ → ℕ) (l : ℕ) → ((k : ℕ) → bound k (l + 4096) ≡ bound k l + gain k) → demand n bound (l + 4096) ≡ demand n bound l + total n gain
demand_repeats zero bound gain l h = refl
demand_repeats (suc n) bound gain l h = omega (arith, demand_repeats n bound gain l h, h n)

module _ (count : ℕ) (bound : ℕ → ℕ → ℕ) (gain : ℕ → ℕ) (repeats : (k l : ℕ) → 4096 ≤ l → bound k (l + 4096) ≡ bound k l + gain k) where
  -- what holds to 8,192 holds at every length
  onward : total count gain ≤ 4096 → ((m : ℕ) → 1 ≤ m → m < 1 + 8192 → demand count bound m ≤ m) → (n l : ℕ) → l ≤ 8192 + n → 1 ≤ l → demand count bound l ≤ l
  onward g h zero l k p = h l p (omega arith)
  onward g h (suc n) l k p =
      ⊎_elim (λ (q : l < 8193). h l p (omega arith))
      (λ (q : 8193 ≤ l).
      let e : (l - 4096) + 4096 ≡ l = omega arith in
      let r = demand_repeats count bound gain (l - 4096) (λ i. repeats i (l - 4096) (omega arith)) in
      let a : demand count bound l ≡ demand count bound (l - 4096) + total count gain = ap (demand count bound) (sym e) ∙ r in
      omega (arith, onward g h n (l - 4096) (omega arith) (omega arith), a))
      (cases_lt l 8193)

  -- the demand after j more stretches of 4,096 ticks
  stretches : (j : ℕ) → demand count bound (4096 + 4096 * j) ≡ demand count bound 4096 + j * total count gain
  stretches zero = omega arith
  stretches (suc j) =
      let e : 4096 + 4096 * suc j ≡ (4096 + 4096 * j) + 4096 = omega arith in
      let r = demand_repeats count bound gain (4096 + 4096 * j) (λ i. repeats i (4096 + 4096 * j) (omega arith)) in
      ap (demand count bound) e ∙ omega (arith, r, stretches j)

  -- gains above 4,096 exceed every supply in the end
  gains_fit : ((l : ℕ) → 1 ≤ l → demand count bound l ≤ l) → total count gain ≤ 4096
  gains_fit h =
      ⊎_elim (λ (q : 4096 < total count gain).
      let m : 4097 * 4097 ≤ 4097 * total count gain = mul-le-mul_left 4097 q in
      absurd (omega (arith, stretches 4097, h (4096 + 4096 * 4097) (omega arith))))
      (λ (q : total count gain ≤ 4096). q)
      (cases_lt 4096 (total count gain))

  by_gains_ok : (o : Option ℕ) → by_gains o (total count gain) ≡ Ok tt → (o ≡ None) × (total count gain ≤ 4096)
  by_gains_ok (Some l) e = let z : ◌≡◌ {A = ℕ} 0 1 = cc in absurd (omega arith)
  by_gains_ok None e =
      ⊎_elim (λ (t : leb (total count gain) 4096 ≡ true). (refl, leb-true (total count gain) 4096 t))
      (λ (f : leb (total count gain) 4096 ≡ false). let q = sym (cond-false (leb (total count gain) 4096) (Ok tt) (Err GainsExceed) f) ∙ e in let z : ◌≡◌ {A = ℕ} 0 1 = cc in absurd (omega arith))
      (cases_Bool (leb (total count gain) 4096))

  counted : admission count bound gain ≡ Ok tt → (from_to 1 8 count ≡ true) × (by_gains (first_exceeded (demand count bound) 1 8192) (total count gain) ≡ Ok tt)
  counted e =
      ⊎_elim (λ (t : from_to 1 8 count ≡ true). (t, sym (cond-true (from_to 1 8 count) _ (Err SheetCount) t) ∙ e))
      (λ (f : from_to 1 8 count ≡ false). let q = sym (cond-false (from_to 1 8 count) (by_gains (first_exceeded (demand count bound) 1 8192) (total count gain)) (Err SheetCount) f) ∙ e in let z : ◌≡◌ {A = ℕ} 0 1 = cc in absurd (omega arith))
      (cases_Bool (from_to 1 8 count))

  pub admitted_fits : admission count bound gain ≡ Ok tt → DemandFits count bound
  admitted_fits e =
      let c = counted e in
      let r = range_from 1 8 count c.0 in
      let g = by_gains_ok (first_exceeded (demand count bound) 1 8192) c.1 in
      record { some = r.0; few = r.1; supplied = λ l p. onward g.1 (none_suffices (demand count bound) 1 8192 g.0) l l (omega arith) p }

  pub fits_admitted : DemandFits count bound → admission count bound gain ≡ Ok tt
  fits_admitted f =
      cond-true (from_to 1 8 count) _ _ (and_from (leb 1 count) (leb count 8) (le-leb 1 count f.some) (le-leb count 8 f.few))
      ∙ ap (λ o. by_gains o (total count gain)) (suffices_none (demand count bound) 1 8192 (λ m p q. f.supplied m p))
      ∙ cond-true (leb (total count gain) 4096) _ _ (le-leb (total count gain) 4096 (gains_fit f.supplied))

-- only an admitted binder has the verdict (0, 0)
pub admitted_numbers : (r : Result (Unit {0}) TestRefusal) → verdict_numbers r ≡ (0, 0) → r ≡ Ok tt
admitted_numbers (Ok _) e = refl
admitted_numbers (Err (DemandExceeds l)) e = let z : ◌≡◌ {A = ℕ} 8 0 = ap (λ (p : ℕ × ℕ). p.0) e in absurd (omega arith)
admitted_numbers (Err GainsExceed) e = let z : ◌≡◌ {A = ℕ} 9 0 = ap (λ (p : ℕ × ℕ). p.0) e in absurd (omega arith)
admitted_numbers (Err SheetCount) e = let z : ◌≡◌ {A = ℕ} 10 0 = ap (λ (p : ℕ × ℕ). p.0) e in absurd (omega arith)

-- the numbers of a verdict on one to eight components
exceeded_within : (d : ℕ → ℕ) (l more x : ℕ) → first_exceeded d l more ≡ Some x → x < l + more
unfolding first_where
exceeded_within d l zero x e = let z : ◌≡◌ {A = ℕ} 0 1 = cc in absurd (omega arith)
exceeded_within d l (suc more) x e =
    ⊎_elim (λ (t : ltb l (d l) ≡ true).
    let q : Some l ≡ Some x = sym (cond-true (ltb l (d l)) (Some l) (first_exceeded d (l + 1) more) t) ∙ e in
    let same : l ≡ x = cc in
    omega arith)
    (λ (f : ltb l (d l) ≡ false).
    let q = exceeded_within d (l + 1) more x (sym (cond-false (ltb l (d l)) (Some l) (first_exceeded d (l + 1) more) f) ∙ e) in
    omega arith)
    (cases_Bool (ltb l (d l)))

gains_numbers : (o : Option ℕ) (gains : ℕ) → ((x : ℕ) → o ≡ Some x → x ≤ 8192) → ((verdict_numbers (by_gains o gains)).0 ≤ 9) × ((verdict_numbers (by_gains o gains)).1 ≤ 8192)
gains_numbers (Some l) gains h = (omega arith, h l refl)
gains_numbers None gains h =
    elim (leb gains 4096) as (λ b. ((verdict_numbers (cond {A = Result (Unit {0}) TestRefusal} b (Ok (tt {0})) (Err GainsExceed))).0 ≤ 9) × ((verdict_numbers (cond {A = Result (Unit {0}) TestRefusal} b (Ok (tt {0})) (Err GainsExceed))).1 ≤ 8192))
    [ true ↦ (omega arith, omega arith) | false ↦ (omega arith, omega arith) ]

pub numbers_fit : (count : ℕ) (bound : ℕ → ℕ → ℕ) (gain : ℕ → ℕ) → 1 ≤ count → count ≤ 8 → ((verdict_numbers (admission count bound gain)).0 ≤ 9) × ((verdict_numbers (admission count bound gain)).1 ≤ 8192)
numbers_fit count bound gain low high =
    let e : admission count bound gain ≡ by_gains (first_exceeded (demand count bound) 1 8192) (total count gain) = cond-true (from_to 1 8 count) _ _ (and_from (leb 1 count) (leb count 8) (le-leb 1 count low) (le-leb count 8 high)) in
    let g = gains_numbers (first_exceeded (demand count bound) 1 8192) (total count gain) (λ x f. omega (arith, exceeded_within (demand count bound) 1 8192 x f)) in
    rw e g
