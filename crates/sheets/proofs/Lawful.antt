use Rattle.std.proofs.Common.{◌≡◌, ℕ, zero, suc, ◌+◌, ◌-◌, ◌*◌, ◌/◌, ◌%◌, ◌^◌, ◌<◌, ◌≤◌, Bool, true, false, cond, ◌&&◌, ltb, leb, List, [], ◌∷◌, length, sum_by, sym, refl, ap, ◌∙◌, mul-le-mul_right, mul_assoc, mul_comm, mul-le-mul_left, mul-add, div-mul-le_self, arith}
use native.Mathlib.Nat.{div-le_of_le-mul, add-mul-div_left, div-eq_of_eq-mul_right, div-add-mod, mul-mod_right}
use Rattle.std.specs.List.{AllByRecursion}
use Rattle.std.proofs.lemmas.Nat.{le-div, pow-add}
use Rattle.std.proofs.lemmas.List.Sums.{sum_by-cons}
use Rattle.std.proofs.lemmas.Bool.{cond_both, cond-false, ltb-true, ltb-false, le-ltb, lt-ltb, cond-true, and_parts, leb-true}
use Rattle.sheets.specs.declared.row.Row.{Row}
use Rattle.sheets.specs.declared.line.Line.{Line}
use Rattle.demand.specs.Fields.{from_to}
use Rattle.sheets.specs.Fields.{power_of_two}
use Rattle.sheets.specs.Rows.{row_bound, row_gain, sound_rows}
use Rattle.sheets.specs.Lines.{line_bound, line_gain, sound_line}
use Rattle.sheets.specs.Sheets.{Declaration, rows, line, bound_of, gain_of, component_bound, component_gain}
use Rattle.demand.proofs.Fields.{range_from}
use Rattle.sheets.proofs.Rows.{Ranges, power_pos, power_from, sound_all, line_ok, row_steps_fit}

-- the laws of one component's bound f with the gain g, m being the most at lengths of 32 bits
pub record Lawful (f : ℕ → ℕ) (g m : ℕ) : Type 0 where
  pub starts : f 0 ≡ 0
  pub climbs : (l n : ℕ) → l ≤ n → f l ≤ f n
  pub repeats : (l : ℕ) → 4096 ≤ l → f (l + 4096) ≡ f l + g
  pub fits : (l : ℕ) → l < 2 ^ 32 → f l ≤ m

-- no component
nothing : (m : ℕ) → Lawful (λ _. 0) 0 m
nothing m = record { starts = refl; climbs = λ l n h. omega arith; repeats = λ l h. omega arith; fits = λ l h. omega arith }

both : (f f' : ℕ → ℕ) (g g' m m' : ℕ) → Lawful f g m → Lawful f' g' m' → Lawful (λ l. f l + f' l) (g + g') (m + m')
both f f' g g' m m' a b =
    record {
      starts = omega (arith, a.starts, b.starts);
      climbs = λ l n h. omega (arith, a.climbs l n h, b.climbs l n h);
      repeats = λ l h. omega (arith, a.repeats l h, b.repeats l h);
      fits = λ l h. omega (arith, a.fits l h, b.fits l h);
    }

-- the same bound by other words
like : (f f' : ℕ → ℕ) (g g' m m' : ℕ) → ((l : ℕ) → f l ≡ f' l) → g ≡ g' → m ≤ m' → Lawful f g m → Lawful f' g' m'
like f f' g g' m m' e p h a =
    record {
      starts = omega (arith, e 0, a.starts);
      climbs = λ l n k. omega (arith, e l, e n, a.climbs l n k);
      repeats = λ l k. omega (arith, e (l + 4096), e l, a.repeats l k);
      fits = λ l k. omega (arith, e l, a.fits l k);
    }

div_mono : (x y k : ℕ) → 0 < k → x ≤ y → x / k ≤ y / k
div_mono x y k p h = le-div (x / k) y k p (omega (arith, div-mul-le_self x k))

-- a bound that is 0 below d, and h from d on
abbrev late : ℕ → (ℕ → ℕ) → ℕ → ℕ
late d h l = cond (ltb l d) 0 (h l)

late_on : (d l : ℕ) (h : ℕ → ℕ) → d ≤ l → late d h l ≡ h l
late_on d l h k = cond-false (ltb l d) 0 (h l) (le-ltb l d k)

late_climbs : (d l n : ℕ) (h : ℕ → ℕ) (s t : Bool) → ltb l d ≡ s → ltb n d ≡ t → l ≤ n → h l ≤ h n → cond s 0 (h l) ≤ cond t 0 (h n)
late_climbs d l n h true t e f k c = omega arith
late_climbs d l n h false true e f k c = omega (arith, ltb-true n d f, ltb-false l d e)
late_climbs d l n h false false e f k c = c

late_lawful : (d : ℕ) (h : ℕ → ℕ) (g m : ℕ) → 1 ≤ d → d ≤ 4096 → ((l n : ℕ) → l ≤ n → h l ≤ h n) → ((l : ℕ) → d ≤ l → h (l + 4096) ≡ h l + g) → ((l : ℕ) → l < 2 ^ 32 → h l ≤ m) → Lawful (late d h) g m
late_lawful d h g m low high up more most =
    record {
      starts = cond-true (ltb 0 d) 0 (h 0) (lt-ltb 0 d low);
      climbs = λ l n k. late_climbs d l n h (ltb l d) (ltb n d) refl refl k (up l n k);
      repeats = λ l k. omega (arith, late_on d (l + 4096) h (omega arith), late_on d l h (omega arith), more l (omega arith));
      fits = λ l k. cond_both (ltb l d) 0 (h l) (λ x. x ≤ m) (λ _. omega arith) (λ _. most l k);
    }

-- a power of two divides 4,096
power_divides : (q : ℕ) → (k : ℕ) × (k ≤ 12) × (q ≡ 2 ^ k) → q * (4096 / q) ≡ 4096
power_divides q (k, h, e) =
    let t : k + (12 - k) ≡ 12 = omega arith in
    let m : 2 ^ k * 2 ^ (12 - k) ≡ 4096 = sym (pow-add 2 k (12 - k)) ∙ ap (λ n. 2 ^ n) t in
    let z : 4096 % q ≡ 0 = ap (λ n. 4096 % n) e ∙ ap (λ n. n % 2 ^ k) (sym m) ∙ mul-mod_right (2 ^ k) (2 ^ (12 - k)) in
    omega (arith, div-add-mod 4096 q)

-- c units for each of the 4,096 / q periods in 4,096 ticks
whole : (c q : ℕ) → q * (4096 / q) ≡ 4096 → c * 4096 ≡ q * (c * (4096 / q))
whole c q e = ap (λ n. c * n) (sym e) ∙ sym (mul_assoc c q (4096 / q)) ∙ ap (λ n. n * (4096 / q)) (mul_comm c q) ∙ mul_assoc q c (4096 / q)

gain_whole : (c q : ℕ) → 1 ≤ q → q * (4096 / q) ≡ 4096 → c * 4096 / q ≡ c * (4096 / q)
gain_whole c q p e = div-eq_of_eq-mul_right p (whole c q e)

row_lawful : (r : Row) → Ranges r → Lawful (row_bound r) (row_gain r) (2 ^ 48)
row_lawful r a =
    let d = r.deadline in
    let t = r.period in
    let c = r.copies * r.budget in
    let p : 1 ≤ t = power_pos a.power in
    let e : t * (4096 / t) ≡ 4096 = power_divides t a.power in
    late_lawful d (λ l. c * ((l - d) / t + 1)) (row_gain r) (2 ^ 48) a.deadline_low a.deadline_high
    (λ l n k. mul-le-mul_left c (omega (arith, div_mono (l - d) (n - d) t p (omega arith))))
    (λ l k.
    let x : (l + 4096) - d ≡ (l - d) + 4096 = omega arith in
    let y : ((l + 4096) - d) / t ≡ (l - d) / t + 4096 / t = ap (λ n. n / t) (x ∙ ap (λ n. (l - d) + n) (sym e)) ∙ add-mul-div_left (l - d) (4096 / t) p in
    let z : c * (((l + 4096) - d) / t + 1) ≡ c * ((l - d) / t + 1) + c * (4096 / t) = ap (λ n. c * n) (omega (arith, y)) ∙ mul-add c ((l - d) / t + 1) (4096 / t) in
    omega (arith, z, gain_whole c t p e))
    (λ l k. row_steps_fit r l k a)

rows_lawful : (rs : List Row) → AllByRecursion Ranges rs → Lawful (λ l. sum_by (λ r. row_bound r l) rs) (sum_by row_gain rs) (length rs * 2 ^ 48)
rows_lawful [] a = nothing 0
rows_lawful (r ∷ rs) a =
    like (λ l. row_bound r l + sum_by (λ x. row_bound x l) rs) (λ l. sum_by (λ x. row_bound x l) (r ∷ rs)) (row_gain r + sum_by row_gain rs) (sum_by row_gain (r ∷ rs)) (2 ^ 48 + length rs * 2 ^ 48) (suc (length rs) * 2 ^ 48)
    (λ l. sym (sum_by-cons (λ x. row_bound x l) r rs)) (sym (sum_by-cons row_gain r rs)) (omega arith)
    (both (row_bound r) (λ l. sum_by (λ x. row_bound x l) rs) (row_gain r) (sum_by row_gain rs) (2 ^ 48) (length rs * 2 ^ 48) (row_lawful r a.0) (rows_lawful rs a.1))

-- the ranges of a line's fields
record Straightness (x : Line) : Type 0 where
  power : (k : ℕ) × (k ≤ 12) × (x.per ≡ 2 ^ k)
  deadline_low : 1 ≤ x.deadline
  deadline_high : x.deadline ≤ 4096
  burst_high : x.burst ≤ 4096
  rate_high : x.rate ≤ x.per

straight_from : (x : Line) → sound_line x ≡ true → Straightness x
straight_from x h =
    let e = sym (line_ok x (record { index = 0; place = 0 })) ∙ h in
    let a = and_parts (from_to 1 4096 x.deadline) (leb x.burst 4096 && (power_of_two x.per && leb x.rate x.per)) e in
    let b = and_parts (leb x.burst 4096) (power_of_two x.per && leb x.rate x.per) a.1 in
    let c = and_parts (power_of_two x.per) (leb x.rate x.per) b.1 in
    let d = range_from 1 4096 x.deadline a.0 in
    record { power = power_from x.per c.0; deadline_low = d.0; deadline_high = d.1; burst_high = leb-true x.burst 4096 b.0; rate_high = leb-true x.rate x.per c.1 }

line_lawful : (x : Line) → Straightness x → Lawful (line_bound x) (line_gain x) (2 ^ 52)
line_lawful x a =
    let d = x.deadline in
    let q = x.per in
    let c = x.rate in
    let p : 1 ≤ q = power_pos a.power in
    let e : q * (4096 / q) ≡ 4096 = power_divides q a.power in
    late_lawful d (λ l. x.burst + c * (l - d) / q) (line_gain x) (2 ^ 52) a.deadline_low a.deadline_high
    (λ l n k. omega (arith, div_mono (c * (l - d)) (c * (n - d)) q p (mul-le-mul_left c (omega arith))))
    (λ l k.
    let y : (l + 4096) - d ≡ (l - d) + 4096 = omega arith in
    let z : c * ((l + 4096) - d) / q ≡ c * (l - d) / q + c * (4096 / q) = ap (λ n. n / q) (ap (λ n. c * n) y ∙ mul-add c (l - d) 4096 ∙ ap (λ n. c * (l - d) + n) (whole c q e)) ∙ add-mul-div_left (c * (l - d)) (c * (4096 / q)) p in
    omega (arith, z, gain_whole c q p e))
    (λ l k. omega (arith, div-le_of_le-mul q (mul-le-mul_right (l - d) a.rate_high), a.burst_high))

-- what the rules accept has the laws
pub sound_rows_lawful : (rs : List Row) → sound_rows rs ≡ true → Lawful (bound_of (rows rs)) (gain_of (rows rs)) (2 ^ 52)
sound_rows_lawful rs h =
    let a = sound_all rs h in
    like _ _ _ _ _ _ (λ l. refl) refl (omega (arith, a.1)) (rows_lawful rs a.2)

pub sound_line_lawful : (x : Line) → sound_line x ≡ true → Lawful (bound_of (line x)) (gain_of (line x)) (2 ^ 52)
sound_line_lawful x h = line_lawful x (straight_from x h)

-- every component of a list of sheets that have the laws
pub components_lawful : (ds : List Declaration) → AllByRecursion (λ d. Lawful (bound_of d) (gain_of d) (2 ^ 52)) ds → (k : ℕ) → Lawful (component_bound ds k) (component_gain ds k) (2 ^ 52)
components_lawful [] a k = nothing (2 ^ 52)
components_lawful (d ∷ ds) a zero = a.0
components_lawful (d ∷ ds) a (suc k) = components_lawful ds a.1 k
