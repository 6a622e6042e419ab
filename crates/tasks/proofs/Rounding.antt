use Rattle.std.proofs.Common.{◌≡◌, ℕ, zero, suc, ◌*◌, ◌/◌, ◌%◌, ◌^◌, ◌<◌, ◌≤◌, ◌⊎◌, inl, inr, min, max, subst, true, false, ◌&&◌, eqb, leb, List, [], ◌∷◌, Some, None, IfSome, IfNone, unwrap_or, Option, sym, refl, ap, ◌∙◌, ⊎_elim, arith, pow_mono}
use Rattle.std.proofs.lemmas.Nat.{pow_pos}
use Rattle.std.proofs.lemmas.Bool.{cond_both, cond-true, cond-false, and_parts, and_from, or_left, or_right, eq-eqb, le-leb, leb-false, lt-leb, cases_Bool, cases_lt}
use Rattle.std.proofs.Math.Nat.{pow-succ'}
use Rattle.std.specs.Int.{IsPowerOfTwo}
use Rattle.std.specs.List.{AllByRecursion}
use Rattle.sheets.specs.declared.row.Row.{Row}
use Rattle.tasks.specs.declared.task.Task.{Task}
use Rattle.demand.specs.Fields.{from_to}
use Rattle.sheets.specs.Fields.{power_up_to, power_of_two}
use Rattle.tasks.specs.Tasks.{power_below, power_above, task_sound, rounded, Ascending}
use Rattle.demand.proofs.Fields.{range_from}
use Rattle.sheets.proofs.Powers.{power_range}
use Rattle.sheets.proofs.Rows.{row_ranges, rows_fine, follows}

-- both roundings give powers of two
below_power : (e x : ℕ) → power_up_to e (power_below e x) ≡ true
below_power zero x = refl
below_power (suc e) x =
    cond_both (leb (2 ^ suc e) x) (2 ^ suc e) (power_below e x) (λ p. power_up_to (suc e) p ≡ true)
    (λ _. or_left (eqb (2 ^ suc e) (2 ^ suc e)) _ (eq-eqb (2 ^ suc e) (2 ^ suc e) refl))
    (λ _. or_right (eqb (power_below e x) (2 ^ suc e)) _ (below_power e x))

above_power : (e x : ℕ) → power_up_to e (power_above e x) ≡ true
above_power zero x = refl
above_power (suc e) x =
    cond_both (leb x (2 ^ e)) (power_above e x) (2 ^ suc e) (λ p. power_up_to (suc e) p ≡ true)
    (λ _. or_right (eqb (power_above e x) (2 ^ suc e)) _ (above_power e x))
    (λ _. or_left (eqb (2 ^ suc e) (2 ^ suc e)) _ (eq-eqb (2 ^ suc e) (2 ^ suc e) refl))

below_most : (e x : ℕ) → power_below e x ≤ 2 ^ e
below_most e x = (power_range e (power_below e x) (below_power e x)).1

-- a smaller number is never rounded down to more
below_climbs : (e x y : ℕ) → x ≤ y → power_below e x ≤ power_below e y
below_climbs zero x y h = omega arith
below_climbs (suc e) x y h =
    ⊎_elim (λ (t : leb (2 ^ suc e) y ≡ true).
    let m : 2 ^ e ≤ 2 ^ suc e = pow_mono (omega arith) in
    omega (arith, cond-true {A = ℕ} (leb (2 ^ suc e) y) (2 ^ suc e) (power_below e y) t, below_most (suc e) x))
    (λ (f : leb (2 ^ suc e) y ≡ false).
    let g : leb (2 ^ suc e) x ≡ false = lt-leb (2 ^ suc e) x (omega (arith, leb-false (2 ^ suc e) y f)) in
    omega (arith, cond-false {A = ℕ} (leb (2 ^ suc e) y) (2 ^ suc e) (power_below e y) f, cond-false {A = ℕ} (leb (2 ^ suc e) x) (2 ^ suc e) (power_below e x) g, below_climbs e x y h))
    (cases_Bool (leb (2 ^ suc e) y))

in_range : (low high x : ℕ) → low ≤ x → x ≤ high → from_to low high x ≡ true
in_range low high x p q = and_from (leb low x) (leb x high) (le-leb low x p) (le-leb x high q)

-- the row of a task in range is in range
pub rounded_ranges : (t : Task) → task_sound t ≡ true → row_ranges (rounded t) ≡ true
rounded_ranges t h =
    let a = and_parts (from_to 1 8191 t.period) (from_to 1 t.period t.deadline && from_to 1 4096 t.budget) h in
    let b = and_parts (from_to 1 t.period t.deadline) (from_to 1 4096 t.budget) a.1 in
    let d = range_from 1 t.period t.deadline b.0 in
    let c = power_range 12 (power_above 12 t.budget) (above_power 12 t.budget) in
    and_from _ _ (below_power 12 t.period)
    (and_from _ _ (in_range 1 (power_below 12 t.period) (power_below 12 t.deadline) (power_range 12 (power_below 12 t.deadline) (below_power 12 t.deadline)).0 (below_climbs 12 t.deadline t.period d.1))
    (and_from _ _ (in_range 1 4096 (power_above 12 t.budget) c.0 c.1) refl))

-- rows in their ranges and in sheet order are sound
pub fine_from : (last : Option Row) (rs : List Row) → AllByRecursion (λ r. row_ranges r ≡ true) rs → AllByRecursion (λ r. follows last r ≡ true) rs → Ascending rs → rows_fine last rs ≡ true
fine_from last [] a f h = refl
fine_from last (r ∷ rs) a f h =
    and_from _ _ (and_from (row_ranges r) (follows last r) a.0 f.0) (fine_from (Some r) rs a.1 h.0 h.1)

-- a row that more copies join stays in range while they are at most 16
pub joined_ranges : (r : Row) (n : ℕ) → row_ranges r ≡ true → 1 ≤ n → n ≤ 16 → row_ranges (record { period = r.period; deadline = r.deadline; budget = r.budget; copies = n }) ≡ true
joined_ranges r n h low high =
    let a = and_parts (power_of_two r.period) (from_to 1 r.period r.deadline && (from_to 1 4096 r.budget && from_to 1 16 r.copies)) h in
    let b = and_parts (from_to 1 r.period r.deadline) (from_to 1 4096 r.budget && from_to 1 16 r.copies) a.1 in
    let c = and_parts (from_to 1 4096 r.budget) (from_to 1 16 r.copies) b.1 in
    and_from _ _ a.0 (and_from _ _ b.0 (and_from _ _ c.0 (in_range 1 16 n low high)))

-- at most, or more
lt_or_le : (m n : ℕ) → (m ≤ n) ⊎ (n < m)
lt_or_le m n = ⊎_elim (λ (h : n < m). inr h) (λ (h : m ≤ n). inl h) (cases_lt n m)

-- the largest power of two that is at most x, from its exponent
pub power_below-exponent : (e x k : ℕ) → 2 ^ k ≤ x → x < 2 * 2 ^ k → power_below e x ≡ 2 ^ min k e
power_below-exponent zero x k low high = let e : 0 ≡ min k 0 = omega arith in ap (λ (n : ℕ). 2 ^ n) e
power_below-exponent (suc e) x k low high =
    ⊎_elim (λ (q : k ≤ e).
    let m : 2 * 2 ^ k ≤ 2 ^ suc e = subst (λ (n : ℕ). n ≤ 2 ^ suc e) (pow-succ' 2 k) (pow_mono (omega arith)) in
    let same : min k e ≡ min k (suc e) = omega arith in
    cond-false (leb (2 ^ suc e) x) _ _ (lt-leb (2 ^ suc e) x (omega arith)) ∙ power_below-exponent e x k low high ∙ ap (λ (n : ℕ). 2 ^ n) same)
    (λ (q : e < k).
    let m : 2 ^ suc e ≤ 2 ^ k = pow_mono (omega arith) in
    let all : suc e ≡ min k (suc e) = omega arith in
    cond-true (leb (2 ^ suc e) x) _ _ (le-leb (2 ^ suc e) x (omega arith)) ∙ ap (λ (n : ℕ). 2 ^ n) all)
    (lt_or_le k e)

-- the smallest power of two that is at least x, where it is at most 2 ^ e
pub power_above-next : (e x p : ℕ) → x ≤ 2 ^ e → IsPowerOfTwo p → x ≤ p → p / 2 < max 1 x → p ≡ power_above e x
power_above-next zero x p h (k, is) low high = omega (arith, pow_pos k, is)
power_above-next (suc e) x p h (k, is) low high =
    ⊎_elim (λ (q : x ≤ 2 ^ e).
    power_above-next e x p q (k, is) low high ∙ sym (cond-true (leb x (2 ^ e)) _ _ (le-leb x (2 ^ e) q)))
    (λ (q : 2 ^ e < x).
    let a : suc e ≤ k =
    ⊎_elim (λ (l : k < suc e). let m : 2 ^ k ≤ 2 ^ e = pow_mono (omega arith) in absurd (omega (arith, is))) (λ (l : suc e ≤ k). l) (cases_lt k (suc e)) in
    let b : k ≤ suc e =
    ⊎_elim (λ (l : suc e < k). let m : 2 ^ suc (suc e) ≤ 2 ^ k = pow_mono (omega arith) in absurd (omega (arith, is, pow-succ' 2 (suc e)))) (λ (l : k ≤ suc e). l) (cases_lt (suc e) k) in
    let same : k ≡ suc e = omega arith in
    is ∙ ap (λ (n : ℕ). 2 ^ n) same ∙ sym (cond-false (leb x (2 ^ e)) _ _ (lt-leb x (2 ^ e) q)))
    (lt_or_le x (2 ^ e))

-- the largest power of two that is at most x, by its exponent, where x is not 0
pub rounds_down : (o : Option ℕ) (x m : ℕ) → IfNone o (x ≡ 0) → IfSome o (λ k. 2 ^ k ≤ x) → IfSome o (λ k. x < 2 * 2 ^ k) → m ≡ min (unwrap_or o 0) 12 → (1 * 2 ^ m) % 65536 ≡ power_below 12 x
rounds_down None x m none low high e =
    let z : power_below 12 x ≡ 1 = ap (power_below 12) none in
    let one : 2 ^ m ≡ 1 = ap (λ (n : ℕ). 2 ^ n) e in
    omega (arith, z, one)
rounds_down (Some k) x m none low high e =
    let p : 2 ^ m ≡ power_below 12 x = ap (λ (n : ℕ). 2 ^ n) e ∙ sym (power_below-exponent 12 x k low high) in
    omega (arith, p, below_most 12 x)

-- a number past 4,096 is rounded up as 4,096 is
pub power_above-capped : (x : ℕ) → power_above 12 (min x 4096) ≡ power_above 12 x
power_above-capped x =
    ⊎_elim (λ (h : x ≤ 4096). let e : min x 4096 ≡ x = omega arith in ap (power_above 12) e)
    (λ (h : 4096 < x).
    let e : min x 4096 ≡ 4096 = omega arith in
    ap (power_above 12) e ∙ sym (cond-false (leb x 2048) _ _ (lt-leb x 2048 (omega arith))))
    (lt_or_le x 4096)
