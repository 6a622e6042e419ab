-- The powers of two of the rules, as the processor's count of set digits tells them.
use Rattle.std.proofs.Common.{◌≡◌, ℕ, zero, suc, ◌+◌, ◌-◌, ◌*◌, ◌^◌, ◌<◌, ◌≤◌, Bool, true, false, ◌||◌, eqb, count_ones, sym, ap, ◌∙◌, ⊎_elim, arith, pow_mono}
use Rattle.std.proofs.lemmas.Nat.{pow_pos, ones_cat, ones_le_self, zero_from_ones}
use Rattle.std.proofs.Math.Nat.{pow-succ'}
use Rattle.std.proofs.lemmas.Bool.{eqb-true, eq-eqb, ne_eqb, or_left, or_cases, cases_Bool, cases_eq, cases_lt}
use Rattle.sheets.specs.Fields.{power_up_to}

-- a power of two up to 2 ^ e lies from 1 to 2 ^ e
pub power_range : (e x : ℕ) → power_up_to e x ≡ true → (1 ≤ x) × (x ≤ 2 ^ e)
power_range zero x h = let p = eqb-true x 1 h in (omega arith, omega arith)
power_range (suc e) x h =
    let m : 2 ^ e ≤ 2 ^ suc e = pow_mono (omega arith) in
    ⊎_elim (λ (a : eqb x (2 ^ suc e) ≡ true). let p = eqb-true x (2 ^ suc e) a in (omega (arith, p, pow_pos (suc e)), omega (arith, p)))
    (λ (b : power_up_to e x ≡ true). let q = power_range e x b in (q.0, omega (arith, q.1)))
    (or_cases (eqb x (2 ^ suc e)) (power_up_to e x) h)

-- a number past 2 ^ e is none
past_range : (e x : ℕ) → 2 ^ e < x → power_up_to e x ≡ false
past_range e x h =
    ⊎_elim (λ (t : power_up_to e x ≡ true). absurd (omega (arith, (power_range e x t).1)))
    (λ (f : power_up_to e x ≡ false). f)
    (cases_Bool (power_up_to e x))

-- 0 and 1 have as many digits set as they are
bit_ones : (x : ℕ) → x < 2 → count_ones x ≡ x
bit_ones x h =
    ⊎_elim (λ (z : count_ones x ≡ 0). omega (arith, z, zero_from_ones x z))
    (λ (n : count_ones x ≡ 0 → ⊥). let m : 1 ≤ count_ones x = ⊎_elim (λ (l : count_ones x < 1). absurd (n (omega arith))) (λ (l : 1 ≤ count_ones x). l) (cases_lt (count_ones x) 1) in omega (arith, m, ones_le_self x))
    (cases_eq (count_ones x) 0)

-- one digit is set below 2 ^ (e + 1) exactly in the powers of two up to 2 ^ e
pub one_digit-power : (e x : ℕ) → x < 2 ^ suc e → eqb (count_ones x) 1 ≡ power_up_to e x
one_digit-power zero x h = ap (λ n. eqb n 1) (bit_ones x (omega arith))
one_digit-power (suc e) x h =
    let climb : 2 ^ e ≤ 2 ^ suc e = pow_mono (omega arith) in
    let m : 2 ^ suc (suc e) ≡ 2 * 2 ^ suc e = pow-succ' 2 (suc e) in
    ⊎_elim (λ (q : x < 2 ^ suc e).
    one_digit-power e x q ∙ ap (λ (b : Bool). b || power_up_to e x) (sym (ne_eqb x (2 ^ suc e) (λ z. omega arith))))
    (λ (q : 2 ^ suc e ≤ x).
    let r = x - 2 ^ suc e in
    let t : r < 2 ^ suc e = omega (arith, m) in
    let x_is : x ≡ 1 * 2 ^ suc e + r = omega arith in
    let c : count_ones x ≡ 1 + count_ones r = ap (λ n. count_ones n) x_is ∙ ones_cat (suc e) 1 r t ∙ ap (λ n. n + count_ones r) (bit_ones 1 (omega arith)) in
    ⊎_elim (λ (z : r ≡ 0).
    let w : count_ones r ≡ 0 = ap (λ n. count_ones n) z ∙ bit_ones 0 (omega arith) in
    eq-eqb (count_ones x) 1 (omega (arith, c, w)) ∙ sym (or_left (eqb x (2 ^ suc e)) (power_up_to e x) (eq-eqb x (2 ^ suc e) (omega (arith, x_is, z)))))
    (λ (n : r ≡ 0 → ⊥).
    ne_eqb (count_ones x) 1 (λ z. n (zero_from_ones r (omega (arith, c, z))))
    ∙ sym (ap (λ (b : Bool). b || power_up_to e x) (ne_eqb x (2 ^ suc e) (λ z. n (omega (arith, z)))) ∙ past_range e x (omega (arith, climb, n, x_is))))
    (cases_eq r 0))
    (cases_lt x (2 ^ suc e))
