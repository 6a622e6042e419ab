-- A total over the components from 0 on, as the chain over their numbers adds it up.
use Rattle.std.proofs.Common.{◌≡◌, ℕ, zero, suc, ◌+◌, ◌*◌, ◌^◌, ◌≤◌, ◌<◌, List, Option, map, sum, refl, ap, ◌∙◌, arith}
use Rattle.std.specs.List.{fold, range_with_len}
use Rattle.std.specs.Iterator.{Drains}
use Rattle.std.specs.Iterator.Runs.{EachRunFrom}
use Rattle.std.proofs.lemmas.Iterator.{YieldsList}
use Rattle.std.proofs.lemmas.Iterator.Consumers.{sum_from_yields_List, fits_from_yields_list}
use Rattle.std.proofs.lemmas.List.FromFn.{sum_by-map-range_with_len_more}
use Rattle.demand.specs.Admission.{total}

-- the sum over the numbers below n is the total
pub sum-of_components : (n : ℕ) (f : ℕ → ℕ) → sum (map f (range_with_len 0 n)) ≡ total n f
sum-of_components zero f = refl
sum-of_components (suc n) f =
    let s : suc n ≡ n + 1 = omega arith in
    ap (λ (m : ℕ). sum (map f (range_with_len 0 m))) s
    ∙ sum_by-map-range_with_len_more (λ x. x) f 0 n n (omega arith)
    ∙ ap (λ (m : ℕ). m + f n) (sum-of_components n f)

-- a total of parts that are all at most m
pub total-le : (n m : ℕ) (f : ℕ → ℕ) → ((k : ℕ) → f k ≤ m) → total n f ≤ n * m
total-le zero m f h = omega arith
total-le (suc n) m f h = omega (arith, total-le n m f h, h n)

-- a chain that gives the parts of n components
module _ {S : Type 0} {steps : S → Option ℕ → S → Type 0} {s : S} (n : ℕ) (f : ℕ → ℕ) (chain : YieldsList steps (λ x. x) s (map f (range_with_len 0 n))) where
  pub chain-sum : (r : ℕ) → ((xs : List ℕ) × (Unit {0} → Drains steps s xs) × (r ≡ fold (λ a x. a + x) 0 xs)) → r ≡ total n f
  chain-sum r d = sum_from_yields_List s r d chain ∙ sum-of_components n f

  -- at most nine parts of at most 2^52 each never pass a number of 64 bits
  pub chain-fits : n ≤ 9 → ((k : ℕ) → f k ≤ 2 ^ 52) → EachRunFrom steps s (λ p. fold (λ a x. a + x) 0 p.items < 2 ^ 64)
  chain-fits few each = fits_from_yields_list s (2 ^ 64) chain (omega (arith, few, total-le n (2 ^ 52) f each, sum-of_components n f))
