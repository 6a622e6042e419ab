use Rattle.std.specs.Prelude.{ℕ, ◌-◌, ◌≤◌}
use Rattle.std.proofs.Common.{arith}
use Rattle.std.proofs.lemmas.Bool.Decides.{nat_tests}
use Rattle.demand.specs.Sides.{side_value}

-- a greater value of each component gives a greater value side by side
pub side_climbs : (n m k : ℕ) (f f' g g' : ℕ → ℕ) → ((i : ℕ) → f i ≤ f' i) → ((i : ℕ) → g i ≤ g' i) → side_value n m f g k ≤ side_value n m f' g' k
side_climbs n m k f f' g g' p q =
    let a : f k ≤ f' k = p k in
    let b : g (k - n) ≤ g' (k - n) = q (k - n) in
    grind (arith, nat_tests)
