use Rattle.std.proofs.Common.{◌≡◌, ℕ, ◌≤◌, true, leb}
use Rattle.std.proofs.lemmas.Bool.{and_parts, leb-true}
use Rattle.demand.specs.Fields.{from_to}

pub range_from : (low high x : ℕ) → from_to low high x ≡ true → (low ≤ x) × (x ≤ high)
range_from low high x h =
    let p = and_parts (leb low x) (leb x high) h in
    (leb-true low x p.0, leb-true x high p.1)
