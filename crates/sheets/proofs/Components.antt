use Rattle.std.proofs.Common.{◌≡◌, ℕ, zero, suc, ◌<◌, ◌≤◌, List, [], ◌∷◌, length, get_or, refl, arith}
use Rattle.sheets.specs.Sheets.{Declaration, component_value}

-- a component of the list, and one past its end
pub at_value : (f : Declaration → ℕ) (ds : List Declaration) (k : ℕ) (d : Declaration) → k < length ds → component_value f ds k ≡ f (get_or ds k d)
at_value f [] k d h = absurd (omega arith)
at_value f (x ∷ ds) zero d h = refl
at_value f (x ∷ ds) (suc k) d h = at_value f ds k d (omega arith)

pub past_value : (f : Declaration → ℕ) (ds : List Declaration) (k : ℕ) → length ds ≤ k → component_value f ds k ≡ 0
past_value f [] k h = refl
past_value f (x ∷ ds) zero h = absurd (omega arith)
past_value f (x ∷ ds) (suc k) h = past_value f ds k (omega arith)
