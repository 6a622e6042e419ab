use Rattle.std.specs.Prelude.{◌≡◌, ℕ, ◌+◌, ◌*◌, ◌≤◌, ◌&&◌, List, [], ◌∷◌, length, sum_by, count_by, nat_le}
use Rattle.std.specs.List.{AllByRecursion}
use Rattle.sheets.specs.declared.row.Row.{Row}

-- release times of one task, in order and at least `period` ticks apart
abbrev pub Sporadic : ℕ → List ℕ → Type 0
Sporadic period [] = Unit {0}
Sporadic period (a ∷ []) = Unit {0}
Sporadic period (a ∷ b ∷ later) = (a + period ≤ b) × Sporadic period (b ∷ later)

-- how many jobs are both released and due in the window from s to e, each due `deadline` ticks after its release
abbrev pub jobs_within : ℕ → ℕ → ℕ → List ℕ → ℕ
jobs_within deadline s e releases = count_by (λ a. nat_le s a && nat_le (a + deadline) e) releases

-- a behaviour of a row's tasks: as many sporadic tasks as the row has copies
pub record Behaviour (r : Row) : Type 0 where
  pub tasks : List (List ℕ)
  pub counted : length tasks ≡ r.copies
  pub sporadic : AllByRecursion (Sporadic r.period) tasks

-- a behaviour of each row of a sheet
abbrev pub Behaviours : List Row → Type 0
Behaviours [] = Unit {0}
Behaviours (r ∷ rs) = Behaviour r × Behaviours rs

-- the units that these tasks demand in the window from s to e
abbrev pub work : (rs : List Row) → Behaviours rs → ℕ → ℕ → ℕ
work [] b s e = 0
work (r ∷ rs) b s e = r.budget * sum_by (jobs_within r.deadline s e) b.0.tasks + work rs b.1 s e

-- no behaviour demands more than `units` in a window of l ticks, and one demands as much
pub record MostWork (rs : List Row) (l units : ℕ) : Type 0 where
  pub never_more : (b : Behaviours rs) (s : ℕ) → work rs b s (s + l) ≤ units
  pub attained : (s : ℕ) → (b : Behaviours rs) × (work rs b s (s + l) ≡ units)
