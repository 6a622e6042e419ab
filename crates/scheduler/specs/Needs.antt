-- What a pass is worth to a supplier: a component that asks for no more than its sheet says gets all of it, whatever the others do.
use Rattle.std.specs.Prelude.{◌≡◌, ℕ, ◌-◌, ◌<◌, ◌≤◌}
use Rattle.demand.specs.declared.binder.Binder.{Ghosts}
use Rattle.scheduler.specs.declared.scheduler.Scheduler.{Scheduler}
use Rattle.scheduler.specs.History.{History, count, job, units, fate, load_over}
use Rattle.scheduler.specs.History.Fate.{cut}
use Rattle.scheduler.specs.Records.{Records}

-- Each job has a need. The component k keeps to its sheet: in every window the needs of its jobs that lie in it add up to at most its
-- bound for that length, and none of its jobs has run more than its need.
pub record KeepsToItsSheet (bound : ℕ → ℕ → ℕ) (h : History) (k : ℕ) (need : ℕ → ℕ) : Type 0 where
  pub asks_within_the_bound : (s e : ℕ) → load_over (count h) (job h) need k s e ≤ bound k (e - s)
  pub runs_within_the_need : (n : ℕ) → n < count h → (job h n).component ≡ k → units h n ≤ need n

-- every job that is cut, of a component that keeps to its sheet, has run its whole need
abbrev pub NeedsMet : (ℕ → ℕ → ℕ) → History → Type 0
NeedsMet bound h =
    (k : ℕ) (need : ℕ → ℕ) → KeepsToItsSheet bound h k need
    → (n : ℕ) → n < count h → (job h n).component ≡ k → fate h n ≡ cut → units h n ≡ need n

-- the same of whatever history a scheduler records
abbrev pub NeedsMetBy : {B : Type 0} → Ghosts B → Scheduler B → Type 0
NeedsMetBy g s = (h : History) → Records g s h → NeedsMet (g.bound s.binder) h
