-- Free units, in every window and in finitely many. `bound k l` is how many units the component k may run in a window of l ticks.
use Rattle.std.specs.Prelude.{◌≡◌, ℕ, ◌+◌, ◌-◌, ◌<◌, ◌≤◌}
use Rattle.scheduler.specs.History.{History, Job, count, job, Live, Lies, load}

-- Over the loads in all windows, by component, start and end:
module _ (bound : ℕ → ℕ → ℕ) (load_of : ℕ → ℕ → ℕ → ℕ) where
  -- one unit more of the component k fits into the window
  abbrev pub Room : ℕ → ℕ → ℕ → Type 0
  Room k s e = load_of k s e + 1 ≤ bound k (e - s)

  -- the component k has run in the window all that it may
  abbrev pub Full : ℕ → ℕ → ℕ → Type 0
  Full k s e = load_of k s e ≡ bound k (e - s)

  -- the job has a free unit: there is room in every window that it lies in
  abbrev pub Free : Job → Type 0
  Free j = (s e : ℕ) → Lies j s e → Room j.component s e

  -- the job lies in a window that its component has filled
  abbrev pub Spent : Job → Type 0
  Spent j = (s : ℕ) × (e : ℕ) × Lies j s e × Full j.component s e

module _ (bound : ℕ → ℕ → ℕ) (h : History) where
  -- of the jobs that a tick leaves open, one with a free unit may run and one without is held
  abbrev pub Ready : ℕ → Type 0
  Ready n = Live h n × Free bound (load h) (job h n)

  abbrev pub Held : ℕ → Type 0
  Held n = Live h n × (Free bound (load h) (job h n) → ⊥)

  -- The same by finitely many windows: those that begin where a job of its component arrives and end where one is due.
  abbrev pub FreeAtJobs : ℕ → Type 0
  FreeAtJobs n =
      (a b : ℕ) → a < count h → b < count h → (job h a).component ≡ (job h n).component → (job h b).component ≡ (job h n).component
      → Lies (job h n) (job h a).arrival (job h b).due → Room bound (load h) (job h n).component (job h a).arrival (job h b).due
