-- The order of jobs by their numbers, and the first of some of them.
use Rattle.std.specs.Prelude.{◌≡◌, ℕ, ◌<◌, ◌⊎◌, Some, None, Option}
use Rattle.scheduler.specs.History.{Job}

-- job n goes before job m: the one due first, then the lower component, then the lower number
abbrev pub Precedes : (ℕ → Job) → ℕ → ℕ → Type 0
Precedes job_at n m =
    ((job_at n).due < (job_at m).due)
    ⊎ (((job_at n).due ≡ (job_at m).due) × (((job_at n).component < (job_at m).component) ⊎ (((job_at n).component ≡ (job_at m).component) × (n < m))))

-- of the jobs that are ready, this one goes before every other; none is the first only where none is ready
abbrev pub FirstOf : (ℕ → Job) → (ℕ → Type 0) → Option ℕ → Type 0
FirstOf job_at ready (Some n) = ready n × ((m : ℕ) → ready m → (n ≡ m) ⊎ Precedes job_at n m)
FirstOf job_at ready None = (m : ℕ) → ready m → ⊥
