-- The job table as a list of records: what the rules see of it, and what every table that exists keeps to.
use Rattle.std.specs.Prelude.{◌≡◌, ℕ, ◌+◌, ◌<◌, ◌≤◌, Bool, true, false, cond, List, length, Some, None, Option, nat_lt, slice_index_or}
use Rattle.scheduler.specs.declared.job.Job.{Job as Entry}
use Rattle.scheduler.specs.declared.job.JobStatus.{JobStatus}
use Rattle.scheduler.specs.declared.job.JobStatus.TheVariants as status
use Rattle.scheduler.specs.History.{Job, load_over}
use Rattle.scheduler.specs.Windows.{Free}

-- a record without a job
abbrev pub empty_entry : Entry
empty_entry = record { number = 0; component = 0; arrival = 0; due = 0; used = 0; status = status.Empty }

-- the record of number n
abbrev pub at : List Entry → ℕ → Entry
at js n = slice_index_or js n empty_entry

-- the record of job n, if there is such a job
abbrev pub job_record : List Entry → ℕ → Option Entry
job_record js n = cond (nat_lt n (length js)) (Some (at js n)) None

abbrev pub job_of : Entry → Job
job_of j = record { component = j.component; arrival = j.arrival; due = j.due }

abbrev pub job_in : List Entry → ℕ → Job
job_in js n = job_of (at js n)

abbrev pub arrival_in : List Entry → ℕ → ℕ
arrival_in js n = (at js n).arrival

abbrev pub used_in : List Entry → ℕ → ℕ
used_in js n = (at js n).used

-- the load of a component in a window, by component, start and end
abbrev pub table_load : List Entry → ℕ → ℕ → ℕ → ℕ
table_load js = load_over (length js) (job_in js) (used_in js)

abbrev pub is_open : JobStatus → Bool
is_open status.Empty = false
is_open status.Open = true
is_open status.Finished = false
is_open status.Cut = false

abbrev pub OpenIn : List Entry → ℕ → Type 0
OpenIn js n = (n < length js) × (is_open (at js n).status ≡ true)

module _ (bound : ℕ → ℕ → ℕ) (js : List Entry) where
  abbrev pub FreeIn : ℕ → Type 0
  FreeIn n = Free bound (table_load js) (job_in js n)

  -- of the open jobs, one with a free unit may run and one without is held
  abbrev pub ReadyIn : ℕ → Type 0
  ReadyIn n = OpenIn js n × FreeIn n

  abbrev pub HeldIn : ℕ → Type 0
  HeldIn n = OpenIn js n × (FreeIn n → ⊥)

-- What every table keeps to, at the clock `now`. Each record has its number.
abbrev pub Numbered : List Entry → Type 0
Numbered js = (n : ℕ) → n < length js → (at js n).number ≡ n

-- Each job has arrived, and is due 1 to 4,096 ticks after its arrival.
abbrev pub Dated : ℕ → List Entry → Type 0
Dated now js = (n : ℕ) → n < length js → ((at js n).arrival ≤ now) × ((at js n).arrival < (at js n).due) × ((at js n).due ≤ (at js n).arrival + 4096)

-- It has used no more units than there were ticks since its arrival and before its due tick.
abbrev pub Slow : ℕ → List Entry → Type 0
Slow now js = (n : ℕ) → n < length js → ((at js n).used + (at js n).arrival ≤ now) × ((at js n).used + (at js n).arrival ≤ (at js n).due)

-- No job arrived before one of a lower number.
abbrev pub Ascending : List Entry → Type 0
Ascending js = (m n : ℕ) → m ≤ n → n < length js → (at js m).arrival ≤ (at js n).arrival

-- all of it
pub record TableKeeps (now : ℕ) (js : List Entry) : Type 0 where
  pub numbered : Numbered js
  pub dated : Dated now js
  pub slow : Slow now js
  pub ascending : Ascending js

-- what this says of the record of job n
pub record InRange (now n : ℕ) (j : Entry) : Type 0 where
  pub numbered : j.number ≡ n
  pub few : n < 96
  pub past : j.arrival ≤ now
  pub short : j.arrival < j.due
  pub near : j.due ≤ j.arrival + 4096
  pub slow : j.used + j.arrival ≤ j.due
