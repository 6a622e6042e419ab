-- A history: the calls made on one scheduler since it was made, each with its answer. The clock, the jobs, what each job has run
-- and how it ended, and the load of a component in a window are read from it alone.
use Rattle.std.specs.Prelude.{◌≡◌, ℕ, zero, suc, ◌+◌, ◌<◌, ◌≤◌, Bool, cond, ◌&&◌, ◌⊎◌, List, [], ◌∷◌, ◌++◌, length, Some, None, Option, ◌==◌, nat_le, nat_lt, slice_index_or}
use Rattle.demand.specs.Admission.{total}
use Rattle.scheduler.specs.declared.calls.Event.{Event}
use Rattle.scheduler.specs.declared.calls.Event.TheVariants.{Arrived, Finished, Ticked, Refused}

-- the newest event first
abbrev pub History : Type 0
History = List Event

-- how many ticks were accepted
abbrev pub clock : History → ℕ
clock [] = 0
clock (Arrived k d n ∷ h) = clock h
clock (Finished n u ∷ h) = clock h
clock (Ticked x ∷ h) = clock h + 1
clock (Refused c why ∷ h) = clock h

-- an accepted arrival
pub record Job : Type 0 where
  pub component : ℕ
  pub arrival : ℕ
  pub due : ℕ

abbrev pub no_job : Job
no_job = record { component = 0; arrival = 0; due = 0 }

-- the jobs, by their numbers: those that were accepted, in that order
abbrev pub jobs : History → List Job
jobs [] = []
jobs (Arrived k d n ∷ h) = jobs h ++ (record { component = k; arrival = clock h; due = clock h + d } ∷ [])
jobs (Finished n u ∷ h) = jobs h
jobs (Ticked x ∷ h) = jobs h
jobs (Refused c why ∷ h) = jobs h

abbrev pub count : History → ℕ
count h = length (jobs h)

abbrev pub job : History → ℕ → Job
job h n = slice_index_or (jobs h) n no_job

-- 1 where the tick's answer gives the number n
abbrev pub gives : Option ℕ → ℕ → ℕ
gives None n = 0
gives (Some m) n = cond (m == n) 1 0

-- how many ticks ran the job n
abbrev pub units : History → ℕ → ℕ
units [] n = 0
units (Arrived k d m ∷ h) n = units h n
units (Finished m u ∷ h) n = units h n
units (Ticked x ∷ h) n = units h n + gives x.ran n
units (Refused c why ∷ h) n = units h n

-- how a job stands: open, finished, or cut at its deadline; a number that no job has yet counts as open
pub data Fate : Type 0 where
  pending done cut : Fate

-- an open job ends so, and a job that has ended stays as it is
abbrev pub ends : Fate → Fate → Fate
ends pending f = f
ends done f = done
ends cut f = cut

-- the job n has arrived, and the clock stands at its due tick or later
abbrev pub late : History → ℕ → Bool
late h n = nat_lt n (count h) && nat_le (job h n).due (clock h)

-- a finish of an open job finishes it, and a tick cuts each open job that is late
abbrev pub fate : History → ℕ → Fate
fate [] n = pending
fate (Arrived k d m ∷ h) n = fate h n
fate (Finished m u ∷ h) n = cond (m == n) (ends (fate h n) done) (fate h n)
fate (Ticked x ∷ h) n = cond (late h n) (ends (fate h n) cut) (fate h n)
fate (Refused c why ∷ h) n = fate h n

abbrev pub Open : History → ℕ → Type 0
Open h n = (n < count h) × (fate h n ≡ pending)

-- of the open jobs a tick cuts those that are due, and keeps the others
abbrev pub Cuts : History → ℕ → Type 0
Cuts h n = Open h n × ((job h n).due ≤ clock h)

abbrev pub Live : History → ℕ → Type 0
Live h n = Open h n × (clock h < (job h n).due)

-- A window is a start s and an end e. A job lies in it that arrives at s or later, and is due at e or earlier.
abbrev pub Lies : Job → ℕ → ℕ → Type 0
Lies j s e = (s ≤ j.arrival) × (j.due ≤ e)

-- the job is one of the component k, and lies in the window
abbrev pub inside : ℕ → ℕ → ℕ → Job → Bool
inside k s e j = j.component == k && (nat_le s j.arrival && nat_le j.due e)

-- Of so many jobs, by what each is and what it has run: the units that those of the component k that lie in the window have run,
-- those that have ended too.
unfoldable pub load_over : ℕ → (ℕ → Job) → (ℕ → ℕ) → ℕ → ℕ → ℕ → ℕ
load_over n job_at run k s e = total n (λ i. cond (inside k s e (job_at i)) (run i) 0)

abbrev pub load : History → ℕ → ℕ → ℕ → ℕ
load h = load_over (count h) (job h) (units h)

-- c of the numbers below n have P
abbrev pub Counts : (ℕ → Type 0) → ℕ → ℕ → Type 0
Counts P zero c = c ≡ 0
Counts P (suc n) c = (P n × ((b : ℕ) × (c ≡ b + 1) × Counts P n b)) ⊎ ((P n → ⊥) × Counts P n c)
