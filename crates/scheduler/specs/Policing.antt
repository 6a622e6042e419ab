-- How the windows that a component has spent are found: for a given end, by a running sum over the jobs from the last one back. Only
-- private contracts speak of this.
use Rattle.std.specs.Prelude.{◌≡◌, ℕ, ◌+◌, ◌-◌, ◌<◌, ◌≤◌, Bool, true, cond, ◌&&◌, ◌||◌, List, length, Some, None, Option, ◌==◌, nat_le, nat_lt, slice_index_or}
use Rattle.demand.specs.Admission.{total}
use Rattle.scheduler.specs.declared.job.Job.{Job as Entry}
use Rattle.scheduler.specs.declared.window.Window.{Window}
use Rattle.scheduler.specs.History.{inside}
use Rattle.scheduler.specs.Table.{at, job_of, arrival_in, OpenIn}

-- the job is one of the component k and due by e
abbrev pub due_by : ℕ → ℕ → Entry → Bool
due_by k e j = j.component == k && nat_le j.due e

-- what the jobs below n among them have used
unfoldable pub used_below : List Entry → ℕ → ℕ → ℕ → ℕ
used_below js k e n = total n (λ i. cond (due_by k e (at js i)) (at js i).used 0)

-- each job is due after its arrival
abbrev pub Proper : List Entry → Type 0
Proper js = (n : ℕ) → n < length js → (at js n).arrival < (at js n).due

-- the jobs from number i on among them have used up the component's bound from the arrival of job i to e, and i is one of them
abbrev pub SpentFrom : (ℕ → ℕ → ℕ) → List Entry → ℕ → ℕ → ℕ → Type 0
SpentFrom bound js k e i =
    (i < length js) × (due_by k e (at js i) ≡ true) × (bound k (e - (at js i).arrival) + used_below js k e i ≤ used_below js k e (length js))

-- the least tick of those that have P, or none where none has it
abbrev pub EarliestOf : (ℕ → Type 0) → (ℕ → ℕ) → Option ℕ → Type 0
EarliestOf P tick (Some t) = ((i : ℕ) × P i × (tick i ≡ t)) × ((m : ℕ) → P m → t ≤ tick m)
EarliestOf P tick None = (m : ℕ) → P m → ⊥

-- some open job of the component k is due by e
abbrev pub OpenBy : List Entry → ℕ → ℕ → Type 0
OpenBy js k e = (n : ℕ) × OpenIn js n × (due_by k e (at js n) ≡ true)

-- Of the windows of a job's component that end where it is due: the spent one that begins first. None also where no open job is due by
-- then.
abbrev pub FirstSpent : (ℕ → ℕ → ℕ) → List Entry → Entry → Option Window → Type 0
FirstSpent bound js last (Some w) =
    (w.component ≡ last.component) × (w.end ≡ last.due) × EarliestOf (SpentFrom bound js last.component last.due) (arrival_in js) (Some w.start)
FirstSpent bound js last None = OpenBy js last.component last.due → EarliestOf (SpentFrom bound js last.component last.due) (arrival_in js) None

-- the job lies in one of the windows of its component
abbrev pub HeldBy : List (Option Window) → Entry → Type 0
HeldBy ws j = (b : ℕ) × (w : Window) × (b < length ws) × (slice_index_or ws b None ≡ Some w) × (inside w.component w.start w.end (job_of j) ≡ true)

-- a job goes before one of a lower number: it is due first, or at the same tick and of a lower component
abbrev pub overtakes : Entry → Entry → Bool
overtakes j i = nat_lt j.due i.due || (j.due == i.due && nat_lt j.component i.component)

-- the first of two, the second of which has the higher number
abbrev pub first_of_two : List Entry → Option ℕ → ℕ → Option ℕ
first_of_two js None n = Some n
first_of_two js (Some i) n = cond (overtakes (at js n) (at js i)) (Some n) (Some i)
