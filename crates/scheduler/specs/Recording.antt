-- What a scheduler records: the table and the clock are those that its history calls for, and the history follows the rules.
use Rattle.std.specs.Prelude.{◌≡◌, ℕ, ◌+◌, ◌<◌, List, [], ◌∷◌, ◌++◌, length, is_ok, Some, None, Ok, Err, Result, slice_set}
use Rattle.demand.specs.Admission.{admission}
use Rattle.demand.specs.declared.verdict.TestRefusal.{TestRefusal}
use Rattle.scheduler.specs.declared.calls.Call.{Call}
use Rattle.scheduler.specs.declared.calls.CallRefusal.{CallRefusal}
use Rattle.scheduler.specs.declared.calls.Event.{Event}
use Rattle.scheduler.specs.declared.calls.Event.TheVariants.{Refused}
use Rattle.scheduler.specs.declared.calls.Ticked.{Ticked}
use Rattle.scheduler.specs.declared.job.Ending.TheVariants as ending
use Rattle.scheduler.specs.declared.job.Job.{Job as Entry}
use Rattle.scheduler.specs.declared.job.JobStatus.{JobStatus}
use Rattle.scheduler.specs.declared.job.JobStatus.TheVariants as status
use Rattle.scheduler.specs.History.{History, Fate, clock, count, job, units, fate, Counts}
use Rattle.scheduler.specs.History.Fate.{pending, done, cut}
use Rattle.scheduler.specs.Order.{FirstOf}
use Rattle.scheduler.specs.Reasons.{tick_reason}
use Rattle.scheduler.specs.Rules.{Plan, Follows}
use Rattle.scheduler.specs.Table.{at, job_in, ReadyIn, HeldIn}
use Rattle.scheduler.specs.Steps.{ended, cut_due, DueIn, with_unit, born}

-- the records after an arrive, and after a finish
abbrev pub arrive_leaves : ℕ → List Entry → ℕ → ℕ → Result ℕ CallRefusal → List Entry
arrive_leaves now js k d (Ok n) = js ++ (born now n k d ∷ [])
arrive_leaves now js k d (Err e) = js

abbrev pub finish_leaves : List Entry → ℕ → Result ℕ CallRefusal → List Entry
finish_leaves js n (Ok u) = slice_set js n (ended ending.Finish (at js n))
finish_leaves js n (Err e) = js

-- The answer to a tick, and the records after it: the jobs that are due are cut and counted; of those still open the ones without a
-- free unit are held and counted; of the others the first one runs.
pub record Ticks (bound : ℕ → ℕ → ℕ) (now : ℕ) (js : List Entry) (x : Ticked) (after : List Entry) : Type 0 where
  pub cut_counted : Counts (DueIn now js) (length js) x.cut
  pub held_counted : Counts (HeldIn bound (cut_due now js)) (length (cut_due now js)) x.held
  pub first_ran : FirstOf (job_in (cut_due now js)) (ReadyIn bound (cut_due now js)) x.ran
  pub one_unit_more : after ≡ with_unit x.ran (cut_due now js)

abbrev pub TickAnswer : (ℕ → ℕ → ℕ) → Result (Unit {0}) TestRefusal → ℕ → List Entry → Result Ticked CallRefusal → List Entry → Type 0
TickAnswer bound verdict now js (Ok x) after = (tick_reason (is_ok verdict) now ≡ None) × Ticks bound now js x after
TickAnswer bound verdict now js (Err e) after = (tick_reason (is_ok verdict) now ≡ Some e) × (after ≡ js)

-- an accepted tick raises the clock, also when nothing ran
abbrev pub clock_after : ℕ → Result Ticked CallRefusal → ℕ
clock_after now (Ok x) = now + 1
clock_after now (Err e) = now

-- a call with the answer that it got: what an accepted one is recorded as, or its refusal
abbrev pub event_of : {X : Type 0} → Call → (X → Event) → Result X CallRefusal → Event
event_of c accepted (Ok x) = accepted x
event_of c accepted (Err e) = Refused c e

-- the record of job n that a history calls for
abbrev pub status_of : Fate → JobStatus
status_of pending = status.Open
status_of done = status.Finished
status_of cut = status.Cut

abbrev pub entry_of : History → ℕ → Entry
entry_of h n = record { number = n; component = (job h n).component; arrival = (job h n).arrival; due = (job h n).due; used = units h n; status = status_of (fate h n) }

-- The verdict is the admission test's, the clock and the records are those that the history calls for, and every answer in the history
-- follows the rules.
pub record Recorded (p : Plan) (verdict : Result (Unit {0}) TestRefusal) (now : ℕ) (js : List Entry) (h : History) : Type 0 where
  pub tested : verdict ≡ admission p.parts p.bound p.gain
  pub clocked : now ≡ clock h
  pub counted : length js ≡ count h
  pub each : (n : ℕ) → n < count h → at js n ≡ entry_of h n
  pub follows : Follows p h
