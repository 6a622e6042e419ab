-- The calls of a scheduler, over any kind of binder.
use Rattle.std.specs.Prelude.{◌≡◌, ℕ, List, length, is_ok, Option, Result}
use Rattle.demand.specs.declared.binder.Binder.{Ghosts}
use Rattle.scheduler.specs.declared.calls.Call.{Call}
use Rattle.scheduler.specs.declared.calls.Call.TheVariants.{Arrive, Finish, Tick}
use Rattle.scheduler.specs.declared.calls.CallRefusal.{CallRefusal}
use Rattle.scheduler.specs.declared.calls.Event.{Event}
use Rattle.scheduler.specs.declared.calls.Event.TheVariants as event
use Rattle.scheduler.specs.declared.calls.Ticked.{Ticked}
use Rattle.scheduler.specs.declared.job.Job.{Job as Entry}
use Rattle.scheduler.specs.declared.scheduler.Scheduler.{Scheduler}
use Rattle.scheduler.specs.History.{History}
use Rattle.scheduler.specs.Reasons.{arrive_reason, finish_reason, tick_reason}
use Rattle.scheduler.specs.Rules.{plan_of, Certified}
use Rattle.scheduler.specs.Table.{at, is_open}
use Rattle.scheduler.specs.Steps.{unless, records}
use Rattle.scheduler.specs.Recording.{arrive_leaves, finish_leaves, TickAnswer, clock_after, event_of, Recorded}

module _ {B : Type 0} where
  abbrev pub jobs_of : Scheduler B → List Entry
  jobs_of s = records s.table

  -- the refusals of the three calls
  abbrev pub arrive_refused : Ghosts B → Scheduler B → ℕ → ℕ → Option CallRefusal
  arrive_refused g s k d = arrive_reason (is_ok s.verdict) (g.count s.binder) s.clock (length (jobs_of s)) k d

  abbrev pub finish_refused : Scheduler B → ℕ → Option CallRefusal
  finish_refused s n = finish_reason (is_ok s.verdict) (length (jobs_of s)) n (is_open (at (jobs_of s) n).status)

  abbrev pub tick_refused : Scheduler B → Option CallRefusal
  tick_refused s = tick_reason (is_ok s.verdict) s.clock

  -- binder and verdict are those of making
  pub record SameBinder (s t : Scheduler B) : Type 0 where
    pub binder_kept : t.binder ≡ s.binder
    pub verdict_kept : t.verdict ≡ s.verdict

  -- From s to t by an arrive with the answer r, by a finish, and by a tick.
  pub record Arrives (g : Ghosts B) (s : Scheduler B) (k d : ℕ) (r : Result ℕ CallRefusal) (t : Scheduler B) : Type 0 where
    pub answers : r ≡ unless (arrive_refused g s k d) (length (jobs_of s))
    pub table : jobs_of t ≡ arrive_leaves s.clock (jobs_of s) k d r
    pub clock_stands : t.clock ≡ s.clock

  pub record Finishes (s : Scheduler B) (n : ℕ) (r : Result ℕ CallRefusal) (t : Scheduler B) : Type 0 where
    pub answers : r ≡ unless (finish_refused s n) (at (jobs_of s) n).used
    pub table : jobs_of t ≡ finish_leaves (jobs_of s) n r
    pub clock_stands : t.clock ≡ s.clock

  pub record TicksOn (g : Ghosts B) (s : Scheduler B) (r : Result Ticked CallRefusal) (t : Scheduler B) : Type 0 where
    pub answers : TickAnswer (g.bound s.binder) s.verdict s.clock (jobs_of s) r (jobs_of t)
    pub clock_rises : t.clock ≡ clock_after s.clock r

  -- any of the three
  abbrev pub Performs : Ghosts B → Scheduler B → Call → Event → Scheduler B → Type 0
  Performs g s (Arrive k d) e t = (r : Result ℕ CallRefusal) × Arrives g s k d r t × (e ≡ event_of (Arrive k d) (event.Arrived k d) r)
  Performs g s (Finish n) e t = (r : Result ℕ CallRefusal) × Finishes s n r t × (e ≡ event_of (Finish n) (event.Finished n) r)
  Performs g s Tick e t = (r : Result Ticked CallRefusal) × TicksOn g s r t × (e ≡ event_of Tick event.Ticked r)

  -- the scheduler's calls and answers since it was made are this history
  abbrev pub Records : Ghosts B → Scheduler B → History → Type 0
  Records g s h = Recorded (plan_of g s.binder) s.verdict s.clock (jobs_of s) h

  -- whatever history the scheduler records obeys both laws, by the bound of its binder
  abbrev pub CertifiedBy : Ghosts B → Scheduler B → Type 0
  CertifiedBy g s = (h : History) → Records g s h → Certified (g.bound s.binder) h
