-- The rules of answering: each answer is judged against the history before it, and the rules fix it, refusals included.
use Rattle.std.specs.Prelude.{◌≡◌, ℕ, ◌-◌, ◌<◌, ◌≤◌, Bool, true, false, [], ◌∷◌, is_ok, Some, None, Option}
use Rattle.demand.specs.declared.binder.Binder.{Ghosts}
use Rattle.demand.specs.Admission.{admission}
use Rattle.scheduler.specs.declared.calls.Call.{Call}
use Rattle.scheduler.specs.declared.calls.Call.TheVariants.{Arrive, Finish, Tick}
use Rattle.scheduler.specs.declared.calls.CallRefusal.{CallRefusal}
use Rattle.scheduler.specs.declared.calls.Event.{Event}
use Rattle.scheduler.specs.declared.calls.Event.TheVariants.{Arrived, Finished, Ticked, Refused}
use Rattle.scheduler.specs.History.{History, Fate, clock, count, job, units, fate, Cuts, Counts, load}
use Rattle.scheduler.specs.History.Fate.{pending, done, cut}
use Rattle.scheduler.specs.Order.{FirstOf}
use Rattle.scheduler.specs.Reasons.{arrive_reason, finish_reason, tick_reason}
use Rattle.scheduler.specs.Windows.{Free, Spent, Ready, Held, FreeAtJobs}

-- a binder as the rules see it: how many components it has, their bounds and their gains
pub record Plan : Type 0 where
  pub parts : ℕ
  pub bound : ℕ → ℕ → ℕ
  pub gain : ℕ → ℕ

abbrev pub plan_of : {B : Type 0} → Ghosts B → B → Plan
plan_of g b = record { parts = g.count b; bound = g.bound b; gain = g.gain b }

-- the admission test admits it
abbrev pub admitted : Plan → Bool
admitted p = is_ok (admission p.parts p.bound p.gain)

abbrev pub is_pending : Fate → Bool
is_pending pending = true
is_pending done = false
is_pending cut = false

-- the refusal of an arrive, a finish and a tick: the first reason that applies, or none
abbrev pub arrive_refusal : Plan → History → ℕ → ℕ → Option CallRefusal
arrive_refusal p h k d = arrive_reason (admitted p) p.parts (clock h) (count h) k d

abbrev pub finish_refusal : Plan → History → ℕ → Option CallRefusal
finish_refusal p h n = finish_reason (admitted p) (count h) n (is_pending (fate h n))

abbrev pub tick_refusal : Plan → History → Option CallRefusal
tick_refusal p h = tick_reason (admitted p) (clock h)

-- the job that runs is ready and goes before every other one that is; none runs only where none is ready
abbrev pub RunsFirst : Plan → History → Option ℕ → Type 0
RunsFirst p h ran = FirstOf (job h) (Ready p.bound h) ran

-- the refusal of any call, and the call that an event answers
abbrev pub refusal_of : Plan → History → Call → Option CallRefusal
refusal_of p h (Arrive k d) = arrive_refusal p h k d
refusal_of p h (Finish n) = finish_refusal p h n
refusal_of p h Tick = tick_refusal p h

abbrev pub call_of : Event → Call
call_of (Arrived k d n) = Arrive k d
call_of (Finished n u) = Finish n
call_of (Ticked x) = Tick
call_of (Refused c why) = c

-- The answer is the one that the rules give after this history. At a tick the open jobs that are due at the clock or earlier are cut
-- and counted; of those still open the ones without a free unit are held and counted; of the others the first one runs.
abbrev pub Answers : Plan → Event → History → Type 0
Answers p (Arrived k d n) h = (arrive_refusal p h k d ≡ None) × (n ≡ count h)
Answers p (Finished n u) h = (finish_refusal p h n ≡ None) × (u ≡ units h n)
Answers p (Ticked x) h = (tick_refusal p h ≡ None) × RunsFirst p h x.ran × Counts (Held p.bound h) (count h) x.held × Counts (Cuts h) (count h) x.cut
Answers p (Refused c why) h = refusal_of p h c ≡ Some why

-- every answer of the history follows the rules
abbrev pub Follows : Plan → History → Type 0
Follows p [] = Unit {0}
Follows p (e ∷ h) = Answers p e h × Follows p h

-- The two laws. In each window the jobs of any one component that lie in it have run at most its bound for that length; and each job
-- that was cut at its deadline lies in a window in which its own component's jobs have run exactly its bound for that length.
pub record Certified (bound : ℕ → ℕ → ℕ) (h : History) : Type 0 where
  pub never_past_the_bound : (k s e : ℕ) → load h k s e ≤ bound k (e - s)
  pub cut_only_when_spent : (n : ℕ) → n < count h → fate h n ≡ cut → Spent bound (load h) (job h n)

-- every history that follows the rules over this plan obeys both laws
abbrev pub AlwaysCertified : Plan → Type 0
AlwaysCertified p = (h : History) → Follows p h → Certified p.bound h

-- after every history each call has an answer that follows the rules
abbrev pub AnAnswer : Plan → Type 0
AnAnswer p = (h : History) (c : Call) → (e : Event) × (call_of e ≡ c) × Answers p e h

-- two answers to the same call after the same history that both follow the rules are equal
abbrev pub OneAnswer : Plan → Type 0
OneAnswer p = (h : History) (e f : Event) → call_of e ≡ call_of f → Answers p e h → Answers p f h → e ≡ f

-- the windows from job to job decide whether a job has a free unit
abbrev pub DecidedAtJobs : Plan → Type 0
DecidedAtJobs p =
    (h : History) (n : ℕ) → n < count h
    → (FreeAtJobs p.bound h n → Free p.bound (load h) (job h n)) × (Free p.bound (load h) (job h n) → FreeAtJobs p.bound h n)
