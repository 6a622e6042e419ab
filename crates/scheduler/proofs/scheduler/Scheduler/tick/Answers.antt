use Rattle.std.proofs.Common.{◌≡◌, ℕ, ◌+◌, ◌-◌, ◌^◌, ◌<◌, List, length, is_ok, Some, Ok, Option, sym, ap, ◌∙◌, subst, arith}
use Rattle.scheduler.specs.declared.job.Job.{Job as Entry}
use Rattle.scheduler.specs.declared.calls.Ticked.{Ticked}
use Rattle.scheduler.specs.History.{Counts}
use Rattle.scheduler.specs.Policing.{Proper}
use Rattle.scheduler.specs.Steps.{records, cut_due, with_unit}
use Rattle.scheduler.specs.Table.{at, job_in, ReadyIn, HeldIn, Ascending, TableKeeps}
use Rattle.scheduler.specs.Recording.{Ticks}
use Rattle.scheduler.specs.Records.{jobs_of}
use Rattle.scheduler.specs.Order.{FirstOf}
use Rattle.scheduler.specs.Rules.{plan_of}
use Rattle.scheduler.proofs.Certificate.{tick_accepted, certified}
use Rattle.scheduler.proofs.Chosen.{where_some}
use Rattle.scheduler.proofs.Keeping.{cut_length, cut_each, open_later, kept_same, kept_ran}
use Rattle.scheduler.proofs.Stepping.{unless_ok, tick_recorded}
use Rattle.scheduler.proofs.Needed.{needs_met}
use Rattle.scheduler.proofs.scheduler.Scheduler.tick.Goals as goal

pub returns-in_err-judge_tick-clause-certified : goal.returns-in_err-judge_tick-clause-certified
returns-in_err-judge_tick-clause-certified g c =
    let s = c.args.self.now in
    λ h r. certified (plan_of g.B.Binder s.binder) (g.met.B.Binder.climbs s.binder) (g.met.B.Binder.repeats s.binder) h r.follows

pub returns-in_err-judge_tick-clause-needs_met : goal.returns-in_err-judge_tick-clause-needs_met
returns-in_err-judge_tick-clause-needs_met g c =
    let s = c.args.self.now in
    let p = plan_of g.B.Binder s.binder in
    λ h r. needs_met p.bound h (certified p (g.met.B.Binder.climbs s.binder) (g.met.B.Binder.repeats s.binder) h r.follows)

-- the records after the cuts
module _ (now : ℕ) (js : List Entry) (kept : TableKeeps now js) where
  kept₁ : TableKeeps now (cut_due now js)
  kept₁ = kept_same now js (cut_due now js) (cut_length now js) (cut_each now js) kept

  -- the job that is to run, if any, is open and due later
  ran_open : (bound : ℕ → ℕ → ℕ) (o : Option ℕ) → FirstOf (job_in (cut_due now js)) (ReadyIn bound (cut_due now js)) o → (n : ℕ) → o ≡ Some n → (n < length (cut_due now js)) × (now < (at (cut_due now js) n).due)
  ran_open bound o first n e =
      let r = (subst (FirstOf (job_in (cut_due now js)) (ReadyIn bound (cut_due now js))) e first).0 in (r.0.0, open_later now js n r.0)

pub invariant_of-roster : goal.invariant_of-roster
invariant_of-roster g c =
    let s = c.args.self.now in
    let now = s.clock in
    let js = jobs_of s in
    let e : c.records.result.now ≡ cut_due now js = c.records.ensures.value ∙ c.cut_due-cut.ensures.after in
    record {
      few = omega (arith, c.records.ensures.len, c.cut_due-cut.new.self.few);
      proper = subst Proper (sym e) (λ n l. ((kept₁ now js s.kept).dated n l).1);
      ascending = subst Ascending (sym e) (kept₁ now js s.kept).ascending;
    }

pub run-requires : goal.run-requires
run-requires g c =
    let s = c.args.self.now in
    let now = s.clock in
    let js = jobs_of s in
    let t = c.cut_due-cut.new.self in
    let bound = g.B.Binder.bound s.binder in
    let e : c.records.result.now ≡ cut_due now js = c.records.ensures.value ∙ c.cut_due-cut.ensures.after in
    let first = subst (λ xs. FirstOf (job_in xs) (ReadyIn bound xs) c.survey-choice.result.first) e c.survey-choice.ensures.first in
    let count_is : length (cut_due now js) ≡ t.count = ap length (sym e) ∙ c.records.ensures.len in
    where_some c.survey-choice.result.first _
    (λ n q.
    let r = ran_open now js s.kept bound _ first n q in
    let w = (kept₁ now js s.kept).slow n r.0 in (
      omega (arith, r.0, count_is),
      subst (λ xs. (at xs n).used < 2 ^ 32 - 1) (sym c.cut_due-cut.ensures.after) (omega (arith, w.0, s.early)),
    ))

pub invariant_of-self : goal.invariant_of-self
invariant_of-self g c =
    let s = c.args.self.now in
    let now = s.clock in
    let js = jobs_of s in
    let bound = g.B.Binder.bound s.binder in
    let o = c.survey-choice.result.first in
    let e : c.records.result.now ≡ cut_due now js = c.records.ensures.value ∙ c.cut_due-cut.ensures.after in
    let first = subst (λ xs. FirstOf (job_in xs) (ReadyIn bound xs) o) e c.survey-choice.ensures.first in
    let known = ran_open now js s.kept bound o first in
    let after : records c.run.new.self ≡ with_unit o (cut_due now js) = c.run.ensures ∙ ap (with_unit o) c.cut_due-cut.ensures.after in
    record {
      early = tick_accepted (is_ok s.verdict) now (unless_ok _ tt _ c.in_ok-judge_tick.ensures).0 s.early;
      kept = subst (TableKeeps (now + 1)) (sym after) (kept_ran now (cut_due now js) (kept₁ now js s.kept) o known);
    }

pub returns-clause-recorded : goal.returns-clause-recorded
returns-clause-recorded g c =
    let s = c.args.self.now in
    let now = s.clock in
    let js = jobs_of s in
    let p = plan_of g.B.Binder s.binder in
    let climbs = g.met.B.Binder.climbs s.binder in
    let repeats = g.met.B.Binder.repeats s.binder in
    let o = c.survey-choice.result.first in
    let held = c.survey-choice.result.held in
    let cut = c.cut_due-cut.result in
    let e : c.records.result.now ≡ cut_due now js = c.records.ensures.value ∙ c.cut_due-cut.ensures.after in
    let answered : Ticked = record { ran = o; held = held; cut = cut } in
    let ticks : Ticks p.bound now js answered (records c.run.new.self) = record {
      cut_counted = c.cut_due-cut.ensures.count;
      held_counted = subst (λ xs. Counts (HeldIn p.bound xs) (length xs) held) e c.survey-choice.ensures.held;
      first_ran = subst (λ xs. FirstOf (job_in xs) (ReadyIn p.bound xs) o) e c.survey-choice.ensures.first;
      one_unit_more = c.run.ensures ∙ ap (with_unit o) c.cut_due-cut.ensures.after;
    } in
    let accepted = (unless_ok _ tt _ c.in_ok-judge_tick.ensures).0 in
    λ h r. tick_recorded p climbs repeats s.verdict now js h r (Ok answered) (records c.run.new.self) (accepted, ticks)

pub returns-clause-certified : goal.returns-clause-certified
returns-clause-certified g c =
    let s = c.args.self.now in
    λ h r. certified (plan_of g.B.Binder s.binder) (g.met.B.Binder.climbs s.binder) (g.met.B.Binder.repeats s.binder) h r.follows

pub returns-clause-needs_met : goal.returns-clause-needs_met
returns-clause-needs_met g c =
    let s = c.args.self.now in
    let p = plan_of g.B.Binder s.binder in
    λ h r. needs_met p.bound h (certified p (g.met.B.Binder.climbs s.binder) (g.met.B.Binder.repeats s.binder) h r.follows)
