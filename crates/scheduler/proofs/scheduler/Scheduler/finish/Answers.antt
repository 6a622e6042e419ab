use Rattle.std.proofs.Common.{◌≡◌, length, is_ok, Ok, sym, ap, ◌∙◌, subst}
use Rattle.std.proofs.lemmas.Bool.{cond-true}
use Rattle.scheduler.specs.declared.job.Ending.TheVariants as ending
use Rattle.scheduler.specs.Recording.{finish_leaves}
use Rattle.scheduler.specs.Steps.{unless, records}
use Rattle.scheduler.specs.Table.{at, is_open, TableKeeps}
use Rattle.scheduler.specs.Records.{jobs_of}
use Rattle.scheduler.specs.Rules.{plan_of}
use Rattle.scheduler.proofs.Certificate.{finish_accepted, certified}
use Rattle.scheduler.proofs.Keeping.{ended_length, ended_each, kept_same}
use Rattle.scheduler.proofs.Stepping.{unless_ok, finish_recorded}
use Rattle.scheduler.proofs.scheduler.Scheduler.finish.Goals as goal

pub returns-in_err-judge_finish-clause-certified : goal.returns-in_err-judge_finish-clause-certified
returns-in_err-judge_finish-clause-certified g c =
    let s = c.args.self.now in
    λ h r. certified (plan_of g.B.Binder s.binder) (g.met.B.Binder.climbs s.binder) (g.met.B.Binder.repeats s.binder) h r.follows

pub invariant_of-self : goal.invariant_of-self
invariant_of-self g c =
    let s = c.args.self.now in
    let now = s.clock in
    let js = jobs_of s in
    let n = c.args.job in
    let w = finish_accepted (is_ok s.verdict) (length js) n (is_open (at js n).status) (unless_ok _ tt _ c.in_ok-judge_finish.ensures).0 in
    record {
      early = s.early;
      kept = subst (TableKeeps now) (sym c.end.ensures.after) (kept_same now js _ (ended_length js n _) (ended_each ending.Finish js n w.1) s.kept);
    }

pub returns-clause-recorded : goal.returns-clause-recorded
returns-clause-recorded g c =
    let s = c.args.self.now in
    let js = jobs_of s in
    let n = c.args.job in
    let ok = (unless_ok _ tt _ c.in_ok-judge_finish.ensures).0 in
    let w = finish_accepted (is_ok s.verdict) (length js) n (is_open (at js n).status) ok in
    let answer : c.end.result ≡ Ok (at js n).used = c.end.ensures.answer ∙ cond-true (is_open (at js n).status) _ _ w.2 in
    let accepted = answer ∙ ap (λ o. unless o (at js n).used) (sym ok) in
    let left = c.end.ensures.after ∙ ap (finish_leaves js n) (sym answer) in
    λ h r.
    finish_recorded (plan_of g.B.Binder s.binder) (g.met.B.Binder.climbs s.binder) (g.met.B.Binder.repeats s.binder) s.verdict s.clock js h r n c.end.result (records c.end.new.self) accepted left

pub returns-clause-certified : goal.returns-clause-certified
returns-clause-certified g c =
    let s = c.args.self.now in
    λ h r. certified (plan_of g.B.Binder s.binder) (g.met.B.Binder.climbs s.binder) (g.met.B.Binder.repeats s.binder) h r.follows
