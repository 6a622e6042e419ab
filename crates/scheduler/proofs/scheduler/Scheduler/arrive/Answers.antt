use Rattle.std.proofs.Common.{◌≡◌, ℕ, length, is_ok, Ok, sym, ap, ◌∙◌, subst, arith, length-take-le}
use Rattle.scheduler.specs.Steps.{unless, records}
use Rattle.scheduler.specs.Table.{TableKeeps}
use Rattle.scheduler.specs.Records.{jobs_of}
use Rattle.scheduler.specs.Rules.{plan_of}
use Rattle.scheduler.proofs.Certificate.{arrive_accepted, certified}
use Rattle.scheduler.proofs.Keeping.{kept_push}
use Rattle.scheduler.proofs.Stepping.{unless_ok, arrive_recorded}
use Rattle.scheduler.proofs.scheduler.Scheduler.arrive.Goals as goal

pub returns-in_err-judge_arrive-clause-certified : goal.returns-in_err-judge_arrive-clause-certified
returns-in_err-judge_arrive-clause-certified g c =
    let s = c.args.self.now in
    λ h r. certified (plan_of g.B.Binder s.binder) (g.met.B.Binder.climbs s.binder) (g.met.B.Binder.repeats s.binder) h r.follows

pub invariant_of-self : goal.invariant_of-self
invariant_of-self g c =
    let s = c.args.self.now in
    let now = s.clock in
    let k = c.args.component in
    let d = c.args.deadline in
    let n = s.table.count in
    let w = arrive_accepted (is_ok s.verdict) (g.B.Binder.count s.binder) now (length (jobs_of s)) k d (unless_ok _ tt _ c.in_ok-judge_arrive.ensures).0 in
    record {
      early = s.early;
      kept = subst (TableKeeps now) (sym c.add.ensures) (kept_push now (jobs_of s) n k d w.2 w.3 (sym (length-take-le n s.table.jobs (omega (arith, s.table.few, s.table.slots)))) s.kept);
    }

pub returns-clause-recorded : goal.returns-clause-recorded
returns-clause-recorded g c =
    let s = c.args.self.now in
    let n = s.table.count in
    let count_is : length (jobs_of s) ≡ n = length-take-le n s.table.jobs (omega (arith, s.table.few, s.table.slots)) in
    let accepted = ap (λ (m : ℕ). Ok m) (sym count_is) ∙ ap (λ o. unless o (length (jobs_of s))) (sym (unless_ok _ tt _ c.in_ok-judge_arrive.ensures).0) in
    λ h r.
    arrive_recorded (plan_of g.B.Binder s.binder) (g.met.B.Binder.climbs s.binder) (g.met.B.Binder.repeats s.binder) s.verdict s.clock (jobs_of s) h r c.args.component c.args.deadline (Ok n)
    (records c.add.new.self) accepted c.add.ensures

pub returns-clause-certified : goal.returns-clause-certified
returns-clause-certified g c =
    let s = c.args.self.now in
    λ h r. certified (plan_of g.B.Binder s.binder) (g.met.B.Binder.climbs s.binder) (g.met.B.Binder.repeats s.binder) h r.follows
