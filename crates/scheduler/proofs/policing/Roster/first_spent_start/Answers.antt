use Rattle.std.proofs.Common.{◌≡◌, ◌<◌, length, get_or, reverse, sym, ◌∙◌, arith}
use Rattle.std.proofs.lemmas.List.{length_push, length-reverse}
use Rattle.std.proofs.lemmas.Iterator.Adapters.{YieldsList-from_rev_slice}
use Rattle.std.proofs.lemmas.Iterator.Consumers.{YieldsList-turn}
use Rattle.scheduler.proofs.Spent.{passed, counted, spent}
use Rattle.scheduler.proofs.policing.Roster.first_spent_start.Given as given
use Rattle.scheduler.proofs.policing.Roster.first_spent_start.Goals as goal
use Rattle.scheduler.proofs.policing.Roster.first_spent_start.Goals.{After-is_due_by}

-- the job is the next one where they are read backwards
is_next : (g : given.Over) (c : goal.After-is_due_by g) → (length c.loop-job.yielded < length (reverse c.args.self.now.jobs.now)) × (c.in-Some.job.now ≡ get_or (reverse c.args.self.now.jobs.now) (length c.loop-job.yielded) c.in-Some.job.now)
is_next g c = YieldsList-turn (YieldsList-from_rev_slice c.args.self.now.jobs.now cc) c.loop-job.yielded _ c.loop-job.yielded_by _ _ c.in-Some.job c.in-Some.is c.next.ensures.steps

pub loop-job-preserved-then-bound-units : goal.loop-job-preserved-then-bound-units
loop-job-preserved-then-bound-units g c =
    let turn = is_next g (goal.at.loop-job-preserved-then-bound-units g c).After-is_due_by in
    let now = spent (g.B.Binder.bound c.args.binder.now) _ _ _ _ c.in-Some.job _ turn _ _ c.loop-job.invariant.4 (sym c.is_due_by.ensures ∙ c.if-is_due_by.true) c.args.self.now.ascending (omega (arith, c.bound.ensures, c.from-units.ensures, c.if-bound-units.true)) in
    (tt, tt, omega (arith, length_push c.loop-job.yielded c.in-Some.job, turn.0, length-reverse c.args.self.now.jobs.now), omega (arith, length_push c.loop-job.yielded c.in-Some.job, c.loop-job.invariant.3), (omega (arith, now.0, c.from-units.ensures), now.1))

pub loop-job-preserved-else-bound-units : goal.loop-job-preserved-else-bound-units
loop-job-preserved-else-bound-units g c =
    let turn = is_next g (goal.at.loop-job-preserved-else-bound-units g c).After-is_due_by in
    let now = counted (g.B.Binder.bound c.args.binder.now) _ _ _ _ c.in-Some.job _ turn _ _ c.loop-job.invariant.4 (sym c.is_due_by.ensures ∙ c.if-is_due_by.true) (omega (arith, c.bound.ensures, c.from-units.ensures, c.if-bound-units.false)) in
    (tt, tt, omega (arith, length_push c.loop-job.yielded c.in-Some.job, turn.0, length-reverse c.args.self.now.jobs.now), omega (arith, length_push c.loop-job.yielded c.in-Some.job, c.loop-job.invariant.3), (omega (arith, now.0, c.from-units.ensures), now.1))

pub loop-job-preserved : goal.loop-job-preserved
loop-job-preserved g c =
    let turn = is_next g (goal.at.loop-job-preserved g c).After-is_due_by in
    let now = passed (g.B.Binder.bound c.args.binder.now) _ _ _ _ c.in-Some.job _ turn _ _ c.loop-job.invariant.4 (sym c.is_due_by.ensures ∙ c.if-is_due_by.false) in
    (tt, tt, omega (arith, length_push c.loop-job.yielded c.in-Some.job, turn.0, length-reverse c.args.self.now.jobs.now), omega (arith, length_push c.loop-job.yielded c.in-Some.job, c.loop-job.invariant.3), now)
