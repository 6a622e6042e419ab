use Rattle.scheduler.specs.Rules.{plan_of}
use Rattle.scheduler.proofs.Answering.{an_answer}
use Rattle.scheduler.proofs.Certificate.{certified, answers_once}
use Rattle.scheduler.proofs.Jobwise.{free_at_jobs, at_jobs_free}
use Rattle.scheduler.proofs.certifies.Goals as goal

pub returns-clause-certified : goal.returns-clause-certified
returns-clause-certified g c =
    let b = c.args.binder.now in certified (plan_of g.B.Binder b) (g.met.B.Binder.climbs b) (g.met.B.Binder.repeats b)

pub returns-clause-an_answer : goal.returns-clause-an_answer
returns-clause-an_answer g c = let b = c.args.binder.now in an_answer (plan_of g.B.Binder b) (g.met.B.Binder.climbs b)

pub returns-clause-one_answer : goal.returns-clause-one_answer
returns-clause-one_answer g c = answers_once (plan_of g.B.Binder c.args.binder.now)

pub returns-clause-decided_at_jobs : goal.returns-clause-decided_at_jobs
returns-clause-decided_at_jobs g c =
    let b = c.args.binder.now in
    let bound = g.B.Binder.bound b in
    λ h n l. (free_at_jobs bound h n (g.met.B.Binder.climbs b) l, at_jobs_free bound h n)
