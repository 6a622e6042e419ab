use Rattle.std.proofs.Common.{◌≤◌}
use Rattle.scheduler.specs.History.{Counts}
use Rattle.scheduler.specs.Order.{FirstOf}
use Rattle.scheduler.specs.Table.{job_in, ReadyIn, HeldIn}
use Rattle.scheduler.proofs.Chosen.{Below}
use Rattle.scheduler.proofs.policing.Roster.survey.Given as goal

abbrev pub invariant-loop-n : goal.invariant-loop-n
invariant-loop-n g l =
    let js = l.self.jobs.now in
    (l.held ≤ l.n)
    × FirstOf (job_in js) (Below (ReadyIn (g.B.Binder.bound l.binder) js) l.n) l.first
    × Counts (HeldIn (g.B.Binder.bound l.binder) js) l.n l.held
