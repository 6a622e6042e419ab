use Rattle.std.proofs.Common.{◌-◌, ◌*◌, ◌^◌, ◌≤◌, length}
use Rattle.scheduler.proofs.Spent.{Searched}
use Rattle.scheduler.proofs.policing.Roster.first_spent_start.Given as goal

abbrev pub invariant-loop-job : goal.invariant-loop-job
invariant-loop-job g l =
    let js = l.self.jobs.now in
    (goal.iterator-loop-job g).can_next l.job-iterator
    × (goal.iterator-loop-job g).is_finite l.job-iterator
    × (length l.yielded ≤ length js)
    × (l.units ≤ length l.yielded * 2 ^ 32)
    × Searched (g.B.Binder.bound l.binder) js l.last.component l.last.due (length js - length l.yielded) l.units l.start
