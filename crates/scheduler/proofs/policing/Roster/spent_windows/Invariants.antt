use Rattle.std.proofs.Common.{◌≡◌, ℕ, ◌<◌, length, get_or, None}
use Rattle.scheduler.specs.Table.{at}
use Rattle.scheduler.specs.Policing.{FirstSpent}
use Rattle.scheduler.proofs.policing.Roster.spent_windows.Given as goal

abbrev pub invariant-loop-last : goal.invariant-loop-last
invariant-loop-last g l =
    let js = l.self.jobs.now in
    (length l.windows.items ≡ l.last-index) × ((b : ℕ) → b < l.last-index → FirstSpent (g.B.Binder.bound l.binder) js (at js b) (get_or l.windows.items b None))
