use Rattle.std.proofs.Common.{◌≡◌, ℕ, ◌<◌, ◌≤◌}
use Rattle.scheduler.specs.History.{Counts}
use Rattle.scheduler.specs.Table.{at}
use Rattle.scheduler.specs.Steps.{cut_at, DueIn}
use Rattle.scheduler.proofs.ending.cut_all.Given as goal

abbrev pub invariant-loop-job : goal.invariant-loop-job
invariant-loop-job l =
    (l.cut ≤ l.job-index)
    × ((m : ℕ) → m < l.job-index → at l.jobs m ≡ cut_at l.clock (at l.initial.jobs m))
    × ((m : ℕ) → l.job-index ≤ m → at l.jobs m ≡ at l.initial.jobs m)
    × Counts (DueIn l.clock l.initial.jobs) l.job-index l.cut
