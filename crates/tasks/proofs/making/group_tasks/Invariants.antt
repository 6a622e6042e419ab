use Rattle.std.proofs.Common.{◌≡◌, ◌-◌, map, length}
use Rattle.demand.specs.Admission.{first_where}
use Rattle.tasks.specs.Tasks.{rounded, crowded}
use Rattle.tasks.proofs.Tasked.{Filled}
use Rattle.tasks.proofs.making.group_tasks.Given as goal

abbrev pub invariant-loop-i : goal.invariant-loop-i
invariant-loop-i l =
    Filled (map rounded l.tasks) l.i l.rows.items
    × (first_where (crowded (map rounded l.tasks)) 0 (length l.tasks) ≡ first_where (crowded (map rounded l.tasks)) l.i (length l.tasks - l.i))
