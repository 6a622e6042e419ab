use Rattle.std.proofs.Common.{◌≡◌, map, reverse, take, vec_items}
use Rattle.scheduler.specs.Rules.{call_of}
use Rattle.scheduler.specs.Records.{Records}
use Rattle.scheduler.proofs.running.run.Given as goal

abbrev pub invariant-loop-call : goal.invariant-loop-call
invariant-loop-call g l =
    (l.scheduler.binder ≡ l.initial.scheduler.binder)
    × Records g.B.Binder l.scheduler (reverse (vec_items l.events))
    × (map call_of (vec_items l.events) ≡ take l.call-index l.calls)
