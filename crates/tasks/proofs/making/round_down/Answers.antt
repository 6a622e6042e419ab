use Rattle.std.proofs.Common.{rules}
use Rattle.tasks.proofs.Rounding.{rounds_down}
use Rattle.tasks.proofs.making.round_down.Goals as goal

pub returns : goal.returns
returns c = rounds_down c.checked_ilog2.result c.args.x c.min.result c.checked_ilog2.ensures.none c.checked_ilog2.ensures.power_le c.checked_ilog2.ensures.next_power_gt (search rules)
