use Rattle.std.proofs.Common.{arith, ◌∙◌}
use Rattle.sheets.proofs.Powers.{one_digit-power}
use Rattle.sheets.proofs.fields.is_power.Goals as goal

pub returns-then-x-le4096 : goal.returns-then-x-le4096
returns-then-x-le4096 c = c.is_power_of_two.ensures ∙ one_digit-power 12 c.args.x (omega arith)
