use Rattle.std.proofs.Common.{◌≡◌, min, ap, ◌∙◌, arith, rules}
use Rattle.tasks.specs.Tasks.{power_above}
use Rattle.tasks.proofs.Rounding.{power_above-next, power_above-capped}
use Rattle.tasks.proofs.making.round_up.Goals as goal

pub returns : goal.returns
returns c =
    let e : c.min.result ≡ min c.args.x 4096 = search rules in
    power_above-next 12 c.min.result _ (omega arith) c.next_power_of_two.ensures.power c.next_power_of_two.ensures.lower_bound c.next_power_of_two.ensures.upper_bound
    ∙ ap (power_above 12) e ∙ power_above-capped c.args.x
