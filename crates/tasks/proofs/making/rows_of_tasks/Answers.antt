use Rattle.std.proofs.Common.{map, sym, ◌∙◌}
use Rattle.tasks.specs.Tasks.{rounded}
use Rattle.tasks.proofs.Grouping.{grouped_once}
use Rattle.tasks.proofs.making.rows_of_tasks.Goals as goal

pub returns-clause-no_other : goal.returns-clause-no_other
returns-clause-no_other c = λ rs h.
    grouped_once (map rounded c.args.tasks.now) rs c.in_ok-rows.rows.items h c.in_ok-rows.ensures.grouped ∙ sym (c.holding.ensures.rows ∙ c.as_slice.ensures.value)
