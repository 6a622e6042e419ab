use Rattle.std.proofs.Common.{not, sym, ap, ◌∙◌, arith}
use Rattle.tasks.specs.Tasks.{task_sound, no_task, refused_by}
use Rattle.tasks.specs.declared.task.MakeRefusal.TheVariants.{TaskOutOfRange}
use Rattle.tasks.proofs.Tasked.{tasks_sized, first_where-position}
use Rattle.tasks.proofs.making.judge_tasks.Goals as goal

pub returns-in-Some : goal.returns-in-Some
returns-in-Some c =
    let ts = c.args.tasks.now in
    ap (refused_by TaskOutOfRange) (sym c.in-Some.is ∙ c.first_out_of_range.ensures ∙ first_where-position (λ t. not (task_sound t)) ts no_task)
    ∙ sym (tasks_sized ts (sym c.if-is_empty.ensures) (omega arith))

pub returns-in-None : goal.returns-in-None
returns-in-None c =
    let ts = c.args.tasks.now in
    ap (refused_by TaskOutOfRange) (sym c.in-None.is ∙ c.first_out_of_range.ensures ∙ first_where-position (λ t. not (task_sound t)) ts no_task)
    ∙ sym (tasks_sized ts (sym c.if-is_empty.ensures) (omega arith))
