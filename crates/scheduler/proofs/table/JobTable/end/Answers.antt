use Rattle.std.proofs.Common.{◌≡◌, take, set, sym, ap, ◌∙◌, get_or-take}
use lib.Seq.{take-set-lt}
use Rattle.scheduler.specs.Table.{at, empty_entry}
use Rattle.scheduler.specs.Steps.{ended}
use Rattle.scheduler.proofs.table.JobTable.end.Goals as goal

pub returns-clause-after : goal.returns-clause-after
returns-clause-after c =
    let t = c.args.self.now in
    let n = c.args.n in
    let here : at (take t.count t.jobs) n ≡ at t.jobs n = get_or-take t.count t.jobs n empty_entry c.requires in
    take-set-lt t.count t.jobs n c.end_job.new.job c.requires
    ∙ ap (set (take t.count t.jobs) n) (c.end_job.ensures.after ∙ ap (ended c.args.ending) (sym here))
