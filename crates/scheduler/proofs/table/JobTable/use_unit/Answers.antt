use Rattle.std.proofs.Common.{◌≡◌, ◌+◌, take, set, sym, ap, ◌∙◌, get_or-take}
use lib.Seq.{take-set-lt}
use Rattle.scheduler.specs.declared.job.Job.{Job as Entry}
use Rattle.scheduler.specs.Table.{at, empty_entry}
use Rattle.scheduler.specs.Steps.{with_used}
use Rattle.scheduler.proofs.table.JobTable.use_unit.Goals as goal

pub returns : goal.returns
returns c =
    let t = c.args.self.now in
    let n = c.args.n in
    let here : at (take t.count t.jobs) n ≡ at t.jobs n = get_or-take t.count t.jobs n empty_entry c.requires.0 in
    take-set-lt t.count t.jobs n (with_used (at t.jobs n) ((at t.jobs n).used + 1)) c.requires.0
    ∙ ap (λ (j : Entry). set (take t.count t.jobs) n (with_used j (j.used + 1))) (sym here)
