use Rattle.std.proofs.Common.{◌≡◌, length, sym, ◌∙◌, arith}
use Rattle.std.proofs.lemmas.List.{ext_get_or, get_or-map, length-map}
use Rattle.scheduler.specs.Table.{empty_entry}
use Rattle.scheduler.specs.Steps.{cut_at}
use Rattle.scheduler.proofs.ending.cut_all.Goals as goal

pub returns-clause-after : goal.returns-clause-after
returns-clause-after c =
    let old = c.args.jobs.now in
    let now = c.args.clock in
    let len = c.loop-job.auto.jobs in
    let n : c.loop-job.job-index ≡ length old = omega (arith, c.loop-job.auto.job-index-end, c.loop-job-test.false) in
    ext_get_or empty_entry c.loop-job.jobs _ (len ∙ sym (length-map old (cut_at now)))
    (λ i l. c.loop-job.invariant.1 i (omega (arith, len, n)) ∙ sym (get_or-map (cut_at now) old i empty_entry empty_entry (omega (arith, len))))
