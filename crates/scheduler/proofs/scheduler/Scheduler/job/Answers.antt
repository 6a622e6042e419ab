use Rattle.std.proofs.Common.{◌≡◌, ℕ, ◌<◌, ◌≤◌, ltb, List, length, IfSome, Some, None, sym, ap, subst, ⊎_elim, arith, rules}
use Rattle.std.proofs.lemmas.Bool.{cases_lt, cond-true, cond-false, lt-ltb, le-ltb}
use Rattle.scheduler.specs.declared.job.Job.{Job as Entry}
use Rattle.scheduler.specs.Records.{jobs_of}
use Rattle.scheduler.specs.Rules.{plan_of}
use Rattle.scheduler.specs.Table.{at, job_record}
use Rattle.scheduler.proofs.Certificate.{component_known}
use Rattle.scheduler.proofs.scheduler.Scheduler.job.Goals as goal

-- what each job has, the record of job n has
record_has : (P : Entry → Type 0) (js : List Entry) (n : ℕ) → (n < length js → P (at js n)) → IfSome (job_record js n) P
record_has P js n has =
    ⊎_elim (λ (l : n < length js). subst (λ o. IfSome o P) (sym (cond-true (ltb n (length js)) (Some (at js n)) None (lt-ltb n (length js) l))) (has l))
    (λ (g : length js ≤ n). subst (λ o. IfSome o P) (sym (cond-false (ltb n (length js)) (Some (at js n)) None (le-ltb n (length js) g))) tt)
    (cases_lt n (length js))

pub returns-clause-known_component : goal.returns-clause-known_component
returns-clause-known_component g c =
    let s = c.args.self.now in
    let js = jobs_of s in
    let p = plan_of g.B.Binder s.binder in
    let value : c.copied.result ≡ job_record js c.args.n = search rules in
    λ h r.
    subst (λ o. IfSome o (λ (j : Entry). j.component < p.parts)) (sym value)
    (record_has (λ j. j.component < p.parts) js c.args.n
    (λ l.
    let k = component_known p (g.met.B.Binder.climbs s.binder) (g.met.B.Binder.repeats s.binder) h r.follows c.args.n (omega (arith, l, r.counted)) in
    omega (arith, k, ap (λ (j : Entry). j.component) (r.each c.args.n (omega (arith, l, r.counted))))))
