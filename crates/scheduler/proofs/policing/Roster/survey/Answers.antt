use Rattle.std.proofs.Common.{ℕ, ◌+◌, ◌≤◌, Option, sym, ◌∙◌, subst, arith}
use Rattle.std.proofs.lemmas.Bool.{both_ways}
use Rattle.scheduler.specs.History.{Counts}
use Rattle.scheduler.specs.Table.{at, job_in, OpenIn, ReadyIn, HeldIn}
use Rattle.scheduler.specs.Order.{FirstOf}
use Rattle.scheduler.specs.Policing.{HeldBy}
use Rattle.scheduler.proofs.Chosen.{Below, first_kept, first_found, counts_here, counts_past}
use Rattle.scheduler.proofs.Policed.{Windows, is_free, not_free}
use Rattle.scheduler.proofs.policing.Roster.survey.Goals as goal
use Rattle.scheduler.proofs.policing.Roster.survey.Goals.{then-is_open+then-is_held, then-is_open+else-is_held, else-is_open}

pub loop-n-preserved : goal.loop-n-preserved
loop-n-preserved g c =
    let js = c.args.self.now.jobs.now in
    let bound = g.B.Binder.bound c.args.binder.now in
    let climbs = g.met.B.Binder.climbs c.args.binder.now in
    let n = c.loop-n.n in
    let old = c.loop-n.invariant in
    let ws = c.spent_windows-windows.result.items in
    let found : Windows bound climbs js c.args.self.now.ascending ws = (c.spent_windows-windows.ensures.one_each, c.spent_windows-windows.ensures.first_spent) in
    let Again : Option ℕ → ℕ → Type 0 = λ first held. (held ≤ n + 1) × FirstOf (job_in js) (Below (ReadyIn bound js) (n + 1)) first × Counts (HeldIn bound js) (n + 1) held in
    elim c.if-is_open.branch [
      | then-is_open+then-is_held w ↦
          let o : OpenIn js n = (c.loop-n-test.true, sym c.is_open.ensures ∙ w.if-is_open.true) in
          let never = not_free bound climbs js c.args.self.now.ascending ws found n (subst (λ l. HeldBy l (at js n)) w.as_slice.ensures.value (w.is_held.ensures.0 w.if-is_held.true)) in
          subst (λ x. Again x c.if-is_open.held) (sym w.first-is)
          (subst (Again c.loop-n.first) (sym w.held-is)
          (omega (arith, old.0), first_kept (job_in js) (ReadyIn bound js) n (λ r. never r.1) c.loop-n.first old.1, counts_here (HeldIn bound js) n c.loop-n.held old.2 (o, never)))
      | then-is_open+else-is_held w ↦
          let o : OpenIn js n = (c.loop-n-test.true, sym c.is_open.ensures ∙ w.if-is_open.true) in
          let free = is_free bound climbs js c.args.self.now.ascending ws found n o (λ b. both_ways _ w.if-is_held.false (w.is_held.ensures.1 (subst (λ l. HeldBy l (at js n)) (sym w.as_slice.ensures.value) b))) in
          subst (λ x. Again x c.if-is_open.held) (sym (w.first-is ∙ w.first_of_two-first.ensures))
          (subst (Again _) (sym w.held-is)
          (omega (arith, old.0), first_found js (ReadyIn bound js) n (o, free) c.loop-n.first old.1, counts_past (HeldIn bound js) n c.loop-n.held old.2 (λ h. h.1 free)))
      | else-is_open w ↦
          let closed : OpenIn js n → ⊥ = λ o. both_ways _ (sym c.is_open.ensures ∙ w.if-is_open.false) o.1 in
          subst (λ x. Again x c.if-is_open.held) (sym w.first-is)
          (subst (Again c.loop-n.first) (sym w.held-is)
          (omega (arith, old.0), first_kept (job_in js) (ReadyIn bound js) n (λ r. closed r.0) c.loop-n.first old.1, counts_past (HeldIn bound js) n c.loop-n.held old.2 (λ h. closed h.0)))
    ]
