use Rattle.std.proofs.Common.{reverse, vec_items, sym, ◌∙◌, subst}
use Rattle.std.proofs.lemmas.List.{take_all}
use Rattle.scheduler.specs.Rules.{plan_of, Follows}
use Rattle.scheduler.proofs.Certificate.{certified, no_other_answers}
use Rattle.scheduler.proofs.Needed.{needs_met}
use Rattle.scheduler.proofs.running.run.Goals as goal

pub returns : goal.returns
returns g c =
    let events = vec_items c.loop-call.events in
    let made_of = c.loop-call.invariant.0 ∙ c.new-scheduler.ensures.same_binder in
    let x = c.args.binder in
    let p = plan_of g.B.Binder x in
    let climbs = g.met.B.Binder.climbs x in
    let repeats = g.met.B.Binder.repeats x in
    let answered = c.loop-call.invariant.2 ∙ take_all c.loop-call.call-index c.args.calls.now c.loop-call-test.false in
    let follows : Follows p (reverse events) = subst (λ b. Follows (plan_of g.B.Binder b) (reverse events)) made_of c.loop-call.invariant.1.follows in
    record {
      each_call_answered = answered;
      by_the_rules = follows;
      no_other_answers = λ h same f. no_other_answers p h events (same ∙ sym answered) f follows;
      certified = certified p climbs repeats (reverse events) follows;
      needs_met = needs_met p.bound (reverse events) (certified p climbs repeats (reverse events) follows);
    }
