use Rattle.std.proofs.Common.{rules, ◌≡◌, ℕ, ◌-◌, Some, sym, ◌∙◌, arith}
use Rattle.std.proofs.lemmas.Iterator.{YieldsList-from_map, YieldsList-from_range}
use Rattle.demand.specs.Admission.{slack, Tightest}
use Rattle.demand.proofs.Least.{at, Least, least_of, picked}
use Rattle.demand.proofs.admission.tightest.Goals as goal

pub returns : goal.returns
returns g c =
    let b = c.args.binder.now in
    let free : ℕ → ℕ = λ l. slack (g.B.Binder.count b) (g.B.Binder.bound b) l in
    let least : Least free c.unwrap.result 8193 = least_of free 8192 c.unwrap.result (sym c.unwrap.ensures ∙ picked _ (λ f x k f' h. search (rules, h.called, h.shows)) c.map.result _ _ c.min_by_key.result c.min_by_key.ensures.ran (YieldsList-from_map _ (at free) (YieldsList-from_range 1 8193 8192 (search rules) (omega arith)) c.map.ensures.closure (λ x r q k. search rules))) in
    record { low = least.low; high = omega (arith, least.high); here = least.here; least = λ l i j. least.least l i (omega arith); shortest = least.shortest }
