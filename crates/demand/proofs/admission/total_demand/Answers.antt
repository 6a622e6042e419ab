use Rattle.std.proofs.Common.{ℕ, rules, arith}
use Rattle.std.proofs.lemmas.Iterator.{YieldsList-from_map, YieldsList-from_range}
use Rattle.demand.proofs.Totals.{chain-sum, chain-fits}
use Rattle.demand.proofs.admission.total_demand.Goals as goal

pub sum-requires-clause-fits : goal.sum-requires-clause-fits
sum-requires-clause-fits g c =
    let b = c.args.binder.now in
    let n = g.B.Binder.count b in
    let f : ℕ → ℕ = λ k. g.B.Binder.bound b k c.args.length in
    chain-fits n f (YieldsList-from_map _ f (YieldsList-from_range 0 n n (search rules) (omega arith)) c.map.ensures.closure (λ x r q k. search rules)) (g.met.B.Binder.few b) (λ k. g.met.B.Binder.fits b k c.args.length (omega arith))

pub returns : goal.returns
returns g c =
    let b = c.args.binder.now in
    let n = g.B.Binder.count b in
    let f : ℕ → ℕ = λ k. g.B.Binder.bound b k c.args.length in
    chain-sum n f (YieldsList-from_map _ f (YieldsList-from_range 0 n n (search rules) (omega arith)) c.map.ensures.closure (λ x r q k. search rules)) _ c.sum.ensures.ran
