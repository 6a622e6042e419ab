use Rattle.std.proofs.Common.{ℕ, ◌+◌, rules, arith}
use Rattle.std.proofs.lemmas.Iterator.{YieldsList-from_map, YieldsList-from_range}
use Rattle.demand.proofs.Admitted.{gain_fits}
use Rattle.demand.proofs.Totals.{chain-sum, chain-fits}
use Rattle.demand.proofs.admission.total_gain.Goals as goal

pub sum-requires-clause-fits : goal.sum-requires-clause-fits
sum-requires-clause-fits g c =
    let b = c.args.binder.now in
    let n = g.B.Binder.count b in
    let f : ℕ → ℕ = g.B.Binder.gain b in
    chain-fits n f (YieldsList-from_map _ f (YieldsList-from_range 0 n n (search rules) (omega arith)) c.map.ensures.closure (λ x r q k. search rules)) (g.met.B.Binder.few b) (λ k. gain_fits (g.B.Binder.bound b k) (g.B.Binder.gain b k) (g.met.B.Binder.repeats b k 4096 (omega arith)) (g.met.B.Binder.fits b k (4096 + 4096) (omega arith)))

pub returns : goal.returns
returns g c =
    let b = c.args.binder.now in
    let n = g.B.Binder.count b in
    let f : ℕ → ℕ = g.B.Binder.gain b in
    chain-sum n f (YieldsList-from_map _ f (YieldsList-from_range 0 n n (search rules) (omega arith)) c.map.ensures.closure (λ x r q k. search rules)) _ c.sum.ensures.ran
