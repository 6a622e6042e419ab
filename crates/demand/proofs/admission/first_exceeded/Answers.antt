use Rattle.std.proofs.Common.{ℕ, Bool, true, false, ◌≡◌, rules, nat_lt}
use Rattle.std.proofs.lemmas.Iterator.{first_from_Range}
use Rattle.demand.specs.Admission.{demand}
use Rattle.demand.proofs.Firsts.{first_where-found}
use Rattle.demand.proofs.admission.first_exceeded.Goals as goal

pub returns : goal.returns
returns g c =
    let b = c.args.binder.now in
    let test : ℕ → Bool = λ l. nat_lt l (demand (g.B.Binder.count b) (g.B.Binder.bound b) l) in
    first_where-found test 1 8192 _ (first_from_Range _ _ _ _ (λ l. test l ≡ true) (λ l. test l ≡ false) c.find.ensures.ran (λ x q k. search rules) (λ x q k. search rules))
