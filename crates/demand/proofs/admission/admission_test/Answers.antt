use Rattle.std.proofs.Common.{Result, sym, ap, ◌∙◌}
use Rattle.demand.specs.declared.verdict.TestRefusal.{TestRefusal}
use Rattle.demand.proofs.Admitted.{admitted_fits, fits_admitted, admitted_numbers}
use Rattle.demand.specs.Verdicts.{verdict_numbers}
use Rattle.demand.proofs.admission.admission_test.Goals as goal

pub returns : goal.returns
returns g c =
    let b = c.args.binder.now in
    let e = c.verdict_numbers.ensures ∙ ap (λ (r : Result (Unit {0}) TestRefusal). verdict_numbers r) c.admit.ensures in
    record {
      verdict = e;
      admitted_exactly_when_demand_fits = (
        (λ z. admitted_fits (g.B.Binder.count b) (g.B.Binder.bound b) (g.B.Binder.gain b) (g.met.B.Binder.repeats b) (admitted_numbers _ (sym e ∙ z))),
        (λ f. e ∙ ap (λ (r : Result (Unit {0}) TestRefusal). verdict_numbers r) (fits_admitted (g.B.Binder.count b) (g.B.Binder.bound b) (g.B.Binder.gain b) (g.met.B.Binder.repeats b) f)),
      );
    }
