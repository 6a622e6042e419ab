use Rattle.std.proofs.Common.{ℕ, ◌≡◌, ◌-◌, ◌⊎◌, inl, inr, Ok, Err, arith, length, subst, rules}
use Rattle.demand.specs.declared.verdict.TestRefusal.TheVariants.{DemandExceeds, GainsExceed, SheetCount}
use Rattle.demand.specs.Admission.{demand}
use Rattle.sheets.specs.Sheets.{component_bound}
use Rattle.sheet_binder.specs.Declarations.{declarations}
use Rattle.sheets.specs.Texts.{Appends}
use Rattle.report.specs.Text.{excess_line}
use Rattle.report.proofs.verdicts.write_slack.Goals as goal

pub returns-in-Err-DemandExceeds : goal.returns-in-Err-DemandExceeds
returns-in-Err-DemandExceeds c =
    let ds = declarations c.args.binder.now in
    let x = c.in-Err-DemandExceeds.at in
    let is : c.args.verdict ≡ Err (DemandExceeds x) = search rules in
    let by : c.saturating_sub-excess.result ≡ demand (length ds) (component_bound ds) x - x = omega (arith, c.saturating_sub-excess.ensures, c.total_demand.ensures, c.from.ensures) in
    let written : Appends c.args.text.now c.writeln.new.self c.writeln.result (excess_line x c.saturating_sub-excess.result) = search rules in
    rw is (subst (λ (n : ℕ). Appends c.args.text.now c.writeln.new.self c.writeln.result (excess_line x n)) by written)

pub returns-in-Err-GainsExceed : goal.returns-in-Err-GainsExceed
returns-in-Err-GainsExceed c =
    let is : c.args.verdict ≡ Err GainsExceed = search rules in
    rw is (search rules)

pub returns-in-Ok : goal.returns-in-Ok
returns-in-Ok c =
    let is : (c.args.verdict ≡ Ok tt) ⊎ (c.args.verdict ≡ Err SheetCount) = search rules in
    elim is [
      | inl e ↦ rw e (search rules)
      | inr e ↦ rw e (search rules)
    ]
