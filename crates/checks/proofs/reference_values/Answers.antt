use Rattle.std.proofs.Common.{refl}
use Rattle.checks.proofs.Computed.{reference_values_agree}
use Rattle.checks.proofs.reference_values.Goals as goal

pub returns : goal.returns
returns c = record { agree = reference_values_agree; count = refl }
