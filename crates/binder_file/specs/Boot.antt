use Rattle.std.specs.Prelude.{ℕ, ◌+◌, ◌*◌, List, length, Ok, Err, Result}
use Rattle.sheets.specs.declared.fault.FileFault.{FileFault}
use Rattle.sheets.specs.Faults.{fault_numbers}
use Rattle.sheets.specs.Sheets.{Declaration, component_bound, component_gain}
use Rattle.demand.specs.Admission.{admission}
use Rattle.demand.specs.Verdicts.{verdict_numbers}

-- the test's verdict on these sheets
abbrev pub verdict_on : List Declaration → ℕ × ℕ
verdict_on ds = verdict_numbers (admission (length ds) (component_bound ds) (component_gain ds))

-- a refusal's number with its place or its length; (0, 0) for admitted
abbrev pub boot_parts : Result (List Declaration) FileFault → ℕ × ℕ
boot_parts (Ok ds) = verdict_on ds
boot_parts (Err f) = ((fault_numbers f).0, (fault_numbers f).2)

-- the two in one number
abbrev pub boot_number : ℕ × ℕ → ℕ
boot_number parts = parts.0 * 65536 + parts.1
