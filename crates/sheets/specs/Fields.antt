use Rattle.std.specs.Prelude.{ℕ, zero, suc, ◌^◌, Bool, cond, ◌||◌, Ok, Err, Result, ◌==◌}
use Rattle.sheets.specs.declared.fault.Location.{Location}
use Rattle.sheets.specs.declared.fault.FileFault.{FileFault}
use Rattle.sheets.specs.declared.fault.FileFault.TheVariants.{OutOfRange}

-- x is 2 ^ 0, 2 ^ 1, .. or 2 ^ e
abbrev pub power_up_to : ℕ → ℕ → Bool
power_up_to zero x = x == 1
power_up_to (suc e) x = x == 2 ^ suc e || power_up_to e x

-- x is a power of two from 1 to 4,096
abbrev pub power_of_two : ℕ → Bool
power_of_two x = power_up_to 12 x

-- a field that is refused unless it passes its test
abbrev pub field : Bool → Location → Result (Unit {0}) FileFault
field ok at = cond ok (Ok tt) (Err (OutOfRange at))
