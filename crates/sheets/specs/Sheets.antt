use Rattle.std.specs.Prelude.{ℕ, zero, suc, List, [], ◌∷◌}
use Rattle.sheets.specs.declared.row.Row.{Row}
use Rattle.sheets.specs.declared.line.Line.{Line}
use Rattle.sheets.specs.Rows.{rows_bound, rows_gain}
use Rattle.sheets.specs.Lines.{line_bound, line_gain}

-- what a sheet declares
pub data Declaration : Type 0 where
  rows : List Row → Declaration
  line : Line → Declaration

-- the most units that a component with this sheet may demand in a window of l ticks
abbrev pub bound_of : Declaration → ℕ → ℕ
bound_of (rows rs) l = rows_bound rs l
bound_of (line x) l = line_bound x l

-- the units that 4,096 further ticks add to the bound
abbrev pub gain_of : Declaration → ℕ
gain_of (rows rs) = rows_gain rs
gain_of (line x) = line_gain x

-- what f says of component k of a list of sheets, 0 past its end
abbrev pub component_value : (Declaration → ℕ) → List Declaration → ℕ → ℕ
component_value f [] k = 0
component_value f (d ∷ ds) zero = f d
component_value f (d ∷ ds) (suc k) = component_value f ds k

abbrev pub component_bound : List Declaration → ℕ → ℕ → ℕ
component_bound ds k l = component_value (λ d. bound_of d l) ds k

abbrev pub component_gain : List Declaration → ℕ → ℕ
component_gain ds k = component_value gain_of ds k
