use Rattle.std.specs.Prelude.{ℕ, List, take, slice_index}
use Rattle.sheets.specs.declared.row.Row.{Row}
use Rattle.row_sheet.specs.declared.sheet.RowSheet.{RowSheet}

-- the rows that a sheet has
abbrev pub sheet_rows : RowSheet → List Row
sheet_rows s = take s.len s.rows

-- the row of four fields in file order
abbrev pub row_of : List ℕ → Row
row_of fs = record { period = slice_index fs 0; deadline = slice_index fs 1; budget = slice_index fs 2; copies = slice_index fs 3 }
