use Rattle.std.specs.Prelude.{List, map, take}
use Rattle.sheets.specs.Sheets.{Declaration, rows, line}
use Rattle.row_sheet.specs.RowSheets.{sheet_rows}
use Rattle.sheet_binder.specs.declared.sheet.Sheet.{Sheet}
use Rattle.sheet_binder.specs.declared.sheet.Sheet.TheVariants.{Rows, Line}
use Rattle.sheet_binder.specs.declared.binder.SheetBinder.{SheetBinder}

-- what a sheet declares
abbrev pub declared : Sheet → Declaration
declared (Rows s) = rows (sheet_rows s)
declared (Line s) = line s.line

-- the sheets that a binder has, and what they declare
abbrev pub sheets_of : SheetBinder → List Sheet
sheets_of b = take b.len b.sheets

abbrev pub declarations : SheetBinder → List Declaration
declarations b = map declared (sheets_of b)
