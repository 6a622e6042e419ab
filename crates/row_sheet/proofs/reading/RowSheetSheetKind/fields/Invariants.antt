use Rattle.std.proofs.Common.{◌≡◌, ◌*◌, length, take}
use Rattle.std.specs.List.{flat_map}
use Rattle.sheets.specs.Kinds.{row_fields_of}
use Rattle.row_sheet.specs.RowSheets.{sheet_rows}
use Rattle.row_sheet.proofs.reading.RowSheetSheetKind.fields.Given as goal

abbrev pub invariant-loop-row : goal.invariant-loop-row
invariant-loop-row l =
    (l.fields.items ≡ flat_map row_fields_of (take l.row-index (sheet_rows l.self)))
    × (length l.fields.items ≡ 4 * l.row-index)
