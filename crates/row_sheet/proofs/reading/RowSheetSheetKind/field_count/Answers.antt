use Rattle.std.proofs.Common.{List, length, ap, arith}
use Rattle.sheets.specs.declared.row.Row.{Row}
use Rattle.row_sheet.specs.RowSheets.{sheet_rows}
use Rattle.sheets.proofs.Records.{length-row_fields}
use Rattle.row_sheet.proofs.reading.RowSheetSheetKind.field_count.Goals as goal

pub returns : goal.returns
returns c = omega (arith, length-row_fields (sheet_rows c.args.self.now), ap (λ (rs : List Row). length rs) c.rows.ensures.value)
