use Rattle.std.proofs.Common.{refl, arith, ltb-false, ltb-true}
use Rattle.sheets.proofs.Records.{line_read}
use Rattle.line_sheet.proofs.reading.LineSheetSheetKind.from_fields.Goals as goal

pub returns : goal.returns
returns c = line_read (λ s. s.line) _ c.args.fields.now c.args.start c.sheet_of_line.result c.sheet_of_line.ensures refl (omega (arith, ltb-true, ltb-false))
