use Rattle.std.proofs.Common.{ℕ, ◌≡◌, ◌++◌, List, codes, string_bytes, ap, ◌∙◌, arith}
use Rattle.std.specs.List.{flat_map}
use Rattle.std.proofs.lemmas.List.{take_all}
use Rattle.sheets.specs.declared.row.Row.{Row}
use Rattle.sheets.specs.Rows.{rows_gain}
use Rattle.row_sheet.specs.RowSheets.{sheet_rows}
use Rattle.report.specs.Text.{sheet_head, row_line}
use Rattle.report.proofs.Texts.{two_parts}
use Rattle.report.proofs.listing.write_rows.Goals as goal

pub returns : goal.returns
returns c =
    let rs = sheet_rows c.args.sheet.now in
    let head = sheet_head c.args.index (codes "rows") (rows_gain rs) in
    let first : string_bytes c.writeln.new.self ≡ string_bytes c.args.text.now ++ head = c.in_ok-writeln.ensures.bytes ∙ ap (λ (n : ℕ). string_bytes c.args.text.now ++ sheet_head c.args.index (codes "rows") n) c.gain_units-gain.ensures in
    let rest = ap (λ (l : List Row). flat_map row_line l) (take_all c.loop-row.row-index c.rows-row-items.result.now (omega arith) ∙ c.rows-row-items.ensures.value) in
    two_parts (string_bytes c.args.text.now) (string_bytes c.writeln.new.self) (string_bytes c.loop-row.text) head (flat_map row_line rs) first
    (c.loop-row.invariant ∙ ap (λ l. string_bytes c.writeln.new.self ++ l) rest)
