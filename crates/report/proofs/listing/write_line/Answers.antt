use Rattle.std.proofs.Common.{◌≡◌, ◌++◌, codes, string_bytes, rules}
use Rattle.sheets.specs.Lines.{line_gain}
use Rattle.sheets.specs.Texts.{Appends}
use Rattle.report.specs.Text.{sheet_head, line_line}
use Rattle.report.proofs.Texts.{second_part}
use Rattle.report.proofs.listing.write_line.Goals as goal

pub returns : goal.returns
returns c =
    let head = sheet_head c.args.index (codes "line") (line_gain c.args.sheet.now.line) in
    let first : string_bytes c.writeln.new.self ≡ string_bytes c.args.text.now ++ head = search rules in
    let second : Appends c.writeln.new.self c.writeln-2.new.self c.writeln-2.result (line_line c.args.sheet.now.line) = search rules in
    second_part c.writeln-2.result (string_bytes c.args.text.now) (string_bytes c.writeln.new.self) (string_bytes c.writeln-2.new.self) head (line_line c.args.sheet.now.line) first second
