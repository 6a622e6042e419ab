use Rattle.std.proofs.Common.{◌≡◌, length, map, take}
use Rattle.row_sheet.specs.RowSheets.{row_of}
use Rattle.row_sheet.proofs.reading.rows_of.Given as goal

abbrev pub invariant-loop-i : goal.invariant-loop-i
invariant-loop-i l = record { read : take l.i l.held ≡ map row_of (take l.i l.fields); room : length l.held ≡ 8 }
