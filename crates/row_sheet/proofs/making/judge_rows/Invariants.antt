use Rattle.std.proofs.Common.{◌≡◌, ◌+◌, ◌*◌, drop, None}
use Rattle.sheets.specs.Rows.{rows_from}
use Rattle.row_sheet.proofs.making.judge_rows.Given as goal

abbrev pub invariant-loop-i : goal.invariant-loop-i
invariant-loop-i l =
    rows_from None l.rows l.start 4 ≡ rows_from l.last (drop l.i l.rows) l.start (4 + 8 * l.i)
