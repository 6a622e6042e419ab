use Rattle.std.proofs.Common.{is_ok, Result, sym, ap}
use Rattle.sheets.specs.declared.fault.FileFault.{FileFault}
use Rattle.sheets.proofs.Rows.{sound_all, sound_anywhere}
use Rattle.row_sheet.proofs.making.sheet_of_rows.Goals as goal

pub holding-requires : goal.holding-requires
holding-requires c =
    let s = sound_anywhere c.args.rows.now c.args.start (ap (λ (z : Result (Unit {0}) FileFault). is_ok z) (sym c.in_ok-judge_rows.ensures)) in
    ((sound_all c.args.rows.now s).1, s)
