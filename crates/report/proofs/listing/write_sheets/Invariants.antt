use Rattle.std.proofs.Common.{◌≡◌, ◌++◌, map, drop, string_bytes}
use Rattle.sheet_binder.specs.Declarations.{declared}
use Rattle.report.specs.Text.{sheets_text}
use Rattle.report.proofs.listing.write_sheets.Given as goal

abbrev pub invariant-loop-index : goal.invariant-loop-index
invariant-loop-index l =
    string_bytes l.initial.text ++ sheets_text 0 (map declared l.sheets)
    ≡ string_bytes l.text ++ sheets_text l.index (map declared (drop l.index l.sheets))
