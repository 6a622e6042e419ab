use Rattle.std.proofs.Common.{◌∙◌}
use Rattle.sheets.specs.Sheets.{gain_of}
use Rattle.sheet_binder.specs.Declarations.{sheets_of}
use Rattle.sheet_binder.specs.Sheets.{value_shown, none_shown}
use Rattle.sheet_binder.proofs.binder.asking.SheetBinderBinder.gain.Goals as goal

pub returns-in-Some : goal.returns-in-Some
returns-in-Some c =
    let l = c.in-Some.ensures.lookup in
    c.gain_units.ensures ∙ value_shown (gain_of) c.sheets.result.now (sheets_of c.args.self.now) c.args.k c.in-Some.sheet.now c.sheets.ensures l.3.0 l.1

pub returns-in-None : goal.returns-in-None
returns-in-None c =
    none_shown (gain_of) c.sheets.result.now (sheets_of c.args.self.now) c.args.k c.sheets.ensures c.in-None.ensures.lookup.3
