use Rattle.std.proofs.Common.{sym, arith}
use Rattle.sheet_binder.specs.Sheets.{length_declared}
use Rattle.sheet_binder.proofs.binder.asking.SheetBinderBinder.count.Goals as goal

pub returns : goal.returns
returns c = sym (length_declared c.args.self.now.sheets c.args.self.now.len (omega arith))
