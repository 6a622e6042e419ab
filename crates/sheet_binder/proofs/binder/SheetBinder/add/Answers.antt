use Rattle.std.proofs.Common.{refl, arith}
use Rattle.sheet_binder.specs.Sheets.{length_declared, declared_more}
use Rattle.sheet_binder.proofs.binder.SheetBinder.add.Goals as goal

pub returns-then-at-ge8 : goal.returns-then-at-ge8
returns-then-at-ge8 c =
    let n = length_declared c.args.self.now.sheets c.args.self.now.len (omega arith) in
    record { added = λ h. absurd (omega (arith, n)); full = λ _. (refl, refl) }

pub returns : goal.returns
returns c =
    let n = length_declared c.args.self.now.sheets c.args.self.now.len (omega arith) in
    record { added = λ _. (refl, declared_more c.args.self.now.sheets c.args.self.now.len c.args.sheet (omega arith)); full = λ h. absurd (omega (arith, n)) }
