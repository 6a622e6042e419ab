use Rattle.std.proofs.Common.{◌≡◌, ◌*◌, ◌≤◌, map, length, take}
use Rattle.sheet_binder.specs.Declarations.{declared}
use Rattle.binder_file.specs.Writing.{encode}
use Rattle.binder_file.proofs.writing.size_of_file.Given as goal

abbrev pub invariant-loop-sheet : goal.invariant-loop-sheet
invariant-loop-sheet l = record { counted : l.size ≡ length (encode (map declared (take l.sheet-index l.sheets))); few : l.size ≤ 84 * l.sheet-index }
