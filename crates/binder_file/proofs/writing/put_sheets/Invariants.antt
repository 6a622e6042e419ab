use Rattle.std.proofs.Common.{◌≡◌, map, length, take}
use Rattle.sheets.specs.Over.{over}
use Rattle.sheet_binder.specs.Declarations.{declared}
use Rattle.binder_file.specs.Writing.{encode}
use Rattle.binder_file.proofs.writing.put_sheets.Given as goal

abbrev pub invariant-loop-sheet : goal.invariant-loop-sheet
invariant-loop-sheet l = record {
  place : l.at ≡ length (encode (map declared (take l.sheet-index l.sheets)));
  written : l.bytes ≡ over (encode (map declared (take l.sheet-index l.sheets))) l.initial.bytes;
}
