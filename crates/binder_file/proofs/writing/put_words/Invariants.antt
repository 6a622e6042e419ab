use Rattle.std.proofs.Common.{◌≡◌, take}
use Rattle.std.specs.List.{flat_map}
use Rattle.sheets.specs.Over.{over}
use Rattle.binder_file.specs.Format.{word_bytes}
use Rattle.binder_file.proofs.writing.put_words.Given as goal

abbrev pub invariant-loop-i : goal.invariant-loop-i
invariant-loop-i l = l.bytes ≡ over (flat_map word_bytes (take l.i l.words)) l.initial.bytes
