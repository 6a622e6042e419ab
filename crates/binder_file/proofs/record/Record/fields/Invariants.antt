use Rattle.std.proofs.Common.{◌≡◌, length, take}
use Rattle.binder_file.specs.Format.{fields_at}
use Rattle.binder_file.proofs.record.Record.fields.Given as goal

abbrev pub invariant-loop-i : goal.invariant-loop-i
invariant-loop-i l = record { read : take l.i l.words ≡ fields_at l.self.file.now l.place l.i; room : length l.words ≡ 40 }
