use Rattle.std.proofs.Common.{◌≡◌, ◌-◌, ◌*◌, ◌≤◌, length}
use Rattle.sheet_binder.specs.Declarations.{declarations}
use Rattle.binder_file.proofs.Format.{ReadSoFar}
use Rattle.binder_file.proofs.reading.read_sheets.Given as goal

abbrev pub invariant-loop-start : goal.invariant-loop-start
invariant-loop-start l = record {
  read : ReadSoFar l.bytes l.start (declarations l.binder);
  count : length (declarations l.binder) ≡ l.start.index;
  few : l.start.index ≤ 8;
  near : l.start.place ≤ 65537 * l.start.index;
}

abbrev pub decreases-loop-start : goal.decreases-loop-start
decreases-loop-start l = length l.bytes - l.start.place
