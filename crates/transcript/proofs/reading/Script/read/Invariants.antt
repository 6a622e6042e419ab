use Rattle.std.proofs.Common.{◌≡◌, ◌+◌, ◌++◌, vec_items, vec_len}
use Rattle.transcript.specs.Input.{lines, calls_in, unreadable_from}
use Rattle.transcript.proofs.reading.Script.read.Given as goal

abbrev pub invariant-loop-line : goal.invariant-loop-line
invariant-loop-line l = record {
  calls : calls_in (lines l.input) ≡ vec_items l.calls ++ calls_in (lines l.line-iterator.rest.now);
  unreadable : unreadable_from 1 (lines l.input) ≡ unreadable_from (vec_len l.calls + 1) (lines l.line-iterator.rest.now);
}
