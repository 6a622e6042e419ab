use Rattle.std.proofs.Common.{◌+◌, ◌∙◌, arith}
use Rattle.std.proofs.lemmas.List.{length-set}
use Rattle.binder_file.proofs.Format.{fields_stored}
use Rattle.binder_file.proofs.record.Record.fields.Goals as goal

pub loop-i-preserved : goal.loop-i-preserved
loop-i-preserved c = record {
  read = fields_stored c.args.self.now.file.now c.as_chunks.result.0.now (c.place-place.result + 4) _ c.loop-i.i c.as_chunks.ensures.front (omega (arith, c.as_chunks.ensures.front_len)) c.loop-i.words c.from_le_bytes.result (omega (arith, c.loop-i.invariant.room)) c.loop-i.invariant.read c.from_le_bytes.ensures;
  room = length-set c.loop-i.words c.loop-i.i _ ∙ c.loop-i.invariant.room;
}
