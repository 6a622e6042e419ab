use Rattle.std.proofs.Common.{◌-◌, List, ℕ, length, drop, ap, arith}
use Rattle.std.proofs.lemmas.List.{length-drop, length-take}
use Rattle.binder_file.specs.Format.{record_words}
use Rattle.binder_file.proofs.Words.{length_words}
use Rattle.binder_file.proofs.writing.put_record.Goals as goal

pub put_words-requires-2 : goal.put_words-requires-2
put_words-requires-2 g c =
    let new = c.put_words.new.bytes in
    omega (arith, length_words (record_words (g.S.SheetKind.declares c.args.sheet.now)), ap (λ (l : List ℕ). length l) c.put_words.ensures, length-drop 4 c.args.bytes.now, length-drop 4 new, length-take (length new - 4) (drop 4 new), ap (λ (l : List ℕ). length l) c.fields-fields.ensures, ap (λ (l : List ℕ). length l) c.deref.ensures.0)
