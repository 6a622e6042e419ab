use Rattle.std.proofs.Common.{ℕ, ◌+◌, ◌-◌, List, map, length, take, drop, sym, ap, ◌∙◌, arith}
use Rattle.std.proofs.lemmas.List.{length-append, length-drop, length-take}
use Rattle.sheet_binder.specs.Declarations.{declared}
use Rattle.sheets.specs.Over.{over}
use Rattle.sheets.proofs.Overwriting.{over_behind}
use Rattle.binder_file.specs.Format.{record_bytes}
use Rattle.binder_file.specs.Writing.{encode}
use Rattle.binder_file.proofs.Encoding.{encode_more, encode_front}
use Rattle.binder_file.proofs.writing.put_sheets.Goals as goal

pub put_sheet-requires : goal.put_sheet-requires
put_sheet-requires c =
    let ss = c.args.sheets.now in
    let s = c.sheet-item.result in
    let done = encode (map declared (take c.loop-sheet.sheet-index ss)) in
    let more = encode_more ss c.loop-sheet.sheet-index s (omega arith) c.sheet-item.is in
    let bytes = c.loop-sheet.bytes in
    let at = c.loop-sheet.at in
    omega (arith, c.requires, ap (λ (l : List ℕ). length l) more, length-append done (record_bytes (declared s)), encode_front ss (c.loop-sheet.sheet-index + 1), c.loop-sheet.invariant.place, c.loop-sheet.auto.bytes, length-drop at bytes, length-take (length bytes - at) (drop at bytes))

pub loop-sheet-preserved : goal.loop-sheet-preserved
loop-sheet-preserved c =
    let ss = c.args.sheets.now in
    let s = c.sheet-item.result in
    let done = encode (map declared (take c.loop-sheet.sheet-index ss)) in
    let more = encode_more ss c.loop-sheet.sheet-index s (omega arith) c.sheet-item.is in
    record {
      place = omega (arith, ap (λ (l : List ℕ). length l) more, length-append done (record_bytes (declared s)), c.loop-sheet.invariant.place, c.size_of_sheet-at.ensures.size);
      written = over_behind done (record_bytes (declared s)) c.args.bytes.now c.loop-sheet.bytes c.put_sheet.new.bytes c.loop-sheet.at c.loop-sheet.invariant.written c.loop-sheet.invariant.place c.put_sheet.ensures
          ∙ ap (λ (l : List ℕ). over l c.args.bytes.now) (sym more);
    }
