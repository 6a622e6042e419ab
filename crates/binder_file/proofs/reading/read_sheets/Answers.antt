use Rattle.std.proofs.Common.{◌+◌, List, length, Err, Result, sym, ap, ◌∙◌, arith}
use Rattle.std.proofs.lemmas.List.{length_push}
use Rattle.std.proofs.lemmas.Result.{err_from_is_err_and}
use Rattle.sheets.specs.declared.fault.FileFault.{FileFault}
use Rattle.sheets.specs.declared.fault.RecordStart.{RecordStart}
use Rattle.sheet_binder.specs.declared.binder.SheetBinder.{SheetBinder}
use Rattle.sheets.specs.Faults.{meaning}
use Rattle.sheets.specs.Sheets.{Declaration}
use Rattle.sheet_binder.specs.Declarations.{declared, declarations}
use Rattle.binder_file.proofs.Format.{fault_read, sheet_read}
use Rattle.binder_file.proofs.reading.read_sheets.Goals as goal

pub returns-in_err-record : goal.returns-in_err-record
returns-in_err-record c =
    let p = err_from_is_err_and c.from_residual.result c.from_residual.ensures.1 in
    ap (λ (r : Result SheetBinder FileFault). meaning declarations r) p.1 ∙ ap (λ (f : FileFault). Err f) p.2
    ∙ sym (fault_read c.args.bytes.now c.loop-start.start _ c.loop-start.invariant.read (omega arith) _ (omega arith) c.in_err-record.ensures.fault)

pub returns-in_err-sheet : goal.returns-in_err-sheet
returns-in_err-sheet c =
    let p = err_from_is_err_and c.from_residual-in_err-sheet.result c.from_residual-in_err-sheet.ensures.1 in
    let found = c.in_ok-record.ensures.found in
    let judged = sym c.in_err-sheet.ensures in
    ap (λ (r : Result SheetBinder FileFault). meaning declarations r) p.1 ∙ ap (λ (f : FileFault). Err f) p.2
    ∙ sym (fault_read c.args.bytes.now c.loop-start.start _ c.loop-start.invariant.read (omega arith) _ (omega arith) (rw (found.0, found.1) at judged))

pub loop-start-preserved : goal.loop-start-preserved
loop-start-preserved c =
    let bs = c.args.bytes.now in
    let start = c.loop-start.start in
    let d = declared c.in_ok-sheet.sheet in
    let found = c.in_ok-record.ensures.found in
    let judged = sym c.in_ok-sheet.ensures in
    let following = c.following-start.ensures in
    let next = rw (found.0, found.1) at following in
    let added = (c.in_ok-add.ensures.added (omega arith)).1 in
    let read = sheet_read bs start _ c.loop-start.invariant.read (omega arith) d (omega arith) (rw (found.0, found.1) at judged) in
    let more = length_push (declarations c.loop-start.binder) d in
    record {
      read = rw (next, added) read;
      count = ap (λ (ds : List Declaration). length ds) added ∙ omega (arith, more, ap (λ (s : RecordStart). s.index) next);
      few = omega (arith, ap (λ (s : RecordStart). s.index) next);
      near = omega (arith, ap (λ (s : RecordStart). s.index) next, ap (λ (s : RecordStart). s.place) next, c.type_inv.bytes start.place, c.type_inv.bytes (start.place + 1));
    }
