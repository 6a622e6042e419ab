use Rattle.std.proofs.Common.{ℕ, ◌≡◌, ◌/◌, ◌%◌, List, length, Err, map, sym, ap, ◌∙◌, inl, inr, ⊎_elim, arith}
use Rattle.std.proofs.lemmas.Bool.{eqb-true, eqb-false}
use Rattle.sheets.specs.Kinds.{rows_in}
use Rattle.sheets.specs.declared.fault.Location.{Location}
use Rattle.sheets.specs.declared.fault.FileFault.TheVariants.{WrongLength}
use Rattle.sheets.proofs.Records.{rows_refused, rows_read}
use Rattle.row_sheet.specs.RowSheets.{sheet_rows, row_of}
use Rattle.row_sheet.proofs.Chunks.{rows-first_chunks}
use Rattle.row_sheet.proofs.reading.RowSheetSheetKind.from_fields.Goals as goal

pub returns-then-not-is_empty : goal.returns-then-not-is_empty
returns-then-not-is_empty c =
    let n : length c.as_chunks.result.0.now ≡ length c.args.fields.now / 4 = c.as_chunks.ensures.front_len in
    let m : length c.as_chunks.result.1.now ≡ length c.args.fields.now % 4 = c.as_chunks.ensures.back_len in
    ap (λ (at : Location). Err (WrongLength at)) c.at.ensures
    ∙ sym (rows_refused c.args.fields.now c.args.start
    (⊎_elim (λ f. inl (λ z. eqb-false (length c.as_chunks.result.1.now) 0 (sym c.is_empty.ensures ∙ f) (m ∙ z))) (λ p. inr (omega (arith, n, p.1))) c.then-not-is_empty.either))

pub returns : goal.returns
returns c =
    let m : length c.as_chunks.result.1.now ≡ length c.args.fields.now % 4 = c.as_chunks.ensures.back_len in
    let e : c.as_slice.result.now ≡ rows_in c.args.fields.now = c.as_slice.ensures.value ∙ c.rows_of.ensures ∙ ap (λ (l : List (List ℕ)). map row_of l) c.as_chunks.ensures.front ∙ rows-first_chunks c.args.fields.now in
    rows_read sheet_rows c.as_slice.result.now c.args.fields.now c.args.start c.sheet_of_rows.result c.sheet_of_rows.ensures e (sym m ∙ eqb-true (length c.as_chunks.result.1.now) 0 (sym c.if-not-is_empty.ensures))
