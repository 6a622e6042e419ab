use Rattle.std.proofs.Common.{◌≡◌, ℕ, zero, suc, ◌+◌, ◌*◌, ◌/◌, ◌%◌, ◌<◌, ◌≤◌, true, false, eqb, leb, ◌⊎◌, List, [], ◌∷◌, ◌++◌, map, length, get_or, take, is_ok, None, Ok, Err, Result, sym, refl, ap, ◌∙◌, ⊎_elim, add-one, arith}
use Rattle.std.specs.List.{range_with_len, flat_map}
use Rattle.std.proofs.lemmas.List.FromFn.{length-map-range_with_len, fill_by_all, map-range_with_len_more}
use Rattle.std.proofs.lemmas.List.{get_or-append-add, append_assoc, take_more, take_all, flat_map_more}
use Rattle.std.proofs.lemmas.Bool.{cond-true, cond-false, eq-eqb, cases_Bool, and_right, lt-leb, eqb-true, true≢false}
use Rattle.sheets.specs.declared.line.Line.{Line}
use Rattle.sheets.specs.declared.row.Row.{Row}
use Rattle.sheets.specs.declared.fault.RecordStart.{RecordStart}
use Rattle.sheets.specs.declared.fault.FileFault.{FileFault}
use Rattle.sheets.specs.declared.fault.FileFault.TheVariants.{WrongLength}
use Rattle.sheets.specs.Faults.{spot, then, meaning}
use Rattle.demand.specs.Fields.{from_to}
use Rattle.sheets.specs.Rows.{rows_from, rows_judged, sound_rows}
use Rattle.sheets.specs.Lines.{line_judged, sound_line}
use Rattle.sheets.specs.Sheets.{Declaration, rows, line}
use Rattle.demand.proofs.Fields.{range_from}
use Rattle.sheets.proofs.Rows.{sound_all, judged_anywhere, line_anywhere}
use Rattle.sheets.proofs.Inverting.{then_went, passed, same_ok}
use Rattle.sheets.specs.Kinds.{row_at, rows_in, line_in, rows_record, line_record, row_fields_of, fields_of, kind_of}
use Rattle.sheets.proofs.Faults.{then_err, meaning_by}

pub length-rows_in : (fs : List ℕ) → length (rows_in fs) ≡ length fs / 4
length-rows_in fs = length-map-range_with_len (row_at fs) 0 (length fs / 4)

pub rows_even : (fs : List ℕ) (start : RecordStart) → length fs % 4 ≡ 0 → rows_record fs start ≡ then (rows_judged (rows_in fs) start) (λ _. Ok (rows (rows_in fs)))
rows_even fs start e = cond-true (eqb (length fs % 4) 0) _ _ (eq-eqb (length fs % 4) 0 e)

rows_many : (fs : List ℕ) (start : RecordStart) → 8 < length fs / 4 → rows_judged (rows_in fs) start ≡ Err (WrongLength (spot start 0))
rows_many fs start h =
    cond-false (from_to 1 8 (length (rows_in fs))) _ _ (and_right (leb 1 (length (rows_in fs))) (leb (length (rows_in fs)) 8) (lt-leb (length (rows_in fs)) 8 (omega (arith, length-rows_in fs))))

-- a length that no sheet of rows has
pub rows_refused : (fs : List ℕ) (start : RecordStart) → (length fs % 4 ≡ 0 → ⊥) ⊎ (8 < length fs / 4) → rows_record fs start ≡ Err (WrongLength (spot start 0))
rows_refused fs start h =
    ⊎_elim (λ (t : eqb (length fs % 4) 0 ≡ true).
    ⊎_elim (λ (p : length fs % 4 ≡ 0 → ⊥). absurd (p (eqb-true (length fs % 4) 0 t)))
    (λ (q : 8 < length fs / 4). rows_even fs start (eqb-true (length fs % 4) 0 t) ∙ then_err _ _ _ (rows_many fs start q)) h)
    (λ (f : eqb (length fs % 4) 0 ≡ false). cond-false (eqb (length fs % 4) 0) _ _ f)
    (cases_Bool (eqb (length fs % 4) 0))

pub line_four : (fs : List ℕ) (start : RecordStart) → length fs ≡ 4 → line_record fs start ≡ then (line_judged (line_in fs) start) (λ _. Ok (line (line_in fs)))
line_four fs start e = cond-true (eqb (length fs) 4) _ _ (eq-eqb (length fs) 4 e)

pub rows_read : {S : Type 0} (held : S → List Row) (part : List Row) (fs : List ℕ) (start : RecordStart) (r : Result S FileFault) → meaning held r ≡ then (rows_judged part start) (λ _. Ok part) → part ≡ rows_in fs → length fs % 4 ≡ 0 → meaning (λ s. rows (held s)) r ≡ rows_record fs start
rows_read held part fs start r e p h =
    meaning_by held rows r (rows_judged part start) part e ∙ ap (λ (l : List Row). then (rows_judged l start) (λ _. Ok (rows l))) p ∙ sym (rows_even fs start h)

pub line_read : {S : Type 0} (held : S → Line) (x : Line) (fs : List ℕ) (start : RecordStart) (r : Result S FileFault) → meaning held r ≡ then (line_judged x start) (λ _. Ok x) → x ≡ line_in fs → length fs ≡ 4 → meaning (λ s. line (held s)) r ≡ line_record fs start
line_read held x fs start r e p h =
    meaning_by held line r (line_judged x start) x e ∙ ap (λ (l : Line). then (line_judged l start) (λ _. Ok (line l))) p ∙ sym (line_four fs start h)

-- the fields of rows, read back
pub length-row_fields : (rs : List Row) → length (flat_map row_fields_of rs) ≡ 4 * length rs
length-row_fields [] = refl
length-row_fields (r ∷ rs) = omega (arith, length-row_fields rs)

abbrev pub four : ℕ → ℕ → ℕ → ℕ → Row
four t d c n = record { period = t; deadline = d; budget = c; copies = n }

pub same_four : (t t' d d' c c' n n' : ℕ) → t ≡ t' → d ≡ d' → c ≡ c' → n ≡ n' → four t d c n ≡ four t' d' c' n'
same_four t t' d d' c c' n n' p q r s = cc

row_behind : (r : Row) (fs : List ℕ) (k m : ℕ) → k ≡ 4 + m → get_or (row_fields_of r ++ fs) k 0 ≡ get_or fs m 0
row_behind r fs k m e = ap (λ x. get_or (row_fields_of r ++ fs) x 0) e ∙ get_or-append-add (row_fields_of r) fs m 0

row_back : (rs : List Row) (i : ℕ) (d : Row) → i < length rs → row_at (flat_map row_fields_of rs) i ≡ get_or rs i d
row_back [] i d h = absurd (omega arith)
row_back (r ∷ rs) zero d h = refl
row_back (r ∷ rs) (suc i) d h =
    let fs = flat_map row_fields_of rs in
    same_four _ _ _ _ _ _ _ _ (row_behind r fs (4 * suc i) (4 * i) (omega arith)) (row_behind r fs (4 * suc i + 1) (4 * i + 1) (omega arith))
    (row_behind r fs (4 * suc i + 2) (4 * i + 2) (omega arith)) (row_behind r fs (4 * suc i + 3) (4 * i + 3) (omega arith))
    ∙ row_back rs i d (omega arith)

rows_back : (rs : List Row) → rows_in (flat_map row_fields_of rs) ≡ rs
rows_back rs =
    let n : length (flat_map row_fields_of rs) / 4 ≡ length rs = omega (arith, length-row_fields rs) in
    let d : Row = record { period = 0; deadline = 0; budget = 0; copies = 0 } in
    ap (λ m. map (row_at (flat_map row_fields_of rs)) (range_with_len 0 m)) n ∙ sym (fill_by_all (row_at (flat_map row_fields_of rs)) rs (length rs) d refl (λ k h. sym (row_back rs k d h)))

-- a record of the fields of rows declares those rows, or has their fault
pub rows_record_back : (rs : List Row) (start : RecordStart) → rows_record (fields_of (rows rs)) start ≡ then (rows_judged rs start) (λ _. Ok (rows rs))
rows_record_back rs start =
    rows_even (flat_map row_fields_of rs) start (omega (arith, length-row_fields rs)) ∙ ap (λ (l : List Row). then (rows_judged l start) (λ _. Ok (rows l))) (rows_back rs)

pub line_record_back : (x : Line) (start : RecordStart) → line_record (fields_of (line x)) start ≡ then (line_judged x start) (λ _. Ok (line x))
line_record_back x start = refl

-- rows that the rules accept have at most 40 fields
pub sound_slots : (rs : List Row) → sound_rows rs ≡ true → length (fields_of (rows rs)) ≤ 40
sound_slots rs h = omega (arith, (sound_all rs h).1, length-row_fields rs)

-- what the rules accept in one place, they accept wherever its record begins
ok_unit : (r : Result (Unit {0}) FileFault) → is_ok r ≡ true → r ≡ Ok tt
ok_unit (Ok tt) e = refl
ok_unit (Err f) e = absurd (true≢false (sym e))

pub sound_rows_accepted : (rs : List Row) (start : RecordStart) → sound_rows rs ≡ true → rows_judged rs start ≡ Ok tt
sound_rows_accepted rs start h = ok_unit (rows_judged rs start) (judged_anywhere rs start ∙ h)

pub sound_line_accepted : (x : Line) (start : RecordStart) → sound_line x ≡ true → line_judged x start ≡ Ok tt
sound_line_accepted x start h = ok_unit (line_judged x start) (line_anywhere x start ∙ h)

-- the rows of fields, written as fields again
rows_forth : (fs : List ℕ) (n : ℕ) → 4 * n ≤ length fs → flat_map row_fields_of (map (row_at fs) (range_with_len 0 n)) ≡ take (4 * n) fs
rows_forth fs zero h = refl
rows_forth fs (suc n) h =
    let k = 4 * n in
    let e : 4 * suc n ≡ k + 1 + 1 + 1 + 1 = omega arith in
    let two : k + 1 + 1 ≡ k + 2 = omega arith in
    let three : k + 1 + 1 + 1 ≡ k + 3 = omega arith in
    let front : take (4 * suc n) fs ≡ (((take k fs ++ get_or fs k 0 ∷ []) ++ get_or fs (k + 1) 0 ∷ []) ++ get_or fs (k + 2) 0 ∷ []) ++ get_or fs (k + 3) 0 ∷ [] =
    ap (λ m. take m fs) e ∙ take_more fs (k + 1 + 1 + 1) 0 (omega arith)
    ∙ ap (λ (l : List ℕ). l ++ get_or fs (k + 1 + 1 + 1) 0 ∷ []) (take_more fs (k + 1 + 1) 0 (omega arith) ∙ ap (λ (l : List ℕ). l ++ get_or fs (k + 1 + 1) 0 ∷ []) (take_more fs (k + 1) 0 (omega arith) ∙ ap (λ (l : List ℕ). l ++ get_or fs (k + 1) 0 ∷ []) (take_more fs k 0 (omega arith))))
    ∙ ap (λ m. (((take k fs ++ get_or fs k 0 ∷ []) ++ get_or fs (k + 1) 0 ∷ []) ++ get_or fs m 0 ∷ []) ++ get_or fs (k + 1 + 1 + 1) 0 ∷ []) two
    ∙ ap (λ m. (((take k fs ++ get_or fs k 0 ∷ []) ++ get_or fs (k + 1) 0 ∷ []) ++ get_or fs (k + 2) 0 ∷ []) ++ get_or fs m 0 ∷ []) three in
    ap (λ m. flat_map row_fields_of (map (row_at fs) (range_with_len 0 m))) (sym (add-one n))
    ∙ ap (λ (l : List Row). flat_map row_fields_of l) (map-range_with_len_more (row_at fs) 0 n n (omega arith))
    ∙ sym (flat_map_more row_fields_of [] (map (row_at fs) (range_with_len 0 n)) (row_at fs n))
    ∙ ap (λ (l : List ℕ). l ++ row_fields_of (row_at fs n)) (rows_forth fs n (omega arith))
    ∙ sym (simp append_assoc at front)

line_forth : (fs : List ℕ) → length fs ≡ 4 → fields_of (line (line_in fs)) ≡ fs
line_forth [] h = absurd (omega arith)
line_forth (a ∷ []) h = absurd (omega arith)
line_forth (a ∷ b ∷ []) h = absurd (omega arith)
line_forth (a ∷ b ∷ c ∷ []) h = absurd (omega arith)
line_forth (a ∷ b ∷ c ∷ d ∷ []) h = refl
line_forth (a ∷ b ∷ c ∷ d ∷ e ∷ fs) h = absurd (omega arith)

-- an accepted record has the fields and the kind of the sheet that it declares
pub rows_accepted : (fs : List ℕ) (start : RecordStart) (d : Declaration) → rows_record fs start ≡ Ok d → (fields_of d ≡ fs) × (kind_of d ≡ 1) × (length fs ≤ 40)
rows_accepted fs start d e =
    let p = passed (eqb (length fs % 4) 0) (then (rows_judged (rows_in fs) start) (λ _. Ok (rows (rows_in fs)))) (WrongLength (spot start 0)) d e in
    let q = then_went (rows_judged (rows_in fs) start) (λ _. Ok (rows (rows_in fs))) d p.1 in
    let few = passed (from_to 1 8 (length (rows_in fs))) (rows_from None (rows_in fs) start 4) (WrongLength (spot start 0)) q.0 q.1 in
    let s = same_ok (rows (rows_in fs)) d q.2 in
    let n = eqb-true (length fs % 4) 0 p.0 in
    let m : 4 * (length fs / 4) ≡ length fs = omega arith in (
      ap fields_of (sym s) ∙ rows_forth fs (length fs / 4) (omega arith) ∙ take_all (4 * (length fs / 4)) fs (omega arith),
      ap kind_of (sym s),
      omega (arith, (range_from 1 8 (length (rows_in fs)) few.0).1, length-rows_in fs),
    )

pub line_accepted : (fs : List ℕ) (start : RecordStart) (d : Declaration) → line_record fs start ≡ Ok d → (fields_of d ≡ fs) × (kind_of d ≡ 2) × (length fs ≤ 40)
line_accepted fs start d e =
    let p = passed (eqb (length fs) 4) (then (line_judged (line_in fs) start) (λ _. Ok (line (line_in fs)))) (WrongLength (spot start 0)) d e in
    let q = then_went (line_judged (line_in fs) start) (λ _. Ok (line (line_in fs))) d p.1 in
    let s = same_ok (line (line_in fs)) d q.2 in
    let n = eqb-true (length fs) 4 p.0 in
    (ap fields_of (sym s) ∙ line_forth fs n, ap kind_of (sym s), omega arith)
