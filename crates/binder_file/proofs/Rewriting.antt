use Rattle.std.proofs.Common.{◌≡◌, ℕ, zero, suc, ◌+◌, ◌-◌, ◌*◌, ◌/◌, ◌%◌, ◌<◌, ◌≤◌, Bool, true, false, cond, eqb, ltb, leb, List, [], ◌∷◌, ◌++◌, length, get_or, take, drop, Ok, Err, Result, sym, refl, ap, ◌∙◌, ⊎_elim, add-one, arith}
use Rattle.std.specs.List.{flat_map}
use Rattle.std.proofs.lemmas.List.FromFn.{map-range_with_len_more, get_or-map-range_with_len, fill_by_all}
use Rattle.std.proofs.lemmas.List.{append_assoc, flat_map_more, take_more, get_or-drop, length-drop, drop_all, drop-drop, take-append-drop}
use Rattle.std.proofs.lemmas.Bool.{and_parts, or_parts, leb-true, eqb-true, ltb-false}
use Rattle.sheets.specs.declared.fault.RecordStart.{RecordStart}
use Rattle.sheets.specs.declared.fault.FileFault.{FileFault}
use Rattle.sheets.specs.declared.fault.FileFault.TheVariants.{CutShort, UnknownKind, WrongLength, RecordCount}
use Rattle.sheets.specs.Faults.{spot}
use Rattle.sheets.specs.Sheets.{Declaration}
use Rattle.sheets.specs.Kinds.{rows_record, line_record, kind_of, fields_of}
use Rattle.sheets.proofs.Inverting.{passed, not_caught}
use Rattle.sheets.proofs.Records.{rows_accepted, line_accepted}
use Rattle.binder_file.specs.Format.{word_at, fields_at, length_at, kind_at, ends_inside, whole_fields, body_judged, kind_judged, record_judged, next_start, records_from, decode, word_bytes, record_words, record_bytes}
use Rattle.binder_file.specs.Writing.{encode}
use Rattle.binder_file.proofs.Format.{length_fields, Ended, First, none_left, first_left}

-- bytes, as a file has them
abbrev pub Bytes : List ℕ → Type 0
Bytes bs = (i : ℕ) → get_or bs i 0 < 256

-- fields of a file, written as bytes again
fields_forth : (bs : List ℕ) (at n : ℕ) → Bytes bs → at + 2 * n ≤ length bs → flat_map word_bytes (fields_at bs at n) ≡ take (2 * n) (drop at bs)
fields_forth bs at zero small h = refl
fields_forth bs at (suc n) small h =
    let k = 2 * n in
    let tail = drop at bs in
    let len = length-drop at bs in
    let e : 2 * suc n ≡ k + 1 + 1 = omega arith in
    let w = word_at bs (at + k) in
    let x : w % 256 ≡ get_or tail k 0 = omega (arith, small (at + k), small (at + k + 1), get_or-drop at bs k 0) in
    let j : at + k + 1 ≡ at + (k + 1) = omega arith in
    let y : w / 256 ≡ get_or tail (k + 1) 0 = omega (arith, small (at + k), small (at + k + 1), ap (λ m. get_or bs m 0) j, get_or-drop at bs (k + 1) 0) in
    let front : take (2 * suc n) tail ≡ (take k tail ++ get_or tail k 0 ∷ []) ++ get_or tail (k + 1) 0 ∷ [] =
    ap (λ m. take m tail) e ∙ take_more tail (k + 1) 0 (omega arith) ∙ ap (λ (l : List ℕ). l ++ get_or tail (k + 1) 0 ∷ []) (take_more tail k 0 (omega arith)) in
    ap (λ m. flat_map word_bytes (fields_at bs at m)) (sym (add-one n))
    ∙ ap (λ (l : List ℕ). flat_map word_bytes l) (map-range_with_len_more (λ i. word_at bs (at + 2 * i)) 0 n n (omega arith))
    ∙ sym (flat_map_more word_bytes [] (fields_at bs at n) w)
    ∙ ap (λ (l : List ℕ). l ++ word_bytes w) (fields_forth bs at n small (omega arith))
    ∙ ap (λ (m : ℕ). take k tail ++ m ∷ w / 256 ∷ []) x ∙ ap (λ (m : ℕ). take k tail ++ get_or tail k 0 ∷ m ∷ []) y
    ∙ sym (simp append_assoc at front)

-- what an accepted record tells: its length, and its sheet's fields and kind
pub record Accepted (bs : List ℕ) (start : RecordStart) (d : Declaration) : Type 0 where
  pub inside : start.place + 2 + length_at bs start ≤ length bs
  kind : kind_of d ≡ kind_at bs start
  pub size : length_at bs start ≡ 2 + 2 * length (fields_of d)
  fields : fields_of d ≡ fields_at bs (start.place + 4) (length (fields_of d))
  pub few : length (fields_of d) ≤ 40

body_accepted : (judged : List ℕ → RecordStart → Result Declaration FileFault) (bs : List ℕ) (start : RecordStart) (d : Declaration) (n : ℕ) → ((fs : List ℕ) → judged fs start ≡ Ok d → (fields_of d ≡ fs) × (kind_of d ≡ n) × (length fs ≤ 40)) → kind_at bs start ≡ n → start.place + 2 + length_at bs start ≤ length bs → body_judged judged bs start ≡ Ok d → Accepted bs start d
body_accepted judged bs start d n told k inside e =
    let m = (length_at bs start - 2) / 2 in
    let p = passed (whole_fields (length_at bs start)) (judged (fields_at bs (start.place + 4) m) start) (WrongLength (spot start 0)) d e in
    let w = and_parts (leb 2 (length_at bs start)) (eqb (length_at bs start % 2) 0) p.0 in
    let low = leb-true 2 (length_at bs start) w.0 in
    let even = eqb-true (length_at bs start % 2) 0 w.1 in
    let t = told (fields_at bs (start.place + 4) m) p.1 in
    let len : length (fields_of d) ≡ m = ap (λ (l : List ℕ). length l) t.0 ∙ length_fields bs (start.place + 4) m in
    record {
      inside = inside;
      kind = t.1 ∙ sym k;
      size = omega (arith, len, low, even);
      fields = t.0 ∙ ap (λ c. fields_at bs (start.place + 4) c) (sym len);
      few = omega (arith, t.2, len, length_fields bs (start.place + 4) m);
    }

kind_accepted : (bs : List ℕ) (start : RecordStart) (d : Declaration) (b c : Bool) → eqb (kind_at bs start) 1 ≡ b → eqb (kind_at bs start) 2 ≡ c → start.place + 2 + length_at bs start ≤ length bs → cond b (body_judged rows_record bs start) (cond c (body_judged line_record bs start) (Err (UnknownKind (spot start 0)))) ≡ Ok d → Accepted bs start d
kind_accepted bs start d true c p q inside e = body_accepted rows_record bs start d 1 (λ fs f. rows_accepted fs start d f) (eqb-true (kind_at bs start) 1 p) inside e
kind_accepted bs start d false true p q inside e = body_accepted line_record bs start d 2 (λ fs f. line_accepted fs start d f) (eqb-true (kind_at bs start) 2 q) inside e
kind_accepted bs start d false false p q inside e = cc

pub record_accepted : (bs : List ℕ) (start : RecordStart) (d : Declaration) → record_judged bs start ≡ Ok d → Accepted bs start d
record_accepted bs start d e =
    let p = not_caught (ends_inside bs start) (kind_judged bs start) (CutShort (spot start 0)) d e in
    let o = or_parts (ltb (length bs) (start.place + 4)) (ltb (length bs) (start.place + 2 + length_at bs start)) p.0 in
    kind_accepted bs start d (eqb (kind_at bs start) 1) (eqb (kind_at bs start) 2) refl refl (ltb-false (length bs) (start.place + 2 + length_at bs start) o.1) p.1

-- the record's own bytes
word_forth : (bs : List ℕ) (start : RecordStart) (d : Declaration) (k : ℕ) → Accepted bs start d → k < suc (suc (length (fields_of d))) → get_or (record_words d) k 0 ≡ word_at bs (start.place + 2 * k)
word_forth bs start d zero a h = let z : start.place + 2 * 0 ≡ start.place = omega arith in sym a.size ∙ ap (word_at bs) (sym z)
word_forth bs start d (suc zero) a h = let z : start.place + 2 * 1 ≡ start.place + 2 = omega arith in a.kind ∙ ap (word_at bs) (sym z)
word_forth bs start d (suc (suc k)) a h =
    let n = length (fields_of d) in
    let z : start.place + 4 + 2 * k ≡ start.place + 2 * suc (suc k) = omega arith in
    ap (λ (l : List ℕ). get_or l k 0) a.fields ∙ get_or-map-range_with_len (λ i. word_at bs (start.place + 4 + 2 * i)) 0 n k k 0 (omega arith) (omega arith) ∙ ap (word_at bs) z

record_forth : (bs : List ℕ) (start : RecordStart) (d : Declaration) → Bytes bs → Accepted bs start d → record_bytes d ≡ take (2 + length_at bs start) (drop start.place bs)
record_forth bs start d small a =
    let n = suc (suc (length (fields_of d))) in
    let words : record_words d ≡ fields_at bs start.place n = fill_by_all (λ i. word_at bs (start.place + 2 * i)) (record_words d) n 0 refl (λ k h. word_forth bs start d k a h) in
    let size : 2 * n ≡ 2 + length_at bs start = omega (arith, a.size) in
    ap (λ (l : List ℕ). flat_map word_bytes l) words ∙ fields_forth bs start.place n small (omega (arith, a.inside, size)) ∙ ap (λ m. take m (drop start.place bs)) size

-- the records from `start` on are the rest of the file
ended_forth : (bs : List ℕ) (start : RecordStart) (ds : List Declaration) → Ended bs start ds → encode ds ≡ drop start.place bs
ended_forth bs start ds p = ap encode p.1 ∙ sym (drop_all start.place bs p.0)

records_forth : (most : ℕ) (bs : List ℕ) (start : RecordStart) (ds : List Declaration) → Bytes bs → records_from most bs start ≡ Ok ds → encode ds ≡ drop start.place bs
records_forth zero bs start ds small e = ended_forth bs start ds (none_left bs start ds e)
records_forth (suc most) bs start ds small e =
    ⊎_elim (λ (p : Ended bs start ds). ended_forth bs start ds p)
    (λ (r : First most bs start ds).
    let rest = records_forth most bs (next_start bs start) r.others small r.rest in
    let n = 2 + length_at bs start in
    let z : start.place + 2 + length_at bs start ≡ start.place + n = omega arith in
    ap encode r.all
    ∙ ap (λ (l : List ℕ). l ++ encode r.others) (record_forth bs start r.sheet small (record_accepted bs start r.sheet r.judged))
    ∙ ap (λ (l : List ℕ). take n (drop start.place bs) ++ l) (rest ∙ ap (λ m. drop m bs) z ∙ sym (drop-drop n start.place bs))
    ∙ take-append-drop n (drop start.place bs))
    (first_left most bs start ds e)

-- writing the sheets of an accepted file gives the file
pub decode_forth : (bs : List ℕ) (ds : List Declaration) → Bytes bs → decode bs ≡ Ok ds → encode ds ≡ bs
decode_forth bs ds small e =
    let p = not_caught (eqb (length bs) 0) (records_from 8 bs (record { index = 0; place = 0 })) (RecordCount (record { index = 0; place = 0 })) ds e in
    records_forth 8 bs (record { index = 0; place = 0 }) ds small p.1
