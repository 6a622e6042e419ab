use Rattle.std.proofs.Common.{◌≡◌, ℕ, zero, suc, ◌+◌, ◌-◌, ◌*◌, ◌/◌, ◌%◌, ◌<◌, true, false, eqb, List, [], ◌∷◌, ◌++◌, length, get_or, Ok, Err, Result, sym, refl, ap, ◌∙◌, arith}
use Rattle.std.specs.List.{flat_map}
use Rattle.std.proofs.lemmas.Grind.{common_steps}
use Rattle.std.proofs.lemmas.List.FromFn.{fill_by_all}
use Rattle.std.proofs.lemmas.List.{append-nil}
use Rattle.std.proofs.lemmas.Bool.{cond-true, cond-false, and_from, le-leb, eq-eqb, ne_eqb}
use Rattle.sheets.specs.declared.fault.RecordStart.{RecordStart}
use Rattle.sheets.specs.declared.fault.FileFault.{FileFault}
use Rattle.sheets.specs.Faults.{then}
use Rattle.sheets.specs.Sheets.{Declaration, rows, line}
use Rattle.sheets.specs.Kinds.{rows_record, line_record, kind_of, fields_of, making_judged}
use Rattle.sheets.proofs.Records.{rows_record_back, line_record_back}
use Rattle.binder_file.specs.Format.{word_at, fields_at, length_at, kind_at, ends_inside, whole_fields, body_judged, record_judged, next_start, records_from, decode, word_bytes, record_words, record_bytes}
use Rattle.binder_file.proofs.Format.{records_ended, record_first, decode_some}

pub length_words : (ws : List ℕ) → length (flat_map word_bytes ws) ≡ 2 * length ws
length_words [] = refl
length_words (w ∷ ws) = omega (arith, length_words ws)

behind : (w : ℕ) (bs : List ℕ) (k m : ℕ) → k ≡ 2 + m → get_or (word_bytes w ++ bs) k 0 ≡ get_or bs m 0
behind w bs k m e = grind (arith, common_steps)

-- the i-th number of some, read back from their bytes
word_back : (ws : List ℕ) (i : ℕ) → i < length ws → word_at (flat_map word_bytes ws) (2 * i) ≡ get_or ws i 0
word_back [] i h = absurd (omega arith)
word_back (w ∷ ws) zero h = omega arith
word_back (w ∷ ws) (suc i) h =
    let bs = flat_map word_bytes ws in
    omega (arith, behind w bs (2 * suc i) (2 * i) (omega arith), behind w bs (2 * suc i + 1) (2 * i + 1) (omega arith), word_back ws i (omega arith))

-- the same with other bytes before and behind
word_inside : (before behind' ws : List ℕ) (k i : ℕ) → k ≡ length before + 2 * i → i < length ws → word_at (before ++ (flat_map word_bytes ws ++ behind')) k ≡ get_or ws i 0
word_inside before behind' ws k i e h = grind (arith, common_steps, word_back ws i h, length_words ws)

-- a record between other bytes
module _ (before behind' : List ℕ) (d : Declaration) (start : RecordStart) (at : start.place ≡ length before) where
  length_back : length_at (before ++ (record_bytes d ++ behind')) start ≡ 2 + 2 * length (fields_of d)
  length_back = word_inside before behind' (record_words d) start.place 0 (omega arith) (omega arith)

  kind_back : kind_at (before ++ (record_bytes d ++ behind')) start ≡ kind_of d
  kind_back = word_inside before behind' (record_words d) (start.place + 2) 1 (omega arith) (omega arith)

  fields_back : fields_at (before ++ (record_bytes d ++ behind')) (start.place + 4) (length (fields_of d)) ≡ fields_of d
  fields_back =
      sym (fill_by_all (λ i. word_at (before ++ (record_bytes d ++ behind')) (start.place + 4 + 2 * i)) (fields_of d) (length (fields_of d)) 0 refl
      (λ k h. sym (word_inside before behind' (record_words d) (start.place + 4 + 2 * k) (suc (suc k)) (omega arith) (omega arith))))

  whole_back : ends_inside (before ++ (record_bytes d ++ behind')) start ≡ false
  whole_back = grind (arith, common_steps, length_back, length_words (record_words d))

  body_back : (judged : List ℕ → RecordStart → Result Declaration FileFault) → body_judged judged (before ++ (record_bytes d ++ behind')) start ≡ judged (fields_of d) start
  body_back judged =
      let w : whole_fields (length_at (before ++ (record_bytes d ++ behind')) start) ≡ true = ap whole_fields length_back ∙ and_from _ _ (le-leb 2 (2 + 2 * length (fields_of d)) (omega arith)) (eq-eqb ((2 + 2 * length (fields_of d)) % 2) 0 (omega arith)) in
      let n : (length_at (before ++ (record_bytes d ++ behind')) start - 2) / 2 ≡ length (fields_of d) = omega (arith, length_back) in
      cond-true (whole_fields (length_at (before ++ (record_bytes d ++ behind')) start)) _ _ w
      ∙ ap (λ k. judged (fields_at (before ++ (record_bytes d ++ behind')) (start.place + 4) k) start) n
      ∙ ap (λ (fs : List ℕ). judged fs start) fields_back

-- the record of a sheet declares that sheet, or has the fault of its fields
pub record_back : (before behind' : List ℕ) (d : Declaration) (start : RecordStart) → start.place ≡ length before → record_judged (before ++ (record_bytes d ++ behind')) start ≡ then (making_judged d start) (λ _. Ok d)
record_back before behind' (rows rs) start at =
    let file = before ++ (record_bytes (rows rs) ++ behind') in
    cond-false (ends_inside file start) _ _ (whole_back before behind' (rows rs) start at)
    ∙ cond-true (eqb (kind_at file start) 1) _ _ (eq-eqb (kind_at file start) 1 (kind_back before behind' (rows rs) start at))
    ∙ body_back before behind' (rows rs) start at rows_record ∙ rows_record_back rs start
record_back before behind' (line x) start at =
    let file = before ++ (record_bytes (line x) ++ behind') in
    let k = kind_back before behind' (line x) start at in
    cond-false (ends_inside file start) _ _ (whole_back before behind' (line x) start at)
    ∙ cond-false (eqb (kind_at file start) 1) _ _ (ne_eqb (kind_at file start) 1 (λ e. omega (arith, e, k)))
    ∙ cond-true (eqb (kind_at file start) 2) _ _ (eq-eqb (kind_at file start) 2 k)
    ∙ body_back before behind' (line x) start at line_record ∙ line_record_back x start

-- where the record behind it begins
pub next_back : (before behind' : List ℕ) (d : Declaration) (start : RecordStart) → start.place ≡ length before → (next_start (before ++ (record_bytes d ++ behind')) start).place ≡ length before + length (record_bytes d)
next_back before behind' d start at = omega (arith, length_back before behind' d start at, length_words (record_words d))

abbrev first : RecordStart
first = record { index = 0; place = 0 }

alone : (r : Result Declaration FileFault) (m : Result (Unit {0}) FileFault) (d : Declaration) (rest : Result (List Declaration) FileFault) → r ≡ then m (λ _. Ok d) → rest ≡ Ok [] → then r (λ x. then rest (λ xs. Ok (x ∷ xs))) ≡ then m (λ _. Ok (d ∷ []))
alone r (Ok u) d rest e z = rw (e, z)
alone r (Err f) d rest e z = rw e

-- the file of one record: what making from its fields answers
pub one_record : (bs : List ℕ) (d : Declaration) → bs ≡ record_bytes d → decode bs ≡ then (making_judged d first) (λ _. Ok (d ∷ []))
one_record bs d e =
    let f = [] ++ (record_bytes d ++ []) in
    let n : length f ≡ 2 * length (record_words d) = ap length (append-nil (record_bytes d)) ∙ length_words (record_words d) in
    let z = records_ended 7 f (next_start f first) (omega (arith, next_back [] [] d first refl, length_words (record_words d), n)) in
    ap decode (e ∙ sym (append-nil (record_bytes d)))
    ∙ decode_some f (ne_eqb (length f) 0 (λ q. omega (arith, q, n)))
    ∙ record_first 7 f first (omega (arith, n))
    ∙ alone (record_judged f first) (making_judged d first) d (records_from 7 f (next_start f first)) (record_back [] [] d first refl) z

-- so the file is refused as making is, or declares that sheet alone
refused_one : (m : Result (Unit {0}) FileFault) (ds : List Declaration) (f : FileFault) → then m (λ _. Ok ds) ≡ Err f → m ≡ Err f
refused_one (Ok tt) ds f e = cc
refused_one (Err g) ds f e = cc

pub alone_refused : (bs : List ℕ) (d : Declaration) (f : FileFault) → bs ≡ record_bytes d → decode bs ≡ Err f → making_judged d first ≡ Err f
alone_refused bs d f e g = refused_one (making_judged d first) (d ∷ []) f (sym (one_record bs d e) ∙ g)

accepted_one : (m : Result (Unit {0}) FileFault) (d : Declaration) (ds : List Declaration) → then m (λ _. Ok (d ∷ [])) ≡ Ok ds → (m ≡ Ok tt) × (ds ≡ d ∷ [])
accepted_one (Ok tt) d ds e = (refl, cc)
accepted_one (Err f) d ds e = cc

module _ (bs : List ℕ) (d : Declaration) (ds : List Declaration) (e : bs ≡ record_bytes d) (f : decode bs ≡ Ok ds) where
  pub alone_accepted : making_judged d first ≡ Ok tt
  alone_accepted = (accepted_one (making_judged d first) d ds (sym (one_record bs d e) ∙ f)).0

  pub alone_declares : ds ≡ d ∷ []
  alone_declares = (accepted_one (making_judged d first) d ds (sym (one_record bs d e) ∙ f)).1
