use Rattle.std.proofs.Common.{◌⊎◌, inl, inr, ⊎_elim, ◌≡◌, ℕ, zero, suc, ◌+◌, ◌-◌, ◌*◌, ◌/◌, ◌<◌, ◌≤◌, Bool, cond, true, false, eqb, ltb, get_or, take, drop, set, List, [], ◌∷◌, ◌++◌, length, Ok, Err, Result, sym, refl, ap, ◌∙◌, add-one, arith}
use Rattle.std.proofs.lemmas.List.FromFn.{length-map-range_with_len, map-range_with_len_more}
use Rattle.std.specs.Simd.{first_chunks}
use Rattle.std.proofs.lemmas.List.{append_assoc, append-nil, drop-drop, length-take, take_more_set}
use Rattle.std.proofs.lemmas.Grind.{common_steps}
use Rattle.std.proofs.lemmas.Bool.{cond-true, cond-false, lt-ltb, le-ltb, ltb-false, cases_Bool}
use Rattle.sheets.specs.declared.fault.RecordStart.{RecordStart}
use Rattle.sheets.specs.declared.fault.FileFault.{FileFault}
use Rattle.sheets.specs.declared.fault.FileFault.TheVariants.{WrongLength, RecordCount}
use Rattle.sheets.specs.Faults.{spot, then, meaning}
use Rattle.sheets.specs.Sheets.{Declaration}
use Rattle.sheets.proofs.Faults.{then_ok, then_err}
use Rattle.sheets.proofs.Inverting.{then_went, not_caught, same_ok}
use Rattle.binder_file.specs.Format.{word_at, fields_at, length_at, whole_fields, body_judged, record_judged, next_start, records_from, decode}

pub length_fields : (bs : List ℕ) (place n : ℕ) → length (fields_at bs place n) ≡ n
length_fields bs place n = length-map-range_with_len (λ i. word_at bs (place + 2 * i)) 0 n

-- pair i of some bytes that stand in a file
chunk_at : {X : Type 0} (k i : ℕ) (xs : List X) → i < k → get_or (first_chunks 2 k xs) i [] ≡ take 2 (drop (2 * i) xs)
chunk_at zero i xs h = absurd (omega arith)
chunk_at (suc k) zero xs h = refl
chunk_at (suc k) (suc i) xs h =
    let e : 2 + 2 * i ≡ 2 * suc i = omega arith in
    chunk_at k i (drop 2 xs) (omega arith) ∙ ap (take 2) (drop-drop (2 * i) 2 xs) ∙ ap (λ (n : ℕ). take 2 (drop n xs)) e

pair_at : (bs : List ℕ) (a m k i j : ℕ) → i < k → 2 * k ≤ m → j < 2 → get_or (get_or (first_chunks 2 k (take m (drop a bs))) i []) j 0 ≡ get_or bs (a + (2 * i + j)) 0
pair_at bs a m k i j h n two = rw chunk_at (grind (arith, common_steps))

-- one field more is read from the pairs of a record's body
module _ (bs : List ℕ) (pairs : List (List ℕ)) (a m i : ℕ) (cut : pairs ≡ first_chunks 2 (length (take m (drop a bs)) / 2) (take m (drop a bs))) (h : i < length (take m (drop a bs)) / 2) where
  half : (j : ℕ) → j < 2 → get_or (get_or pairs i []) j 0 ≡ get_or bs (a + (2 * i + j)) 0
  half j two = ap (λ (l : List (List ℕ)). get_or (get_or l i []) j 0) cut ∙ pair_at bs a m (length (take m (drop a bs)) / 2) i j h (omega (arith, length-take m (drop a bs))) two

  field : get_or (get_or pairs i []) 0 0 + get_or (get_or pairs i []) 1 0 * 256 ≡ word_at bs (a + 2 * i)
  field =
      let p : a + (2 * i + 0) ≡ a + 2 * i = omega arith in
      let q : a + (2 * i + 1) ≡ a + 2 * i + 1 = omega arith in
      omega (arith, half 0 (omega arith), half 1 (omega arith), ap (λ (x : ℕ). get_or bs x 0) p, ap (λ (x : ℕ). get_or bs x 0) q)

  pub fields_more : (fields : List ℕ) (w : ℕ) → fields ≡ fields_at bs a i → w ≡ get_or (get_or pairs i []) 0 0 + get_or (get_or pairs i []) 1 0 * 256 → fields ++ w ∷ [] ≡ fields_at bs a (i + 1)
  fields_more fields w e f =
      ap (λ (l : List ℕ). l ++ w ∷ []) e ∙ ap (λ (x : ℕ). fields_at bs a i ++ x ∷ []) (f ∙ field) ∙ sym (map-range_with_len_more (λ j. word_at bs (a + 2 * j)) 0 i i (omega arith))

  -- and stands behind those before it
  pub fields_stored : (words : List ℕ) (w : ℕ) → i < length words → take i words ≡ fields_at bs a i → w ≡ get_or (get_or pairs i []) 0 0 + get_or (get_or pairs i []) 1 0 * 256 → take (i + 1) (set words i w) ≡ fields_at bs a (i + 1)
  fields_stored words w l e f = take_more_set words i w l ∙ fields_more (take i words) w e f

-- a test that changes nothing
cond_same : {X : Type 0} (b : Bool) (x y : X) → (b ≡ true → x ≡ y) → cond b x y ≡ y
cond_same true x y e = e refl
cond_same false x y e = refl

-- a body without whole fields, or with more of them than any sheet has
pub body_refused : (judged : List ℕ → RecordStart → Result Declaration FileFault) (bs : List ℕ) (start : RecordStart) → ((fs : List ℕ) (s : RecordStart) → 40 < length fs → judged fs s ≡ Err (WrongLength (spot s 0))) → (whole_fields (length_at bs start) ≡ true → 40 < (length_at bs start - 2) / 2) → body_judged judged bs start ≡ Err (WrongLength (spot start 0))
body_refused judged bs start short long =
    let n = (length_at bs start - 2) / 2 in
    cond_same (whole_fields (length_at bs start)) (judged (fields_at bs (start.place + 4) n) start) (Err (WrongLength (spot start 0)))
    (λ w. short (fields_at bs (start.place + 4) n) start (omega (arith, long w, length_fields bs (start.place + 4) n)))

-- behind the end of the file there is no record
pub records_ended : (most : ℕ) (bs : List ℕ) (start : RecordStart) → length bs ≤ start.place → records_from most bs start ≡ Ok []
unfolding records_from
records_ended zero bs start h = cond-false (ltb start.place (length bs)) _ _ (le-ltb start.place (length bs) h)
records_ended (suc most) bs start h = cond-false (ltb start.place (length bs)) _ _ (le-ltb start.place (length bs) h)

-- a record follows, and then the others
pub record_first : (most : ℕ) (bs : List ℕ) (start : RecordStart) → start.place < length bs → records_from (most + 1) bs start ≡ then (record_judged bs start) (λ d. then (records_from most bs (next_start bs start)) (λ ds. Ok (d ∷ ds)))
unfolding records_from
record_first most bs start h =
    ap (λ n. records_from n bs start) (add-one most) ∙ cond-true (ltb start.place (length bs)) _ _ (lt-ltb start.place (length bs) h)

-- accepted records: none is left, or one with its sheet, and then the others
abbrev pub Ended : List ℕ → RecordStart → List Declaration → Type 0
Ended bs start ds = (length bs ≤ start.place) × (ds ≡ [])

pub record First (most : ℕ) (bs : List ℕ) (start : RecordStart) (ds : List Declaration) : Type 0 where
  pub sheet : Declaration
  pub others : List Declaration
  pub judged : record_judged bs start ≡ Ok sheet
  pub rest : records_from most bs (next_start bs start) ≡ Ok others
  pub all : ds ≡ sheet ∷ others

pub none_left : (bs : List ℕ) (start : RecordStart) (ds : List Declaration) → records_from zero bs start ≡ Ok ds → Ended bs start ds
unfolding records_from
none_left bs start ds e =
    let p = not_caught (ltb start.place (length bs)) (Ok []) (RecordCount (spot start 0)) ds e in
    (ltb-false start.place (length bs) p.0, sym (same_ok [] ds p.1))

pub first_left : (most : ℕ) (bs : List ℕ) (start : RecordStart) (ds : List Declaration) → records_from (suc most) bs start ≡ Ok ds → Ended bs start ds ⊎ First most bs start ds
unfolding records_from
first_left most bs start ds e =
    let rest = λ (d : Declaration). then (records_from most bs (next_start bs start)) (λ xs. Ok (d ∷ xs)) in
    ⊎_elim (λ (t : ltb start.place (length bs) ≡ true).
    let p = then_went (record_judged bs start) rest ds (sym (cond-true (ltb start.place (length bs)) _ _ t) ∙ e) in
    let r = then_went (records_from most bs (next_start bs start)) (λ xs. Ok (p.0 ∷ xs)) ds p.2 in
    inr (record { sheet = p.0; others = r.0; judged = p.1; rest = r.1; all = sym (same_ok (p.0 ∷ r.0) ds r.2) }))
    (λ (f : ltb start.place (length bs) ≡ false).
    inl (ltb-false start.place (length bs) f, sym (same_ok [] ds (sym (cond-false (ltb start.place (length bs)) (then (record_judged bs start) rest) (Ok []) f) ∙ e))))
    (cases_Bool (ltb start.place (length bs)))

carry : (before : List Declaration) (d : Declaration) (r : Result (List Declaration) FileFault) → meaning (λ ds. before ++ ds) (then r (λ ds. Ok (d ∷ ds))) ≡ meaning (λ ds. (before ++ d ∷ []) ++ ds) r
carry before d (Ok ds) = ap Ok (sym (append_assoc before (d ∷ []) ds))
carry before d (Err e) = refl

-- the ninth record
pub records_full : (bs : List ℕ) (start : RecordStart) (n : ℕ) → n ≡ 0 → start.place < length bs → records_from n bs start ≡ Err (RecordCount (spot start 0))
unfolding records_from
records_full bs start n z h =
    ap (λ m. records_from m bs start) z ∙ cond-true (ltb start.place (length bs)) _ _ (lt-ltb start.place (length bs) h)

-- the file's records declare what is read so far, and behind it what the records from `start` on do
abbrev pub ReadSoFar : List ℕ → RecordStart → List Declaration → Type 0
ReadSoFar bs start before = decode bs ≡ meaning (λ ds. before ++ ds) (records_from (8 - start.index) bs start)

module _ (bs : List ℕ) (start : RecordStart) (before : List Declaration) (so : ReadSoFar bs start before) where
  pub all_read : length bs ≤ start.place → decode bs ≡ Ok before
  all_read h = so ∙ ap (meaning (λ ds. before ++ ds)) (records_ended (8 - start.index) bs start h) ∙ ap (λ (ds : List Declaration). Ok ds) (append-nil before)

  -- a record follows
  module _ (h : start.place < length bs) where
    pub ninth_read : start.index ≡ 8 → decode bs ≡ Err (RecordCount (spot start 0))
    ninth_read e = so ∙ ap (meaning (λ ds. before ++ ds)) (records_full bs start (8 - start.index) (omega arith) h)

    further : start.index < 8 → records_from (8 - start.index) bs start ≡ then (record_judged bs start) (λ d. then (records_from (8 - (start.index + 1)) bs (next_start bs start)) (λ ds. Ok (d ∷ ds)))
    further few =
        let e : 8 - start.index ≡ 8 - (start.index + 1) + 1 = omega arith in
        ap (λ (n : ℕ). records_from n bs start) e ∙ record_first (8 - (start.index + 1)) bs start h

    pub fault_read : (f : FileFault) → start.index < 8 → record_judged bs start ≡ Err f → decode bs ≡ Err f
    fault_read f few e = so ∙ ap (meaning (λ ds. before ++ ds)) (further few ∙ then_err (record_judged bs start) f _ e)

    pub sheet_read : (d : Declaration) → start.index < 8 → record_judged bs start ≡ Ok d → ReadSoFar bs (next_start bs start) (before ++ d ∷ [])
    sheet_read d few e =
        so ∙ ap (meaning (λ ds. before ++ ds)) (further few ∙ then_ok (record_judged bs start) d _ e)
        ∙ carry before d (records_from (8 - (start.index + 1)) bs (next_start bs start))

-- where reading ends
pub ruleset ends = (all_read, ninth_read)

-- a file with bytes
pub decode_some : (bs : List ℕ) → eqb (length bs) 0 ≡ false → decode bs ≡ records_from 8 bs (record { index = 0; place = 0 })
decode_some bs h = cond-false (eqb (length bs) 0) _ _ h
