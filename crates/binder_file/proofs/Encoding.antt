use Rattle.std.proofs.Common.{◌≢◌, ◌<◌, get_or, take, ◌≡◌, ℕ, zero, suc, ◌+◌, ◌≤◌, List, [], ◌∷◌, ◌++◌, map, length, Ok, Result, sym, refl, ap, ◌∙◌, arith}
use Rattle.std.specs.List.{flat_map, AllByRecursion}
use Rattle.std.proofs.lemmas.List.{take_at, length-take, append_assoc, append-nil, length-append, length-map}
use Rattle.std.proofs.lemmas.Bool.{ne_eqb}
use Rattle.sheets.specs.declared.fault.RecordStart.{RecordStart}
use Rattle.sheets.specs.declared.fault.FileFault.{FileFault}
use Rattle.sheet_binder.specs.declared.sheet.Sheet.{Sheet}
use Rattle.sheets.specs.Faults.{then}
use Rattle.sheets.specs.Kinds.{making_judged}
use Rattle.sheets.specs.Sheets.{Declaration}
use Rattle.sheet_binder.specs.Declarations.{declared, sheets_of, declarations}
use Rattle.sheet_binder.specs.declared.binder.SheetBinder.{SheetBinder}
use Rattle.sheets.proofs.Faults.{then_ok}
use Rattle.sheets.proofs.Filling.{joined_take_more, joined_take_le, joined_map}
use Rattle.sheet_binder.specs.Sheets.{sheet_accepted}
use Rattle.binder_file.specs.Format.{next_start, records_from, record_judged, decode, record_words, record_bytes}
use Rattle.binder_file.specs.Writing.{encode}
use Rattle.binder_file.proofs.Format.{records_ended, record_first, decode_some}
use Rattle.binder_file.proofs.Words.{record_back, next_back, length_words}

-- one sheet more
pub encode_more : (ss : List Sheet) (i : ℕ) (s : Sheet) → i < length ss → s ≡ get_or ss i s → encode (map declared (take (i + 1) ss)) ≡ encode (map declared (take i ss)) ++ record_bytes (declared s)
encode_more ss i s h e =
    joined_map record_bytes declared (take (i + 1) ss) ∙ joined_take_more (λ x. record_bytes (declared x)) ss i s h
    ∙ ap (λ (x : Sheet). flat_map (λ y. record_bytes (declared y)) (take i ss) ++ record_bytes (declared x)) (sym e)
    ∙ ap (λ (l : List ℕ). l ++ record_bytes (declared s)) (sym (joined_map record_bytes declared (take i ss)))

pub encode_front : (ss : List Sheet) (i : ℕ) → length (encode (map declared (take i ss))) ≤ length (encode (map declared ss))
encode_front ss i =
    let a = ap (λ (l : List ℕ). length l) (joined_map record_bytes declared (take i ss)) in
    let b = ap (λ (l : List ℕ). length l) (joined_map record_bytes declared ss) in
    omega (arith, a, b, joined_take_le (λ x. record_bytes (declared x)) ss i)

-- a sheet that making accepts, wherever its record begins
abbrev Accepted : Declaration → Type 0
Accepted d = (start : RecordStart) → making_judged d start ≡ Ok tt

-- the records of some sheets, behind other bytes, declare those sheets
records_back : (before : List ℕ) (ds : List Declaration) (start : RecordStart) (most : ℕ) → start.place ≡ length before → length ds ≤ most → AllByRecursion Accepted ds → records_from most (before ++ encode ds) start ≡ Ok ds
records_back before [] start most at h a =
    records_ended most (before ++ []) start (omega (arith, at, ap (λ (l : List ℕ). length l) (append-nil before)))
records_back before (d ∷ ds) start zero at h a = absurd (omega arith)
records_back before (d ∷ ds) start (suc most) at h a =
    let file = before ++ (record_bytes d ++ encode ds) in
    let next = next_start file start in
    let n = length-append before (record_bytes d ++ encode ds) in
    let m = length-append (record_bytes d) (encode ds) in
    let step : records_from (most + 1) file start ≡ then (record_judged file start) (λ x. then (records_from most file next) (λ xs. Ok (x ∷ xs))) = record_first most file start (omega (arith, at, n, m, length_words (record_words d))) in
    let here : record_judged file start ≡ Ok d = record_back before (encode ds) d start at ∙ then_ok (making_judged d start) tt (λ _. Ok d) (a.0 start) in
    let k : next.place ≡ length (before ++ record_bytes d) = next_back before (encode ds) d start at ∙ sym (length-append before (record_bytes d)) in
    let rest : records_from most file next ≡ Ok ds = ap (λ (l : List ℕ). records_from most l next) (sym (append_assoc before (record_bytes d) (encode ds))) ∙ records_back (before ++ record_bytes d) ds next most k (omega arith) a.1 in
    ap (λ (c : ℕ). records_from c file start) (omega arith) ∙ step
    ∙ ap (λ (r : Result Declaration FileFault). then r (λ x. then (records_from most file next) (λ xs. Ok (x ∷ xs)))) here
    ∙ ap (λ (r : Result (List Declaration) FileFault). then r (λ xs. Ok (d ∷ xs))) rest

all_accepted : (ss : List Sheet) → AllByRecursion Accepted (map declared ss)
all_accepted [] = tt
all_accepted (s ∷ ss) = (sheet_accepted s, all_accepted ss)

some_bytes : (ss : List Sheet) → 1 ≤ length ss → 1 ≤ length (encode (map declared ss))
some_bytes [] h = absurd (omega arith)
some_bytes (s ∷ ss) h = omega (arith, length-append (record_bytes (declared s)) (encode (map declared ss)), length_words (record_words (declared s)))

-- the file of one to eight sheets reads back as those sheets
pub encode_back : (ss : List Sheet) → 1 ≤ length ss → length ss ≤ 8 → decode (encode (map declared ss)) ≡ Ok (map declared ss)
encode_back ss low high =
    decode_some (encode (map declared ss)) (ne_eqb (length (encode (map declared ss))) 0 (λ z. omega (arith, z, some_bytes ss low)))
    ∙ records_back [] (map declared ss) (record { index = 0; place = 0 }) 8 refl (omega (arith, length-map ss declared)) (all_accepted ss)

-- and so does that of a binder, at the front of a buffer
pub buffer_back : (b : SheetBinder) (file behind : List ℕ) (count : ℕ) → length (sheets_of b) ≢ 0 → file ≡ encode (declarations b) → count ≡ length file → decode (take count (file ++ behind)) ≡ Ok (declarations b)
buffer_back b file behind count some e n =
    ap decode (take_at file behind count (sym n) ∙ e)
    ∙ encode_back (sheets_of b) (omega arith) (omega (arith, b.few, length-take b.len b.sheets))
