use Rattle.std.specs.Prelude.{ℕ, zero, suc, ◌+◌, ◌-◌, ◌*◌, ◌/◌, ◌%◌, Bool, cond, ◌&&◌, ◌||◌, List, [], ◌∷◌, map, length, Ok, Err, Result, ◌==◌, nat_le, nat_lt, slice_index}
use Rattle.std.specs.List.{range_with_len, flat_map}
use Rattle.sheets.specs.declared.fault.RecordStart.{RecordStart}
use Rattle.sheets.specs.declared.fault.FileFault.{FileFault}
use Rattle.sheets.specs.declared.fault.FileFault.TheVariants.{CutShort, UnknownKind, WrongLength, RecordCount}
use Rattle.sheets.specs.Faults.{spot, then}
use Rattle.sheets.specs.Sheets.{Declaration}
use Rattle.sheets.specs.Kinds.{rows_record, line_record, kind_of, fields_of}

-- a number of two bytes, the low byte first
abbrev pub word_at : List ℕ → ℕ → ℕ
word_at bs place = slice_index bs place + slice_index bs (place + 1) * 256

-- n fields of two bytes each
abbrev pub fields_at : List ℕ → ℕ → ℕ → List ℕ
fields_at bs place n = map (λ i. word_at bs (place + 2 * i)) (range_with_len 0 n)

-- a record's length, which counts the bytes behind itself, and its kind
abbrev pub length_at : List ℕ → RecordStart → ℕ
length_at bs start = word_at bs start.place

abbrev pub kind_at : List ℕ → RecordStart → ℕ
kind_at bs start = word_at bs (start.place + 2)

-- fewer than four bytes remain, or the length passes the end
abbrev pub ends_inside : List ℕ → RecordStart → Bool
ends_inside bs start = nat_lt (length bs) (start.place + 4) || nat_lt (length bs) (start.place + 2 + length_at bs start)

-- a kind of two bytes and whole fields
abbrev pub whole_fields : ℕ → Bool
whole_fields n = nat_le 2 n && n % 2 == 0

-- the body of a record, by the rules of its kind
abbrev pub body_judged : (List ℕ → RecordStart → Result Declaration FileFault) → List ℕ → RecordStart → Result Declaration FileFault
body_judged judged bs start =
    cond (whole_fields (length_at bs start)) (judged (fields_at bs (start.place + 4) ((length_at bs start - 2) / 2)) start)
    (Err (WrongLength (spot start 0)))

abbrev pub kind_judged : List ℕ → RecordStart → Result Declaration FileFault
kind_judged bs start =
    cond (kind_at bs start == 1) (body_judged rows_record bs start)
    (cond (kind_at bs start == 2) (body_judged line_record bs start) (Err (UnknownKind (spot start 0))))

-- the sheet that one record declares
abbrev pub record_judged : List ℕ → RecordStart → Result Declaration FileFault
record_judged bs start = cond (ends_inside bs start) (Err (CutShort (spot start 0))) (kind_judged bs start)

-- where the next record begins
abbrev pub next_start : List ℕ → RecordStart → RecordStart
next_start bs start = record { index = start.index + 1; place = start.place + 2 + length_at bs start }

-- the sheets of the records from `start` to the file's end, at most `most` of them
unfoldable pub records_from : ℕ → List ℕ → RecordStart → Result (List Declaration) FileFault
records_from zero bs start = cond (nat_lt start.place (length bs)) (Err (RecordCount (spot start 0))) (Ok [])
records_from (suc most) bs start =
    cond (nat_lt start.place (length bs))
    (then (record_judged bs start) (λ d. then (records_from most bs (next_start bs start)) (λ ds. Ok (d ∷ ds))))
    (Ok [])

-- the sheets that a file declares: one to eight
abbrev pub decode : List ℕ → Result (List Declaration) FileFault
decode bs = cond (length bs == 0) (Err (RecordCount (record { index = 0; place = 0 }))) (records_from 8 bs (record { index = 0; place = 0 }))

-- a number as two bytes, the low byte first
abbrev pub word_bytes : ℕ → List ℕ
word_bytes w = w % 256 ∷ w / 256 ∷ []

-- the record of a sheet: its length, its kind and its fields
abbrev pub record_words : Declaration → List ℕ
record_words d = (2 + 2 * length (fields_of d)) ∷ kind_of d ∷ fields_of d

abbrev pub record_bytes : Declaration → List ℕ
record_bytes d = flat_map word_bytes (record_words d)
