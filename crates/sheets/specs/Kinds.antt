use Rattle.std.specs.Prelude.{ℕ, ◌+◌, ◌*◌, ◌/◌, ◌%◌, cond, List, [], ◌∷◌, map, length, Ok, Err, Result, ◌==◌, slice_index}
use Rattle.std.specs.List.{range_with_len, flat_map}
use Rattle.sheets.specs.declared.row.Row.{Row}
use Rattle.sheets.specs.declared.line.Line.{Line}
use Rattle.sheets.specs.declared.fault.RecordStart.{RecordStart}
use Rattle.sheets.specs.declared.fault.FileFault.{FileFault}
use Rattle.sheets.specs.declared.fault.FileFault.TheVariants.{WrongLength}
use Rattle.sheets.specs.Faults.{spot, then}
use Rattle.sheets.specs.Rows.{rows_judged}
use Rattle.sheets.specs.Lines.{line_judged}
use Rattle.sheets.specs.Sheets.{Declaration, rows, line}

-- row i of the fields of a record, four fields each
abbrev pub row_at : List ℕ → ℕ → Row
row_at fs i =
    record { period = slice_index fs (4 * i); deadline = slice_index fs (4 * i + 1); budget = slice_index fs (4 * i + 2); copies = slice_index fs (4 * i + 3) }

abbrev pub rows_in : List ℕ → List Row
rows_in fs = map (row_at fs) (range_with_len 0 (length fs / 4))

abbrev pub line_in : List ℕ → Line
line_in fs = record { deadline = slice_index fs 0; burst = slice_index fs 1; per = slice_index fs 2; rate = slice_index fs 3 }

-- what the fields of a record of rows declare
abbrev pub rows_record : List ℕ → RecordStart → Result Declaration FileFault
rows_record fs start =
    cond (length fs % 4 == 0) (then (rows_judged (rows_in fs) start) (λ _. Ok (rows (rows_in fs)))) (Err (WrongLength (spot start 0)))

-- what the fields of a record of a line declare
abbrev pub line_record : List ℕ → RecordStart → Result Declaration FileFault
line_record fs start =
    cond (length fs == 4) (then (line_judged (line_in fs) start) (λ _. Ok (line (line_in fs)))) (Err (WrongLength (spot start 0)))

-- the number that names the kind of a sheet in a file
abbrev pub kind_of : Declaration → ℕ
kind_of (rows rs) = 1
kind_of (line x) = 2

-- the fields of a sheet in file order
abbrev pub row_fields_of : Row → List ℕ
row_fields_of r = r.period ∷ r.deadline ∷ r.budget ∷ r.copies ∷ []

abbrev pub fields_of : Declaration → List ℕ
fields_of (rows rs) = flat_map row_fields_of rs
fields_of (line x) = x.deadline ∷ x.burst ∷ x.per ∷ x.rate ∷ []

-- the answer to making a sheet of these fields: that to a record of them at `start`
abbrev pub making_judged : Declaration → RecordStart → Result (Unit {0}) FileFault
making_judged (rows rs) start = rows_judged rs start
making_judged (line x) start = line_judged x start
