use Rattle.std.specs.Prelude.{◌≡◌, ℕ, List, [], ◌∷◌, map, Ok, Err, Result}
use Rattle.sheets.specs.declared.row.Row.{Row}
use Rattle.sheets.specs.declared.fault.FileFault.{FileFault}
use Rattle.tasks.specs.declared.task.Task.{Task}
use Rattle.sheets.specs.Faults.{fault_numbers}
use Rattle.sheets.specs.Sheets.{Declaration, rows, line, bound_of}
use Rattle.tasks.specs.Tasks.{rounded, Grouped, tasks_judged}
use Rattle.binder_file.specs.Boot.{verdict_on}
use Rattle.binder_file.specs.Format.{decode}

-- the numbers of a file's fault, (0, 0, 0) where there is none
abbrev pub file_numbers : Result (List Declaration) FileFault → ℕ × ℕ × ℕ
file_numbers (Ok ds) = (0, 0, 0)
file_numbers (Err f) = fault_numbers f

-- a value that is known beforehand: of a sheet's bound at a length, of the verdict on sheets, of a file's fault, of the rows
-- made from tasks
pub data Value : Type 0 where
  bound : Declaration → ℕ → ℕ → Value
  verdict : List Declaration → ℕ × ℕ → Value
  fault : List ℕ → ℕ × ℕ × ℕ → Value
  made : List Task → List Row → Value

-- the definitions give that value
abbrev pub Agrees : Value → Type 0
Agrees (bound d l units) = bound_of d l ≡ units
Agrees (verdict ds numbers) = verdict_on ds ≡ numbers
Agrees (fault bytes numbers) = file_numbers (decode bytes) ≡ numbers
Agrees (made ts rs) = (tasks_judged ts ≡ Ok tt) × Grouped (map rounded ts) rs

abbrev task : ℕ → ℕ → ℕ → Task
task t d c = record { period = t; deadline = d; budget = c }

abbrev one_row : ℕ → ℕ → ℕ → ℕ → Declaration
one_row t d c n = rows (record { period = t; deadline = d; budget = c; copies = n } ∷ [])

abbrev one_line : ℕ → ℕ → ℕ → ℕ → Declaration
one_line d b q r = line (record { deadline = d; burst = b; per = q; rate = r })

abbrev pub reference_values : List Value
reference_values =
    bound (one_row 8 4 2 1) 3 0
    ∷ bound (one_row 8 4 2 1) 4 2
    ∷ bound (one_row 8 4 2 1) 11 2
    ∷ bound (one_row 8 4 2 1) 12 4
    ∷ bound (one_line 4 3 2 1) 3 0
    ∷ bound (one_line 4 3 2 1) 5 3
    ∷ bound (one_line 4 3 2 1) 6 4
    ∷ bound (one_line 4 3 2 1) 4096 2049
    ∷ bound (one_line 4 3 2 1) 8192 4097
    ∷ verdict (one_row 4096 1 1 1 ∷ one_row 4096 2 1 1 ∷ one_row 4096 3 1 1 ∷ []) (0, 0)
    ∷ verdict (one_row 4096 1 1 1 ∷ one_row 4096 1 1 1 ∷ []) (8, 1)
    ∷ verdict (one_line 4096 0 4 3 ∷ one_line 4096 0 4 3 ∷ []) (9, 0)
    ∷ verdict (one_row 1 1 1 1 ∷ []) (0, 0)
    ∷ verdict (one_row 4 4 5 1 ∷ []) (8, 4)
    ∷ fault (0x0a ∷ 0x00 ∷ 0x01 ∷ 0x00 ∷ 0x08 ∷ 0x00 ∷ 0x09 ∷ 0x00 ∷ 0x02 ∷ 0x00 ∷ 0x01 ∷ 0x00 ∷ []) (4, 0, 6)
    ∷ fault [] (6, 0, 0)
    ∷ made (task 10 7 3 ∷ task 12 5 4 ∷ []) (record { period = 8; deadline = 4; budget = 4; copies = 2 } ∷ [])
    ∷ []
