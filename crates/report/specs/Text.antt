use Rattle.std.specs.Prelude.{◌≡◌, ℕ, ◌+◌, ◌-◌, List, [], ◌∷◌, ◌++◌, length, Ok, Err, codes, decimal, Result}
use Rattle.std.specs.List.{flat_map}
use Rattle.sheets.specs.declared.row.Row.{Row}
use Rattle.sheets.specs.declared.line.Line.{Line}
use Rattle.sheets.specs.declared.fault.FileFault.{FileFault}
use Rattle.demand.specs.declared.verdict.TestRefusal.{TestRefusal}
use Rattle.demand.specs.declared.verdict.TestRefusal.TheVariants.{DemandExceeds, GainsExceed}
use Rattle.sheets.specs.Faults.{fault_numbers, fault_words}
use Rattle.sheets.specs.Rows.{rows_gain, row_words}
use Rattle.sheets.specs.Lines.{line_gain, line_words}
use Rattle.sheets.specs.Sheets.{Declaration, rows, line, component_bound, component_gain}
use Rattle.demand.specs.Verdicts.{refusal_numbers, refusal_words}
use Rattle.demand.specs.Admission.{total, demand, admission, Tightest}

-- the line for a fault: its number, its place, its record and what is wrong
abbrev pub fault_line : FileFault → List ℕ
fault_line f =
    codes "file " ++ (decimal (fault_numbers f).0 ++ (codes " at " ++ (decimal (fault_numbers f).2 ++ (codes ": record " ++ (decimal (fault_numbers f).1 ++ (codes " " ++ (fault_words f ++ codes "\n")))))))

-- a sheet: its kind and gain, then its fields
abbrev pub row_line : Row → List ℕ
row_line r = codes "  " ++ (row_words r ++ codes "\n")

abbrev pub sheet_head : ℕ → List ℕ → ℕ → List ℕ
sheet_head i kind gain = codes "sheet " ++ (decimal i ++ (codes ": " ++ (kind ++ (codes ", gain " ++ (decimal gain ++ codes "\n")))))

abbrev pub line_line : Line → List ℕ
line_line x = codes "  " ++ (line_words x ++ codes "\n")

abbrev pub sheet_text : ℕ → Declaration → List ℕ
sheet_text i (rows rs) = sheet_head i (codes "rows") (rows_gain rs) ++ flat_map row_line rs
sheet_text i (line x) = sheet_head i (codes "line") (line_gain x) ++ line_line x

-- the sheets, numbered from i on
abbrev pub sheets_text : ℕ → List Declaration → List ℕ
sheets_text i [] = []
sheets_text i (d ∷ ds) = sheet_text i d ++ sheets_text (i + 1) ds

abbrev pub gains_line : ℕ → List ℕ
gains_line gains = codes "gains " ++ (decimal gains ++ codes " of 4096\n")

-- the least slack and the shortest length that has it; what follows says how it goes on
abbrev pub least_line : ℕ → ℕ → List ℕ → List ℕ
least_line l free goes_on = codes "least slack " ++ (decimal free ++ (codes " at length " ++ (decimal l ++ (goes_on ++ codes "\n"))))

-- by how much a length is exceeded
abbrev pub excess_line : ℕ → ℕ → List ℕ
excess_line l excess = codes "exceeded by " ++ (decimal excess ++ (codes " at length " ++ (decimal l ++ codes "\n")))

-- the line on the slack, by the admission test's verdict
abbrev pub slack_line : Result (Unit {0}) TestRefusal → (ℕ → ℕ) → ℕ → ℕ → List ℕ
slack_line (Err (DemandExceeds x)) demanded l free = excess_line x (demanded x - x)
slack_line (Err GainsExceed) demanded l free = least_line l free (codes ", and it falls without end")
slack_line verdict demanded l free = least_line l free (codes "")

abbrev pub verdict_line : Result (Unit {0}) TestRefusal → List ℕ
verdict_line (Ok _) = codes "admitted\n"
verdict_line (Err e) = codes "refused " ++ (decimal (refusal_numbers e).0 ++ (codes " at " ++ (decimal (refusal_numbers e).1 ++ (codes ": " ++ (refusal_words e ++ codes "\n")))))

-- what is said of a list of sheets
pub record Summary (ds : List Declaration) (text : List ℕ) : Type 0 where
  pub length_of_least_slack : ℕ
  pub least_slack : ℕ
  pub tightest : Tightest (length ds) (component_bound ds) length_of_least_slack least_slack
  pub lines : text ≡ sheets_text 0 ds ++ (gains_line (total (length ds) (component_gain ds)) ++ (slack_line (admission (length ds) (component_bound ds) (component_gain ds)) (demand (length ds) (component_bound ds)) length_of_least_slack least_slack ++ verdict_line (admission (length ds) (component_bound ds) (component_gain ds))))

-- what is said of a file: of its sheets, or of its fault
abbrev pub Reported : Result (List Declaration) FileFault → List ℕ → Type 0
Reported (Ok ds) text = Summary ds text
Reported (Err f) text = text ≡ fault_line f
