use Rattle.std.specs.Prelude.{ℕ, ◌+◌, Bool, cond, ◌&&◌, ◌||◌, List, [], ◌∷◌, ◌==◌, nat_le}
use Rattle.sheets.specs.declared.row.Row.{Row}
use Rattle.sheets.specs.Rows.{before}
use Rattle.tasks.specs.Tasks.{alike}

-- r with t's copies beside its own
abbrev pub joined_copies : Row → Row → Row
joined_copies r t = record { period = r.period; deadline = r.deadline; budget = r.budget; copies = r.copies + t.copies }

-- t put among rows: to a row that it is like, or to its place in sheet order
abbrev pub placed : Row → List Row → List Row
placed t [] = t ∷ []
placed t (r ∷ rs) = cond (alike r t) (joined_copies r t ∷ rs) (cond (before t r) (t ∷ placed r rs) (r ∷ placed t rs))

-- no room for one more task where its like has so many copies and there are so many rows
abbrev pub no_room : ℕ → ℕ → Bool
no_room copies rows = nat_le 16 copies || (copies == 0 && nat_le 8 rows)
