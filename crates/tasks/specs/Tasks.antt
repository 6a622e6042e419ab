use Rattle.std.specs.Prelude.{◌≡◌, ℕ, zero, suc, ◌+◌, ◌^◌, ◌≤◌, Bool, true, cond, not, ◌&&◌, ◌||◌, List, [], ◌∷◌, ◌++◌, map, length, take, Some, None, Ok, Err, sum_by, count_by, codes, decimal, Option, Result, ◌==◌, nat_le, nat_lt, slice_index_or}
use Rattle.std.specs.List.{AllByRecursion}
use Rattle.sheets.specs.declared.row.Row.{Row}
use Rattle.tasks.specs.declared.task.Task.{Task}
use Rattle.tasks.specs.declared.task.MakeRefusal.{MakeRefusal}
use Rattle.tasks.specs.declared.task.MakeRefusal.TheVariants.{TaskOutOfRange, NoRoom}
use Rattle.demand.specs.Admission.{total, first_where}
use Rattle.sheets.specs.Faults.{then}
use Rattle.demand.specs.Fields.{from_to}
use Rattle.sheets.specs.Rows.{before}

-- a refusal's number and index
abbrev pub make_numbers : MakeRefusal → ℕ × ℕ
make_numbers (TaskOutOfRange i) = (18, i)
make_numbers (NoRoom i) = (19, i)

-- and what it says
abbrev pub make_words : MakeRefusal → List ℕ
make_words (TaskOutOfRange i) = codes "task " ++ (decimal i ++ codes " is out of range")
make_words (NoRoom i) = codes "task " ++ (decimal i ++ codes " needs a ninth row or a seventeenth copy")

-- the largest of 2 ^ 0, .., 2 ^ e that is at most x, and the smallest that is at least x
abbrev pub power_below : ℕ → ℕ → ℕ
power_below zero x = 1
power_below (suc e) x = cond (nat_le (2 ^ suc e) x) (2 ^ suc e) (power_below e x)

abbrev pub power_above : ℕ → ℕ → ℕ
power_above zero x = 1
power_above (suc e) x = cond (nat_le x (2 ^ e)) (power_above e x) (2 ^ suc e)

-- a task that is in range
abbrev pub task_sound : Task → Bool
task_sound t = from_to 1 8191 t.period && (from_to 1 t.period t.deadline && from_to 1 4096 t.budget)

-- the row of one task alone: period and deadline rounded down to a power of two, the budget rounded up to one
abbrev pub rounded : Task → Row
rounded t = record { period = power_below 12 t.period; deadline = power_below 12 t.deadline; budget = power_above 12 t.budget; copies = 1 }

-- r and s differ in nothing but their copies
abbrev pub alike : Row → Row → Bool
alike r s = r.period == s.period && (r.deadline == s.deadline && r.budget == s.budget)

-- how many rows of a list are like r, and how many copies such rows have together
abbrev pub how_many : Row → List Row → ℕ
how_many r rs = count_by (alike r) rs

abbrev pub copies_of : Row → List Row → ℕ
copies_of r rs = sum_by (λ s. cond (alike r s) s.copies 0) rs

-- strictly in sheet order: each row stands before all that follow
abbrev pub Ascending : List Row → Type 0
Ascending [] = Unit {0}
Ascending (r ∷ rs) = AllByRecursion (λ s. before r s ≡ true) rs × Ascending rs

-- rs are the rounded tasks ks, grouped and counted, in sheet order
pub record Grouped (ks rs : List Row) : Type 0 where
  pub ordered : Ascending rs
  pub present : AllByRecursion (λ r. 1 ≤ r.copies) rs
  pub counted : (k : Row) → copies_of k rs ≡ how_many k ks

-- stands behind the end of a list, and is never asked for
abbrev pub no_row : Row
no_row = record { period = 0; deadline = 0; budget = 0; copies = 0 }

-- how many different rounded tasks the first n are: those that are like none before them
abbrev pub different : List Row → ℕ → ℕ
different ks n = total n (λ i. cond (how_many (slice_index_or ks i no_row) (take i ks) == 0) 1 0)

-- with task i, the tasks so far need a ninth row or a seventeenth copy
abbrev pub crowded : List Row → ℕ → Bool
crowded ks i = nat_lt 8 (different ks (i + 1)) || nat_lt 16 (how_many (slice_index_or ks i no_row) (take (i + 1) ks))

-- the first index that fails, as a refusal
abbrev pub refused_by : (ℕ → MakeRefusal) → Option ℕ → Result (Unit {0}) MakeRefusal
refused_by refusal None = Ok tt
refused_by refusal (Some i) = Err (refusal i)

-- likewise
abbrev pub no_task : Task
no_task = record { period = 0; deadline = 0; budget = 0 }

-- the list's size, then every task's range
abbrev pub tasks_in_range : List Task → Result (Unit {0}) MakeRefusal
tasks_in_range ts =
    cond (length ts == 0) (Err (TaskOutOfRange 0))
    (cond (nat_lt 64 (length ts)) (Err (TaskOutOfRange 64))
    (refused_by TaskOutOfRange (first_where (λ i. not (task_sound (slice_index_or ts i no_task))) 0 (length ts))))

-- then the rows and copies that the tasks need
abbrev pub tasks_judged : List Task → Result (Unit {0}) MakeRefusal
tasks_judged ts =
    then (tasks_in_range ts) (λ _. refused_by NoRoom (first_where (crowded (map rounded ts)) 0 (length ts)))
