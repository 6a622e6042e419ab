use Rattle.std.specs.Prelude.{◌≡◌, ℕ, zero, suc, ◌+◌, ◌-◌, ◌<◌, ◌≤◌, Bool, cond, Some, None, Ok, Err, Option, Result, nat_le, nat_lt}
use Rattle.demand.specs.declared.verdict.TestRefusal.{TestRefusal}
use Rattle.demand.specs.declared.verdict.TestRefusal.TheVariants.{DemandExceeds, GainsExceed, SheetCount}
use Rattle.demand.specs.Fields.{from_to}

-- what the components below n have together
abbrev pub total : ℕ → (ℕ → ℕ) → ℕ
total zero f = 0
total (suc n) f = total n f + f n

-- the units that n components may demand together in a window of l ticks
abbrev pub demand : ℕ → (ℕ → ℕ → ℕ) → ℕ → ℕ
demand n bound l = total n (λ k. bound k l)

-- the first of the `more` numbers from n on that passes a test
unfoldable pub first_where : (ℕ → Bool) → ℕ → ℕ → Option ℕ
first_where test n zero = None
first_where test n (suc more) = cond (test n) (Some n) (first_where test (n + 1) more)

-- the shortest of the `more` lengths from l on that is too short for what is demanded in it
abbrev pub first_exceeded : (ℕ → ℕ) → ℕ → ℕ → Option ℕ
first_exceeded demanded l more = first_where (λ n. nat_lt n (demanded n)) l more

-- without a length that is exceeded, the gains decide
abbrev pub by_gains : Option ℕ → ℕ → Result (Unit {0}) TestRefusal
by_gains (Some l) gains = Err (DemandExceeds l)
by_gains None gains = cond (nat_le gains 4096) (Ok tt) (Err GainsExceed)

-- the admission test of a binder with this count, these bounds and these gains
abbrev pub admission : ℕ → (ℕ → ℕ → ℕ) → (ℕ → ℕ) → Result (Unit {0}) TestRefusal
admission count bound gain =
    cond (from_to 1 8 count) (by_gains (first_exceeded (demand count bound) 1 8192) (total count gain)) (Err SheetCount)

-- one to eight components that together never demand more than the core supplies
pub record DemandFits (count : ℕ) (bound : ℕ → ℕ → ℕ) : Type 0 where
  pub some : 1 ≤ count
  pub few : count ≤ 8
  pub supplied : (l : ℕ) → 1 ≤ l → demand count bound l ≤ l

-- the units that stay free in a window of l ticks
abbrev pub slack : ℕ → (ℕ → ℕ → ℕ) → ℕ → ℕ
slack count bound l = l - demand count bound l

-- `length` is the shortest length from 1 to 8,192 with the least slack, and `free` is that slack
pub record Tightest (count : ℕ) (bound : ℕ → ℕ → ℕ) (length free : ℕ) : Type 0 where
  pub low : 1 ≤ length
  pub high : length ≤ 8192
  pub here : free ≡ slack count bound length
  pub least : (l : ℕ) → 1 ≤ l → l ≤ 8192 → free ≤ slack count bound l
  pub shortest : (l : ℕ) → 1 ≤ l → l < length → free < slack count bound l
