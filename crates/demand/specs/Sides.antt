use Rattle.std.specs.Prelude.{ℕ, ◌+◌, ◌-◌, min, if◌then◌else◌, Some, None, Option, nat_lt}
use Rattle.demand.specs.declared.side_by_side.Side.{Side}
use Rattle.demand.specs.declared.side_by_side.Side.TheVariants.{First, Second}

-- how many components n and m have together, 9 for nine or more
abbrev pub side_count : ℕ → ℕ → ℕ
side_count n m = min 9 (n + m)

-- the side that has component k, and its number there: the first n components are the first's, and the m that follow the second's
abbrev pub side_of : ℕ → ℕ → ℕ → Option Side
side_of n m k = if nat_lt k (side_count n m) then Some (if nat_lt k n then First k else Second (k - n)) else None

-- what f says of a component of the first and g of one of the second, 0 where there is none
abbrev pub by_side : (ℕ → ℕ) → (ℕ → ℕ) → Option Side → ℕ
by_side f g (Some (First i)) = f i
by_side f g (Some (Second i)) = g i
by_side f g None = 0

-- what component k has, where f says it of the first n components and g of the m that follow
abbrev pub side_value : ℕ → ℕ → (ℕ → ℕ) → (ℕ → ℕ) → ℕ → ℕ
side_value n m f g k = by_side f g (side_of n m k)
