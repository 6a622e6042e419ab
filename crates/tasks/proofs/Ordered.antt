-- Sheet order as the comparison of two keys tells it.
use Rattle.std.proofs.Common.{◌≡◌, ℕ, zero, suc, ◌<◌, ◌≤◌, true, List, [], ◌∷◌, length, get_or, Ordering, Less, Equal, Greater, nat_cmp, subst, ⊎_elim, arith}
use Rattle.std.specs.Ordering.{MatchOrdering, ordering_then, ordering_index}
use Rattle.std.specs.Cmp.{ranks}
use Rattle.std.specs.List.Sorted.{IsNonDecreasingBy, IsPartitionPoint}
use Rattle.std.proofs.ByRecursion.{All-get_or}
use Rattle.std.proofs.lemmas.Bool.Decides.{nat_tests}
use Rattle.std.proofs.lemmas.Bool.{cases_lt}
use Rattle.sheets.specs.declared.row.Row.{Row}
use Rattle.sheets.specs.Rows.{before}
use Rattle.tasks.specs.Tasks.{alike, Ascending, no_row}

-- a row's key, and how two keys compare
abbrev pub key_of : Row → ℕ × ℕ × ℕ
key_of r = (r.deadline, r.period, r.budget)

abbrev pub keys_order : ℕ × ℕ × ℕ → ℕ × ℕ × ℕ → Ordering
keys_order x y = ordering_then (ordering_then (nat_cmp x.0 y.0) (nat_cmp x.1 y.1)) (nat_cmp x.2 y.2)

abbrev key_order : Row → Row → Ordering
key_order r s = keys_order (key_of r) (key_of s)

-- the order of the rows that a comparison of their keys tells
abbrev Tells : Ordering → Row → Row → Type 0
Tells o r s = MatchOrdering o (before r s ≡ true) (alike r s ≡ true) (before s r ≡ true)

told : (a b c : Ordering) (r s : Row) → MatchOrdering a (r.deadline < s.deadline) (r.deadline ≡ s.deadline) (s.deadline < r.deadline) → MatchOrdering b (r.period < s.period) (r.period ≡ s.period) (s.period < r.period) → MatchOrdering c (r.budget < s.budget) (r.budget ≡ s.budget) (s.budget < r.budget) → Tells (ordering_then (ordering_then a b) c) r s
told Less b c r s x y z = grind (arith, nat_tests)
told Greater b c r s x y z = grind (arith, nat_tests)
told Equal Less c r s x y z = grind (arith, nat_tests)
told Equal Greater c r s x y z = grind (arith, nat_tests)
told Equal Equal Less r s x y z = grind (arith, nat_tests)
told Equal Equal Greater r s x y z = grind (arith, nat_tests)
told Equal Equal Equal r s x y z = grind (arith, nat_tests)

key_tells : (r s : Row) → Tells (key_order r s) r s
key_tells r s = told _ _ _ r s (ranks r.deadline s.deadline) (ranks r.period s.period) (ranks r.budget s.budget)

key-equal : (r s : Row) → key_order r s ≡ Equal → alike r s ≡ true
key-equal r s e = subst (λ (o : Ordering). Tells o r s) e (key_tells r s)

key-less : (r s : Row) → key_order r s ≡ Less → before r s ≡ true
key-less r s e = subst (λ (o : Ordering). Tells o r s) e (key_tells r s)

key-greater : (r s : Row) → key_order r s ≡ Greater → before s r ≡ true
key-greater r s e = subst (λ (o : Ordering). Tells o r s) e (key_tells r s)

-- of two rows in sheet order the first compares no greater
climbs : (a b : Ordering) (r s t : Row) → before r s ≡ true → Tells a r t → Tells b s t → ordering_index a ≤ ordering_index b
climbs Less b r s t h p q = omega arith
climbs Equal Less r s t h p q = absurd (grind (arith, nat_tests))
climbs Equal Equal r s t h p q = omega arith
climbs Equal Greater r s t h p q = omega arith
climbs Greater Less r s t h p q = absurd (grind (arith, nat_tests))
climbs Greater Equal r s t h p q = absurd (grind (arith, nat_tests))
climbs Greater Greater r s t h p q = omega arith

-- a row stands before each later one
ascending_at : (rs : List Row) (i j : ℕ) (d : Row) → Ascending rs → i < j → j < length rs → before (get_or rs i d) (get_or rs j d) ≡ true
ascending_at [] i j d h p q = absurd (omega arith)
ascending_at (r ∷ rs) i zero d h p q = absurd (omega arith)
ascending_at (r ∷ rs) zero (suc j) d h p q = All-get_or (λ s. before r s ≡ true) rs j d (omega arith) h.0
ascending_at (r ∷ rs) (suc i) (suc j) d h p q = ascending_at rs i j d h.1 (omega arith) (omega arith)

ascending_climbs : (t : Row) (rs : List Row) → Ascending rs → IsNonDecreasingBy (λ r. ordering_index (key_order r t)) rs
ascending_climbs t rs h i j d p q =
    ⊎_elim (λ (l : i < j). climbs _ _ (get_or rs i d) (get_or rs j d) t (ascending_at rs i j d h l q) (key_tells (get_or rs i d) t) (key_tells (get_or rs j d) t))
    (λ (l : j ≤ i). let e : i ≡ j = omega arith in subst (λ (n : ℕ). ordering_index (key_order (get_or rs i d) t) ≤ ordering_index (key_order (get_or rs n d) t)) e (omega arith))
    (cases_lt i j)

-- what a search for a row's key finds: a row that it is like, or where it belongs
module _ (t : Row) (rs : List Row) (i : ℕ) where
  pub search-found : (l : List Row) (k : ℕ × ℕ × ℕ) → l ≡ rs → k ≡ key_of t → keys_order (key_of (get_or l i no_row)) k ≡ Equal → alike (get_or rs i no_row) t ≡ true
  search-found l k e f found =
      key-equal (get_or rs i no_row) t
      (subst (λ (x : List Row). keys_order (key_of (get_or x i no_row)) (key_of t) ≡ Equal) e
      (subst (λ (x : ℕ × ℕ × ℕ). keys_order (key_of (get_or l i no_row)) x ≡ Equal) f found))

  abbrev Parted : List Row → ℕ × ℕ × ℕ → Type 0
  Parted l k =
      IsNonDecreasingBy (λ r. ordering_index (keys_order (key_of r) k)) l
      → IsPartitionPoint (λ r. keys_order (key_of r) k ≡ Less) (λ r. keys_order (key_of r) k ≡ Greater) l i

  pub search-missed : (l : List Row) (k : ℕ × ℕ × ℕ) → l ≡ rs → k ≡ key_of t → Ascending rs → Parted l k → ((n : ℕ) → n < i → before (get_or rs n no_row) t ≡ true) × ((n : ℕ) → i ≤ n → n < length rs → before t (get_or rs n no_row) ≡ true)
  search-missed l k e f h parted =
      let p = subst (λ (x : List Row). Parted x (key_of t)) e (subst (λ (x : ℕ × ℕ × ℕ). Parted l x) f parted) (ascending_climbs t rs h) in
      ((λ n q. key-less (get_or rs n no_row) t (p.0 n no_row (omega arith) q)), (λ n q m. key-greater (get_or rs n no_row) t (p.1 n no_row q m)))
