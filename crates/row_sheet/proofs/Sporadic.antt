use Rattle.std.proofs.Common.{◌≡◌, ℕ, zero, suc, ◌+◌, ◌-◌, ◌*◌, ◌/◌, ◌<◌, ◌≤◌, Bool, true, false, cond, ◌&&◌, ltb, leb, ◌⊎◌, List, [], ◌∷◌, length, replicate, sum_by, sym, refl, ap, ◌∙◌, inl, inr, ⊎_elim, mul_assoc, suc-mul, mul_comm, mul-le-mul_left, mul-zero, div-mul-le_self, arith}
use Rattle.std.specs.List.{AllByRecursion}
use Rattle.std.proofs.lemmas.Nat.{le-div}
use Rattle.std.proofs.ByRecursion.{All-weaker, sum_by_le}
use Rattle.std.proofs.lemmas.List.{length-replicate}
use Rattle.std.proofs.lemmas.List.Sums.{sum_by-cons}
use Rattle.std.proofs.lemmas.Bool.{and_parts, and_from, le-leb, leb-true, cond-true, cond-false, lt-ltb, le-ltb, cases_lt}
use Rattle.sheets.specs.declared.row.Row.{Row}
use Rattle.sheets.specs.Rows.{row_bound, rows_bound}
use Rattle.row_sheet.specs.Sporadic.{Sporadic, jobs_within, Behaviour, Behaviours, work, MostWork}
use Rattle.sheets.proofs.Rows.{Ranges, power_pos}

-- no release is earlier than x
abbrev From : ℕ → List ℕ → Type 0
From x [] = Unit {0}
From x (a ∷ later) = x ≤ a

from_zero : (rel : List ℕ) → From 0 rel
from_zero [] = tt
from_zero (a ∷ later) = omega arith

-- the jobs in the window are none, or k + 1 whose releases span k periods
abbrev Spans : ℕ → ℕ → ℕ → ℕ → ℕ → ℕ → Type 0
Spans t d x s e c = (c ≡ 0) ⊎ ((k : ℕ) × (c ≡ suc k) × (x + k * t + d ≤ e) × (s + k * t + d ≤ e))

rest_sporadic : (t a : ℕ) (later : List ℕ) → Sporadic t (a ∷ later) → Sporadic t later
rest_sporadic t a [] h = tt
rest_sporadic t a (b ∷ later) h = h.1

rest_from : (t a : ℕ) (later : List ℕ) → Sporadic t (a ∷ later) → From (a + t) later
rest_from t a [] h = tt
rest_from t a (b ∷ later) h = h.0

one_more : (t d x s e a c : ℕ) (in? : Bool) → (leb s a && leb (a + d) e) ≡ in? → x ≤ a → Spans t d (a + t) s e c → Spans t d x s e (cond in? 1 0 + c)
one_more t d x s e a c true p h (inl z) =
    let q = and_parts (leb s a) (leb (a + d) e) p in
    inr (0, omega arith, omega (arith, leb-true (a + d) e q.1), omega (arith, leb-true s a q.0, leb-true (a + d) e q.1))
one_more t d x s e a c true p h (inr (k, z, u, v)) =
    let q = and_parts (leb s a) (leb (a + d) e) p in
    inr (suc k, omega arith, omega (arith, suc-mul k t), omega (arith, suc-mul k t, leb-true s a q.0))
one_more t d x s e a c false p h (inl z) = inl (omega arith)
one_more t d x s e a c false p h (inr (k, z, u, v)) = inr (k, omega arith, omega arith, v)

spans : (t d x s e : ℕ) (rel : List ℕ) → Sporadic t rel → From x rel → Spans t d x s e (jobs_within d s e rel)
spans t d x s e [] h f = inl refl
spans t d x s e (a ∷ later) h f =
    let i = spans t d (a + t) s e later (rest_sporadic t a later h) (rest_from t a later h) in
    rw (sum_by-cons (λ n. cond (leb s n && leb (n + d) e) 1 0) a later) (one_more t d x s e a (jobs_within d s e later) (leb s a && leb (a + d) e) refl f i)

-- how often a task of a row can be released and due in a window of l ticks
abbrev steps : Row → ℕ → ℕ
steps r l = cond (ltb l r.deadline) 0 ((l - r.deadline) / r.period + 1)

bound_steps : (r : Row) (l : ℕ) → row_bound r l ≡ r.copies * r.budget * steps r l
bound_steps r l =
    elim (ltb l r.deadline) as (λ b. cond b 0 (r.copies * r.budget * ((l - r.deadline) / r.period + 1)) ≡ r.copies * r.budget * cond b 0 ((l - r.deadline) / r.period + 1))
    [ true ↦ sym (mul-zero (r.copies * r.budget)) | false ↦ refl ]

steps_on : (r : Row) (l : ℕ) → r.deadline ≤ l → steps r l ≡ (l - r.deadline) / r.period + 1
steps_on r l h = cond-false (ltb l r.deadline) 0 _ (le-ltb l r.deadline h)

steps_off : (r : Row) (l : ℕ) → l < r.deadline → steps r l ≡ 0
steps_off r l h = cond-true (ltb l r.deadline) 0 _ (lt-ltb l r.deadline h)

-- no sporadic task is released more often
task_most : (r : Row) (l s : ℕ) (rel : List ℕ) → Ranges r → Sporadic r.period rel → jobs_within r.deadline s (s + l) rel ≤ steps r l
task_most r l s rel g h =
    ⊎_elim (λ (z : jobs_within r.deadline s (s + l) rel ≡ 0). omega arith)
    (λ (q : (k : ℕ) × (jobs_within r.deadline s (s + l) rel ≡ suc k) × (0 + k * r.period + r.deadline ≤ s + l) × (s + k * r.period + r.deadline ≤ s + l)).
    let most = le-div q.0 (l - r.deadline) r.period (power_pos g.power) (omega (arith, q.3)) in
    omega (arith, q.1, most, steps_on r l (omega (arith, q.3))))
    (spans r.period r.deadline 0 s (s + l) rel h (from_zero rel))

row_most : (r : Row) (l s : ℕ) (b : Behaviour r) → Ranges r → r.budget * sum_by (jobs_within r.deadline s (s + l)) b.tasks ≤ row_bound r l
row_most r l s b g =
    let a = sum_by_le (jobs_within r.deadline s (s + l)) (steps r l) b.tasks (All-weaker (Sporadic r.period) (λ t. jobs_within r.deadline s (s + l) t ≤ steps r l) (λ t h. task_most r l s t g h) b.tasks b.sporadic) in
    let m = mul-le-mul_left r.budget a in
    let e : r.budget * (length b.tasks * steps r l) ≡ r.copies * r.budget * steps r l = ap (λ n. r.budget * (n * steps r l)) b.counted ∙ sym (mul_assoc r.budget r.copies (steps r l)) ∙ ap (λ n. n * steps r l) (mul_comm r.budget r.copies) in
    omega (arith, m, e, bound_steps r l)

-- n releases, as close together as may be
abbrev dense : ℕ → ℕ → ℕ → List ℕ
dense t a zero = []
dense t a (suc n) = a ∷ dense t (a + t) n

dense_sporadic : (t a n : ℕ) → Sporadic t (dense t a n)
dense_sporadic t a zero = tt
dense_sporadic t a (suc zero) = tt
dense_sporadic t a (suc (suc n)) = (omega arith, dense_sporadic t (a + t) (suc n))

dense_count : (t d s e a n : ℕ) → s ≤ a → a + n * t + d ≤ e + t → jobs_within d s e (dense t a n) ≡ n
dense_count t d s e a zero p q = refl
dense_count t d s e a (suc n) p q =
    let i = dense_count t d s e (a + t) n (omega arith) (omega (arith, suc-mul n t)) in
    let u : (leb s a && leb (a + d) e) ≡ true = and_from (leb s a) (leb (a + d) e) (le-leb s a p) (le-leb (a + d) e (omega (arith, suc-mul n t))) in
    let w = cond-true {A = ℕ} (leb s a && leb (a + d) e) 1 0 u in
    omega (arith, sum_by-cons (λ m. cond (leb s m && leb (m + d) e) 1 0) a (dense t (a + t) n), i, w)

sum_same : (f : List ℕ → ℕ) (n c : ℕ) (t : List ℕ) → f t ≡ c → sum_by f (replicate n t) ≡ n * c
sum_same f zero c t e = omega (arith, suc-mul 0 c)
sum_same f (suc n) c t e = omega (arith, sum_by-cons f t (replicate n t), sum_same f n c t e, suc-mul n c, e)

all_same : (P : List ℕ → Type 0) (n : ℕ) (t : List ℕ) → P t → AllByRecursion P (replicate n t)
all_same P zero t h = tt
all_same P (suc n) t h = (h, all_same P n t h)

task_attains : (r : Row) (l s : ℕ) → jobs_within r.deadline s (s + l) (dense r.period s (steps r l)) ≡ steps r l
task_attains r l s =
    ⊎_elim (λ (h : l < r.deadline). rw (steps_off r l h) refl)
    (λ (h : r.deadline ≤ l).
    let e = steps_on r l h in
    let m = div-mul-le_self (l - r.deadline) r.period in
    dense_count r.period r.deadline s (s + l) s (steps r l) (omega arith) (rw e (omega (arith, m, suc-mul ((l - r.deadline) / r.period) r.period))))
    (cases_lt l r.deadline)

row_attains : (r : Row) (l s : ℕ) → (b : Behaviour r) × (r.budget * sum_by (jobs_within r.deadline s (s + l)) b.tasks ≡ row_bound r l)
row_attains r l s =
    let t = dense r.period s (steps r l) in
    let e : r.budget * sum_by (jobs_within r.deadline s (s + l)) (replicate r.copies t) ≡ r.copies * r.budget * steps r l = ap (λ n. r.budget * n) (sum_same (jobs_within r.deadline s (s + l)) r.copies (steps r l) t (task_attains r l s)) ∙ sym (mul_assoc r.budget r.copies (steps r l)) ∙ ap (λ n. n * steps r l) (mul_comm r.budget r.copies) in
    (record { tasks = replicate r.copies t; counted = length-replicate r.copies t; sporadic = all_same (Sporadic r.period) r.copies t (dense_sporadic r.period s (steps r l)) }, e ∙ sym (bound_steps r l))

most : (rs : List Row) (l : ℕ) → AllByRecursion Ranges rs → (b : Behaviours rs) (s : ℕ) → work rs b s (s + l) ≤ rows_bound rs l
most [] l a b s = omega arith
most (r ∷ rs) l a b s = omega (arith, row_most r l s b.0 a.0, most rs l a.1 b.1 s, sum_by-cons (λ x. row_bound x l) r rs)

attains : (rs : List Row) (l s : ℕ) → (b : Behaviours rs) × (work rs b s (s + l) ≡ rows_bound rs l)
attains [] l s = (tt, refl)
attains (r ∷ rs) l s =
    let p = row_attains r l s in
    let q = attains rs l s in
    ((p.0, q.0), omega (arith, p.1, q.1, sum_by-cons (λ x. row_bound x l) r rs))

-- the bound of rows in their ranges is the most work that their tasks can bring
pub bound_is_most : (rs : List Row) (l : ℕ) → AllByRecursion Ranges rs → MostWork rs l (rows_bound rs l)
bound_is_most rs l a = record { never_more = most rs l a; attained = attains rs l }
