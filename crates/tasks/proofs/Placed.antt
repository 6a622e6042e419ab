-- A row put among rows in sheet order, by where its like stands or where it belongs.
use Rattle.std.proofs.Common.{◌≡◌, ℕ, zero, suc, ◌<◌, ◌≤◌, true, List, [], ◌∷◌, length, get_or, set, take, ◌++◌, refl, ap, ◌∙◌, arith}
use Rattle.std.specs.List.{insert, refill}
use Rattle.std.proofs.lemmas.List.{append-nil, drop_all, length-set, take_all}
use Rattle.std.proofs.ByRecursion.{All-get_or}
use Rattle.sheets.specs.declared.row.Row.{Row}
use Rattle.sheets.specs.Rows.{before}
use Rattle.tasks.specs.Tasks.{alike, Ascending, no_row}
use Rattle.tasks.specs.Placing.{joined_copies, placed}
use Rattle.tasks.proofs.Grouping.{not_alike, not_alike_back, not_before, before_like_of, by_join, by_follow, lead_front}

-- it joins the row that it is like
pub placed-joined : (t : Row) (rs : List Row) (i : ℕ) → Ascending rs → i < length rs → alike (get_or rs i no_row) t ≡ true → placed t rs ≡ set rs i (joined_copies (get_or rs i no_row) t)
placed-joined t [] i h k a = absurd (omega arith)
placed-joined t (r ∷ rs) zero h k a = by_join t r rs a
placed-joined t (r ∷ rs) (suc i) h k a =
    let b : before r (get_or rs i no_row) ≡ true = All-get_or (λ s. before r s ≡ true) rs i no_row (omega arith) h.0 in
    let c : before r t ≡ true = before_like_of r (get_or rs i no_row) t b a in
    by_follow t r rs (not_alike r t c) (not_before r t c) ∙ ap (λ (l : List Row). r ∷ l) (placed-joined t rs i h.1 (omega arith) a)

-- it goes between the rows before it and those behind it
pub placed-inserted : (t : Row) (rs : List Row) (i : ℕ) → Ascending rs → i ≤ length rs → ((k : ℕ) → k < i → before (get_or rs k no_row) t ≡ true) → ((k : ℕ) → i ≤ k → k < length rs → before t (get_or rs k no_row) ≡ true) → placed t rs ≡ insert rs i t
placed-inserted t [] zero h k lower higher = refl
placed-inserted t [] (suc i) h k lower higher = absurd (omega arith)
placed-inserted t (r ∷ rs) zero h k lower higher =
    let b : before t r ≡ true = higher 0 (omega arith) (omega arith) in
    lead_front t r rs (not_alike_back t r b) b h
placed-inserted t (r ∷ rs) (suc i) h k lower higher =
    let b : before r t ≡ true = lower 0 (omega arith) in
    by_follow t r rs (not_alike r t b) (not_before r t b)
    ∙ ap (λ (l : List Row). r ∷ l) (placed-inserted t rs i h.1 (omega arith) (λ n p. lower (suc n) (omega arith)) (λ n p q. higher (suc n) (omega arith) (omega arith)))

-- one copy more is written into the slot
pub refill-all : (rs slots : List Row) (i : ℕ) (t : Row) → slots ≡ rs → i < length rs → refill (length rs) rs (set slots i (joined_copies (get_or slots i no_row) t)) ≡ set rs i (joined_copies (get_or rs i no_row) t)
refill-all rs slots i t e h =
    let x = joined_copies (get_or rs i no_row) t in
    let n : length (set rs i x) ≡ length rs = length-set rs i x in
    ap (λ (l : List Row). refill (length rs) rs (set l i (joined_copies (get_or l i no_row) t))) e
    ∙ ap (λ (l : List Row). take (length rs) (set rs i x ++ l)) (drop_all (length (set rs i x)) rs (omega arith))
    ∙ ap (λ (l : List Row). take (length rs) l) (append-nil (set rs i x))
    ∙ take_all (length rs) (set rs i x) (omega arith)
