use Rattle.std.proofs.Common.{◌≡◌, ℕ, ◌+◌, ◌<◌, ◌≤◌, List, [], ◌∷◌, ◌-◌, ◌++◌, length, take, drop, set, sym, ap, ◌∙◌, arith}
use Rattle.std.proofs.lemmas.List.{append_assoc, append-nil, drop_more, drop-drop, drop_at, drop_all, set_at, take_at, take_all, length_push, length-append}
use borrow.Rule.Slice.PartMut.{put_mid}
use Rattle.sheets.specs.Over.{over}

-- one element more is written
pub over_more : {X : Type 0} (first old : List X) (n : ℕ) (x : X) → n ≡ length first → length first < length old → set (over first old) n x ≡ over (first ++ x ∷ []) old
over_more {X} first old n x e h =
    ap (λ (l : List X). set (first ++ l) n x) (drop_more old (length first) x h)
    ∙ set_at first _ (drop (length first + 1) old) x n (sym e)
    ∙ sym (append_assoc first (x ∷ []) (drop (length first + 1) old))
    ∙ ap (λ (m : ℕ). (first ++ x ∷ []) ++ drop m old) (sym (length_push first x))

-- two elements more, and four
pub over_two : {X : Type 0} (first old : List X) (n : ℕ) (a b : X) → n ≡ length first → n + 2 ≤ length old → set (set (over first old) n a) (n + 1) b ≡ over (first ++ a ∷ b ∷ []) old
over_two {X} first old n a b e h =
    ap (λ (l : List X). set l (n + 1) b) (over_more first old n a e (omega arith))
    ∙ over_more (first ++ a ∷ []) old (n + 1) b (omega (arith, length_push first a)) (omega (arith, length_push first a))
    ∙ ap (λ (l : List X). over l old) (append_assoc first (a ∷ []) (b ∷ []))

pub over_four : {X : Type 0} (first old : List X) (n : ℕ) (a b c d : X) → n ≡ length first → n + 4 ≤ length old → set (set (set (set (over first old) n a) (n + 1) b) (n + 2) c) (n + 3) d ≡ over (first ++ a ∷ b ∷ c ∷ d ∷ []) old
over_four {X} first old n a b c d e h =
    let two = length-append first (a ∷ b ∷ []) in
    let i : n + 2 + 1 ≡ n + 3 = omega arith in
    ap (λ (l : List X). set (set l (n + 2) c) (n + 3) d) (over_two first old n a b e (omega arith))
    ∙ ap (λ (m : ℕ). set (set (over (first ++ a ∷ b ∷ []) old) (n + 2) c) m d) (sym i)
    ∙ over_two (first ++ a ∷ b ∷ []) old (n + 2) c d (omega (arith, two)) (omega (arith, two))
    ∙ ap (λ (l : List X). over l old) (append_assoc first (a ∷ b ∷ []) (c ∷ d ∷ []))

-- what is written behind `first` stands behind it
pub over_behind : {X : Type 0} (first part old slots written : List X) (at : ℕ) → slots ≡ over first old → at ≡ length first → written ≡ over part (take (length slots - at) (drop at slots)) → put_mid at (length slots - at) slots written ≡ over (first ++ part) old
over_behind {X} first part old slots written at s a w =
    let r = drop (length first) old in
    let k = length slots - at in
    let size = ap (λ (l : List X). length l) s ∙ length-append first r in
    let front : take at slots ≡ first = ap (take at) s ∙ take_at first r at (sym a) in
    let rest : drop at slots ≡ r = ap (drop at) s ∙ drop_at first r at (sym a) in
    let cut : take k (drop at slots) ≡ r = ap (take k) rest ∙ take_all k r (omega (arith, size, a)) in
    let none : drop k (drop at slots) ≡ [] = ap (drop k) rest ∙ drop_all k r (omega (arith, size, a)) in
    let now : written ≡ part ++ drop (length part) r = w ∙ ap (λ (l : List X). over part l) cut in
    ap (λ (l : List X). l ++ (written ++ drop k (drop at slots))) front
    ∙ ap (λ (l : List X). first ++ (l ++ drop k (drop at slots))) now
    ∙ ap (λ (l : List X). first ++ ((part ++ drop (length part) r) ++ l)) none
    ∙ ap (λ (l : List X). first ++ l) (append-nil (part ++ drop (length part) r))
    ∙ sym (append_assoc first part (drop (length part) r))
    ∙ ap (λ (l : List X). (first ++ part) ++ l) (drop-drop (length part) (length first) old ∙ ap (λ (n : ℕ). drop n old) (sym (length-append first part)))
