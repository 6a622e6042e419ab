use Rattle.std.proofs.Common.{◌≡◌, ℕ, ◌+◌, ◌≤◌, Bool, true, false, cond, ◌&&◌, eqb, List, [], ◌∷◌, ◌++◌, length, sym, refl, ap, ◌∙◌, subst, ⊎_elim, arith}
use Rattle.std.specs.List.{AllByRecursion}
use Rattle.std.proofs.ByRecursion.{All-weaker}
use Rattle.std.proofs.lemmas.List.Sums.{sum_by-cons, sum_by-append}
use Rattle.std.proofs.lemmas.Bool.{cond-true, cond-false, and_parts, and_from, eqb-true, eq-eqb, ne_eqb, cases_Bool}
use Rattle.std.proofs.lemmas.Bool.Decides.{nat_tests}
use Rattle.sheets.specs.declared.row.Row.{Row}
use Rattle.sheets.specs.Rows.{before}
use Rattle.tasks.specs.Placing.{joined_copies, placed}
use Rattle.sheets.proofs.Records.{same_four}
use Rattle.tasks.specs.Tasks.{alike, how_many, copies_of, Ascending, Grouped}

-- rows that are alike
pub alike_parts : (r s : Row) → alike r s ≡ true → (r.period ≡ s.period) × (r.deadline ≡ s.deadline) × (r.budget ≡ s.budget)
alike_parts r s h =
    let a = and_parts (eqb r.period s.period) (eqb r.deadline s.deadline && eqb r.budget s.budget) h in
    let b = and_parts (eqb r.deadline s.deadline) (eqb r.budget s.budget) a.1 in
    (eqb-true r.period s.period a.0, eqb-true r.deadline s.deadline b.0, eqb-true r.budget s.budget b.1)

-- a row is like those that are like one that it is like
alike_through : (k r s : Row) → alike r s ≡ true → alike k r ≡ alike k s
alike_through k r s h =
    let p = alike_parts r s h in
    ap (λ n. eqb k.period n && (eqb k.deadline r.deadline && eqb k.budget r.budget)) p.0
    ∙ ap (λ n. eqb k.period s.period && (eqb k.deadline n && eqb k.budget r.budget)) p.1
    ∙ ap (λ n. eqb k.period s.period && (eqb k.deadline s.deadline && eqb k.budget n)) p.2

alike_swap : (r s : Row) → alike r s ≡ true → alike s r ≡ true
alike_swap r s h = grind (arith, nat_tests)

-- sheet order: of two rows that are not alike one stands before the other, and no row before one like it
trichotomy : (r s : Row) → alike r s ≡ false → before s r ≡ false → before r s ≡ true
trichotomy r s a b = grind (arith, nat_tests)

pub not_alike : (r s : Row) → before r s ≡ true → alike r s ≡ false
not_alike r s h = grind (arith, nat_tests)

pub not_alike_back : (r s : Row) → before r s ≡ true → alike s r ≡ false
not_alike_back r s h = grind (arith, nat_tests)

like_before : (s r x : Row) → alike s r ≡ true → before s x ≡ true → before r x ≡ true
like_before s r x p h = grind (arith, nat_tests)

pub before_like_of : (r s t : Row) → before r s ≡ true → alike s t ≡ true → before r t ≡ true
before_like_of r s t h p = grind (arith, nat_tests)

pub not_before : (r s : Row) → before r s ≡ true → before s r ≡ false
not_before r s h = grind (arith, nat_tests)

before_through : (r s t : Row) → before r s ≡ true → before s t ≡ true → before r t ≡ true
before_through r s t p q = grind (arith, nat_tests)

-- the three ways of placing it
data Way (t r : Row) : Type 0 where
  joins : alike r t ≡ true → Way t r
  leads : alike r t ≡ false → before t r ≡ true → Way t r
  follows : alike r t ≡ false → before r t ≡ true → before t r ≡ false → Way t r

way : (t r : Row) → Way t r
way t r =
    ⊎_elim (λ (a : alike r t ≡ true). joins a)
    (λ (a : alike r t ≡ false). ⊎_elim (λ (b : before t r ≡ true). leads a b) (λ (b : before t r ≡ false). follows a (trichotomy r t a b) b) (cases_Bool (before t r)))
    (cases_Bool (alike r t))

pub by_join : (t r : Row) (rs : List Row) → alike r t ≡ true → placed t (r ∷ rs) ≡ joined_copies r t ∷ rs
by_join t r rs a = cond-true (alike r t) _ _ a

by_lead : (t r : Row) (rs : List Row) → alike r t ≡ false → before t r ≡ true → placed t (r ∷ rs) ≡ t ∷ placed r rs
by_lead t r rs a b = cond-false (alike r t) _ _ a ∙ cond-true (before t r) _ _ b

pub by_follow : (t r : Row) (rs : List Row) → alike r t ≡ false → before t r ≡ false → placed t (r ∷ rs) ≡ r ∷ placed t rs
by_follow t r rs a b = cond-false (alike r t) _ _ a ∙ cond-false (before t r) _ _ b

-- a row that stands before all others comes first
placed_front : (t : Row) (rs : List Row) → AllByRecursion (λ s. before t s ≡ true) rs → Ascending rs → placed t rs ≡ t ∷ rs
placed_front t [] a h = refl
placed_front t (r ∷ rs) a h =
    by_lead t r rs (not_alike_back t r a.0) a.0 ∙ ap (λ (l : List Row). t ∷ l) (placed_front r rs h.0 h.1)

before_all : (t r : Row) (rs : List Row) → before t r ≡ true → AllByRecursion (λ s. before r s ≡ true) rs → AllByRecursion (λ s. before t s ≡ true) rs
before_all t r rs b a = All-weaker (λ s. before r s ≡ true) (λ s. before t s ≡ true) (λ s h. before_through t r s b h) rs a

pub lead_front : (t r : Row) (rs : List Row) → alike r t ≡ false → before t r ≡ true → Ascending (r ∷ rs) → placed t (r ∷ rs) ≡ t ∷ r ∷ rs
lead_front t r rs a b h = by_lead t r rs a b ∙ ap (λ (l : List Row). t ∷ l) (placed_front r rs h.0 h.1)

-- what stands before t and before all rows stands before them with t among them
all_before : (x t : Row) (rs : List Row) → before x t ≡ true → AllByRecursion (λ s. before x s ≡ true) rs → AllByRecursion (λ s. before x s ≡ true) (placed t rs)
all_before x t [] b a = (b, tt)
all_before x t (r ∷ rs) b a =
    elim (way t r) [
      | joins p ↦ subst (λ (l : List Row). AllByRecursion (λ s. before x s ≡ true) l) (sym (by_join t r rs p)) (a.0, a.1)
      | leads p q ↦ subst (λ (l : List Row). AllByRecursion (λ s. before x s ≡ true) l) (sym (by_lead t r rs p q)) (b, all_before x r rs a.0 a.1)
      | follows p q n ↦ subst (λ (l : List Row). AllByRecursion (λ s. before x s ≡ true) l) (sym (by_follow t r rs p n)) (a.0, all_before x t rs b a.1)
    ]

pub placed_ascending : (t : Row) (rs : List Row) → Ascending rs → Ascending (placed t rs)
placed_ascending t [] h = (tt, tt)
placed_ascending t (r ∷ rs) h =
    elim (way t r) [
      | joins p ↦ subst Ascending (sym (by_join t r rs p)) (h.0, h.1)
      | leads p q ↦ subst Ascending (sym (lead_front t r rs p q h)) ((q, before_all t r rs q h.0), h)
      | follows p q n ↦ subst Ascending (sym (by_follow t r rs p n)) (all_before r t rs q h.0, placed_ascending t rs h.1)
    ]

-- copies of t are added, and no others
copies_cons : (k r : Row) (rs : List Row) → copies_of k (r ∷ rs) ≡ cond (alike k r) r.copies 0 + copies_of k rs
copies_cons k r rs = sum_by-cons (λ s. cond (alike k s) s.copies 0) r rs

two_copies : (b : Bool) (m n : ℕ) → cond b (m + n) 0 ≡ cond b m 0 + cond b n 0
two_copies true m n = refl
two_copies false m n = refl

pub placed_copies : (k t : Row) (rs : List Row) → copies_of k (placed t rs) ≡ copies_of k rs + cond (alike k t) t.copies 0
placed_copies k t [] = omega (arith, copies_cons k t [])
placed_copies k t (r ∷ rs) =
    elim (way t r) [
      | joins p ↦
          let e = two_copies (alike k r) r.copies t.copies in
          let s = ap (λ (b : Bool). cond b t.copies 0) (alike_through k r t p) in
          omega (arith, ap (copies_of k) (by_join t r rs p), copies_cons k (joined_copies r t) rs, copies_cons k r rs, e, s)
      | leads p q ↦ omega (arith, ap (copies_of k) (by_lead t r rs p q), copies_cons k t (placed r rs), copies_cons k r rs, placed_copies k r rs)
      | follows p q n ↦ omega (arith, ap (copies_of k) (by_follow t r rs p n), copies_cons k r (placed t rs), copies_cons k r rs, placed_copies k t rs)
    ]

-- what holds of every row and of t holds with t among them, if it holds of a row that t joins
pub placed_all : (P : Row → Type 0) (t : Row) (rs : List Row) → Ascending rs → P t → AllByRecursion (λ r. P r × (alike r t ≡ true → P (joined_copies r t))) rs → AllByRecursion P (placed t rs)
placed_all P t [] h p a = (p, tt)
placed_all P t (r ∷ rs) h p a =
    elim (way t r) [
      | joins q ↦ subst (AllByRecursion P) (sym (by_join t r rs q)) (a.0.1 q, All-weaker (λ s. P s × (alike s t ≡ true → P (joined_copies s t))) P (λ s x. x.0) rs a.1)
      | leads q b ↦ subst (AllByRecursion P) (sym (lead_front t r rs q b h)) (p, (a.0.0, All-weaker (λ s. P s × (alike s t ≡ true → P (joined_copies s t))) P (λ s x. x.0) rs a.1))
      | follows q b n ↦ subst (AllByRecursion P) (sym (by_follow t r rs q n)) (a.0.0, placed_all P t rs h.1 p a.1)
    ]

-- no row like t has more copies than all of them together
pub copies_most : (t : Row) (rs : List Row) → AllByRecursion (λ r. alike r t ≡ true → r.copies ≤ copies_of t rs) rs
copies_most t [] = tt
copies_most t (r ∷ rs) = (
  (λ a. omega (arith, copies_cons t r rs, cond-true {A = ℕ} (alike t r) r.copies 0 (alike_swap r t a))),
  All-weaker (λ s. alike s t ≡ true → s.copies ≤ copies_of t rs) (λ s. alike s t ≡ true → s.copies ≤ copies_of t (r ∷ rs)) (λ s f a. omega (arith, f a, copies_cons t r rs)) rs (copies_most t rs),
)

-- a row is new exactly where none like it has copies
none_alike : (t : Row) (rs : List Row) → AllByRecursion (λ s. before t s ≡ true) rs → copies_of t rs ≡ 0
none_alike t [] a = refl
none_alike t (r ∷ rs) a = omega (arith, copies_cons t r rs, cond-false {A = ℕ} (alike t r) r.copies 0 (not_alike t r a.0), none_alike t rs a.1)

pub placed_length : (t : Row) (rs : List Row) → Ascending rs → AllByRecursion (λ r. 1 ≤ r.copies) rs → length (placed t rs) ≡ length rs + cond (eqb (copies_of t rs) 0) 1 0
placed_length t [] h a = refl
placed_length t (r ∷ rs) h a =
    elim (way t r) [
      | joins p ↦
          let c = cond-true {A = ℕ} (alike t r) r.copies 0 (alike_swap r t p) in
          let n : eqb (copies_of t (r ∷ rs)) 0 ≡ false = ne_eqb (copies_of t (r ∷ rs)) 0 (λ z. omega (arith, z, c, copies_cons t r rs, a.0)) in
          omega (arith, ap (λ (l : List Row). length l) (by_join t r rs p), cond-false {A = ℕ} (eqb (copies_of t (r ∷ rs)) 0) 1 0 n)
      | leads p q ↦
          let n : eqb (copies_of t (r ∷ rs)) 0 ≡ true = eq-eqb (copies_of t (r ∷ rs)) 0 (none_alike t (r ∷ rs) (q, before_all t r rs q h.0)) in
          omega (arith, ap (λ (l : List Row). length l) (lead_front t r rs p q h), cond-true {A = ℕ} (eqb (copies_of t (r ∷ rs)) 0) 1 0 n)
      | follows p q n ↦
          let c = cond-false {A = ℕ} (alike t r) r.copies 0 (not_alike_back r t q) in
          let e : copies_of t (r ∷ rs) ≡ copies_of t rs = omega (arith, c, copies_cons t r rs) in
          omega (arith, ap (λ (l : List Row). length l) (by_follow t r rs p n), placed_length t rs h.1 a.1, ap (λ m. cond {A = ℕ} (eqb m 0) 1 0) e)
    ]

how_many_more : (k t : Row) (ks : List Row) → t.copies ≡ 1 → how_many k (ks ++ t ∷ []) ≡ how_many k ks + cond (alike k t) t.copies 0
how_many_more k t ks e =
    let one = ap (λ (n : ℕ). cond (alike k t) n 0) e in
    omega (arith, sum_by-append (λ s. cond (alike k s) 1 0) ks (t ∷ []), one)

-- one task more
pub grouped_more : (ks rs : List Row) (t : Row) → t.copies ≡ 1 → Grouped ks rs → Grouped (ks ++ t ∷ []) (placed t rs)
grouped_more ks rs t e g =
    record {
      ordered = placed_ascending t rs g.ordered;
      present = placed_all (λ r. 1 ≤ r.copies) t rs g.ordered (omega arith) (All-weaker (λ r. 1 ≤ r.copies) (λ r. (1 ≤ r.copies) × (alike r t ≡ true → 1 ≤ r.copies + t.copies)) (λ r h. (h, λ _. omega arith)) rs g.present);
      counted = λ k. omega (arith, placed_copies k t rs, g.counted k, how_many_more k t ks e);
    }

-- there is only one way to group
behind_none : (t r : Row) (rs : List Row) → before t r ≡ true → AllByRecursion (λ s. before r s ≡ true) rs → copies_of t (r ∷ rs) ≡ 0
behind_none t r rs b a = none_alike t (r ∷ rs) (b, before_all t r rs b a)

own_copies : (r : Row) (rs : List Row) → AllByRecursion (λ s. before r s ≡ true) rs → copies_of r (r ∷ rs) ≡ r.copies
own_copies r rs a =
    omega (arith, copies_cons r r rs, none_alike r rs a, cond-true {A = ℕ} (alike r r) r.copies 0 (and_from _ _ (eq-eqb r.period r.period refl) (and_from _ _ (eq-eqb r.deadline r.deadline refl) (eq-eqb r.budget r.budget refl))))

pub same_row : (r s : Row) → r.period ≡ s.period → r.deadline ≡ s.deadline → r.budget ≡ s.budget → r.copies ≡ s.copies → r ≡ s
same_row r s p q u v = same_four r.period s.period r.deadline s.deadline r.budget s.budget r.copies s.copies p q u v

before_like : (s r : Row) (ss : List Row) → alike s r ≡ true → AllByRecursion (λ x. before s x ≡ true) ss → AllByRecursion (λ x. before r x ≡ true) ss
before_like s r ss p a = All-weaker (λ x. before s x ≡ true) (λ x. before r x ≡ true) (λ x h. like_before s r x p h) ss a

head_same : (r s : Row) (rs ss : List Row) → Ascending (r ∷ rs) → Ascending (s ∷ ss) → 1 ≤ r.copies → 1 ≤ s.copies → ((k : Row) → copies_of k (r ∷ rs) ≡ copies_of k (s ∷ ss)) → r ≡ s
head_same r s rs ss a b m n e =
    elim (way r s) [
      | joins p ↦
          let q = alike_parts s r p in
          let c : r.copies ≡ s.copies = omega (arith, own_copies r rs a.0, own_copies s ss b.0, e r, copies_cons r s ss, cond-true {A = ℕ} (alike r s) s.copies 0 (alike_swap s r p), none_alike r ss (before_like s r ss p b.0)) in
          same_row r s (sym q.0) (sym q.1) (sym q.2) c
      | leads p q ↦ absurd (omega (arith, behind_none r s ss q b.0, own_copies r rs a.0, e r))
      | follows p q z ↦ absurd (omega (arith, behind_none s r rs q a.0, own_copies s ss b.0, e s))
    ]

pub one_grouping : (rs ss : List Row) → Ascending rs → Ascending ss → AllByRecursion (λ r. 1 ≤ r.copies) rs → AllByRecursion (λ r. 1 ≤ r.copies) ss → ((k : Row) → copies_of k rs ≡ copies_of k ss) → rs ≡ ss
one_grouping [] [] a b m n e = refl
one_grouping [] (s ∷ ss) a b m n e = absurd (omega (arith, e s, own_copies s ss b.0, n.0))
one_grouping (r ∷ rs) [] a b m n e = absurd (omega (arith, e r, own_copies r rs a.0, m.0))
one_grouping (r ∷ rs) (s ∷ ss) a b m n e =
    let h = head_same r s rs ss a b m.0 n.0 e in
    let rest = one_grouping rs ss a.1 b.1 m.1 n.1 (λ k. omega (arith, e k, copies_cons k r rs, copies_cons k s ss, ap (λ (x : Row). cond (alike k x) x.copies 0) h)) in
    ap (λ (x : Row). x ∷ rs) h ∙ ap (λ (l : List Row). s ∷ l) rest

pub grouped_once : (ks rs ss : List Row) → Grouped ks rs → Grouped ks ss → rs ≡ ss
grouped_once ks rs ss g h = one_grouping rs ss g.ordered h.ordered g.present h.present (λ k. g.counted k ∙ sym (h.counted k))
