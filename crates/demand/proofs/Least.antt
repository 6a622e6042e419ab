use Rattle.std.proofs.Common.{◌≡◌, ℕ, zero, suc, ◌+◌, ◌<◌, ◌≤◌, List, [], ◌∷◌, map, map-id, Option, Some, None, Bor, sym, refl, ap, subst, ◌∙◌, arith, ⊎_elim, nat_cmp, Ordering, Less, Equal, Greater}
use Rattle.std.specs.List.{FoldsTo, fold, reduce, range_with_len}
use Rattle.std.specs.Ordering.{min_by_ordering}
use Rattle.std.specs.Fn.{CalledAt, Mut}
use Rattle.std.specs.Iterator.{Drains, DrainsIf, KeyTurn, PicksMinByKey}
use Rattle.std.proofs.lemmas.Cmp.{ranked}
use Rattle.std.proofs.lemmas.Bool.{cases_lt}
use Rattle.std.proofs.lemmas.Option.{same_Some, none-some}
use Rattle.std.proofs.lemmas.Iterator.{YieldsList, items_from_drains}
use Rattle.demand.specs.declared.admission.Slack.{Slack}

-- the one of two with the fewer units free, and the first where they have the same
abbrev pub fewer : Slack → Slack → Slack
fewer a b = min_by_ordering (nat_cmp a.free b.free) a b

module _ (free : ℕ → ℕ) where
  -- what is free at a length
  abbrev pub at : ℕ → Slack
  at n = record { length = n; free = free n }

  -- s is the shortest of the lengths from 1 on, before m, with the fewest units free
  pub record Least (s : Slack) (m : ℕ) : Type 0 where
    pub low : 1 ≤ s.length
    pub high : s.length < m
    pub here : s.free ≡ free s.length
    pub least : (n : ℕ) → 1 ≤ n → n < m → s.free ≤ free n
    pub shortest : (n : ℕ) → 1 ≤ n → n < s.length → s.free < free n

  kept : (s : Slack) (m : ℕ) → s.free ≤ free m → Least s m → Least s (m + 1)
  kept s m h l = record {
    low = l.low;
    high = omega (arith, l.high);
    here = l.here;
    least = λ n i j. ⊎_elim (λ k. l.least n i k) (λ k. subst (λ x. s.free ≤ free x) {x = m} {y = n} (omega arith) h) (cases_lt n m);
    shortest = l.shortest;
  }

  taken : (s : Slack) (m : ℕ) → free m < s.free → Least s m → Least (at m) (m + 1)
  taken s m h l = record {
    low = omega (arith, l.low, l.high);
    high = omega arith;
    here = refl;
    least = λ n i j. ⊎_elim (λ k. omega (arith, l.least n i k)) (λ k. subst (λ x. free m ≤ free x) {x = m} {y = n} (omega arith) (omega arith)) (cases_lt n m);
    shortest = λ n i j. omega (arith, l.least n i j);
  }

  one_more : (s : Slack) (m : ℕ) (o : Ordering) → o ≡ nat_cmp s.free (free m) → Least s m → Least (min_by_ordering o s (at m)) (m + 1)
  one_more s m Less e l = kept s m (omega (arith, ranked s.free (free m) Less e)) l
  one_more s m Equal e l = kept s m (omega (arith, ranked s.free (free m) Equal e)) l
  one_more s m Greater e l = taken s m (omega (arith, ranked s.free (free m) Greater e)) l

  pub least_on : (s : Slack) (m more : ℕ) → Least s m → Least (fold fewer s (map at (range_with_len m more))) (m + more)
  least_on s m zero l = subst (Least s) {x = m} {y = m + 0} (omega arith) l
  least_on s m (suc more) l =
      let i : m + 1 + more ≡ m + suc more = omega arith in
      subst (Least (fold fewer (fewer s (at m)) (map at (range_with_len (m + 1) more)))) i (least_on (fewer s (at m)) (m + 1) more (one_more s m (nat_cmp s.free (free m)) refl l))

  -- of `suc more` lengths from 1 on
  pub least_of : (count : ℕ) (r : Slack) → Some r ≡ reduce fewer (map at (range_with_len 1 count)) → Least r (1 + count)
  least_of zero r e = absurd (none-some r (sym e))
  least_of (suc more) r e =
      let first : Least (at 1) 2 = record { low = omega arith; high = omega arith; here = refl; least = λ n i j. subst (λ x. free 1 ≤ free x) {x = 1} {y = n} (omega arith) (omega arith); shortest = λ n i j. omega arith } in
      let s : r ≡ fold fewer (at 1) (map at (range_with_len 2 more)) = same_Some r _ e in
      subst (Least r) {x = 2 + more} {y = 1 + suc more} (omega arith) (subst (λ v. Least v (2 + more)) (sym s) (least_on (at 1) 2 more first))

pick_free : (o : Ordering) (a b : Slack) → min_by_ordering o a.free b.free ≡ (min_by_ordering o a b).free
pick_free Less a b = refl
pick_free Equal a b = refl
pick_free Greater a b = refl

module _ {F : Type 0} (g : Mut F (Bor Slack × Unit {0}) ℕ) (reads : (f : F) (x : Slack) (k : ℕ) (f' : F) → CalledAt g f x k f' → k ≡ x.free) where
  -- what `min_by_key` keeps from item to item is the one with the fewer units free
  turns : (p q : (F × ℕ) × Slack) (xs : List Slack) → p.0.1 ≡ p.1.free → FoldsTo {P = (F × ℕ) × Slack} (KeyTurn min_by_ordering min_by_ordering g nat_cmp) p xs q → q.1 ≡ fold fewer p.1 xs
  turns p q [] e h = ap (λ (v : (F × ℕ) × Slack). v.1) (sym h)
  turns p q (z ∷ xs) e h =
      let j = h.0 in
      let t = h.1 in
      let k : t.0 ≡ z.free = reads p.0.0 z t.0 j.0.0 t.2 in
      let o : nat_cmp p.1.free z.free ≡ t.1 = ap (λ a. nat_cmp a z.free) (sym e) ∙ ap (λ a. nat_cmp p.0.1 a) (sym k) ∙ t.3 in
      let item : j.1 ≡ fewer p.1 z = t.5 ∙ ap (λ v. min_by_ordering v p.1 z) (sym o) in
      let key : j.0.1 ≡ j.1.free = t.4 ∙ ap (λ a. min_by_ordering t.1 a t.0) e ∙ ap (λ a. min_by_ordering t.1 p.1.free a) k ∙ pick_free t.1 p.1 z ∙ ap (λ (v : Slack). v.free) (sym t.5) in
      turns j q xs key h.2 ∙ ap (λ v. fold fewer v xs) item

  ended : {S : Type 0} (steps : S → Option Slack → S → Type 0) (s : S) (xs : List Slack) → Drains steps s xs → DrainsIf steps (Unit {0}) s xs
  ended steps s xs (u, (t, y, e)) = (t, y, λ _. (u, e))

  pub picked : {S : Type 0} {steps : S → Option Slack → S → Type 0} (s : S) (f : F) (all : List Slack) (r : Option Slack) → PicksMinByKey steps g nat_cmp s f r → YieldsList steps (λ x. x) s all → r ≡ reduce fewer all
  picked {steps = steps} s f all None h e = ap (reduce fewer) (items_from_drains [] (ended steps s [] h) e)
  picked {steps = steps} s f all (Some y) h e =
      ap Some (turns ((h.3, h.2), h.0) (h.4, y) h.1 (reads f h.0 h.2 h.3 h.6) h.7)
      ∙ ap (reduce fewer) (sym (map-id (h.0 ∷ h.1)) ∙ items_from_drains (h.0 ∷ h.1) (ended steps s (h.0 ∷ h.1) h.5) e)
