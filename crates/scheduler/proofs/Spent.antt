-- The running sum that finds spent windows, and the least tick of those that have a property, by a search from above.
use Rattle.std.proofs.Common.{◌≡◌, ℕ, suc, ◌+◌, ◌-◌, ◌<◌, ◌≤◌, true, false, cond, List, [], ◌∷◌, ◌++◌, length, get_or, reverse, Some, None, Option, sym, refl, ap, ◌∙◌, subst, ⊎_elim, add-one, add-zero, arith}
use Rattle.std.proofs.lemmas.List.{length_push, length-reverse, get_or-reverse, get_or_default}
use Rattle.std.proofs.lemmas.Bool.{both_ways, cases_eq, cond-true, cond-false}
use Rattle.scheduler.specs.declared.job.Job.{Job as Entry}
use Rattle.scheduler.specs.Table.{at, empty_entry, arrival_in, Ascending}
use Rattle.scheduler.specs.Policing.{due_by, used_below, SpentFrom, EarliestOf}

-- of the numbers from i on
abbrev pub From : (ℕ → Type 0) → ℕ → ℕ → Type 0
From P i m = (i ≤ m) × P m

module _ (P : ℕ → Type 0) (tick : ℕ → ℕ) where
  earliest_found : (i : ℕ) → P i → ((m : ℕ) → i ≤ m → P m → tick i ≤ tick m) → EarliestOf (From P i) tick (Some (tick i))
  earliest_found i p first = ((i, (omega arith, p), refl), λ m q. first m q.0 q.1)

  earliest_kept : (i : ℕ) → (P i → ⊥) → (o : Option ℕ) → EarliestOf (From P (i + 1)) tick o → EarliestOf (From P i) tick o
  earliest_kept i never = kept
    where
      later : (m : ℕ) → From P i m → From P (i + 1) m
      later m q = ⊎_elim (λ (e : i ≡ m). absurd (never (subst P (sym e) q.1))) (λ (ne : i ≡ m → ⊥). (omega (arith, q.0), q.1)) (cases_eq i m)

      kept : (o : Option ℕ) → EarliestOf (From P (i + 1)) tick o → EarliestOf (From P i) tick o
      kept None none = λ m q. none m (later m q)
      kept (Some t) found = ((found.0.0, (omega (arith, found.0.1.0), found.0.1.1), found.0.2), λ m q. found.1 m (later m q))

module _ (js : List Entry) (k e : ℕ) where
  pub used_more : (n : ℕ) → used_below js k e (suc n) ≡ used_below js k e n + cond (due_by k e (at js n)) (at js n).used 0
  unfolding used_below
  used_more n = refl

  used_counted : (i : ℕ) → due_by k e (at js i) ≡ true → used_below js k e (i + 1) ≡ used_below js k e i + (at js i).used
  used_counted i t = ap (used_below js k e) (add-one i) ∙ used_more i ∙ ap (λ u. used_below js k e i + u) (cond-true _ (at js i).used 0 t)

  used_passed : (i : ℕ) → due_by k e (at js i) ≡ false → used_below js k e (i + 1) ≡ used_below js k e i
  used_passed i t = ap (used_below js k e) (add-one i) ∙ used_more i ∙ ap (λ u. used_below js k e i + u) (cond-false _ (at js i).used 0 t) ∙ add-zero _

-- The search for the first spent start, when it has gone back to the job n: the units of the jobs from there on, and the first start
-- among them.
abbrev pub Searched : (ℕ → ℕ → ℕ) → List Entry → (k e n units : ℕ) → Option ℕ → Type 0
Searched bound js k e n units start =
    (units + used_below js k e n ≡ used_below js k e (length js)) × EarliestOf (From (SpentFrom bound js k e) n) (arrival_in js) start

-- one job more, which comes after the jobs xs where they are read backwards
module _ {A : Type 0} (bound : ℕ → ℕ → ℕ) (js : List Entry) (k e : ℕ) (xs : List A) (x : A) (j : Entry)
    (turn : (length xs < length (reverse js)) × (j ≡ get_or (reverse js) (length xs) j)) (units : ℕ) (start : Option ℕ)
    (before : Searched bound js k e (length js - length xs) units start) where
  i : ℕ
  i = length js - 1 - length xs

  known : length xs < length js
  known = omega (arith, turn.0, length-reverse js)

  is : j ≡ at js i
  unfolding i
  is = turn.1 ∙ get_or-reverse js (length xs) j known ∙ get_or_default js (length js - 1 - length xs) j empty_entry (omega (arith, known))

  here : Searched bound js k e (i + 1) units start
  unfolding i
  here = let e' : length js - length xs ≡ length js - 1 - length xs + 1 = omega (arith, known) in subst (λ n. Searched bound js k e n units start) e' before

  next : (u : ℕ) (o : Option ℕ) → Searched bound js k e i u o → Searched bound js k e (length js - length (xs ++ (x ∷ []))) u o
  unfolding i
  next u o =
      let e' : length js - 1 - length xs ≡ length js - length (xs ++ (x ∷ [])) = omega (arith, length_push xs x) in subst (λ n. Searched bound js k e n u o) e'

  pub passed : due_by k e j ≡ false → Searched bound js k e (length js - length (xs ++ (x ∷ []))) units start
  passed f =
      let f' = subst (λ y. due_by k e y ≡ false) is f in
      next units start
      (omega (arith, here.0, used_passed js k e i f'), earliest_kept (SpentFrom bound js k e) (arrival_in js) i (λ s. both_ways _ f' s.1) start here.1)

  module _ (t : due_by k e j ≡ true) where
    counts : used_below js k e (i + 1) ≡ used_below js k e i + (at js i).used
    counts = used_counted js k e i (subst (λ y. due_by k e y ≡ true) is t)

    pub counted : units + j.used < bound k (e - j.arrival) → Searched bound js k e (length js - length (xs ++ (x ∷ []))) (units + j.used) start
    counted room =
        let room' = subst (λ y. units + y.used < bound k (e - y.arrival)) is room in
        subst (λ y. Searched bound js k e (length js - length (xs ++ (x ∷ []))) (units + y.used) start) (sym is)
        (next _ start
        (omega (arith, here.0, counts), earliest_kept (SpentFrom bound js k e) (arrival_in js) i (λ s. omega (arith, s.2, here.0, counts, room')) start here.1))

    pub spent : Ascending js → bound k (e - j.arrival) ≤ units + j.used → Searched bound js k e (length js - length (xs ++ (x ∷ []))) (units + j.used) (Some j.arrival)
    unfolding i
    spent up full =
        let full' = subst (λ y. bound k (e - y.arrival) ≤ units + y.used) is full in
        let t' = subst (λ y. due_by k e y ≡ true) is t in
        subst (λ y. Searched bound js k e (length js - length (xs ++ (x ∷ []))) (units + y.used) (Some y.arrival)) (sym is)
        (next _ (Some (at js i).arrival)
        (omega (arith, here.0, counts), earliest_found (SpentFrom bound js k e) (arrival_in js) i (omega (arith, known), t', omega (arith, here.0, counts, full')) (λ m l s. up i m l s.0)))
