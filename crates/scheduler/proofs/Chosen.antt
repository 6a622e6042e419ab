-- The first of the ready jobs, found one number after the other.
use Rattle.std.proofs.Common.{◌≡◌, ℕ, ◌+◌, ◌<◌, ◌≤◌, true, false, cond, ◌&&◌, eqb, ltb, ◌⊎◌, List, IfSome, Some, None, Option, sym, refl, subst, inl, inr, ⊎_elim, add-one, arith}
use Rattle.std.proofs.lemmas.Bool.{cases_lt, cases_eq, cases_Bool, ltb-true, ltb-false, eqb-true, eqb-false, and_parts, and_cases, or_cases, or_parts}
use Rattle.scheduler.specs.declared.job.Job.{Job as Entry}
use Rattle.scheduler.specs.History.{Job, Counts}
use Rattle.scheduler.specs.Table.{at, job_in}
use Rattle.scheduler.specs.Policing.{overtakes, first_of_two}
use Rattle.scheduler.specs.Order.{Precedes, FirstOf}
use Rattle.scheduler.proofs.Answering.{chain}

-- of the numbers below n
abbrev pub Below : (ℕ → Type 0) → ℕ → ℕ → Type 0
Below P n m = (m < n) × P m

module _ (js : List Entry) where
  overtakes_so : (n i : ℕ) → overtakes (at js n) (at js i) ≡ true → Precedes (job_in js) n i
  overtakes_so n i t =
      ⊎_elim (λ (a : ltb (at js n).due (at js i).due ≡ true). inl (ltb-true _ _ a))
      (λ (b : (eqb (at js n).due (at js i).due && ltb (at js n).component (at js i).component) ≡ true).
      let p = and_parts (eqb (at js n).due (at js i).due) (ltb (at js n).component (at js i).component) b in
      inr (eqb-true (at js n).due (at js i).due p.0, inl (ltb-true _ _ p.1)))
      (or_cases (ltb (at js n).due (at js i).due) (eqb (at js n).due (at js i).due && ltb (at js n).component (at js i).component) t)

  not_overtaken : (n i : ℕ) → i < n → overtakes (at js n) (at js i) ≡ false → Precedes (job_in js) i n
  not_overtaken n i l f =
      let p = or_parts (ltb (at js n).due (at js i).due) (eqb (at js n).due (at js i).due && ltb (at js n).component (at js i).component) f in
      let no_later : (at js i).due ≤ (at js n).due = ltb-false _ _ p.0 in
      ⊎_elim (λ (less : (at js i).due < (at js n).due). inl less)
      (λ (more : (at js n).due ≤ (at js i).due).
      let same : (at js i).due ≡ (at js n).due = omega arith in
      inr (
        same,
        ⊎_elim (λ (ne : eqb (at js n).due (at js i).due ≡ false). absurd (eqb-false (at js n).due (at js i).due ne (sym same)))
            (λ (c : ltb (at js n).component (at js i).component ≡ false). by_component l (ltb-false _ _ c) (cases_lt (at js i).component (at js n).component))
            (and_cases (eqb (at js n).due (at js i).due) (ltb (at js n).component (at js i).component) p.1),
      ))
      (cases_lt (at js i).due (at js n).due)
    where
      by_component : i < n → (at js i).component ≤ (at js n).component → ((at js i).component < (at js n).component) ⊎ ((at js n).component ≤ (at js i).component) → ((at js i).component < (at js n).component) ⊎ (((at js i).component ≡ (at js n).component) × (i < n))
      by_component l le (inl less) = inl less
      by_component l le (inr more) = inr (omega arith, l)

module _ (job_at : ℕ → Job) (P : ℕ → Type 0) where
  earlier : (n m : ℕ) → (P n → ⊥) → Below P (n + 1) m → Below P n m
  earlier n m never q = ⊎_elim (λ (e : m ≡ n). absurd (never (subst P e q.1))) (λ (ne : m ≡ n → ⊥). (omega (arith, q.0), q.1)) (cases_eq m n)

  pub first_kept : (n : ℕ) → (P n → ⊥) → (o : Option ℕ) → FirstOf job_at (Below P n) o → FirstOf job_at (Below P (n + 1)) o
  first_kept n never None none = λ m q. none m (earlier n m never q)
  first_kept n never (Some f) found = ((omega (arith, found.0.0), found.0.1), λ m q. found.1 m (earlier n m never q))

pub first_found : (js : List Entry) (P : ℕ → Type 0) (n : ℕ) → P n → (o : Option ℕ) → FirstOf (job_in js) (Below P n) o → FirstOf (job_in js) (Below P (n + 1)) (first_of_two js o n)
first_found js P n here None none =
    ((omega arith, here), λ m q. ⊎_elim (λ (e : n ≡ m). inl e) (λ (ne : n ≡ m → ⊥). absurd (none m (omega (arith, q.0), q.1))) (cases_eq n m))
first_found js P n here (Some f) found = by_test (cases_Bool (overtakes (at js n) (at js f)))
  where
    Goal : Option ℕ → Type 0
    Goal o = FirstOf (job_in js) (Below P (n + 1)) o

    old_or_new : (Q : ℕ → Type 0) → ((m : ℕ) → Below P n m → Q m) → Q n → (m : ℕ) → Below P (n + 1) m → Q m
    old_or_new Q old new m q = ⊎_elim (λ (e : n ≡ m). subst Q e new) (λ (ne : n ≡ m → ⊥). old m (omega (arith, q.0), q.1)) (cases_eq n m)

    after : Precedes (job_in js) n f → (m : ℕ) → (f ≡ m) ⊎ Precedes (job_in js) f m → (n ≡ m) ⊎ Precedes (job_in js) n m
    after b m q = inr (⊎_elim (λ (e : f ≡ m). subst (Precedes (job_in js) n) e b) (chain (job_in js) n f m b) q)

    newer : Precedes (job_in js) n f → Goal (Some n)
    newer b = ((omega arith, here), old_or_new (λ m. (n ≡ m) ⊎ Precedes (job_in js) n m) (λ m q. after b m (found.1 m q)) (inl refl))

    older : Precedes (job_in js) f n → Goal (Some f)
    older b = ((omega (arith, found.0.0), found.0.1), old_or_new (λ m. (f ≡ m) ⊎ Precedes (job_in js) f m) found.1 (inr b))

    by_test : (overtakes (at js n) (at js f) ≡ true) ⊎ (overtakes (at js n) (at js f) ≡ false) → Goal (first_of_two js (Some f) n)
    by_test (inl t) = subst (λ b. Goal (cond b (Some n) (Some f))) (sym t) (newer (overtakes_so js n f t))
    by_test (inr t) = subst (λ b. Goal (cond b (Some n) (Some f))) (sym t) (older (not_overtaken js n f found.0.0 t))

-- what holds of the value, where there is one
pub where_some : (o : Option ℕ) (P : ℕ → Type 0) → ((i : ℕ) → o ≡ Some i → P i) → IfSome o P
where_some None P each = tt
where_some (Some i) P each = each i refl

-- one number more is counted, or not
pub counts_here : (P : ℕ → Type 0) (n c : ℕ) → Counts P n c → P n → Counts P (n + 1) (c + 1)
counts_here P n c old here = subst (λ m. Counts P m (c + 1)) (sym (add-one n)) (inl (here, (c, refl, old)))

pub counts_past : (P : ℕ → Type 0) (n c : ℕ) → Counts P n c → (P n → ⊥) → Counts P (n + 1) c
counts_past P n c old never = subst (λ m. Counts P m c) (sym (add-one n)) (inr (never, old))
