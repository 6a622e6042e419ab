use Rattle.std.proofs.Common.{◌≡◌, ℕ, zero, suc, ◌+◌, ◌-◌, ◌<◌, ◌≤◌, Bool, true, false, Some, None, Option, sym, refl, ap, ◌∙◌, ⊎_elim, arith}
use Rattle.std.proofs.lemmas.Bool.{cond-true, cond-false, cases_lt}
use Rattle.std.specs.Option.{MatchOption}
use Rattle.demand.specs.Admission.{first_where}

-- a loop that looks at one number after the other, up to n
pub first_here : (test : ℕ → Bool) (i n : ℕ) → i < n → test i ≡ true → first_where test i (n - i) ≡ Some i
unfolding first_where
first_here test i n h t =
    let e : n - i ≡ suc (n - (i + 1)) = omega arith in
    ap (first_where test i) e ∙ cond-true (test i) (Some i) _ t

pub first_later : (test : ℕ → Bool) (i n : ℕ) → i < n → test i ≡ false → first_where test i (n - i) ≡ first_where test (i + 1) (n - (i + 1))
unfolding first_where
first_later test i n h f =
    let e : n - i ≡ suc (n - (i + 1)) = omega arith in
    ap (first_where test i) e ∙ cond-false (test i) (Some i) _ f

pub first_none : (test : ℕ → Bool) (i n : ℕ) → n ≤ i → first_where test i (n - i) ≡ None
unfolding first_where
first_none test i n h = let z : n - i ≡ 0 = omega arith in ap (first_where test i) z

-- none passes, or this one does and none before it
pub first_where-none : (test : ℕ → Bool) (i more : ℕ) → ((k : ℕ) → i ≤ k → k < i + more → test k ≡ false) → first_where test i more ≡ None
unfolding first_where
first_where-none test i zero fails = refl
first_where-none test i (suc more) fails =
    cond-false (test i) (Some i) _ (fails i (omega arith) (omega arith)) ∙ first_where-none test (i + 1) more (λ k p q. fails k (omega arith) (omega arith))

pub first_where-some : (test : ℕ → Bool) (i more x : ℕ) → i ≤ x → x < i + more → test x ≡ true → ((k : ℕ) → i ≤ k → k < x → test k ≡ false) → first_where test i more ≡ Some x
unfolding first_where
first_where-some test i zero x low high passes fail = absurd (omega arith)
first_where-some test i (suc more) x low high passes fail =
    ⊎_elim (λ (q : i < x).
    cond-false (test i) (Some i) _ (fail i (omega arith) q) ∙ first_where-some test (i + 1) more x (omega arith) (omega arith) passes (λ k p r. fail k (omega arith) r))
    (λ (q : x ≤ i).
    let e : x ≡ i = omega arith in
    cond-true (test i) (Some i) _ (rw e at passes) ∙ ap (λ (k : ℕ). Some k) (sym e))
    (cases_lt i x)

-- so a search from i on that stops at the first that passes gives it
pub first_where-found : (test : ℕ → Bool) (i more : ℕ) (r : Option ℕ) → MatchOption r ((k : ℕ) → i ≤ k → k < i + more → test k ≡ false) (λ x. (i ≤ x) × (x < i + more) × (test x ≡ true) × ((k : ℕ) → i ≤ k → k < x → test k ≡ false)) → r ≡ first_where test i more
first_where-found test i more None fails = sym (first_where-none test i more fails)
first_where-found test i more (Some x) (low, high, passes, fail) = sym (first_where-some test i more x low high passes fail)
