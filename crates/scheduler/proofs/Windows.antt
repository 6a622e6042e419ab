-- Whether a job has a free unit is decided by finitely many windows.
use Rattle.std.proofs.Common.{ℕ, suc, ◌-◌, ◌<◌, ◌≤◌, ◌⊎◌, inl, inr, ⊎_elim, arith}
use Rattle.std.proofs.lemmas.Bool.{cases_lt}
use Rattle.scheduler.specs.History.{Job, Lies}
use Rattle.scheduler.specs.Windows.{Room, Free}
use Rattle.scheduler.proofs.Sums.{all_or_some}

-- the starts up to the arrival, and the ends up to one past which the loads do not grow
module _ (bound : ℕ → ℕ → ℕ) (load_of : ℕ → ℕ → ℕ → ℕ) (j : Job) (end : ℕ)
    (grows : (l m : ℕ) → l ≤ m → bound j.component l ≤ bound j.component m)
    (past : (t e : ℕ) → load_of j.component t e ≤ load_of j.component t end)
    (due : j.due ≤ end) where
  abbrev Roomy : ℕ → ℕ → Type 0
  Roomy t e = j.due ≤ e → Room bound load_of j.component t e

  abbrev Fills : ℕ → ℕ → Type 0
  Fills t e = (j.due ≤ e) × (bound j.component (e - t) ≤ load_of j.component t e)

  beyond : (t : ℕ) → ((e : ℕ) → e < suc end → Roomy t e) → (e : ℕ) → Roomy t e
  beyond t all e d =
      ⊎_elim (λ (lt : e < suc end). all e lt d)
      (λ (ge : suc end ≤ e). omega (arith, past t e, all end (omega arith) due, grows (end - t) (e - t) (omega arith)))
      (cases_lt e (suc end))

  test : (t e : ℕ) → Roomy t e ⊎ Fills t e
  test t e =
      ⊎_elim (λ (lt : e < j.due). inl (λ d. absurd (omega arith)))
      (λ (ge : j.due ≤ e).
      ⊎_elim (λ (less : load_of j.component t e < bound j.component (e - t)). inl (λ d. omega arith))
      (λ (full : bound j.component (e - t) ≤ load_of j.component t e). inr (ge, full))
      (cases_lt (load_of j.component t e) (bound j.component (e - t))))
      (cases_lt e j.due)

  ends_of : (t : ℕ) → ((e : ℕ) → Roomy t e) ⊎ ((e : ℕ) × Fills t e)
  ends_of t = ⊎_elim (λ all. inl (beyond t all)) (λ w. inr (w.0, w.2)) (all_or_some (Roomy t) (Fills t) (test t) (suc end))

  pub free_or_full : Free bound load_of j ⊎ ((t : ℕ) × (e : ℕ) × Lies j t e × (bound j.component (e - t) ≤ load_of j.component t e))
  free_or_full =
      ⊎_elim (λ all. inl (λ t e lies. all t (omega (arith, lies.0)) e lies.1))
      (λ w. inr (w.0, w.2.0, (omega (arith, w.1), w.2.1.0), w.2.1.1))
      (all_or_some (λ t. (e : ℕ) → Roomy t e) (λ t. (e : ℕ) × Fills t e) ends_of (suc j.arrival))
