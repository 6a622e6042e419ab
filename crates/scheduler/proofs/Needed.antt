-- A job that is cut without its whole need would leave its spent window short of the bound.
use Rattle.std.proofs.Common.{◌≡◌, ℕ, ◌+◌, ◌-◌, ◌<◌, ◌≤◌, true, false, cond, subst, ⊎_elim, arith}
use Rattle.std.proofs.lemmas.Bool.{cases_lt, cases_Bool, cond-true, cond-false}
use Rattle.scheduler.specs.History.{History, count, job, units, fate, inside, load, load_over}
use Rattle.scheduler.specs.History.Fate.{cut}
use Rattle.scheduler.specs.Rules.{Certified}
use Rattle.scheduler.specs.Needs.{KeepsToItsSheet, NeedsMet}
use Rattle.scheduler.proofs.Loads.{inside_true, inside_from}
use Rattle.scheduler.proofs.Sums.{sum_less}

module _ (bound : ℕ → ℕ → ℕ) (h : History) (laws : Certified bound h) (k : ℕ) (need : ℕ → ℕ) (keeps : KeepsToItsSheet bound h k need) where
  -- in a window the units run are no more than the needs, job by job
  share_within : (s e i : ℕ) → i < count h → cond (inside k s e (job h i)) (units h i) 0 ≤ cond (inside k s e (job h i)) (need i) 0
  share_within s e i l =
      ⊎_elim
      (λ (t : inside k s e (job h i) ≡ true).
      omega (arith, cond-true (inside k s e (job h i)) (units h i) 0 t, cond-true (inside k s e (job h i)) (need i) 0 t, keeps.runs_within_the_need i l (inside_true k s e (job h i) t).0))
      (λ (f : inside k s e (job h i) ≡ false). omega (arith, cond-false (inside k s e (job h i)) (units h i) 0 f))
      (cases_Bool (inside k s e (job h i)))

  -- and fewer altogether where one of them has run less than it needs
  short_window : (s e n : ℕ) → n < count h → inside k s e (job h n) ≡ true → units h n < need n → load h k s e + 1 ≤ load_over (count h) (job h) need k s e
  unfolding load_over
  short_window s e n l t short =
      sum_less (count h) (λ i. cond (inside k s e (job h i)) (units h i) 0) (λ i. cond (inside k s e (job h i)) (need i) 0) n l
      (omega (arith, short, cond-true (inside k s e (job h n)) (units h n) 0 t, cond-true (inside k s e (job h n)) (need n) 0 t)) (share_within s e)

  pub need_met : (n : ℕ) → n < count h → (job h n).component ≡ k → fate h n ≡ cut → units h n ≡ need n
  need_met n l c e =
      ⊎_elim
      (λ (short : units h n < need n).
      let w = laws.cut_only_when_spent n l e in
      let full = subst (λ x. load h x w.0 w.1 ≡ bound x (w.1 - w.0)) c w.3 in
      let less = short_window w.0 w.1 n l (inside_from k w.0 w.1 (job h n) c w.2.0 w.2.1) short in
      absurd (omega (arith, full, less, keeps.asks_within_the_bound w.0 w.1)))
      (λ (whole : need n ≤ units h n). omega (arith, whole, keeps.runs_within_the_need n l c))
      (cases_lt (units h n) (need n))

pub needs_met : (bound : ℕ → ℕ → ℕ) (h : History) → Certified bound h → NeedsMet bound h
needs_met bound h laws k need keeps = need_met bound h laws k need keeps
