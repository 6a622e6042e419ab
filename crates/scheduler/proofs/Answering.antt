-- Every call has an answer that follows the rules: whatever the rules ask of a job can be decided, so the jobs that they name can be
-- counted, and the first of the ready ones found.
use Rattle.std.proofs.Common.{◌≡◌, ℕ, zero, suc, ◌+◌, ◌<◌, ◌≤◌, ◌⊎◌, Some, None, Option, sym, refl, ◌∙◌, subst, inl, inr, ⊎_elim, not-suc-le-zero, arith}
use Rattle.std.proofs.lemmas.Bool.{cases_lt}
use Rattle.scheduler.specs.declared.calls.Call.{Call}
use Rattle.scheduler.specs.declared.calls.CallRefusal.{CallRefusal}
use Rattle.scheduler.specs.declared.calls.Event.{Event}
use Rattle.scheduler.specs.History.{History, Job, Fate, clock, count, job, units, fate, Open, Cuts, Live, Counts, load}
use Rattle.scheduler.specs.declared.calls.Call.TheVariants.{Arrive, Finish, Tick}
use Rattle.scheduler.specs.declared.calls.Event.TheVariants.{Arrived, Finished, Ticked, Refused}
use Rattle.scheduler.specs.History.Fate.{pending, done, cut}
use Rattle.scheduler.specs.Windows.{Free, Ready, Held}
use Rattle.scheduler.specs.Order.{Precedes, FirstOf}
use Rattle.scheduler.specs.Rules.{Plan, refusal_of, call_of, Answers}
use Rattle.scheduler.proofs.Loads.{horizon, due_before, load_past, done_pending, cut_pending}
use Rattle.scheduler.proofs.Windows.{free_or_full}

-- it holds, or it does not
abbrev Decided : Type 0 → Type 0
Decided P = P ⊎ (P → ⊥)

both : (P Q : Type 0) → Decided P → Decided Q → Decided (P × Q)
both P Q (inl p) (inl q) = inl (p, q)
both P Q (inl p) (inr never) = inr (λ x. never x.1)
both P Q (inr never) q = inr (λ x. never x.0)

below : (m n : ℕ) → Decided (m < n)
below m n = ⊎_elim (λ (l : m < n). inl l) (λ (ge : n ≤ m). inr (λ l. omega arith)) (cases_lt m n)

is_open_or_not : (f : Fate) → Decided (f ≡ pending)
is_open_or_not pending = inl refl
is_open_or_not done = inr done_pending
is_open_or_not cut = inr cut_pending

counted : (P : ℕ → Type 0) → ((n : ℕ) → Decided (P n)) → (n : ℕ) → (c : ℕ) × Counts P n c
counted P test zero = (0, refl)
counted P test (suc n) = with_one (test n) (counted P test n)
  where
    with_one : Decided (P n) → ((c : ℕ) × Counts P n c) → (c : ℕ) × Counts P (suc n) c
    with_one (inl here) b = (b.0 + 1, inl (here, (b.0, refl, b.1)))
    with_one (inr never) b = (b.0, inr (never, b.1))

-- which of two jobs goes first
pub chain : (job_at : ℕ → Job) (n m k : ℕ) → Precedes job_at n m → Precedes job_at m k → Precedes job_at n k
chain job_at n m k (inl a) (inl b) = inl (omega arith)
chain job_at n m k (inl a) (inr b) = inl (omega (arith, b.0))
chain job_at n m k (inr a) (inl b) = inl (omega (arith, a.0))
chain job_at n m k (inr (a, inl x)) (inr (b, inl y)) = inr (a ∙ b, inl (omega arith))
chain job_at n m k (inr (a, inl x)) (inr (b, inr y)) = inr (a ∙ b, inl (omega (arith, y.0)))
chain job_at n m k (inr (a, inr x)) (inr (b, inl y)) = inr (a ∙ b, inl (omega (arith, x.0)))
chain job_at n m k (inr (a, inr x)) (inr (b, inr y)) = inr (a ∙ b, inr (x.0 ∙ y.0, omega (arith, x.1, y.1)))

abbrev Compared : ℕ → ℕ → Type 0
Compared m n = (m < n) ⊎ ((m ≡ n) ⊎ (n < m))

compared : (m n : ℕ) → Compared m n
compared m n =
    ⊎_elim (λ (l : m < n). inl l)
    (λ (ge : n ≤ m). inr (⊎_elim (λ (g : n < m). inr g) (λ (le : m ≤ n). inl (omega arith)) (cases_lt n m)))
    (cases_lt m n)

either_first : (job_at : ℕ → Job) (n m : ℕ) → n < m → Precedes job_at n m ⊎ Precedes job_at m n
either_first job_at n m l = by_due (compared (job_at n).due (job_at m).due)
  where
    by_component : (job_at n).due ≡ (job_at m).due → Compared (job_at n).component (job_at m).component → Precedes job_at n m ⊎ Precedes job_at m n
    by_component e (inl a) = inl (inr (e, inl a))
    by_component e (inr (inl c)) = inl (inr (e, inr (c, l)))
    by_component e (inr (inr b)) = inr (inr (sym e, inl b))

    by_due : Compared (job_at n).due (job_at m).due → Precedes job_at n m ⊎ Precedes job_at m n
    by_due (inl a) = inl (inl a)
    by_due (inr (inl e)) = by_component e (compared (job_at n).component (job_at m).component)
    by_due (inr (inr b)) = inr (inl b)

-- the first of the jobs below n that have P, or none of them has it
module _ (h : History) (P : ℕ → Type 0) (test : (n : ℕ) → Decided (P n)) where
  abbrev NotAfter : ℕ → ℕ → Type 0
  NotAfter f m = (f ≡ m) ⊎ Precedes (job h) f m

  abbrev First : ℕ → ℕ → Type 0
  First n f = (f < n) × P f × ((m : ℕ) → m < n → P m → NotAfter f m)

  abbrev NoneOf : ℕ → Type 0
  NoneOf n = (m : ℕ) → m < n → P m → ⊥

  first_of : (n : ℕ) → ((f : ℕ) × First n f) ⊎ NoneOf n
  first_of zero = inr (λ m l. absurd (not-suc-le-zero l))
  first_of (suc n) = with_one (test n) (first_of n)
    where
      last_or : (Q : ℕ → Type 0) → ((m : ℕ) → m < n → P m → Q m) → (P n → Q n) → (m : ℕ) → m < suc n → P m → Q m
      last_or Q old new m l =
          ⊎_elim (λ (lt : m < n). old m lt) (λ (ge : n ≤ m). let e : n ≡ m = omega arith in subst (λ i. P i → Q i) e new) (cases_lt m n)

      challenged : P n → (f : ℕ) → First n f → Precedes (job h) f n ⊎ Precedes (job h) n f → (g : ℕ) × First (suc n) g
      challenged here f w (inl b) = (f, (omega (arith, w.0), w.1, last_or (NotAfter f) w.2 (λ p. inr b)))
      challenged here f w (inr b) =
          let after : (m : ℕ) → NotAfter f m → NotAfter n m = λ m q. inr (⊎_elim (λ (e : f ≡ m). subst (Precedes (job h) n) e b) (chain (job h) n f m b) q) in
          (n, (omega arith, here, last_or (NotAfter n) (λ m l q. after m (w.2 m l q)) (λ p. inl refl)))

      with_one : Decided (P n) → ((f : ℕ) × First n f) ⊎ NoneOf n → ((f : ℕ) × First (suc n) f) ⊎ NoneOf (suc n)
      with_one (inl here) (inl w) = inl (challenged here w.0 w.1 (either_first (job h) w.0 n w.1.0))
      with_one (inl here) (inr none) = inl (n, (omega arith, here, last_or (NotAfter n) (λ m l q. absurd (none m l q)) (λ p. inl refl)))
      with_one (inr never) (inl w) = inl (w.0, (omega (arith, w.1.0), w.1.1, last_or (NotAfter w.0) w.1.2 (λ p. absurd (never p))))
      with_one (inr never) (inr none) = inr (last_or (λ m. ⊥) none never)

none_or : (o : Option CallRefusal) → (o ≡ None) ⊎ ((why : CallRefusal) × (o ≡ Some why))
none_or None = inl refl
none_or (Some why) = inr (why, refl)

module _ (p : Plan) (climbs : (k l m : ℕ) → l ≤ m → p.bound k l ≤ p.bound k m) (h : History) where
  open_decided : (n : ℕ) → Decided (Open h n)
  open_decided n = both _ _ (below n (count h)) (is_open_or_not (fate h n))

  live_decided : (n : ℕ) → Decided (Live h n)
  live_decided n = both _ _ (open_decided n) (below (clock h) (job h n).due)

  cuts_decided : (n : ℕ) → Decided (Cuts h n)
  cuts_decided n =
      both _ _ (open_decided n)
      (⊎_elim (λ (l : clock h < (job h n).due). inr (λ d. omega arith)) (λ (d : (job h n).due ≤ clock h). inl d) (cases_lt (clock h) (job h n).due))

  free_decided : (n : ℕ) → n < count h → Decided (Free p.bound (load h) (job h n))
  free_decided n l =
      ⊎_elim (λ free. inl free) (λ w. inr (λ free. omega (arith, free w.0 w.1 w.2, w.3)))
      (free_or_full p.bound (load h) (job h n) (horizon h) (climbs (job h n).component) (load_past h (job h n).component) (due_before h n l))

  ready_or_held : (n : ℕ) → Live h n → Decided (Ready p.bound h n) × Decided (Held p.bound h n)
  ready_or_held n live =
      ⊎_elim (λ free. (inl (live, free), inr (λ held. held.1 free))) (λ never. (inr (λ ready. never ready.1), inl (live, never)))
      (free_decided n live.0.0)

  ready_decided : (n : ℕ) → Decided (Ready p.bound h n)
  ready_decided n = ⊎_elim (λ live. (ready_or_held n live).0) (λ never. inr (λ ready. never ready.0)) (live_decided n)

  held_decided : (n : ℕ) → Decided (Held p.bound h n)
  held_decided n = ⊎_elim (λ live. (ready_or_held n live).1) (λ never. inr (λ held. never held.0)) (live_decided n)

  runs : (ran : Option ℕ) × FirstOf (job h) (Ready p.bound h) ran
  runs =
      ⊎_elim (λ w. (Some w.0, (w.1.1, λ m r. w.1.2 m r.0.0.0 r))) (λ none. (None, λ m r. none m r.0.0.0 r))
      (first_of h (Ready p.bound h) ready_decided (count h))

  answered : (c : Call) → refusal_of p h c ≡ None → (e : Event) × (call_of e ≡ c) × Answers p e h
  answered (Arrive k d) n = (Arrived k d (count h), refl, (n, refl))
  answered (Finish m) n = (Finished m (units h m), refl, (n, refl))
  answered Tick n =
      let held = counted (Held p.bound h) held_decided (count h) in
      let cuts = counted (Cuts h) cuts_decided (count h) in
      (Ticked (record { ran = runs.0; held = held.0; cut = cuts.0 }), refl, (n, runs.1, held.1, cuts.1))

  pub an_answer : (c : Call) → (e : Event) × (call_of e ≡ c) × Answers p e h
  an_answer c = ⊎_elim (answered c) (λ w. (Refused c w.0, refl, w.1)) (none_or (refusal_of p h c))
