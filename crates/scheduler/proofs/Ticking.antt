-- A tick keeps the scheduler in step with its history.
use Rattle.std.proofs.Common.{◌≡◌, ℕ, zero, suc, ◌+◌, ◌<◌, Bool, true, false, cond, ◌&&◌, eqb, ltb, leb, ◌⊎◌, List, ◌∷◌, length, Some, None, Option, Result, sym, refl, ap, ◌∙◌, subst, inl, inr, ⊎_elim, arith, get_or-set_other, get_or-set_same}
use lib.ListN.{length-map}
use Rattle.std.proofs.lemmas.List.{get_or-map}
use Rattle.std.proofs.lemmas.Bool.{cases_eq, cond-true, cond-false, eq-eqb, ne_eqb, le-leb, leb-true, leb-false, lt-leb, lt-ltb, and_from, and_parts}
use Rattle.demand.specs.declared.verdict.TestRefusal.{TestRefusal}
use Rattle.scheduler.specs.declared.calls.Call.TheVariants.{Tick}
use Rattle.scheduler.specs.declared.calls.Event.TheVariants.{Ticked}
use Rattle.scheduler.specs.declared.calls.Ticked.{Ticked as TickAnswered}
use Rattle.scheduler.specs.declared.job.Job.{Job as Entry}
use Rattle.scheduler.specs.declared.job.JobStatus.TheVariants as status
use Rattle.scheduler.specs.History.{History, Job, Fate, clock, count, job, gives, units, ends, late, fate, Cuts, Live, Counts, inside, load, load_over}
use Rattle.scheduler.specs.History.Fate.{pending, done, cut}
use Rattle.scheduler.specs.Windows.{Free, Ready, Held}
use Rattle.scheduler.specs.Order.{Precedes, FirstOf}
use Rattle.scheduler.specs.Rules.{Plan, refusal_of}
use Rattle.scheduler.specs.Table.{at, empty_entry, job_of, job_in, used_in, table_load, is_open, OpenIn, ReadyIn, HeldIn}
use Rattle.scheduler.specs.Steps.{with_status, with_used, is_due, cut_at, cut_due, DueIn, with_unit}
use Rattle.scheduler.specs.Recording.{status_of, Recorded, Ticks}
use Rattle.scheduler.proofs.Keeping.{unit_length}
use Rattle.scheduler.proofs.Loads.{still_pending, cut_pending}
use Rattle.scheduler.proofs.Recorded.{with_fate, pending_so}
use Rattle.demand.specs.Admission.{total}
use Rattle.scheduler.proofs.Sums.{sum_same}

-- the same jobs, seen in two ways
counts_same : (P Q : ℕ → Type 0) (n c : ℕ) → ((i : ℕ) → i < n → P i → Q i) → ((i : ℕ) → i < n → Q i → P i) → Counts P n c → Counts Q n c
counts_same P Q zero c to from e = e
counts_same P Q (suc n) c to from (inl w) = inl (to n (omega arith) w.0, (w.1.0, w.1.1, counts_same P Q n w.1.0 (λ i l. to i (omega arith)) (λ i l. from i (omega arith)) w.1.2))
counts_same P Q (suc n) c to from (inr w) = inr ((λ q. w.0 (from n (omega arith) q)), counts_same P Q n c (λ i l. to i (omega arith)) (λ i l. from i (omega arith)) w.1)

-- `Precedes`, by the two jobs
abbrev Before : ℕ → ℕ → Job → Job → Type 0
Before n m a b = (a.due < b.due) ⊎ ((a.due ≡ b.due) × ((a.component < b.component) ⊎ ((a.component ≡ b.component) × (n < m))))

first_same : (j i : ℕ → Job) (P Q : ℕ → Type 0) → ((n : ℕ) → P n → Q n) → ((n : ℕ) → Q n → P n) → ((n : ℕ) → P n → j n ≡ i n) → (o : Option ℕ) → FirstOf j P o → FirstOf i Q o
first_same j i P Q to from same None none = λ m q. none m (from m q)
first_same j i P Q to from same (Some n) found = (
  to n found.0,
  λ m q. ⊎_elim (λ (e : n ≡ m). inl e)
      (λ (g : Precedes j n m). inr (subst (λ a. Before n m a (i m)) (same n found.0) (subst (Before n m (j n)) (same m (from m q)) g)))
      (found.1 m (from m q)),
)

true_and : (b c : Bool) → b ≡ true → (b && c) ≡ c
true_and true c e = refl
true_and false c e = cc

-- how a job of a history stands after the cut
cut_fate : (b : Bool) (h : History) (n : ℕ) (f : Fate) → cond b (cond (is_open (status_of f)) (with_status (with_fate h n f) status.Cut) (with_fate h n f)) (with_fate h n f) ≡ with_fate h n (cond b (ends f cut) f)
cut_fate true h n pending = refl
cut_fate true h n done = refl
cut_fate true h n cut = refl
cut_fate false h n f = refl

module _ (p : Plan) (v : Result (Unit {0}) TestRefusal) (now : ℕ) (js : List Entry) (h : History) (r : Recorded p v now js h) where
  -- the records after the cuts
  abbrev js₁ : List Entry
  js₁ = cut_due now js

  length₁ : length js₁ ≡ count h
  length₁ = length-map js (cut_at now) ∙ r.counted

  abbrev fate₁ : ℕ → Fate
  fate₁ n = cond (leb (job h n).due now) (ends (fate h n) cut) (fate h n)

  at₁ : (n : ℕ) → n < count h → at js₁ n ≡ with_fate h n (fate₁ n)
  at₁ n l =
      get_or-map (cut_at now) js n empty_entry empty_entry (omega (arith, l, r.counted)) ∙ ap (cut_at now) (r.each n l) ∙ cut_fate (leb (job h n).due now) h n (fate h n)

  job₁ : (n : ℕ) → n < count h → job_in js₁ n ≡ job h n
  job₁ n l = ap job_of (at₁ n l)

  load₁ : (k s e : ℕ) → table_load js₁ k s e ≡ load h k s e
  unfolding load_over
  load₁ k s e =
      sum_same (length js₁) (λ n. cond (inside k s e (job_in js₁ n)) (used_in js₁ n) 0) (λ n. cond (inside k s e (job h n)) (units h n) 0)
      (λ n l. ap (λ (j : Entry). cond (inside k s e (job_of j)) j.used 0) (at₁ n (omega (arith, l, length₁))))
      ∙ ap (λ m. total m (λ n. cond (inside k s e (job h n)) (units h n) 0)) length₁

  open_live : (n : ℕ) → OpenIn js₁ n → Live h n
  open_live n o =
      let l : n < count h = omega (arith, o.0, length₁) in
      let f = still_pending (leb (job h n).due now) (fate h n) cut cut_pending (pending_so (fate₁ n) (sym (ap (λ (j : Entry). is_open j.status) (at₁ n l)) ∙ o.1)) in
      ((l, f.1), omega (arith, leb-false (job h n).due now f.0, r.clocked))

  live_open : (n : ℕ) → Live h n → OpenIn js₁ n
  live_open n w =
      let stays : leb (job h n).due now ≡ false = lt-leb (job h n).due now (omega (arith, w.1, r.clocked)) in
      let waits : fate₁ n ≡ pending = cond-false (leb (job h n).due now) _ _ stays ∙ w.0.1 in
      (omega (arith, w.0.0, length₁), ap (λ (j : Entry). is_open j.status) (at₁ n w.0.0) ∙ ap (λ f. is_open (status_of f)) waits)

  free_same : (n : ℕ) → n < count h → Free p.bound (table_load js₁) (job_in js₁ n) → Free p.bound (load h) (job h n)
  free_same n l free s e lies =
      let there = subst (λ (j : Job). Free p.bound (table_load js₁) j) (job₁ n l) free s e lies in omega (arith, there, load₁ (job h n).component s e)

  same_free : (n : ℕ) → n < count h → Free p.bound (load h) (job h n) → Free p.bound (table_load js₁) (job_in js₁ n)
  same_free n l free =
      subst (λ (j : Job). Free p.bound (table_load js₁) j) (sym (job₁ n l))
      (λ s e lies. omega (arith, free s e lies, load₁ (job h n).component s e))

  ready_so : (n : ℕ) → ReadyIn p.bound js₁ n → Ready p.bound h n
  ready_so n w = let live = open_live n w.0 in (live, free_same n live.0.0 w.1)

  ready_from : (n : ℕ) → Ready p.bound h n → ReadyIn p.bound js₁ n
  ready_from n w = (live_open n w.0, same_free n w.0.0.0 w.1)

  held_so : (n : ℕ) → HeldIn p.bound js₁ n → Held p.bound h n
  held_so n w = let live = open_live n w.0 in (live, λ free. w.1 (same_free n live.0.0 free))

  held_from : (n : ℕ) → Held p.bound h n → HeldIn p.bound js₁ n
  held_from n w = (live_open n w.0, λ free. w.1 (free_same n w.0.0.0 free))

  due_so : (n : ℕ) → n < count h → DueIn now js n → Cuts h n
  due_so n l t =
      let q = and_parts (is_open (status_of (fate h n))) (leb (job h n).due now) (sym (ap (is_due now) (r.each n l)) ∙ t) in
      ((l, pending_so (fate h n) q.0), omega (arith, leb-true (job h n).due now q.1, r.clocked))

  due_from : (n : ℕ) → n < count h → Cuts h n → DueIn now js n
  due_from n l w =
      ap (is_due now) (r.each n l)
      ∙ and_from (is_open (status_of (fate h n))) (leb (job h n).due now) (ap (λ f. is_open (status_of f)) w.0.1) (le-leb (job h n).due now (omega (arith, w.1, r.clocked)))

  module _ (x : TickAnswered) (after : List Entry) (t : Ticks p.bound now js x after) where
    late₁ : (n : ℕ) → n < count h → late h n ≡ leb (job h n).due now
    late₁ n l = true_and (ltb n (count h)) (leb (job h n).due (clock h)) (lt-ltb n (count h) l) ∙ ap (leb (job h n).due) (sym r.clocked)

    fate_next : (n : ℕ) → n < count h → fate₁ n ≡ fate (Ticked x ∷ h) n
    fate_next n l = ap (λ b. cond b (ends (fate h n) cut) (fate h n)) (sym (late₁ n l))

    abbrev with_units : ℕ → ℕ → Entry
    with_units n u = record { number = n; component = (job h n).component; arrival = (job h n).arrival; due = (job h n).due; used = u; status = status_of (fate (Ticked x ∷ h) n) }

    cut_only : (n : ℕ) → n < count h → at js₁ n ≡ with_units n (units h n)
    cut_only n l = at₁ n l ∙ ap (with_fate h n) (fate_next n l)

    more_units : (n u : ℕ) → n < count h → u ≡ 0 → at js₁ n ≡ with_units n (units h n + u)
    more_units n u l z = cut_only n l ∙ ap (with_units n) (omega (arith, z))

    each : (o : Option ℕ) → o ≡ x.ran → ((n : ℕ) → o ≡ Some n → n < count h) → (n : ℕ) → n < count h → at (with_unit o js₁) n ≡ with_units n (units h n + gives o n)
    each None e known n l = more_units n 0 l refl
    each (Some m) e known n l =
        let there : m < count h = known m refl in
        ⊎_elim
        (λ (same : m ≡ n).
        let one : gives (Some m) n ≡ 1 = cond-true (eqb m n) 1 0 (eq-eqb m n same) in
        subst (λ i. at (with_unit (Some m) js₁) i ≡ with_units i (units h i + 1)) same
        (get_or-set_same js₁ m _ empty_entry (omega (arith, there, length₁)) ∙ ap (λ (j : Entry). with_used j (j.used + 1)) (cut_only m there))
        ∙ ap (λ u. with_units n (units h n + u)) (sym one))
        (λ (ne : m ≡ n → ⊥).
        get_or-set_other js₁ m n _ empty_entry (λ q. ne (sym q)) ∙ more_units n (gives (Some m) n) l (cond-false (eqb m n) 1 0 (ne_eqb m n ne)))
        (cases_eq m n)

    runs : FirstOf (job h) (Ready p.bound h) x.ran
    runs =
        first_same (job_in js₁) (job h) (ReadyIn p.bound js₁) (Ready p.bound h) ready_so ready_from
        (λ n w. job₁ n (omega (arith, w.0.0, length₁))) x.ran t.first_ran

    pub ticked_recorded : refusal_of p h Tick ≡ None → Recorded p v (now + 1) after (Ticked x ∷ h)
    ticked_recorded ok =
        record {
          tested = r.tested;
          clocked = ap (λ c. c + 1) r.clocked;
          counted = ap length t.one_unit_more ∙ unit_length x.ran js₁ ∙ length₁;
          each = λ n l. ap (λ xs. at xs n) t.one_unit_more ∙ each x.ran refl (λ m e. ran_known m e) n l;
          follows = (
            (
              ok,
              runs,
              counts_same (HeldIn p.bound js₁) (Held p.bound h) (count h) x.held (λ i _. held_so i) (λ i _. held_from i)
                  (subst (λ m. Counts (HeldIn p.bound js₁) m x.held) length₁ t.held_counted),
              counts_same (DueIn now js) (Cuts h) (count h) x.cut due_so due_from (subst (λ m. Counts (DueIn now js) m x.cut) r.counted t.cut_counted),
            ),
            r.follows,
          );
        }
      where
        ran_known : (m : ℕ) → x.ran ≡ Some m → m < count h
        ran_known m e = (subst (λ o. FirstOf (job h) (Ready p.bound h) o) e runs).0.0.0.0
