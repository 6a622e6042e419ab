-- The starts of spent windows decide which open jobs are held.
use Rattle.std.proofs.Common.{◌≡◌, ℕ, zero, suc, ◌+◌, ◌-◌, ◌<◌, ◌≤◌, Bool, true, false, cond, eqb, leb, List, length, get_or, Some, None, Option, sym, refl, ap, ◌∙◌, subst, ⊎_elim, arith}
use Rattle.std.proofs.lemmas.Bool.{cases_lt, and_parts, and_from, eqb-true, leb-true, eq-eqb, le-leb}
use Rattle.demand.specs.Admission.{total}
use Rattle.scheduler.specs.declared.job.Job.{Job as Entry}
use Rattle.scheduler.specs.declared.window.Window.{Window}
use Rattle.scheduler.specs.History.{inside, Lies, load_over}
use Rattle.scheduler.specs.Table.{at, job_in, used_in, table_load, OpenIn, FreeIn, Ascending}
use Rattle.scheduler.specs.Policing.{due_by, used_below, SpentFrom, OpenBy, FirstSpent, HeldBy}
use Rattle.scheduler.proofs.Jobwise.{least, greatest, share_more}
use Rattle.scheduler.proofs.Loads.{inside_true, inside_from}
use Rattle.scheduler.proofs.Sums.{sum_le}
use Rattle.scheduler.proofs.Spent.{used_more}

pub due_by_true : (k e : ℕ) (j : Entry) → due_by k e j ≡ true → (j.component ≡ k) × (j.due ≤ e)
due_by_true k e j t =
    let p = and_parts (eqb j.component k) (leb j.due e) t in (eqb-true j.component k p.0, leb-true j.due e p.1)

pub due_by_from : (k e : ℕ) (j : Entry) → j.component ≡ k → j.due ≤ e → due_by k e j ≡ true
due_by_from k e j c d = and_from (eqb j.component k) (leb j.due e) (eq-eqb j.component k c) (le-leb j.due e d)

share_none : (b : Bool) (x : ℕ) → (b ≡ true → ⊥) → cond b x 0 ≡ 0
share_none true x never = absurd (never refl)
share_none false x never = refl

module _ (js : List Entry) (k e : ℕ) where
  -- the share of each job in the load of the window from s to e
  share : ℕ → ℕ → ℕ
  share s i = cond (inside k s e (job_in js i)) (used_in js i) 0

  load_is : (s : ℕ) → table_load js k s e ≡ total (length js) (share s)
  unfolding load_over share
  load_is s = refl

  -- the jobs from i on that are due by e lie in the window from a tick that none of them arrived before
  tail_lies : (s i : ℕ) → ((j : ℕ) → i ≤ j → j < length js → s ≤ (at js j).arrival) → (d : ℕ) → i + d ≤ length js → used_below js k e (i + d) ≤ used_below js k e i + total (i + d) (share s)
  unfolding share
  tail_lies s i after zero l = let z : i + 0 ≡ i = omega arith in omega (arith, ap (used_below js k e) z)
  tail_lies s i after (suc d) l =
      let n : i + suc d ≡ suc (i + d) = omega arith in
      let here = share_more (due_by k e (at js (i + d))) (inside k s e (job_in js (i + d))) (at js (i + d)).used
      (λ t. let p = due_by_true k e (at js (i + d)) t in inside_from k s e (job_in js (i + d)) p.0 (after (i + d) (omega arith) (omega arith)) p.1) in
      subst (λ m. used_below js k e m ≤ used_below js k e i + total m (share s)) (sym n)
      (omega (arith, used_more js k e (i + d), tail_lies s i after d (omega arith), here))

  -- before i no job lies in the window
  none_before : (s i : ℕ) → ((j : ℕ) → j < i → inside k s e (job_in js j) ≡ true → ⊥) → total i (share s) ≡ 0
  unfolding share
  none_before s zero never = refl
  none_before s (suc i) never =
      omega (arith, none_before s i (λ j l. never j (omega arith)), share_none (inside k s e (job_in js i)) (used_in js i) (never i (omega arith)))

  -- so what lies in the window is among the jobs from i on that are due by e
  within_tail : (s i : ℕ) → ((j : ℕ) → j < i → inside k s e (job_in js j) ≡ true → ⊥) → (d : ℕ) → total (i + d) (share s) + used_below js k e i ≤ used_below js k e (i + d)
  unfolding share
  within_tail s i never zero = let z : i + 0 ≡ i = omega arith in omega (arith, ap (used_below js k e) z, ap (λ n. total n (share s)) z, none_before s i never)
  within_tail s i never (suc d) =
      let n : i + suc d ≡ suc (i + d) = omega arith in
      let here = share_more (inside k s e (job_in js (i + d))) (due_by k e (at js (i + d))) (at js (i + d)).used
      (λ t. let p = inside_true k s e (job_in js (i + d)) t in due_by_from k e (at js (i + d)) p.0 p.2) in
      subst (λ m. total m (share s) + used_below js k e i ≤ used_below js k e m) (sym n)
      (omega (arith, used_more js k e (i + d), within_tail s i never d, here))

module _ (bound : ℕ → ℕ → ℕ) (climbs : (k l m : ℕ) → l ≤ m → bound k l ≤ bound k m) (js : List Entry) (ascending : Ascending js) where
  -- a start that is spent is a window without room
  spent_full : (k e i : ℕ) → SpentFrom bound js k e i → bound k (e - (at js i).arrival) ≤ table_load js k (at js i).arrival e
  spent_full k e i spent =
      let n : i + (length js - i) ≡ length js = omega (arith, spent.0) in
      let tail = subst (λ m. used_below js k e m ≤ used_below js k e i + total m (share js k e (at js i).arrival)) n
      (tail_lies js k e (at js i).arrival i (λ j a b. ascending i j a b) (length js - i) (omega arith)) in
      omega (arith, tail, spent.2, load_is js k e (at js i).arrival)

  -- what the windows that end where each job is due are, by the number of that job
  abbrev pub Windows : List (Option Window) → Type 0
  Windows ws = (length ws ≡ length js) × ((b : ℕ) → b < length js → FirstSpent bound js (at js b) (get_or ws b None))

  pub not_free : (ws : List (Option Window)) → Windows ws → (n : ℕ) → HeldBy ws (at js n) → FreeIn bound js n → ⊥
  not_free ws right n held free =
      let w = held.1 in
      let found = subst (FirstSpent bound js (at js held.0)) held.3 (right.1 held.0 (omega (arith, held.2, right.0))) in
      let start = found.2.0 in
      let lies = inside_true w.component w.start w.end (job_in js n) held.4 in
      let room = free w.start w.end (lies.1, lies.2) in
      let spent = subst (λ e. SpentFrom bound js (at js held.0).component e start.0) (sym found.1) start.1 in
      let full = subst (λ s. bound (at js held.0).component (w.end - s) ≤ table_load js (at js held.0).component s w.end) start.2 (spent_full (at js held.0).component w.end start.0 spent) in
      let same = subst (λ c. bound c (w.end - w.start) ≤ table_load js c w.start w.end) (sym (lies.0 ∙ found.0)) full in
      omega (arith, room, same)

  module _ (n : ℕ) (known : n < length js) (s e : ℕ) (lies : Lies (job_in js n) s e) where
    k : ℕ
    k = (at js n).component

    -- the latest due tick of a job that lies in the window, and the first job in the window up to there
    last_in : (b : ℕ) × (b < length js) × (inside (at js n).component s e (job_in js b) ≡ true) × ((j : ℕ) → j < length js → inside (at js n).component s e (job_in js j) ≡ true → (at js j).due ≤ (at js b).due)
    last_in =
        greatest (λ j. inside (at js n).component s e (job_in js j)) (λ j. (at js j).due) e (length js) n
        (λ j l t. (inside_true (at js n).component s e (job_in js j) t).2) known (inside_from (at js n).component s e (job_in js n) refl lies.0 lies.1)

    spent_at : bound (at js n).component (e - s) ≤ table_load js (at js n).component s e → (b : ℕ) × (i : ℕ) × (b < length js) × ((at js b).component ≡ (at js n).component) × ((at js n).due ≤ (at js b).due) × SpentFrom bound js (at js n).component (at js b).due i × ((at js i).arrival ≤ (at js n).arrival)
    unfolding share
    spent_at full =
        let c = (at js n).component in
        let w = last_in in
        let b = w.0 in
        let e' = (at js b).due in
        let in_b = inside_true c s e (job_in js b) w.2 in
        let due_n : (at js n).due ≤ e' = w.3 n known (inside_from c s e (job_in js n) refl lies.0 lies.1) in
        let f = least (λ j. inside c s e' (job_in js j)) (λ j. j) (length js) n known (inside_from c s e' (job_in js n) refl lies.0 due_n) in
        let i = f.0 in
        let in_i = inside_true c s e' (job_in js i) f.2 in
        let more : table_load js c s e ≤ table_load js c s e' =
        (let sums = sum_le (length js) (share js c e s) (share js c e' s)
        (λ j l. share_more (inside c s e (job_in js j)) (inside c s e' (job_in js j)) (used_in js j)
        (λ t. let p = inside_true c s e (job_in js j) t in inside_from c s e' (job_in js j) p.0 p.1 (w.3 j l t))) in
        omega (arith, sums, load_is js c e s, load_is js c e' s)) in
        let len : i + (length js - i) ≡ length js = omega (arith, f.1) in
        let before : (j : ℕ) → j < i → inside c s e' (job_in js j) ≡ true → ⊥ = λ j l t. omega (arith, l, f.1, f.3 j (omega (arith, l, f.1)) t) in
        let tail = subst (λ m. total m (share js c e' s) + used_below js c e' i ≤ used_below js c e' m) len (within_tail js c e' s i before (length js - i)) in
        let less = climbs c (e' - (at js i).arrival) (e - s) (omega (arith, in_b.2, in_i.1)) in (
          b,
          i,
          w.1,
          in_b.0,
          due_n,
          (f.1, due_by_from c e' (at js i) in_i.0 in_i.2, omega (arith, less, full, more, tail, load_is js c e' s)),
          ascending i n (f.3 n known (inside_from c s e' (job_in js n) refl lies.0 due_n)) known,
        )

  earlier_start : (last : Entry) (o : Option Window) (i : ℕ) → FirstSpent bound js last o → OpenBy js last.component last.due → SpentFrom bound js last.component last.due i → (w : Window) × (o ≡ Some w) × (w.component ≡ last.component) × (w.end ≡ last.due) × (w.start ≤ (at js i).arrival)
  earlier_start last None i none waits spent = absurd (none waits i spent)
  earlier_start last (Some w) i found waits spent = (w, refl, found.0, found.1, found.2.1 i spent)

  pub is_free : (ws : List (Option Window)) → Windows ws → (n : ℕ) → OpenIn js n → (HeldBy ws (at js n) → ⊥) → FreeIn bound js n
  is_free ws right n o never s e lies =
      let c = (at js n).component in
      ⊎_elim (λ (room : table_load js c s e < bound c (e - s)). omega arith)
      (λ (full : bound c (e - s) ≤ table_load js c s e).
      let w = spent_at n o.0 s e lies full in
      let last = at js w.0 in
      let waits : OpenBy js last.component last.due = (n, o, due_by_from last.component last.due (at js n) (sym w.3) w.4) in
      let spent : SpentFrom bound js last.component last.due w.1 = subst (λ x. SpentFrom bound js x last.due w.1) (sym w.3) w.5 in
      let found = earlier_start last (get_or ws w.0 None) w.1 (right.1 w.0 w.2) waits spent in
      let v = found.0 in
      absurd (never (w.0, v, omega (arith, w.2, right.0), found.1, inside_from v.component v.start v.end (job_in js n) (sym (found.2 ∙ w.3)) (omega (arith, found.4, w.6)) (omega (arith, found.3, w.4)))))
      (cases_lt (table_load js c s e) (bound c (e - s)))
