-- What every table keeps to, after each call.
use Rattle.std.proofs.Common.{◌≡◌, ℕ, ◌+◌, ◌<◌, ◌≤◌, Bool, true, false, cond, leb, List, [], ◌∷◌, ◌++◌, length, set, Some, None, Option, sym, refl, ap, ◌∙◌, subst, ⊎_elim, arith, length-set, get_or-set_other, get_or-set_same}
use lib.ListN.{length-map}
use Rattle.std.proofs.lemmas.List.{length_push, get_or_push, get_or_append_left, get_or-map}
use Rattle.std.proofs.lemmas.Bool.{cases_lt, cases_eq, leb-false}
use Rattle.scheduler.specs.declared.job.Ending.{Ending}
use Rattle.scheduler.specs.declared.job.Ending.TheVariants as ending
use Rattle.scheduler.specs.declared.job.Job.{Job as Entry}
use Rattle.scheduler.specs.declared.job.JobStatus.TheVariants as status
use Rattle.scheduler.specs.Table.{at, empty_entry, is_open, OpenIn, Numbered, Dated, Slow, Ascending, TableKeeps}
use Rattle.scheduler.specs.Steps.{with_status, status_after, ended, cut_at, cut_due, with_unit, born}

-- the same job, but for how it stands
pub record SameJob (j i : Entry) : Type 0 where
  pub number_same : i.number ≡ j.number
  pub arrival_same : i.arrival ≡ j.arrival
  pub due_same : i.due ≡ j.due
  pub used_same : i.used ≡ j.used

itself : (j : Entry) → SameJob j j
itself j = record { number_same = refl; arrival_same = refl; due_same = refl; used_same = refl }

ended_same : (e : Ending) (j : Entry) → SameJob j (ended e j)
ended_same e j = by (is_open j.status)
  where
    by : (b : Bool) → SameJob j (cond b (with_status j (status_after e)) j)
    by true = record { number_same = refl; arrival_same = refl; due_same = refl; used_same = refl }
    by false = itself j

cut_same : (now : ℕ) (j : Entry) → SameJob j (cut_at now j)
cut_same now j = by (leb j.due now)
  where
    by : (b : Bool) → SameJob j (cond b (ended ending.Due j) j)
    by true = ended_same ending.Due j
    by false = itself j

-- a table whose jobs are the same
module _ (now : ℕ) (js ys : List Entry) (long : length ys ≡ length js) (each : (i : ℕ) → i < length js → SameJob (at js i) (at ys i)) where
  pub numbered_same : Numbered js → Numbered ys
  numbered_same o n l = (each n (omega (arith, l, long))).number_same ∙ o n (omega (arith, l, long))

  pub dated_same : Dated now js → Dated now ys
  dated_same d n l =
      let s = each n (omega (arith, l, long)) in
      let o = d n (omega (arith, l, long)) in
      (omega (arith, s.arrival_same, o.0), omega (arith, s.arrival_same, s.due_same, o.1), omega (arith, s.arrival_same, s.due_same, o.2))

  pub slow_same : Slow now js → Slow now ys
  slow_same d n l =
      let s = each n (omega (arith, l, long)) in
      let o = d n (omega (arith, l, long)) in
      (omega (arith, s.arrival_same, s.used_same, o.0), omega (arith, s.arrival_same, s.due_same, s.used_same, o.1))

  pub ascending_same : Ascending js → Ascending ys
  ascending_same up m n le l =
      omega (arith, up m n le (omega (arith, l, long)), (each m (omega (arith, le, l, long))).arrival_same, (each n (omega (arith, l, long))).arrival_same)

  pub kept_same : TableKeeps now js → TableKeeps now ys
  kept_same k = record {
    numbered = numbered_same k.numbered;
    dated = dated_same k.dated;
    slow = slow_same k.slow;
    ascending = ascending_same k.ascending;
  }

pub unit_length : (o : Option ℕ) (js : List Entry) → length (with_unit o js) ≡ length js
unit_length None js = refl
unit_length (Some n) js = length-set js n _

-- one job more, which arrives at the clock
module _ (now : ℕ) (js : List Entry) (m k d : ℕ) (low : 1 ≤ d) (high : d ≤ 4096) where
  abbrev pushed : List Entry
  pushed = js ++ (born now m k d ∷ [])

  old_or_new : (P : ℕ → Entry → Type 0) → ((i : ℕ) → i < length js → P i (at js i)) → ((i : ℕ) → length js ≡ i → P i (born now m k d)) → (i : ℕ) → i < length pushed → P i (at pushed i)
  old_or_new P old new i l =
      ⊎_elim (λ (lt : i < length js). subst (P i) (sym (get_or_append_left js (born now m k d ∷ []) empty_entry i lt)) (old i lt))
      (λ (ge : length js ≤ i).
      let e : length js ≡ i = omega (arith, l, ge, length_push js (born now m k d)) in subst (P i) (sym (get_or_push js (born now m k d) empty_entry i e)) (new i e))
      (cases_lt i (length js))

  pub numbered_push : m ≡ length js → Numbered js → Numbered pushed
  numbered_push e o = old_or_new (λ i j. j.number ≡ i) o (λ i q. e ∙ q)

  pub dated_push : Dated now js → Dated now pushed
  dated_push o = old_or_new (λ i j. (j.arrival ≤ now) × (j.arrival < j.due) × (j.due ≤ j.arrival + 4096)) o (λ i e. (omega arith, omega arith, omega arith))

  pub slow_push : Slow now js → Slow now pushed
  slow_push o = old_or_new (λ i j. (j.used + j.arrival ≤ now) × (j.used + j.arrival ≤ j.due)) o (λ i e. (omega arith, omega arith))

  pub ascending_push : Dated now js → Ascending js → Ascending pushed
  ascending_push o up a b le l =
      old_or_new (λ i j. i ≤ b → j.arrival ≤ (at pushed b).arrival)
      (λ i lt le. old_or_new (λ c x. i ≤ c → (at js i).arrival ≤ x.arrival) (λ c lt' le'. up i c le' lt') (λ c e le'. (o i lt).0) b l le)
      (λ i e le. old_or_new (λ c x. i ≤ c → now ≤ x.arrival) (λ c lt le'. absurd (omega (arith, e, lt, le'))) (λ c e' le'. omega arith) b l le)
      a (omega (arith, le, l)) le

  pub kept_push : m ≡ length js → TableKeeps now js → TableKeeps now pushed
  kept_push e k = record {
    numbered = numbered_push e k.numbered;
    dated = dated_push k.dated;
    slow = slow_push k.slow;
    ascending = ascending_push k.dated k.ascending;
  }

pub ended_length : (js : List Entry) (n : ℕ) (j : Entry) → length (set js n j) ≡ length js
ended_length js n j = length-set js n j

pub ended_each : (e : Ending) (js : List Entry) (n : ℕ) → n < length js → (i : ℕ) → i < length js → SameJob (at js i) (at (set js n (ended e (at js n))) i)
ended_each e js n known i l =
    ⊎_elim
    (λ (q : i ≡ n). subst (λ m. SameJob (at js m) (at (set js n (ended e (at js n))) m)) (sym q) (subst (SameJob (at js n)) (sym (get_or-set_same js n _ empty_entry known)) (ended_same e (at js n))))
    (λ (ne : i ≡ n → ⊥). subst (SameJob (at js i)) (sym (get_or-set_other js n i _ empty_entry ne)) (itself (at js i)))
    (cases_eq i n)

pub cut_length : (now : ℕ) (js : List Entry) → length (cut_due now js) ≡ length js
cut_length now js = length-map js (cut_at now)

pub cut_each : (now : ℕ) (js : List Entry) (i : ℕ) → i < length js → SameJob (at js i) (at (cut_due now js) i)
cut_each now js i l = subst (SameJob (at js i)) (sym (get_or-map (cut_at now) js i empty_entry empty_entry l)) (cut_same now (at js i))

-- a job that is open after the cuts is due later
stays_closed : (b : Bool) (j : Entry) → b ≡ is_open j.status → is_open (cond b (with_status j status.Cut) j).status ≡ true → ⊥
stays_closed true j e q = cc
stays_closed false j e q = cc

not_due : (b : Bool) (now : ℕ) (j : Entry) → b ≡ leb j.due now → is_open (cond b (ended ending.Due j) j).status ≡ true → now < (cond b (ended ending.Due j) j).due
not_due true now j e q = absurd (stays_closed (is_open j.status) j refl q)
not_due false now j e q = leb-false j.due now (sym e)

pub open_later : (now : ℕ) (js : List Entry) (n : ℕ) → OpenIn (cut_due now js) n → now < (at (cut_due now js) n).due
open_later now js n o =
    let l : n < length js = omega (arith, o.0, cut_length now js) in
    let e = get_or-map (cut_at now) js n empty_entry empty_entry l in
    subst (λ j. now < j.due) (sym e) (not_due (leb (at js n).due now) now (at js n) refl (ap (λ (j : Entry). is_open j.status) (sym e) ∙ o.1))

-- The clock rises, and an open job that is due later may have used one unit more.
module _ (now : ℕ) (js : List Entry) (dated : Dated now js) (slow : Slow now js) (up : Ascending js) where
  abbrev RanInTime : Option ℕ → Type 0
  RanInTime o = (n : ℕ) → o ≡ Some n → (n < length js) × (now < (at js n).due)

  abbrev Aged : Entry → Entry → Type 0
  Aged j i = (i.arrival ≡ j.arrival) × (i.due ≡ j.due) × (i.used + i.arrival ≤ now + 1) × (i.used + i.arrival ≤ j.due) × (i.number ≡ j.number)

  aged : (o : Option ℕ) → RanInTime o → (i : ℕ) → i < length js → Aged (at js i) (at (with_unit o js) i)
  aged None known i l = let w = slow i l in (refl, refl, omega (arith, w.0), w.1, refl)
  aged (Some n) known i l =
      let w = slow i l in
      ⊎_elim
      (λ (q : n ≡ i).
      let k = known n refl in
      let v = slow n k.0 in
      subst (λ m. Aged (at js m) (at (with_unit (Some n) js) m)) q
      (subst (Aged (at js n)) (sym (get_or-set_same js n _ empty_entry k.0)) (refl, refl, omega (arith, v.0), omega (arith, v.0, k.1), refl)))
      (λ (ne : n ≡ i → ⊥). subst (Aged (at js i)) (sym (get_or-set_other js n i _ empty_entry (λ e. ne (sym e)))) (refl, refl, omega (arith, w.0), w.1, refl))
      (cases_eq n i)

  module _ (o : Option ℕ) (known : RanInTime o) where
    long : length (with_unit o js) ≡ length js
    long = unit_length o js

    pub numbered_ran : Numbered js → Numbered (with_unit o js)
    numbered_ran q i l = (aged o known i (omega (arith, l, long))).4 ∙ q i (omega (arith, l, long))

    pub dated_ran : Dated (now + 1) (with_unit o js)
    dated_ran i l =
        let a = aged o known i (omega (arith, l, long)) in
        let d = dated i (omega (arith, l, long)) in
        (omega (arith, a.0, d.0), omega (arith, a.0, a.1, d.1), omega (arith, a.0, a.1, d.2))

    pub slow_ran : Slow (now + 1) (with_unit o js)
    slow_ran i l = let a = aged o known i (omega (arith, l, long)) in (a.2, omega (arith, a.1, a.3))

    pub ascending_ran : Ascending (with_unit o js)
    ascending_ran m n le l =
        omega (arith, up m n le (omega (arith, l, long)), (aged o known m (omega (arith, le, l, long))).0, (aged o known n (omega (arith, l, long))).0)

pub kept_ran : (now : ℕ) (js : List Entry) (kept : TableKeeps now js) (o : Option ℕ) → ((n : ℕ) → o ≡ Some n → (n < length js) × (now < (at js n).due)) → TableKeeps (now + 1) (with_unit o js)
kept_ran now js kept o known = record {
  numbered = numbered_ran now js kept.dated kept.slow kept.ascending o known kept.numbered;
  dated = dated_ran now js kept.dated kept.slow kept.ascending o known;
  slow = slow_ran now js kept.dated kept.slow kept.ascending o known;
  ascending = ascending_ran now js kept.dated kept.slow kept.ascending o known;
}
