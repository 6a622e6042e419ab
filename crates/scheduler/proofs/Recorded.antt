-- Each call keeps the scheduler in step with its history.
use Rattle.std.proofs.Common.{◌≡◌, ℕ, ◌+◌, ◌<◌, ◌≤◌, Bool, true, cond, not, eqb, leb, List, [], ◌∷◌, ◌++◌, length, set, is_ok, Some, None, Option, Result, sym, refl, ap, ◌∙◌, subst, ⊎_elim, arith, length-set, get_or-set_other, get_or-set_same}
use Rattle.std.proofs.lemmas.List.{length_push, get_or_push, get_or_append_left}
use Rattle.std.proofs.lemmas.Bool.{cases_lt, cases_eq, cond-true, cond-false, eq-eqb, ne_eqb, le-leb}
use Rattle.demand.specs.declared.verdict.TestRefusal.{TestRefusal}
use Rattle.scheduler.specs.declared.calls.Call.{Call}
use Rattle.scheduler.specs.declared.calls.Call.TheVariants.{Arrive, Finish, Tick}
use Rattle.scheduler.specs.declared.calls.CallRefusal.{CallRefusal}
use Rattle.scheduler.specs.declared.calls.CallRefusal.TheVariants.{NotAdmitted, NoJob}
use Rattle.scheduler.specs.declared.calls.Event.TheVariants.{Arrived, Finished, Refused}
use Rattle.scheduler.specs.declared.job.Ending.TheVariants as ending
use Rattle.scheduler.specs.declared.job.Job.{Job as Entry}
use Rattle.scheduler.specs.declared.job.JobStatus.TheVariants as status
use Rattle.scheduler.specs.History.{History, Job, no_job, Fate, clock, jobs, count, job, units, ends, fate}
use Rattle.scheduler.specs.History.Fate.{pending, done, cut}
use Rattle.scheduler.specs.Reasons.{arrive_reason, finish_reason, tick_reason}
use Rattle.scheduler.specs.Rules.{Plan, admitted, is_pending, refusal_of}
use Rattle.scheduler.specs.Table.{at, empty_entry, is_open}
use Rattle.scheduler.specs.Steps.{with_status, ended}
use Rattle.scheduler.specs.Steps as steps
use Rattle.scheduler.specs.Recording.{status_of, entry_of, Recorded}
use Rattle.scheduler.proofs.Loads.{born}
use Rattle.scheduler.proofs.Soundness.{Sound}

open_pending : (f : Fate) → is_open (status_of f) ≡ is_pending f
open_pending pending = refl
open_pending done = refl
open_pending cut = refl

pub pending_so : (f : Fate) → is_open (status_of f) ≡ true → f ≡ pending
pending_so pending e = refl
pending_so done e = cc
pending_so cut e = cc

finish_same : (ok b c : Bool) (n m : ℕ) → (n < m → b ≡ c) → finish_reason ok m n b ≡ finish_reason ok m n c
finish_same ok b c n m same =
    ⊎_elim (λ (l : n < m). ap (finish_reason ok m n) (same l))
    (λ (ge : m ≤ n).
    let t = le-leb m n ge in
    ap (λ (o : Option CallRefusal). cond (not ok) (Some NotAdmitted) o) (cond-true (leb m n) (Some NoJob) _ t ∙ sym (cond-true (leb m n) (Some NoJob) _ t)))
    (cases_lt n m)

-- the record of job n of a history, but for what the job is, and but for how it stands
abbrev made_of : History → ℕ → Job → Entry
made_of h n j = record { number = n; component = j.component; arrival = j.arrival; due = j.due; used = units h n; status = status_of (fate h n) }

abbrev pub with_fate : History → ℕ → Fate → Entry
with_fate h n f = record { number = n; component = (job h n).component; arrival = (job h n).arrival; due = (job h n).due; used = units h n; status = status_of f }

module _ (p : Plan) (v : Result (Unit {0}) TestRefusal) (now : ℕ) (js : List Entry) (h : History) (r : Recorded p v now js h) where
  ok_same : is_ok v ≡ admitted p
  ok_same = ap is_ok r.tested

  pub arrive_same : (k d : ℕ) → arrive_reason (is_ok v) p.parts now (length js) k d ≡ refusal_of p h (Arrive k d)
  arrive_same k d =
      ap (λ b. arrive_reason b p.parts now (length js) k d) ok_same
      ∙ ap (λ t. arrive_reason (admitted p) p.parts t (length js) k d) r.clocked
      ∙ ap (λ n. arrive_reason (admitted p) p.parts (clock h) n k d) r.counted

  pub finish_refused_same : (n : ℕ) → finish_reason (is_ok v) (length js) n (is_open (at js n).status) ≡ refusal_of p h (Finish n)
  finish_refused_same n =
      ap (λ b. finish_reason b (length js) n (is_open (at js n).status)) ok_same
      ∙ ap (λ m. finish_reason (admitted p) m n (is_open (at js n).status)) r.counted
      ∙ finish_same (admitted p) (is_open (at js n).status) (is_pending (fate h n)) n (count h)
      (λ l. ap (λ (j : Entry). is_open j.status) (r.each n l) ∙ open_pending (fate h n))

  pub tick_same : tick_reason (is_ok v) now ≡ refusal_of p h Tick
  tick_same = ap (λ b. tick_reason b now) ok_same ∙ ap (tick_reason (admitted p)) r.clocked

  pub refused_recorded : (c : Call) (e : CallRefusal) → refusal_of p h c ≡ Some e → Recorded p v now js (Refused c e ∷ h)
  refused_recorded c e q = record { tested = r.tested; clocked = r.clocked; counted = r.counted; each = r.each; follows = (q, r.follows) }

  pub arrived_recorded : Sound p.parts p.bound h → (k d : ℕ) → refusal_of p h (Arrive k d) ≡ None → Recorded p v now (js ++ (steps.born now (length js) k d ∷ [])) (Arrived k d (length js) ∷ h)
  arrived_recorded sound k d ok =
      record {
        tested = r.tested;
        clocked = r.clocked;
        counted = length_push js (steps.born now (length js) k d) ∙ ap (λ n. n + 1) r.counted ∙ sym (length_push (jobs h) (born h k d));
        each = each;
        follows = ((ok, r.counted), r.follows);
      }
    where
      new_is : steps.born now (length js) k d ≡ made_of h (count h) (born h k d)
      new_is =
          let number = r.counted in
          let tick = r.clocked in
          let due : now + d ≡ clock h + d = ap (λ t. t + d) r.clocked in
          let idle : 0 ≡ units h (count h) = sym (sound.idle (count h) (omega arith)) in
          let waits : status.Open ≡ status_of (fate h (count h)) = ap status_of (sym (sound.unborn (count h) (omega arith))) in
          cc

      each : (n : ℕ) → n < count (Arrived k d (length js) ∷ h) → at (js ++ (steps.born now (length js) k d ∷ [])) n ≡ entry_of (Arrived k d (length js) ∷ h) n
      each n l =
          ⊎_elim
          (λ (lt : n < count h).
          get_or_append_left js (steps.born now (length js) k d ∷ []) empty_entry n (omega (arith, lt, r.counted)) ∙ r.each n lt
          ∙ ap (made_of h n) (sym (get_or_append_left (jobs h) (born h k d ∷ []) no_job n lt)))
          (λ (ge : count h ≤ n).
          let e : count h ≡ n = omega (arith, ge, l, length_push (jobs h) (born h k d)) in
          get_or_push js (steps.born now (length js) k d) empty_entry n (r.counted ∙ e) ∙ new_is ∙ ap (λ m. made_of h m (born h k d)) e
          ∙ ap (made_of h n) (sym (get_or_push (jobs h) (born h k d) no_job n e)))
          (cases_lt n (count h))

  pub finished_recorded : (n : ℕ) → refusal_of p h (Finish n) ≡ None → n < count h → fate h n ≡ pending → Recorded p v now (set js n (ended ending.Finish (at js n))) (Finished n (at js n).used ∷ h)
  finished_recorded n ok known waits =
      record {
        tested = r.tested;
        clocked = r.clocked;
        counted = length-set js n _ ∙ r.counted;
        each = each;
        follows = ((ok, ap (λ (j : Entry). j.used) (r.each n known)), r.follows);
      }
    where
      was : at js n ≡ entry_of h n
      was = r.each n known

      ended_is : ended ending.Finish (at js n) ≡ with_fate h n done
      ended_is = ap (ended ending.Finish) was ∙ ap (λ f. cond (is_open (status_of f)) (with_status (with_fate h n f) status.Finished) (with_fate h n f)) waits

      each : (i : ℕ) → i < count h → at (set js n (ended ending.Finish (at js n))) i ≡ entry_of (Finished n (at js n).used ∷ h) i
      each i l =
          ⊎_elim
          (λ (e : n ≡ i).
          let now_done : fate (Finished n (at js n).used ∷ h) i ≡ done = cond-true (eqb n i) _ _ (eq-eqb n i e) ∙ ap (λ f. ends f done) (ap (fate h) (sym e) ∙ waits) in
          subst (λ m. at (set js n (ended ending.Finish (at js n))) m ≡ with_fate h m done) e (get_or-set_same js n _ empty_entry (omega (arith, known, r.counted)) ∙ ended_is)
          ∙ ap (with_fate h i) (sym now_done))
          (λ (ne : n ≡ i → ⊥).
          get_or-set_other js n i _ empty_entry (λ e. ne (sym e)) ∙ r.each i l ∙ ap (with_fate h i) (sym (cond-false (eqb n i) _ _ (ne_eqb n i ne))))
          (cases_eq n i)
