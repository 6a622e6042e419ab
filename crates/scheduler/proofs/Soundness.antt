-- What every history that follows the rules keeps.
use Rattle.std.proofs.Common.{◌≡◌, ℕ, ◌+◌, ◌-◌, ◌<◌, ◌≤◌, true, eqb, ltb, leb, ◌⊎◌, [], ◌∷◌, Some, None, Option, sym, refl, ap, ◌∙◌, subst, inl, inr, ⊎_elim, arith}
use Rattle.std.proofs.lemmas.List.{length_push}
use Rattle.std.proofs.lemmas.Bool.{cond-false, cases_lt, cases_Bool, and_parts, and_left, and_from, leb-true, lt-ltb, le-leb, le-ltb, ne_eqb, both_ways}
use Rattle.demand.specs.Admission.{total}
use Rattle.scheduler.specs.declared.calls.Call.{Call}
use Rattle.scheduler.specs.declared.calls.CallRefusal.{CallRefusal}
use Rattle.scheduler.specs.History.{History, Job, clock, jobs, count, job, gives, units, late, fate, Open, Live, inside, load, load_over}
use Rattle.scheduler.specs.declared.calls.Event.TheVariants.{Arrived, Finished, Ticked, Refused}
use Rattle.scheduler.specs.declared.calls.Ticked.{Ticked as TickAnswered}
use Rattle.scheduler.specs.History.Fate.{pending, done, cut}
use Rattle.scheduler.specs.Windows.{Free, Spent, Ready}
use Rattle.scheduler.proofs.Weak.{Fair, Picks, MayAll}
use Rattle.scheduler.proofs.Sums.{sum_same, sum_more, sum_less}
use Rattle.scheduler.proofs.Windows.{free_or_full}
use Rattle.scheduler.proofs.Loads.{horizon, load_past, due_before, born, inside_true, inside_from, inside_other, each_arrived, load_arrived, load_idle, load_in, load_out, gives_other, pending_cut, done_pending, cut_pending, still_pending, cut_now, cut_before}

-- the load of all components together
abbrev pub all_loads : ℕ → History → ℕ → ℕ → ℕ
all_loads parts h s e = total parts (λ k. load h k s e)

-- Since some tick on, the processor has run nothing but jobs that lie in the window from there to d, and no open job with a free unit
-- that is due by d is older.
pub record Busy (parts : ℕ) (bound : ℕ → ℕ → ℕ) (h : History) (d : ℕ) : Type 0 where
  pub since : ℕ
  pub early : since ≤ clock h
  pub full : clock h ≤ all_loads parts h since d + since
  pub later : (n : ℕ) → Open h n → Free bound (load h) (job h n) → (job h n).due ≤ d → since ≤ (job h n).arrival

pub record Timely (parts now : ℕ) (j : Job) : Type 0 where
  pub short : j.arrival < j.due
  pub past : j.arrival ≤ now
  pub known : j.component < parts

pub record Sound (parts : ℕ) (bound : ℕ → ℕ → ℕ) (h : History) : Type 0 where
  pub idle : (n : ℕ) → count h ≤ n → units h n ≡ 0
  pub unborn : (n : ℕ) → count h ≤ n → fate h n ≡ pending
  pub timely : (n : ℕ) → n < count h → Timely parts (clock h) (job h n)
  pub waits : (n : ℕ) → Open h n → clock h ≤ (job h n).due
  pub slow : (k s e : ℕ) → load h k s e ≤ clock h
  pub within : (k s e : ℕ) → load h k s e ≤ bound k (e - s)
  pub busy : (d : ℕ) → clock h ≤ d → Busy parts bound h d
  pub earned : (n : ℕ) → n < count h → fate h n ≡ cut → Spent bound (load h) (job h n)

-- from a history to a later one in which no load is less
module _ (bound : ℕ → ℕ → ℕ) (h h' : History) (more : (k s e : ℕ) → load h k s e ≤ load h' k s e) where
  free_before : (j : Job) → Free bound (load h') j → Free bound (load h) j
  free_before j free s e lies = omega (arith, free s e lies, more j.component s e)

  spent_after : ((k s e : ℕ) → load h' k s e ≤ bound k (e - s)) → (j : Job) → Spent bound (load h) j → Spent bound (load h') j
  spent_after within j w =
      (w.0, w.1, w.2, omega (arith, w.3, more j.component w.0 w.1, within j.component w.0 w.1))

module _ (parts : ℕ) (bound : ℕ → ℕ → ℕ) where
  at_start : Sound parts bound []
  unfolding load_over
  at_start = record {
    idle = λ n l. refl;
    unborn = λ n l. refl;
    timely = λ n l. absurd (omega arith);
    waits = λ n o. omega arith;
    slow = λ k s e. omega arith;
    within = λ k s e. omega arith;
    busy = λ d l. record { since = 0; early = omega arith; full = omega arith; later = λ n o f l. omega arith };
    earned = λ n l e. absurd (omega arith);
  }

  module _ (h : History) (s : Sound parts bound h) where
    after_arrived : (k d m : ℕ) → k < parts → 1 ≤ d → Sound parts bound (Arrived k d m ∷ h)
    after_arrived k d m known short = record {
      idle = λ n l. s.idle n (omega (arith, length_push (jobs h) (born h k d)));
      unborn = λ n l. s.unborn n (omega (arith, length_push (jobs h) (born h k d)));
      timely = each_arrived h k d m (λ n j. Timely parts (clock h) j) s.timely (record { short = omega arith; past = omega arith; known = known });
      waits = λ n o. each_arrived h k d m (λ n j. fate h n ≡ pending → clock h ≤ j.due) (λ n l e. s.waits n (l, e)) (λ _. omega arith) n o.0 o.1;
      slow = λ c t e. omega (arith, same c t e, s.slow c t e);
      within = within;
      busy = λ e l. busy e (s.busy e l);
      earned = each_arrived h k d m (λ n j. fate h n ≡ cut → Spent bound (load next) j)
          (λ n l e. spent_after bound h next more within (job h n) (s.earned n l e))
          (λ e. absurd (pending_cut (fate h (count h)) (s.unborn (count h) (omega arith)) e));
    }
      where
        next : History
        next = Arrived k d m ∷ h

        same : (c t e : ℕ) → load next c t e ≡ load h c t e
        same = load_arrived h k d m (s.idle (count h) (omega arith))

        more : (c t e : ℕ) → load h c t e ≤ load next c t e
        more c t e = omega (arith, same c t e)

        within : (c t e : ℕ) → load next c t e ≤ bound c (e - t)
        within c t e = omega (arith, same c t e, s.within c t e)

        busy : (e : ℕ) → Busy parts bound h e → Busy parts bound next e
        busy e b = record {
          since = b.since;
          early = b.early;
          full = omega (arith, b.full, sum_same parts (λ c. load next c b.since e) (λ c. load h c b.since e) (λ c _. same c b.since e));
          later = λ n o free due.
              each_arrived h k d m (λ n j. fate h n ≡ pending → Free bound (load next) j → j.due ≤ e → b.since ≤ j.arrival)
              (λ n l p f. b.later n (l, p) (free_before bound h next more (job h n) f)) (λ _ _ _. b.early) n o.0 o.1 free due;
        }

    after_refused : (c : Call) (why : CallRefusal) → Sound parts bound (Refused c why ∷ h)
    unfolding load_over
    after_refused c why = record {
      idle = s.idle;
      unborn = s.unborn;
      timely = s.timely;
      waits = s.waits;
      slow = s.slow;
      within = s.within;
      busy = λ e l. let b = s.busy e l in record { since = b.since; early = b.early; full = b.full; later = b.later };
      earned = s.earned;
    }

    after_finished : (m u : ℕ) → Open h m → Sound parts bound (Finished m u ∷ h)
    unfolding load_over
    after_finished m u o = record {
      idle = s.idle;
      unborn = λ n l. unborn n l;
      timely = s.timely;
      waits = λ n w. s.waits n (open_before n w);
      slow = s.slow;
      within = s.within;
      busy = λ e l. busy e (s.busy e l);
      earned = λ n l e. s.earned n l (cut_before (eqb m n) (fate h n) e);
    }
      where
        open_before : (n : ℕ) → Open (Finished m u ∷ h) n → Open h n
        open_before n w = (w.0, (still_pending (eqb m n) (fate h n) done done_pending w.1).1)

        unborn : (n : ℕ) → count h ≤ n → fate (Finished m u ∷ h) n ≡ pending
        unborn n l = cond-false (eqb m n) _ _ (ne_eqb m n (omega (arith, o.0))) ∙ s.unborn n l

        busy : (e : ℕ) → Busy parts bound h e → Busy parts bound (Finished m u ∷ h) e
        busy e b = record {
          since = b.since;
          early = b.early;
          full = b.full;
          later = λ n w free due. b.later n (open_before n w) free due;
        }

    -- A late open job has no free unit: the processor was busy with jobs due by now since some tick no later than its arrival, and there is no room for more.
    not_free : Fair parts bound → (n : ℕ) → Open h n → (job h n).due ≤ clock h → Free bound (load h) (job h n) → ⊥
    not_free fair n o due free =
        let b = s.busy (clock h) (omega arith) in
        let t = s.timely n o.0 in
        let began : b.since ≤ (job h n).arrival = b.later n o free due in
        let waits : clock h ≤ (job h n).due = s.waits n o in
        let room = fair.fits (clock h - b.since) (omega (arith, t.short)) in
        let less = sum_less parts (λ c. load h c b.since (clock h)) (λ c. bound c (clock h - b.since)) (job h n).component t.known (free b.since (clock h) (began, due)) (λ c _. s.within c b.since (clock h)) in
        omega (arith, b.full, room, less, b.early)

    free_or_spent : Fair parts bound → (n : ℕ) → n < count h → Free bound (load h) (job h n) ⊎ Spent bound (load h) (job h n)
    free_or_spent fair n l =
        ⊎_elim (λ free. inl free)
        (λ w. inr (w.0, w.1, w.2, omega (arith, w.3, s.within (job h n).component w.0 w.1)))
        (free_or_full bound (load h) (job h n) (horizon h) (λ a b le. fair.grows (job h n).component a b le)
        (λ t e. load_past h (job h n).component t e) (due_before h n l))

    -- what a tick is, whatever it ran
    module _ (x : TickAnswered) (more : (k t e : ℕ) → load h k t e ≤ load (Ticked x ∷ h) k t e) (by_one : (k t e : ℕ) → load (Ticked x ∷ h) k t e ≤ load h k t e + 1) where
      live_before : (n : ℕ) → Open (Ticked x ∷ h) n → Live h n
      live_before n w =
          let p = still_pending (late h n) (fate h n) cut cut_pending w.1 in (
            (w.0, p.1),
            ⊎_elim (λ (lt : clock h < (job h n).due). lt)
                (λ (ge : (job h n).due ≤ clock h). absurd (both_ways (late h n) p.0 (and_from _ _ (lt-ltb n (count h) w.0) (le-leb (job h n).due (clock h) ge))))
                (cases_lt (clock h) (job h n).due),
          )

      rested : (d : ℕ) → ((m : ℕ) → Ready bound h m → (job h m).due ≤ d → ⊥) → Busy parts bound (Ticked x ∷ h) d
      rested d none = record {
        since = clock h + 1;
        early = omega arith;
        full = omega arith;
        later = λ n o free due. absurd (none n (live_before n o, free_before bound h (Ticked x ∷ h) more (job h n) free) due);
      }

      ticked_so : Fair parts bound → ((k t e : ℕ) → load (Ticked x ∷ h) k t e ≤ bound k (e - t)) → ((n : ℕ) → count h ≤ n → gives x.ran n ≡ 0) → ((d : ℕ) → clock h + 1 ≤ d → Busy parts bound (Ticked x ∷ h) d) → Sound parts bound (Ticked x ∷ h)
      ticked_so fair within idle busy = record {
        idle = λ n l. omega (arith, s.idle n l, idle n l);
        unborn = λ n l. cond-false (late h n) _ _ (and_left _ _ (le-ltb n (count h) l)) ∙ s.unborn n l;
        timely = λ n l. let t = s.timely n l in record { short = t.short; past = omega (arith, t.past); known = t.known };
        waits = λ n o. omega (arith, (live_before n o).1);
        slow = λ k t e. omega (arith, by_one k t e, s.slow k t e);
        within = within;
        busy = busy;
        earned = λ n l e.
            spent_after bound h (Ticked x ∷ h) more within (job h n)
            (⊎_elim (λ (before : fate h n ≡ cut). s.earned n l before)
            (λ (now : (late h n ≡ true) × (fate h n ≡ pending)).
            let due : (job h n).due ≤ clock h = leb-true _ _ (and_parts (ltb n (count h)) (leb (job h n).due (clock h)) now.0).1 in
            ⊎_elim (λ free. absurd (not_free fair n (l, now.1) due free)) (λ spent. spent) (free_or_spent fair n l))
            (cut_now (late h n) (fate h n) e));
      }

    after_idle : Fair parts bound → (x : TickAnswered) → x.ran ≡ None → Picks bound h None → Sound parts bound (Ticked x ∷ h)
    after_idle fair x ran none =
        ticked_so x more by_one fair (λ k t e. omega (arith, load_idle h x ran k t e, s.within k t e)) (λ n l. ap (λ o. gives o n) ran)
        (λ d l. rested x more by_one d (λ m ready _. none m ready))
      where
        more : (k t e : ℕ) → load h k t e ≤ load (Ticked x ∷ h) k t e
        more k t e = omega (arith, load_idle h x ran k t e)

        by_one : (k t e : ℕ) → load (Ticked x ∷ h) k t e ≤ load h k t e + 1
        by_one k t e = omega (arith, load_idle h x ran k t e)

    after_run : Fair parts bound → (x : TickAnswered) (n : ℕ) → x.ran ≡ Some n → Picks bound h (Some n) → Sound parts bound (Ticked x ∷ h)
    after_run fair x n ran picks =
        ticked_so x more by_one fair within (λ i l. gives_other h x n ran i (omega (arith, known)))
        (λ d l. ⊎_elim (λ (by : d < (job h n).due). rested x more by_one d (λ m ready due. absurd (omega (arith, picks.1 m ready))))
        (λ (by : (job h n).due ≤ d). busier d by (s.busy d (omega arith))) (cases_lt d (job h n).due))
      where
        next : History
        next = Ticked x ∷ h

        known : n < count h
        known = picks.0.0.0.0

        more : (k t e : ℕ) → load h k t e ≤ load next k t e
        more k t e =
            ⊎_elim (λ i. omega (arith, load_in h x n ran known k t e i)) (λ i. omega (arith, load_out h x n ran k t e i))
            (cases_Bool (inside k t e (job h n)))

        by_one : (k t e : ℕ) → load next k t e ≤ load h k t e + 1
        by_one k t e =
            ⊎_elim (λ i. omega (arith, load_in h x n ran known k t e i)) (λ i. omega (arith, load_out h x n ran k t e i))
            (cases_Bool (inside k t e (job h n)))

        within : (k t e : ℕ) → load next k t e ≤ bound k (e - t)
        within k t e =
            ⊎_elim
            (λ i.
            let lies = inside_true k t e (job h n) i in
            let room : load h k t e + 1 ≤ bound k (e - t) = subst (λ c. load h c t e + 1 ≤ bound c (e - t)) lies.0 (picks.0.1 t e (lies.1, lies.2)) in
            omega (arith, load_in h x n ran known k t e i, room))
            (λ i. omega (arith, load_out h x n ran k t e i, s.within k t e)) (cases_Bool (inside k t e (job h n)))

        busier : (d : ℕ) → (job h n).due ≤ d → Busy parts bound h d → Busy parts bound next d
        busier d by b =
            let began = b.later n picks.0.0.0 picks.0.1 by in
            let here = load_in h x n ran known (job h n).component b.since d (inside_from (job h n).component b.since d (job h n) refl began by) in
            let one = sum_more parts (λ k. load h k b.since d) (λ k. load next k b.since d) (job h n).component (s.timely n known).known here
            (λ k _ ne. load_out h x n ran k b.since d (inside_other k b.since d (job h n) (λ e. ne (sym e)))) in
            record {
              since = b.since;
              early = omega (arith, b.early);
              full = omega (arith, b.full, one);
              later = λ m o free due. b.later m (live_before x more by_one m o).0 (free_before bound h next more (job h m) free) due;
            }

    after_tick : Fair parts bound → (x : TickAnswered) (ran : Option ℕ) → x.ran ≡ ran → Picks bound h ran → Sound parts bound (Ticked x ∷ h)
    after_tick fair x None e none = after_idle fair x e none
    after_tick fair x (Some n) e picks = after_run fair x n e picks

pub sound : (parts : ℕ) (bound : ℕ → ℕ → ℕ) → Fair parts bound → (h : History) → MayAll parts bound h → Sound parts bound h
sound parts bound fair [] rules = at_start parts bound
sound parts bound fair (Arrived k d n ∷ h) rules = after_arrived parts bound h (sound parts bound fair h rules.1) k d n rules.0.0 rules.0.1
sound parts bound fair (Finished n u ∷ h) rules = after_finished parts bound h (sound parts bound fair h rules.1) n u rules.0
sound parts bound fair (Ticked x ∷ h) rules = after_tick parts bound h (sound parts bound fair h rules.1) fair x x.ran refl rules.0
sound parts bound fair (Refused c why ∷ h) rules = after_refused parts bound h (sound parts bound fair h rules.1) c why
