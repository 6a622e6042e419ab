-- The full rules fix every answer, and imply the weak ones; so every history that follows them over an admitted binder is certified.
use Rattle.std.proofs.Common.{◌≡◌, ℕ, zero, suc, ◌+◌, ◌<◌, ◌≤◌, Bool, true, false, cond, not, eqb, leb, ◌⊎◌, List, [], ◌∷◌, ◌++◌, map, reverse, is_ok, Some, None, Ok, Err, Option, Result, sym, refl, ap, ◌∙◌, subst, inl, inr, ⊎_elim, arith}
use mathlib.Core.List.{reverse-cons}
use Rattle.std.proofs.lemmas.List.{map_push, reverse-reverse}
use Rattle.std.proofs.lemmas.Bool.{cases_Bool, eqb-false, leb-false, not-false}
use Rattle.demand.specs.declared.verdict.TestRefusal.{TestRefusal}
use Rattle.demand.specs.Fields.{from_to}
use Rattle.demand.proofs.Admitted.{admitted_fits}
use Rattle.demand.proofs.Fields.{range_from}
use Rattle.scheduler.specs.declared.calls.Call.{Call}
use Rattle.scheduler.specs.declared.calls.CallRefusal.{CallRefusal}
use Rattle.scheduler.specs.declared.calls.CallRefusal.TheVariants.{NotAdmitted, NoComponent, DeadlineOutOfRange, ClockEnded, NoJob, NotOpen}
use Rattle.scheduler.specs.declared.calls.Event.{Event}
use Rattle.scheduler.specs.History.{History, Job, Fate, clock, count, job, units, fate, Cuts, Counts, load_over}
use Rattle.scheduler.specs.declared.calls.Event.TheVariants.{Arrived, Finished, Ticked, Refused}
use Rattle.scheduler.specs.declared.calls.Ticked.{Ticked as TickAnswered}
use Rattle.scheduler.specs.History.Fate.{pending, done, cut}
use Rattle.scheduler.specs.Windows.{Ready, Held}
use Rattle.scheduler.specs.Order.{Precedes, FirstOf}
use Rattle.scheduler.specs.Reasons.{arrive_reason, finish_reason, tick_reason}
use Rattle.scheduler.specs.Rules.{Plan, admitted, is_pending, refusal_of, call_of, Answers, Follows, Certified}
use Rattle.scheduler.proofs.Weak.{Picks, May, MayAll}
use Rattle.scheduler.proofs.Soundness.{Sound, sound}

-- a refusal that does not apply
pub passes : {X : Type 0} (b : Bool) (why : X) (o : Option X) → cond b (Some why) o ≡ None → (b ≡ false) × (o ≡ None)
passes true why o e = cc
passes false why o e = (refl, e)

pub is_pending_so : (f : Fate) → is_pending f ≡ true → f ≡ pending
is_pending_so pending e = refl
is_pending_so done e = cc
is_pending_so cut e = cc

-- an arrive that is not refused
pub arrive_accepted : (ok : Bool) (parts now jobs k d : ℕ) → arrive_reason ok parts now jobs k d ≡ None → (ok ≡ true) × (k < parts) × (1 ≤ d) × (d ≤ 4096)
arrive_accepted ok parts now jobs k d e =
    let q = passes (not ok) NotAdmitted _ e in
    let r = passes (eqb now 1000000) ClockEnded _ q.1 in
    let s = passes (leb parts k) NoComponent _ r.1 in
    let t = passes (not (from_to 1 4096 d)) DeadlineOutOfRange _ s.1 in
    let range = range_from 1 4096 d (not-false (from_to 1 4096 d) t.0) in
    (not-false ok q.0, leb-false parts k s.0, range.0, range.1)

-- a finish that is not refused
pub finish_accepted : (ok : Bool) (jobs n : ℕ) (open_job : Bool) → finish_reason ok jobs n open_job ≡ None → (ok ≡ true) × (n < jobs) × (open_job ≡ true)
finish_accepted ok jobs n open_job e =
    let q = passes (not ok) NotAdmitted _ e in
    let r = passes (leb jobs n) NoJob _ q.1 in
    let s = passes (not open_job) NotOpen _ r.1 in
    (not-false ok q.0, leb-false jobs n r.0, not-false open_job s.0)

-- a tick that is not refused
pub tick_accepted : (ok : Bool) (now : ℕ) → tick_reason ok now ≡ None → now ≤ 1000000 → now + 1 ≤ 1000000
tick_accepted ok now e early =
    let q = passes (not ok) NotAdmitted _ e in
    let r = passes (eqb now 1000000) ClockEnded _ q.1 in
    omega (arith, early, eqb-false now 1000000 r.0)

first_due : (h : History) (n m : ℕ) → (n ≡ m) ⊎ Precedes (job h) n m → (job h n).due ≤ (job h m).due
first_due h n m (inl e) = omega (arith, ap (λ k. (job h k).due) e)
first_due h n m (inr (inl l)) = omega arith
first_due h n m (inr (inr q)) = omega (arith, q.0)

first_picked : (p : Plan) (h : History) (ran : Option ℕ) → FirstOf (job h) (Ready p.bound h) ran → Picks p.bound h ran
first_picked p h (Some n) first = (first.0, λ m r. first_due h n m (first.1 m r))
first_picked p h None none = none

-- what the rules give is what the two laws need
weaker : (p : Plan) (e : Event) (h : History) → Answers p e h → May p.parts p.bound e h
weaker p (Arrived k d n) h a = let w = arrive_accepted (admitted p) p.parts (clock h) (count h) k d a.0 in (w.1, w.2)
weaker p (Finished n u) h a =
    let w = finish_accepted (admitted p) (count h) n (is_pending (fate h n)) a.0 in (w.1, is_pending_so (fate h n) w.2)
weaker p (Ticked x) h a = first_picked p h x.ran a.1
weaker p (Refused c why) h a = tt

all_weaker_rules : (p : Plan) (h : History) → Follows p h → MayAll p.parts p.bound h
all_weaker_rules p [] f = tt
all_weaker_rules p (e ∷ h) f = (weaker p e h f.0, all_weaker_rules p h f.1)

not_none : {b : Bool} → b ≡ false → not b ≡ false → ⊥
not_none e n = cc

no_load : (n : ℕ) (j : ℕ → Job) (u : ℕ → ℕ) → n ≡ 0 → (k s e : ℕ) → load_over n j u k s e ≡ 0
unfolding load_over
no_load n j u z k s e = ap (λ m. load_over m j u k s e) z

ok_unit : (r : Result (Unit {0}) TestRefusal) → is_ok r ≡ true → r ≡ Ok tt
ok_unit (Ok tt) e = refl
ok_unit (Err x) e = cc

-- a plan whose bounds never fall and repeat
module _ (p : Plan) (climbs : (k l m : ℕ) → l ≤ m → p.bound k l ≤ p.bound k m) (repeats : (k l : ℕ) → 4096 ≤ l → p.bound k (l + 4096) ≡ p.bound k l + p.gain k) where
  pub sound_of : admitted p ≡ true → (h : History) → Follows p h → Sound p.parts p.bound h
  sound_of a h f =
      let d = admitted_fits p.parts p.bound p.gain repeats (ok_unit _ a) in
      sound p.parts p.bound (record { grows = climbs; fits = λ l q. d.supplied l q }) h (all_weaker_rules p h f)

  -- a binder that is not admitted gets no job
  no_jobs : admitted p ≡ false → (h : History) → Follows p h → count h ≡ 0
  no_jobs n [] f = refl
  no_jobs n (Arrived k d m ∷ h) f = absurd (not_none n (passes (not (admitted p)) NotAdmitted _ f.0.0).0)
  no_jobs n (Finished m u ∷ h) f = no_jobs n h f.1
  no_jobs n (Ticked x ∷ h) f = no_jobs n h f.1
  no_jobs n (Refused c why ∷ h) f = no_jobs n h f.1

  -- a job's component is one of the binder's
  pub component_known : (h : History) → Follows p h → (n : ℕ) → n < count h → (job h n).component < p.parts
  component_known h f n l =
      ⊎_elim (λ (a : admitted p ≡ true). ((sound_of a h f).timely n l).known) (λ (r : admitted p ≡ false). absurd (omega (arith, l, no_jobs r h f))) (cases_Bool (admitted p))

  pub certified : (h : History) → Follows p h → Certified p.bound h
  certified h f =
      ⊎_elim (λ (a : admitted p ≡ true). let s = sound_of a h f in record { never_past_the_bound = s.within; cut_only_when_spent = s.earned })
      (λ (n : admitted p ≡ false).
      let none = no_jobs n h f in
      record { never_past_the_bound = λ k s e. omega (arith, no_load (count h) (job h) (units h) none k s e); cut_only_when_spent = λ m l c. absurd (omega (arith, l, none)) })
      (cases_Bool (admitted p))

-- the rules fix the answer
counts_once : (P : ℕ → Type 0) (n c d : ℕ) → Counts P n c → Counts P n d → c ≡ d
counts_once P zero c d a b = a ∙ sym b
counts_once P (suc n) c d (inl x) (inl y) = omega (arith, x.1.1, y.1.1, counts_once P n x.1.0 y.1.0 x.1.2 y.1.2)
counts_once P (suc n) c d (inl x) (inr y) = absurd (y.0 x.0)
counts_once P (suc n) c d (inr x) (inl y) = absurd (x.0 y.0)
counts_once P (suc n) c d (inr x) (inr y) = counts_once P n c d x.1 y.1

not_both : (h : History) (n m : ℕ) → Precedes (job h) n m → Precedes (job h) m n → ⊥
not_both h n m (inl a) (inl b) = omega arith
not_both h n m (inl a) (inr b) = omega (arith, b.0)
not_both h n m (inr a) (inl b) = omega (arith, a.0)
not_both h n m (inr (a, inl x)) (inr (b, inl y)) = omega arith
not_both h n m (inr (a, inl x)) (inr (b, inr y)) = omega (arith, y.0)
not_both h n m (inr (a, inr x)) (inr (b, inl y)) = omega (arith, x.0)
not_both h n m (inr (a, inr x)) (inr (b, inr y)) = omega (arith, x.1, y.1)

runs_once : (p : Plan) (h : History) (x y : Option ℕ) → FirstOf (job h) (Ready p.bound h) x → FirstOf (job h) (Ready p.bound h) y → x ≡ y
runs_once p h None None a b = refl
runs_once p h None (Some m) a b = absurd (a m b.0)
runs_once p h (Some n) None a b = absurd (b n a.0)
runs_once p h (Some n) (Some m) a b =
    ⊎_elim (λ (e : n ≡ m). ap (λ (k : ℕ). Some k) e)
    (λ (q : Precedes (job h) n m). ⊎_elim (λ (e : m ≡ n). ap (λ (k : ℕ). Some k) (sym e)) (λ (r : Precedes (job h) m n). absurd (not_both h n m q r)) (b.1 n a.0))
    (a.1 m b.0)

none_some : (o : Option CallRefusal) (w : CallRefusal) → o ≡ None → o ≡ Some w → ⊥
none_some o w a b = cc

same_why : (o : Option CallRefusal) (v w : CallRefusal) → o ≡ Some v → o ≡ Some w → v ≡ w
same_why o v w a b = cc

-- the refusal of the call that is answered: none where it is accepted
accepted : (p : Plan) (h : History) (e : Event) (c : Call) (why : CallRefusal) → call_of e ≡ c → refusal_of p h (call_of e) ≡ None → refusal_of p h c ≡ Some why → ⊥
accepted p h e c why s a b = none_some (refusal_of p h c) why (ap (refusal_of p h) (sym s) ∙ a) b

pub answers_once : (p : Plan) (h : History) (e f : Event) → call_of e ≡ call_of f → Answers p e h → Answers p f h → e ≡ f
answers_once p h (Arrived k d n) (Arrived k' d' n') s a b = let x = a.1 in let y = b.1 in cc
answers_once p h (Arrived k d n) (Finished m u) s a b = cc
answers_once p h (Arrived k d n) (Ticked x) s a b = cc
answers_once p h (Arrived k d n) (Refused c why) s a b = absurd (accepted p h (Arrived k d n) c why s a.0 b)
answers_once p h (Finished m u) (Arrived k d n) s a b = cc
answers_once p h (Finished m u) (Finished m' u') s a b =
    let same : m ≡ m' = cc in
    let used : u ≡ u' = a.1 ∙ ap (units h) same ∙ sym b.1 in
    cc
answers_once p h (Finished m u) (Ticked x) s a b = cc
answers_once p h (Finished m u) (Refused c why) s a b = absurd (accepted p h (Finished m u) c why s a.0 b)
answers_once p h (Ticked x) (Arrived k d n) s a b = cc
answers_once p h (Ticked x) (Finished m u) s a b = cc
answers_once p h (Ticked x) (Ticked y) s a b =
    let ran = runs_once p h x.ran y.ran a.1 b.1 in
    let held = counts_once (Held p.bound h) (count h) x.held y.held a.2 b.2 in
    let cut = counts_once (Cuts h) (count h) x.cut y.cut a.3 b.3 in
    let same : ◌≡◌ {A = TickAnswered} (record { ran = x.ran; held = x.held; cut = x.cut }) (record { ran = y.ran; held = y.held; cut = y.cut }) = cc in
    ap (λ (z : TickAnswered). Ticked z) same
answers_once p h (Ticked x) (Refused c why) s a b = absurd (accepted p h (Ticked x) c why s a.0 b)
answers_once p h (Refused c why) (Arrived k d n) s a b = absurd (accepted p h (Arrived k d n) c why (sym s) b.0 a)
answers_once p h (Refused c why) (Finished m u) s a b = absurd (accepted p h (Finished m u) c why (sym s) b.0 a)
answers_once p h (Refused c why) (Ticked x) s a b = absurd (accepted p h (Ticked x) c why (sym s) b.0 a)
answers_once p h (Refused c why) (Refused c' why') s a b =
    let same : why ≡ why' = same_why (refusal_of p h c) why why' a (ap (refusal_of p h) s ∙ b) in
    cc

-- so histories of the same calls that follow the rules are the same
same_history : (p : Plan) (h i : History) → map call_of h ≡ map call_of i → Follows p h → Follows p i → h ≡ i
same_history p [] [] s f g = refl
same_history p [] (e ∷ i) s f g = cc
same_history p (e ∷ h) [] s f g = cc
same_history p (e ∷ h) (e' ∷ i) s f g =
    let rest : map call_of h ≡ map call_of i = cc in
    let call : call_of e ≡ call_of e' = cc in
    let same : h ≡ i = same_history p h i rest f.1 g.1 in
    let event : e ≡ e' = answers_once p h e e' call f.0 (subst (Answers p e') (sym same) g.0) in
    cc

map-reverse : {A B : Type 0} (f : A → B) (xs : List A) → map f (reverse xs) ≡ reverse (map f xs)
map-reverse f [] = refl
map-reverse f (x ∷ xs) = ap (map f) (reverse-cons x xs) ∙ map_push f (reverse xs) x ∙ ap (λ ys. ys ++ (f x ∷ [])) (map-reverse f xs) ∙ sym (reverse-cons (f x) (map f xs))

pub no_other_answers : (p : Plan) (h events : History) → map call_of (reverse h) ≡ map call_of events → Follows p h → Follows p (reverse events) → h ≡ reverse events
no_other_answers p h events s f g =
    same_history p h (reverse events) (sym (reverse-reverse (map call_of h)) ∙ ap reverse (sym (map-reverse call_of h) ∙ s) ∙ sym (map-reverse call_of events)) f g
