-- From a call's step on the records to its place in the history.
use Rattle.std.proofs.Common.{◌≡◌, ℕ, ◌+◌, ◌≤◌, List, ◌∷◌, length, is_ok, Some, None, Ok, Err, Option, Result, sym, refl, ap, ◌∙◌, subst}
use Rattle.demand.specs.declared.verdict.TestRefusal.{TestRefusal}
use Rattle.scheduler.specs.declared.calls.Call.TheVariants.{Arrive, Finish, Tick}
use Rattle.scheduler.specs.declared.calls.CallRefusal.{CallRefusal}
use Rattle.scheduler.specs.declared.calls.Event.TheVariants as event
use Rattle.scheduler.specs.declared.calls.Ticked.{Ticked}
use Rattle.scheduler.specs.declared.job.Job.{Job as Entry}
use Rattle.scheduler.specs.History.{History, clock, count, fate}
use Rattle.scheduler.specs.Reasons.{arrive_reason, finish_reason}
use Rattle.scheduler.specs.Rules.{Plan, admitted, is_pending}
use Rattle.scheduler.specs.Table.{at, is_open}
use Rattle.scheduler.specs.Steps.{unless}
use Rattle.scheduler.specs.Recording.{arrive_leaves, finish_leaves, TickAnswer, clock_after, event_of, Recorded}
use Rattle.scheduler.proofs.Certificate.{is_pending_so, arrive_accepted, finish_accepted, sound_of}
use Rattle.scheduler.proofs.Recorded.{arrive_same, finish_refused_same, tick_same, refused_recorded, arrived_recorded, finished_recorded}
use Rattle.scheduler.proofs.Ticking.{ticked_recorded}

pub unless_ok : {X : Type 0} (o : Option CallRefusal) (x y : X) → Ok y ≡ unless o x → (o ≡ None) × (y ≡ x)
unless_ok None x y e = let same : y ≡ x = cc in (refl, same)
unless_ok (Some w) x y e = cc

unless_err : {X : Type 0} (o : Option CallRefusal) (x : X) (w : CallRefusal) → Err w ≡ unless o x → o ≡ Some w
unless_err None x w e = cc
unless_err (Some v) x w e = let same : v ≡ w = cc in ap (λ u. Some u) same

module _ (p : Plan) (climbs : (k l m : ℕ) → l ≤ m → p.bound k l ≤ p.bound k m) (repeats : (k l : ℕ) → 4096 ≤ l → p.bound k (l + 4096) ≡ p.bound k l + p.gain k)
    (v : Result (Unit {0}) TestRefusal) (now : ℕ) (js : List Entry) (h : History) (r : Recorded p v now js h) where
  pub arrive_recorded : (k d : ℕ) (a : Result ℕ CallRefusal) (after : List Entry) → a ≡ unless (arrive_reason (is_ok v) p.parts now (length js) k d) (length js) → after ≡ arrive_leaves now js k d a → Recorded p v now after (event_of (Arrive k d) (event.Arrived k d) a ∷ h)
  arrive_recorded k d (Ok n) after e t =
      let q = unless_ok _ (length js) n e in
      let ok = sym (arrive_same p v now js h r k d) ∙ q.0 in
      let sound = sound_of p climbs repeats (arrive_accepted (admitted p) p.parts (clock h) (count h) k d ok).0 h r.follows in
      subst (λ xs. Recorded p v now xs (event.Arrived k d n ∷ h)) (sym t)
      (subst (λ m. Recorded p v now (arrive_leaves now js k d (Ok m)) (event.Arrived k d m ∷ h)) (sym q.1) (arrived_recorded p v now js h r sound k d ok))
  arrive_recorded k d (Err w) after e t =
      subst (λ xs. Recorded p v now xs (event.Refused (Arrive k d) w ∷ h)) (sym t)
      (refused_recorded p v now js h r (Arrive k d) w (sym (arrive_same p v now js h r k d) ∙ unless_err _ (length js) w e))

  pub finish_recorded : (n : ℕ) (a : Result ℕ CallRefusal) (after : List Entry) → a ≡ unless (finish_reason (is_ok v) (length js) n (is_open (at js n).status)) (at js n).used → after ≡ finish_leaves js n a → Recorded p v now after (event_of (Finish n) (event.Finished n) a ∷ h)
  finish_recorded n (Ok u) after e t =
      let q = unless_ok _ (at js n).used u e in
      let ok = sym (finish_refused_same p v now js h r n) ∙ q.0 in
      let w = finish_accepted (admitted p) (count h) n (is_pending (fate h n)) ok in
      subst (λ xs. Recorded p v now xs (event.Finished n u ∷ h)) (sym t)
      (subst (λ m. Recorded p v now (finish_leaves js n (Ok m)) (event.Finished n m ∷ h)) (sym q.1)
      (finished_recorded p v now js h r n ok w.1 (is_pending_so (fate h n) w.2)))
  finish_recorded n (Err w) after e t =
      subst (λ xs. Recorded p v now xs (event.Refused (Finish n) w ∷ h)) (sym t)
      (refused_recorded p v now js h r (Finish n) w (sym (finish_refused_same p v now js h r n) ∙ unless_err _ (at js n).used w e))

  pub tick_recorded : (a : Result Ticked CallRefusal) (after : List Entry) → TickAnswer p.bound v now js a after → Recorded p v (clock_after now a) after (event_of Tick event.Ticked a ∷ h)
  tick_recorded (Ok x) after t = ticked_recorded p v now js h r x after t.1 (sym (tick_same p v now js h r) ∙ t.0)
  tick_recorded (Err w) after t =
      subst (λ xs. Recorded p v now xs (event.Refused Tick w ∷ h)) (sym t.1)
      (refused_recorded p v now js h r Tick w (sym (tick_same p v now js h r) ∙ t.0))
