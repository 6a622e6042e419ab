-- The rules that the two laws need: any refusal, any tie, any number of jobs.
use Rattle.std.proofs.Common.{ℕ, ◌<◌, ◌≤◌, [], ◌∷◌, Some, None, Option}
use Rattle.demand.specs.Admission.{total}
use Rattle.scheduler.specs.declared.calls.Event.{Event}
use Rattle.scheduler.specs.History.{History, job, Open}
use Rattle.scheduler.specs.declared.calls.Event.TheVariants.{Arrived, Finished, Ticked, Refused}
use Rattle.scheduler.specs.Windows.{Ready}

-- the bounds never fall, and all components together demand no more than the core supplies
pub record Fair (parts : ℕ) (bound : ℕ → ℕ → ℕ) : Type 0 where
  pub grows : (k l m : ℕ) → l ≤ m → bound k l ≤ bound k m
  pub fits : (l : ℕ) → 0 < l → total parts (λ k. bound k l) ≤ l

-- one of those with P that is due first, or none where none has P
abbrev pub Earliest : (ℕ → Type 0) → (ℕ → ℕ) → Option ℕ → Type 0
Earliest P due (Some n) = P n × ((m : ℕ) → P m → due n ≤ due m)
Earliest P due None = (m : ℕ) → P m → ⊥

abbrev pub Picks : (ℕ → ℕ → ℕ) → History → Option ℕ → Type 0
Picks bound h ran = Earliest (Ready bound h) (λ n. (job h n).due) ran

abbrev pub May : ℕ → (ℕ → ℕ → ℕ) → Event → History → Type 0
May parts bound (Arrived k d n) h = (k < parts) × (1 ≤ d)
May parts bound (Finished n u) h = Open h n
May parts bound (Ticked x) h = Picks bound h x.ran
May parts bound (Refused c why) h = Unit {0}

abbrev pub MayAll : ℕ → (ℕ → ℕ → ℕ) → History → Type 0
MayAll parts bound [] = Unit {0}
MayAll parts bound (e ∷ h) = May parts bound e h × MayAll parts bound h
