-- What an event makes of the jobs, the loads and the fates.
use Rattle.std.proofs.Common.{◌≡◌, ℕ, suc, ◌+◌, ◌<◌, ◌≤◌, Bool, true, false, cond, ◌&&◌, eqb, leb, ◌⊎◌, [], ◌∷◌, Some, None, sym, refl, ap, ◌∙◌, subst, inl, inr, ⊎_elim, arith}
use Rattle.std.proofs.lemmas.List.{length_push, get_or_push, get_or_append_left}
use Rattle.std.proofs.lemmas.Bool.{cases_lt, cases_eq, cases_Bool, cond-true, cond-false, and_parts, and_from, and_left, eqb-true, leb-true, le-leb, eq-eqb, ne_eqb}
use Rattle.demand.specs.Admission.{total}
use Rattle.scheduler.specs.History.{History, Job, no_job, Fate, clock, jobs, count, job, gives, units, ends, inside, load, load_over}
use Rattle.scheduler.specs.declared.calls.Event.TheVariants.{Arrived, Ticked}
use Rattle.scheduler.specs.declared.calls.Ticked.{Ticked as TickAnswered}
use Rattle.scheduler.specs.History.Fate.{pending, done, cut}
use Rattle.scheduler.proofs.Sums.{sum_same, sum_le, sum_more, sum_has}

pub inside_true : (k s e : ℕ) (j : Job) → inside k s e j ≡ true → (j.component ≡ k) × (s ≤ j.arrival) × (j.due ≤ e)
inside_true k s e j t =
    let p = and_parts (eqb j.component k) (leb s j.arrival && leb j.due e) t in
    let q = and_parts (leb s j.arrival) (leb j.due e) p.1 in
    (eqb-true j.component k p.0, leb-true s j.arrival q.0, leb-true j.due e q.1)

pub inside_from : (k s e : ℕ) (j : Job) → j.component ≡ k → s ≤ j.arrival → j.due ≤ e → inside k s e j ≡ true
inside_from k s e j c a d =
    and_from (eqb j.component k) (leb s j.arrival && leb j.due e) (eq-eqb j.component k c)
    (and_from (leb s j.arrival) (leb j.due e) (le-leb s j.arrival a) (le-leb j.due e d))

pub inside_other : (k s e : ℕ) (j : Job) → (j.component ≡ k → ⊥) → inside k s e j ≡ false
inside_other k s e j c = and_left (eqb j.component k) (leb s j.arrival && leb j.due e) (ne_eqb j.component k c)

-- a later end takes in no less, and one past the due tick takes in all
pub share_le : (k s e f : ℕ) (j : Job) (u : ℕ) → j.due ≤ f → cond (inside k s e j) u 0 ≤ cond (inside k s f j) u 0
share_le k s e f j u due =
    ⊎_elim
    (λ t. let i = inside_true k s e j t in omega (arith, cond-true (inside k s e j) u 0 t, cond-true (inside k s f j) u 0 (inside_from k s f j i.0 i.1 due)))
    (λ t. omega (arith, cond-false (inside k s e j) u 0 t))
    (cases_Bool (inside k s e j))

-- no job is due after it
pub horizon : History → ℕ
horizon h = total (count h) (λ i. (job h i).due)

pub due_before : (h : History) (n : ℕ) → n < count h → (job h n).due ≤ horizon h
unfolding horizon
due_before h n l = sum_has (count h) (λ i. (job h i).due) n l

pub load_past : (h : History) (k t e : ℕ) → load h k t e ≤ load h k t (horizon h)
unfolding load_over
load_past h k t e = sum_le (count h) _ _ (λ i l. share_le k t e (horizon h) (job h i) (units h i) (due_before h i l))

-- the job that an arrival makes
abbrev pub born : History → ℕ → ℕ → Job
born h k d = record { component = k; arrival = clock h; due = clock h + d }

module _ (h : History) (k d m : ℕ) where
  -- what holds of each job before an arrival, and of the one that arrived, holds of each job after it
  pub each_arrived : (P : ℕ → Job → Type 0) → ((n : ℕ) → n < count h → P n (job h n)) → P (count h) (born h k d) → (n : ℕ) → n < count (Arrived k d m ∷ h) → P n (job (Arrived k d m ∷ h) n)
  each_arrived P old new n l =
      ⊎_elim
      (λ (lt : n < count h). subst (P n) (sym (get_or_append_left (jobs h) (born h k d ∷ []) no_job n lt)) (old n lt))
      (λ (ge : count h ≤ n).
      let e : count h ≡ n = omega (arith, length_push (jobs h) (born h k d)) in
      subst (P n) (sym (get_or_push (jobs h) (born h k d) no_job n e)) (subst (λ x. P x (born h k d)) e new))
      (cases_lt n (count h))

  zero_cond : (b : Bool) (x : ℕ) → x ≡ 0 → cond b x 0 ≡ 0
  zero_cond true x e = e
  zero_cond false x e = refl

  pub load_arrived : units h (count h) ≡ 0 → (c s e : ℕ) → load (Arrived k d m ∷ h) c s e ≡ load h c s e
  unfolding load_over
  load_arrived fresh c s e =
      let now : ℕ → ℕ = λ n. cond (inside c s e (job (Arrived k d m ∷ h) n)) (units h n) 0 in
      let was : ℕ → ℕ = λ n. cond (inside c s e (job h n)) (units h n) 0 in
      let longer : count (Arrived k d m ∷ h) ≡ suc (count h) = omega (arith, length_push (jobs h) (born h k d)) in
      let same : total (count h) now ≡ total (count h) was = sum_same (count h) now was (λ n l. ap (λ j. cond (inside c s e j) (units h n) 0) (get_or_append_left (jobs h) (born h k d ∷ []) no_job n l)) in
      let last : now (count h) ≡ 0 = zero_cond (inside c s e (job (Arrived k d m ∷ h) (count h))) (units h (count h)) fresh in
      let more : total (suc (count h)) now ≡ total (count h) was = omega (arith, same, last) in
      ap (λ x. total x now) longer ∙ more

module _ (h : History) (x : TickAnswered) where
  plus_none : (b : Bool) (x y : ℕ) → y ≡ 0 → cond b (x + y) 0 ≡ cond b x 0
  plus_none true x y e = omega arith
  plus_none false x y e = refl

  plus_one : (b : Bool) (x y : ℕ) → b ≡ true → y ≡ 1 → cond b (x + y) 0 ≡ cond b x 0 + 1
  plus_one true x y b e = omega arith
  plus_one false x y b e = cc

  not_inside : (b : Bool) (x y : ℕ) → b ≡ false → cond b (x + y) 0 ≡ cond b x 0
  not_inside true x y b = cc
  not_inside false x y b = refl

  pub load_idle : x.ran ≡ None → (k s e : ℕ) → load (Ticked x ∷ h) k s e ≡ load h k s e
  unfolding load_over
  load_idle none k s e =
      sum_same (count h) _ _ (λ n l. plus_none (inside k s e (job h n)) (units h n) (gives x.ran n) (ap (λ o. gives o n) none))

  -- where the tick ran the job n
  module _ (n : ℕ) (ran : x.ran ≡ Some n) where
    gives_self : gives x.ran n ≡ 1
    gives_self = ap (λ o. gives o n) ran ∙ ap (λ b. cond b 1 0) (eq-eqb n n refl)

    pub gives_other : (i : ℕ) → (i ≡ n → ⊥) → gives x.ran i ≡ 0
    gives_other i ne = ap (λ o. gives o i) ran ∙ ap (λ b. cond b 1 0) (ne_eqb n i (λ e. ne (sym e)))

    pub load_in : n < count h → (k s e : ℕ) → inside k s e (job h n) ≡ true → load (Ticked x ∷ h) k s e ≡ load h k s e + 1
    unfolding load_over
    load_in l k s e t =
        sum_more (count h) _ _ n l (plus_one (inside k s e (job h n)) (units h n) (gives x.ran n) t gives_self)
        (λ i _ ne. plus_none (inside k s e (job h i)) (units h i) (gives x.ran i) (gives_other i ne))

    pub load_out : (k s e : ℕ) → inside k s e (job h n) ≡ false → load (Ticked x ∷ h) k s e ≡ load h k s e
    unfolding load_over
    load_out k s e t = sum_same (count h) _ _ (λ i _. ⊎_elim (λ (same : i ≡ n). not_inside (inside k s e (job h i)) (units h i) (gives x.ran i) (subst (λ m. inside k s e (job h m) ≡ false) (sym same) t)) (λ ne. plus_none (inside k s e (job h i)) (units h i) (gives x.ran i) (gives_other i ne)) (cases_eq i n))

-- a fate after an event
pub pending_cut : (f : Fate) → f ≡ pending → f ≡ cut → ⊥
pending_cut f p q = cc

pub done_pending : done ≡ pending → ⊥
done_pending e = cc

pub cut_pending : cut ≡ pending → ⊥
cut_pending e = cc

pub still_pending : (b : Bool) (f g : Fate) → (g ≡ pending → ⊥) → cond b (ends f g) f ≡ pending → (b ≡ false) × (f ≡ pending)
still_pending true pending g ne e = absurd (ne e)
still_pending true done g ne e = cc
still_pending true cut g ne e = cc
still_pending false f g ne e = (refl, e)

pub cut_now : (b : Bool) (f : Fate) → cond b (ends f cut) f ≡ cut → (f ≡ cut) ⊎ ((b ≡ true) × (f ≡ pending))
cut_now true pending e = inr (refl, refl)
cut_now true done e = inl e
cut_now true cut e = inl e
cut_now false f e = inl e

pub cut_before : (b : Bool) (f : Fate) → cond b (ends f done) f ≡ cut → f ≡ cut
cut_before true pending e = cc
cut_before true done e = e
cut_before true cut e = e
cut_before false f e = e
