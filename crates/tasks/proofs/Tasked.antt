use Rattle.std.proofs.Common.{◌≡◌, ℕ, zero, suc, ◌+◌, ◌<◌, ◌≤◌, Bool, true, false, cond, not, ◌&&◌, ◌||◌, eqb, ltb, leb, List, [], ◌∷◌, ◌++◌, length, get_or, take, Some, None, Ok, Option, sym, refl, ap, ◌∙◌, subst, ⊎_elim, arith}
use Rattle.std.specs.List.{AllByRecursion, position, position_from}
use Rattle.std.proofs.ByRecursion.{All-weaker}
use Rattle.std.proofs.lemmas.List.{take_more, take_all}
use Rattle.std.proofs.lemmas.List.Sums.{sum_by-append, sum_by-cons}
use Rattle.std.proofs.lemmas.Bool.{cond-true, cond-false, and_from, eq-eqb, cases_Bool, cases_lt, not-false, le-ltb, eqb-false, ltb-false, le-leb}
use Rattle.std.proofs.lemmas.Bool.Decides.{nat_tests}
use Rattle.sheets.specs.declared.row.Row.{Row}
use Rattle.tasks.specs.declared.task.Task.{Task}
use Rattle.tasks.specs.declared.task.MakeRefusal.{MakeRefusal}
use Rattle.tasks.specs.declared.task.MakeRefusal.TheVariants.{TaskOutOfRange}
use Rattle.demand.specs.Admission.{first_where}
use Rattle.sheets.specs.Rows.{sound_rows}
use Rattle.tasks.specs.Placing.{joined_copies, placed, no_room}
use Rattle.tasks.specs.Tasks.{task_sound, rounded, alike, how_many, copies_of, Grouped, no_row, no_task, different, crowded, refused_by, tasks_in_range}
use Rattle.demand.proofs.Admitted.{total_more}
use Rattle.std.proofs.lemmas.Iterator.Adapters.{position_from-zero}
use Rattle.tasks.proofs.Grouping.{placed_all, placed_length, copies_most, grouped_more}
use Rattle.sheets.proofs.Inverting.{not_caught}
use Rattle.tasks.proofs.Rounding.{rounded_ranges, fine_from, joined_ranges}
use Rattle.sheets.proofs.Rows.{row_ranges, follows, judged_ok}

-- a list of 1 to 64 tasks is judged task by task
pub tasks_sized : (ts : List Task) → eqb (length ts) 0 ≡ false → length ts ≤ 64 → tasks_in_range ts ≡ refused_by TaskOutOfRange (first_where (λ i. not (task_sound (get_or ts i no_task))) 0 (length ts))
tasks_sized ts e h = cond-false (eqb (length ts) 0) _ _ e ∙ cond-false (ltb 64 (length ts)) _ _ (le-ltb 64 (length ts) h)

-- the first element that passes is at the first index at which one does
by_index : {X : Type 0} (p : X → Bool) (xs : List X) (d : X) (i : ℕ) (ys : List X) → ((j : ℕ) → j < length ys → get_or xs (i + j) d ≡ get_or ys j d) → position_from p i ys ≡ first_where (λ k. p (get_or xs k d)) i (length ys)
unfolding first_where
by_index p xs d i [] same = refl
by_index {X} p xs d i (y ∷ ys) same =
    let e : get_or xs (i + 0) d ≡ y = same 0 (omega arith) in
    let z : i + 0 ≡ i = omega arith in
    let here : p y ≡ p (get_or xs i d) = ap p (sym e ∙ ap (λ (n : ℕ). get_or xs n d) z) in
    let next = by_index p xs d (i + 1) ys (λ j h. let m : (i + 1) + j ≡ i + suc j = omega arith in ap (λ (n : ℕ). get_or xs n d) m ∙ same (suc j) (omega arith)) in
    ap (λ (b : Bool). cond b (Some i) (position_from p (i + 1) ys)) here
    ∙ ap (λ (o : Option ℕ). cond (p (get_or xs i d)) (Some i) o) next

pub first_where-position : {X : Type 0} (p : X → Bool) (xs : List X) (d : X) → position p xs ≡ first_where (λ i. p (get_or xs i d)) 0 (length xs)
first_where-position {X} p xs d =
    position_from-zero p xs ∙ by_index p xs d 0 xs (λ j h. let z : 0 + j ≡ j = omega arith in ap (λ (n : ℕ). get_or xs n d) z)

-- where no number passes the test, none does
none_pass : (test : ℕ → Bool) (n more : ℕ) → first_where test n more ≡ None → (i : ℕ) → n ≤ i → i < n + more → test i ≡ false
unfolding first_where
none_pass test n zero e i p q = absurd (omega arith)
none_pass test n (suc more) e i p q =
    ⊎_elim (λ (t : test n ≡ true).
    let s : Some n ≡ None = sym (cond-true (test n) (Some n) (first_where test (n + 1) more) t) ∙ e in
    let z : ◌≡◌ {A = ℕ} 0 1 = cc in absurd (omega arith))
    (λ (f : test n ≡ false).
    ⊎_elim (λ (l : n < i). none_pass test (n + 1) more (sym (cond-false (test n) (Some n) (first_where test (n + 1) more) f) ∙ e) i (omega arith) (omega arith))
    (λ (l : i ≤ n). let s : n ≡ i = omega arith in ap test (sym s) ∙ f)
    (cases_lt n i))
    (cases_Bool (test n))

accepted_none : (refusal : ℕ → MakeRefusal) (o : Option ℕ) → refused_by refusal o ≡ Ok tt → o ≡ None
accepted_none refusal None e = refl
accepted_none refusal (Some i) e = let z : ◌≡◌ {A = ℕ} 0 1 = cc in absurd (omega arith)

-- what an accepted list is: some tasks, all in range
pub record Accepted (ts : List Task) : Type 0 where
  pub some : 1 ≤ length ts
  pub few : length ts ≤ 64
  pub ranged : (i : ℕ) → i < length ts → row_ranges (rounded (get_or ts i no_task)) ≡ true

pub tasks_accepted : (ts : List Task) → tasks_in_range ts ≡ Ok tt → Accepted ts
tasks_accepted ts e =
    let a = not_caught (eqb (length ts) 0) _ (TaskOutOfRange 0) tt e in
    let b = not_caught (ltb 64 (length ts)) _ (TaskOutOfRange 64) tt a.1 in
    let n = accepted_none TaskOutOfRange _ b.1 in
    record {
      some = omega (arith, eqb-false (length ts) 0 a.0);
      few = ltb-false 64 (length ts) b.0;
      ranged = λ i h. rounded_ranges (get_or ts i no_task) (not-false (task_sound (get_or ts i no_task)) (none_pass (λ k. not (task_sound (get_or ts k no_task))) 0 (length ts) n i (omega arith) (omega arith)));
    }

-- the rows rs hold the first i rounded tasks
pub record Filled (ks : List Row) (i : ℕ) (rs : List Row) : Type 0 where
  pub grouped : Grouped (take i ks) rs
  pub sized : length rs ≡ different ks i
  pub few : length rs ≤ 8
  pub ranged : AllByRecursion (λ r. row_ranges r ≡ true) rs

alike_self : (r : Row) → alike r r ≡ true
alike_self r = and_from _ _ (eq-eqb r.period r.period refl) (and_from _ _ (eq-eqb r.deadline r.deadline refl) (eq-eqb r.budget r.budget refl))

how_many_own : (t : Row) (ks : List Row) → how_many t (ks ++ t ∷ []) ≡ how_many t ks + 1
how_many_own t ks = omega (arith, sum_by-append (λ s. cond (alike t s) 1 0) ks (t ∷ []), cond-true {A = ℕ} (alike t t) 1 0 (alike_self t))

room_math : (m l : ℕ) → l ≤ 8 → (ltb 8 (l + cond (eqb m 0) 1 0) || ltb 16 (m + 1)) ≡ (leb 16 m || (eqb m 0 && leb 8 l))
room_math m l h = grind (arith, nat_tests)

fits_math : (m l : ℕ) → l ≤ 8 → (leb 16 m || (eqb m 0 && leb 8 l)) ≡ false → (l + cond (eqb m 0) 1 0 ≤ 8) × (m ≤ 15)
fits_math m l h e = (grind (arith, nat_tests), grind (arith, nat_tests))

all_both : (P Q : Row → Type 0) (rs : List Row) → AllByRecursion P rs → AllByRecursion Q rs → AllByRecursion (λ r. P r × Q r) rs
all_both P Q [] p q = tt
all_both P Q (r ∷ rs) p q = ((p.0, q.0), all_both P Q rs p.1 q.1)

module _ (ks : List Row) (i : ℕ) (rs : List Row) (t : Row) (f : Filled ks i rs) (here : i < length ks) (is : get_or ks i no_row ≡ t) where
  front : take (i + 1) ks ≡ take i ks ++ t ∷ []
  front = take_more ks i no_row here ∙ ap (λ (x : Row). take i ks ++ x ∷ []) is

  held : how_many (get_or ks i no_row) (take i ks) ≡ copies_of t rs
  held = ap (λ (x : Row). how_many x (take i ks)) is ∙ sym (f.grouped.counted t)

  more_different : different ks (i + 1) ≡ length rs + cond (eqb (copies_of t rs) 0) 1 0
  more_different =
      omega (arith, total_more i (λ k. cond {A = ℕ} (eqb (how_many (get_or ks k no_row) (take k ks)) 0) 1 0), f.sized, ap (λ (n : ℕ). cond {A = ℕ} (eqb n 0) 1 0) held)

  -- the code's test is the rule's
  pub crowded_is : crowded ks i ≡ no_room (copies_of t rs) (length rs)
  crowded_is =
      let own : how_many (get_or ks i no_row) (take (i + 1) ks) ≡ copies_of t rs + 1 =
      ap (λ (x : Row). how_many x (take (i + 1) ks)) is ∙ ap (λ (l : List Row). how_many t l) front ∙ how_many_own t (take i ks) ∙ ap (λ n. n + 1) (sym (f.grouped.counted t)) in
      ap (λ n. ltb 8 n || ltb 16 (how_many (get_or ks i no_row) (take (i + 1) ks))) more_different
      ∙ ap (λ n. ltb 8 (length rs + cond (eqb (copies_of t rs) 0) 1 0) || ltb 16 n) own
      ∙ room_math (copies_of t rs) (length rs) f.few

  module _ (room : no_room (copies_of t rs) (length rs) ≡ false) (one : t.copies ≡ 1) (ranged : row_ranges t ≡ true) where
    pub placed_few : length (placed t rs) ≤ 8
    placed_few = omega (arith, placed_length t rs f.grouped.ordered f.grouped.present, (fits_math (copies_of t rs) (length rs) f.few room).0)

    pub filled_more : Filled ks (i + 1) (placed t rs)
    filled_more =
        let g = f.grouped in
        let fit = (fits_math (copies_of t rs) (length rs) f.few room).1 in
        let together : AllByRecursion (λ r. (row_ranges r ≡ true) × ((1 ≤ r.copies) × (alike r t ≡ true → r.copies ≤ copies_of t rs))) rs = all_both (λ r. row_ranges r ≡ true) (λ r. (1 ≤ r.copies) × (alike r t ≡ true → r.copies ≤ copies_of t rs)) rs f.ranged (all_both (λ r. 1 ≤ r.copies) (λ r. alike r t ≡ true → r.copies ≤ copies_of t rs) rs g.present (copies_most t rs)) in
        record {
          grouped = subst (λ (l : List Row). Grouped l (placed t rs)) (sym front) (grouped_more (take i ks) rs t one g);
          sized = placed_length t rs g.ordered g.present ∙ sym more_different;
          few = placed_few;
          ranged = placed_all (λ r. row_ranges r ≡ true) t rs g.ordered ranged
              (All-weaker (λ r. (row_ranges r ≡ true) × ((1 ≤ r.copies) × (alike r t ≡ true → r.copies ≤ copies_of t rs))) (λ r. (row_ranges r ≡ true) × (alike r t ≡ true → row_ranges (joined_copies r t) ≡ true))
              (λ r h. (h.0, λ a. joined_ranges r (r.copies + t.copies) h.0 (omega arith) (omega (arith, h.1.1 a)))) rs together);
        }

-- all tasks are placed: a sound sheet
grouped_some : (ks rs : List Row) → 1 ≤ length ks → Grouped ks rs → 1 ≤ length rs
grouped_some [] rs h g = absurd (omega arith)
grouped_some (k ∷ ks) [] h g = absurd (omega (arith, g.counted k, sum_by-cons (λ s. cond (alike k s) 1 0) k ks, cond-true {A = ℕ} (alike k k) 1 0 (alike_self k)))
grouped_some (k ∷ ks) (r ∷ rs) h g = omega arith

all_follow : (rs : List Row) → AllByRecursion (λ r. follows None r ≡ true) rs
all_follow [] = tt
all_follow (r ∷ rs) = (refl, all_follow rs)

pub filled_sound : (ks rs : List Row) (i : ℕ) → length ks ≤ i → 1 ≤ length ks → Filled ks i rs → (sound_rows rs ≡ true) × Grouped ks rs
filled_sound ks rs i h some f =
    let g = subst (λ (l : List Row). Grouped l rs) (take_all i ks h) f.grouped in (
      judged_ok rs (record { index = 0; place = 0 }) ∙ and_from _ _ (and_from _ _ (le-leb 1 (length rs) (grouped_some ks rs some g)) (le-leb (length rs) 8 f.few)) (fine_from None rs f.ranged (all_follow rs) g.ordered),
      g,
    )
