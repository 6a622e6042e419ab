use Rattle.std.proofs.Common.{◌≡◌, ℕ, Bool, true, false, ◌&&◌, eqb, List, [], ◌∷◌, ◌++◌, map, is_ok, Ok, Err, fold, Result, sym, refl, ap, ◌∙◌, subst}
use Rattle.std.specs.List.{AllByRecursion}
use Rattle.std.proofs.lemmas.List.{append_assoc, append-nil}
use Rattle.std.proofs.lemmas.Bool.{and_parts, eqb-true, true≢false}
use Rattle.sheets.specs.declared.row.Row.{Row}
use Rattle.tasks.specs.declared.task.MakeRefusal.{MakeRefusal}
use Rattle.sheets.specs.Sheets.{bound_of}
use Rattle.demand.specs.Admission.{first_where}
use Rattle.tasks.specs.Placing.{placed}
use Rattle.tasks.specs.Tasks.{rounded, alike, Grouped, tasks_judged}
use Rattle.tasks.proofs.Grouping.{alike_parts, same_row, grouped_more}
use Rattle.binder_file.specs.Boot.{verdict_on}
use Rattle.binder_file.specs.Format.{decode, records_from}
use Rattle.checks.specs.Reference.{file_numbers, Value, bound, verdict, fault, made, Agrees, reference_values}

-- rows of one copy each, and the same rows in the same order
all_single : List Row → Bool
all_single [] = true
all_single (r ∷ rs) = eqb r.copies 1 && all_single rs

same_rows : List Row → List Row → Bool
same_rows [] [] = true
same_rows [] (s ∷ ss) = false
same_rows (r ∷ rs) [] = false
same_rows (r ∷ rs) (s ∷ ss) = (alike r s && eqb r.copies s.copies) && same_rows rs ss

-- the test of one value, and of a list of them
agrees : Value → Bool
unfolding first_where records_from
agrees (bound d l units) = eqb (bound_of d l) units
agrees (verdict ds numbers) = eqb (verdict_on ds).0 numbers.0 && eqb (verdict_on ds).1 numbers.1
agrees (made ts rs) = is_ok (tasks_judged ts) && (all_single (map rounded ts) && same_rows (fold (λ done t. placed t done) [] (map rounded ts)) rs)
agrees (fault bytes numbers) = eqb (file_numbers (decode bytes)).0 numbers.0 && (eqb (file_numbers (decode bytes)).1 numbers.1 && eqb (file_numbers (decode bytes)).2 numbers.2)

all_agree : List Value → Bool
all_agree [] = true
all_agree (v ∷ vs) = agrees v && all_agree vs

computed : all_agree reference_values ≡ true
unfolding agrees all_agree all_single same_rows first_where records_from
computed = refl

two_same : (a b c d : ℕ) → a ≡ c → b ≡ d → ◌≡◌ {A = ℕ × ℕ} (a, b) (c, d)
two_same a b c d p q = cc

three_same : (a b c d e f : ℕ) → a ≡ d → b ≡ e → c ≡ f → ◌≡◌ {A = ℕ × ℕ × ℕ} (a, b, c) (d, e, f)
three_same a b c d e f p q r = cc

ok_unit : (r : Result (Unit {0}) MakeRefusal) → is_ok r ≡ true → r ≡ Ok tt
ok_unit (Ok tt) e = refl
ok_unit (Err f) e = absurd (true≢false (sym e))

rows_so : (rs ss : List Row) → same_rows rs ss ≡ true → rs ≡ ss
unfolding same_rows
rows_so [] [] h = refl
rows_so [] (s ∷ ss) h = absurd (true≢false (sym h))
rows_so (r ∷ rs) [] h = absurd (true≢false (sym h))
rows_so (r ∷ rs) (s ∷ ss) h =
    let a = and_parts (alike r s && eqb r.copies s.copies) (same_rows rs ss) h in
    let b = and_parts (alike r s) (eqb r.copies s.copies) a.0 in
    let p = alike_parts r s b.0 in
    let e = same_row r s p.0 p.1 p.2 (eqb-true r.copies s.copies b.1) in
    ap (λ (x : Row). x ∷ rs) e ∙ ap (λ (l : List Row). s ∷ l) (rows_so rs ss a.1)

-- tasks that are placed one by one are grouped
folded_grouped : (done rs ks : List Row) → Grouped done rs → all_single ks ≡ true → Grouped (done ++ ks) (fold (λ held t. placed t held) rs ks)
unfolding all_single
folded_grouped done rs [] g h = subst (λ (l : List Row). Grouped l rs) (sym (append-nil done)) g
folded_grouped done rs (k ∷ ks) g h =
    let a = and_parts (eqb k.copies 1) (all_single ks) h in
    subst (λ (l : List Row). Grouped l (fold (λ held t. placed t held) (placed k rs) ks)) (append_assoc done (k ∷ []) ks)
    (folded_grouped (done ++ k ∷ []) (placed k rs) ks (grouped_more done rs k (eqb-true k.copies 1 a.0) g) a.1)

-- what the test says
agrees_so : (v : Value) → agrees v ≡ true → Agrees v
unfolding agrees
agrees_so (bound d l units) h = eqb-true (bound_of d l) units h
agrees_so (verdict ds (n, l)) h =
    let p = and_parts (eqb (verdict_on ds).0 n) (eqb (verdict_on ds).1 l) h in
    two_same _ _ _ _ (eqb-true (verdict_on ds).0 n p.0) (eqb-true (verdict_on ds).1 l p.1)
agrees_so (made ts rs) h =
    let ks = map rounded ts in
    let a = and_parts (is_ok (tasks_judged ts)) (all_single ks && same_rows (fold (λ done t. placed t done) [] ks) rs) h in
    let b = and_parts (all_single ks) (same_rows (fold (λ done t. placed t done) [] ks) rs) a.1 in
    (ok_unit (tasks_judged ts) a.0, subst (Grouped ks) (rows_so (fold (λ done t. placed t done) [] ks) rs b.1) (folded_grouped [] [] ks (record { ordered = tt; present = tt; counted = λ k. refl }) b.0))
agrees_so (fault bytes (n, r, l)) h =
    let x = file_numbers (decode bytes) in
    let p = and_parts (eqb x.0 n) (eqb x.1 r && eqb x.2 l) h in
    let q = and_parts (eqb x.1 r) (eqb x.2 l) p.1 in
    three_same _ _ _ _ _ _ (eqb-true x.0 n p.0) (eqb-true x.1 r q.0) (eqb-true x.2 l q.1)

all_so : (vs : List Value) → all_agree vs ≡ true → AllByRecursion Agrees vs
unfolding all_agree
all_so [] h = tt
all_so (v ∷ vs) h = let p = and_parts (agrees v) (all_agree vs) h in (agrees_so v p.0, all_so vs p.1)

pub reference_values_agree : AllByRecursion Agrees reference_values
reference_values_agree = all_so reference_values computed
