-- Only windows from the arrival of a job to the due tick of a job of the same component matter.
use Rattle.std.proofs.Common.{◌≡◌, ℕ, zero, suc, ◌-◌, ◌<◌, ◌≤◌, Bool, true, false, cond, ◌⊎◌, sym, refl, ap, ◌∙◌, inl, inr, ⊎_elim, arith}
use Rattle.std.proofs.lemmas.Bool.{cases_Bool, cases_lt, both_ways}
use Rattle.scheduler.specs.History.{History, count, job, units, inside, load, load_over}
use Rattle.scheduler.specs.Windows.{Free, FreeAtJobs}
use Rattle.scheduler.proofs.Loads.{inside_true, inside_from}
use Rattle.scheduler.proofs.Sums.{sum_le}

-- of the numbers below n that pass a test, if any, one has the least value
pub least : (test : ℕ → Bool) (f : ℕ → ℕ) (n m : ℕ) → m < n → test m ≡ true → (a : ℕ) × (a < n) × (test a ≡ true) × ((b : ℕ) → b < n → test b ≡ true → f a ≤ f b)
least test f zero m l t = absurd (omega arith)
least test f (suc n) m l t =
    ⊎_elim
    (λ (here : test n ≡ true).
    ⊎_elim
    (λ (w : (i : ℕ) × (i < n) × (test i ≡ true)).
    let r = least test f n w.0 w.1 w.2 in
    ⊎_elim
    (λ (less : f n < f r.0). (n, omega arith, here, λ b k s. ⊎_elim (λ (q : b < n). omega (arith, r.3 b q s)) (λ (q : n ≤ b). let e : b ≡ n = omega arith in omega (arith, ap f e)) (cases_lt b n)))
    (λ (more : f r.0 ≤ f n). (r.0, omega (arith, r.1), r.2, λ b k s. ⊎_elim (λ (q : b < n). r.3 b q s) (λ (q : n ≤ b). let e : b ≡ n = omega arith in omega (arith, ap f e)) (cases_lt b n)))
    (cases_lt (f n) (f r.0)))
    (λ (none : (i : ℕ) → i < n → test i ≡ false).
    (n, omega arith, here, λ b k s. ⊎_elim (λ (q : b < n). absurd (both_ways (test b) (none b q) s)) (λ (q : n ≤ b). let e : b ≡ n = omega arith in omega (arith, ap f e)) (cases_lt b n)))
    (some_or_none test n))
    (λ (not_here : test n ≡ false).
    let below : m < n = ⊎_elim (λ (q : m < n). q) (λ (q : n ≤ m). let e : m ≡ n = omega arith in absurd (both_ways (test n) not_here (ap test (sym e) ∙ t))) (cases_lt m n) in
    let r = least test f n m below t in
    (r.0, omega (arith, r.1), r.2, λ b k s. ⊎_elim (λ (q : b < n). r.3 b q s) (λ (q : n ≤ b). let e : b ≡ n = omega arith in absurd (both_ways (test n) not_here (ap test (sym e) ∙ s))) (cases_lt b n)))
    (cases_Bool (test n))
  where
    some_or_none : (test : ℕ → Bool) (n : ℕ) → ((i : ℕ) × (i < n) × (test i ≡ true)) ⊎ ((i : ℕ) → i < n → test i ≡ false)
    some_or_none test zero = inr (λ i l. absurd (omega arith))
    some_or_none test (suc n) =
        ⊎_elim (λ (y : test n ≡ true). inl (n, omega arith, y))
        (λ (o : test n ≡ false).
        ⊎_elim (λ (w : (i : ℕ) × (i < n) × (test i ≡ true)). inl (w.0, omega (arith, w.1), w.2))
        (λ (none : (i : ℕ) → i < n → test i ≡ false). inr (λ i l. ⊎_elim (λ (q : i < n). none i q) (λ (q : n ≤ i). let e : i ≡ n = omega arith in ap test e ∙ o) (cases_lt i n)))
        (some_or_none test n))
        (cases_Bool (test n))

-- the greatest value, by the least distance from one that none exceeds
pub greatest : (test : ℕ → Bool) (f : ℕ → ℕ) (top n m : ℕ) → ((i : ℕ) → i < n → test i ≡ true → f i ≤ top) → m < n → test m ≡ true → (a : ℕ) × (a < n) × (test a ≡ true) × ((b : ℕ) → b < n → test b ≡ true → f b ≤ f a)
greatest test f top n m high l t =
    let r = least test (λ i. top - f i) n m l t in
    (r.0, r.1, r.2, λ b k s. omega (arith, r.3 b k s, high b k s, high r.0 r.1 r.2))

pub share_more : (b c : Bool) (x : ℕ) → (b ≡ true → c ≡ true) → cond b x 0 ≤ cond c x 0
share_more true true x h = omega arith
share_more true false x h = absurd (both_ways false refl (h refl))
share_more false c x h = omega arith

-- room in the windows from job to job is room in every window
pub free_at_jobs : (bound : ℕ → ℕ → ℕ) (h : History) (n : ℕ) → ((k l m : ℕ) → l ≤ m → bound k l ≤ bound k m) → n < count h → FreeAtJobs bound h n → Free bound (load h) (job h n)
unfolding load_over
free_at_jobs bound h n climbs known free s e lies =
    let k = (job h n).component in
    let test : ℕ → Bool = λ i. inside k s e (job h i) in
    let own : test n ≡ true = inside_from k s e (job h n) refl lies.0 lies.1 in
    let a = least test (λ i. (job h i).arrival) (count h) n known own in
    let b = greatest test (λ i. (job h i).due) e (count h) n (λ i l t. (inside_true k s e (job h i) t).2) known own in
    let first = inside_true k s e (job h a.0) a.2 in
    let last = inside_true k s e (job h b.0) b.2 in
    let s' = (job h a.0).arrival in
    let e' = (job h b.0).due in
    let room = free a.0 b.0 a.1 b.1 first.0 last.0 (a.3 n known own, b.3 n known own) in
    let more = sum_le (count h) (λ i. cond (inside k s e (job h i)) (units h i) 0) (λ i. cond (inside k s' e' (job h i)) (units h i) 0)
    (λ i l. share_more (inside k s e (job h i)) (inside k s' e' (job h i)) (units h i) (λ t. inside_from k s' e' (job h i) (inside_true k s e (job h i) t).0 (a.3 i l t) (b.3 i l t))) in
    omega (arith, room, more, climbs k (e' - s') (e - s) (omega (arith, first.1, last.2)))

pub at_jobs_free : (bound : ℕ → ℕ → ℕ) (h : History) (n : ℕ) → Free bound (load h) (job h n) → FreeAtJobs bound h n
at_jobs_free bound h n free a b p q x y lies = free (job h a).arrival (job h b).due lies
