-- Laws of sums over the numbers below n, and a search among them.
use Rattle.std.proofs.Common.{◌≡◌, ℕ, zero, suc, ◌+◌, ◌<◌, ◌≤◌, ◌⊎◌, refl, subst, inl, inr, ⊎_elim, not-suc-le-zero, arith}
use Rattle.std.proofs.lemmas.Bool.{cases_lt}
use Rattle.demand.specs.Admission.{total}

pub sum_same : (n : ℕ) (f g : ℕ → ℕ) → ((i : ℕ) → i < n → f i ≡ g i) → total n f ≡ total n g
sum_same zero f g same = refl
sum_same (suc n) f g same = omega (arith, sum_same n f g (λ i l. same i (omega arith)), same n (omega arith))

pub sum_le : (n : ℕ) (f g : ℕ → ℕ) → ((i : ℕ) → i < n → f i ≤ g i) → total n f ≤ total n g
sum_le zero f g le = omega arith
sum_le (suc n) f g le = omega (arith, sum_le n f g (λ i l. le i (omega arith)), le n (omega arith))

-- one of them is one more, and the others are the same
pub sum_more : (n : ℕ) (f g : ℕ → ℕ) (m : ℕ) → m < n → g m ≡ f m + 1 → ((i : ℕ) → i < n → (i ≡ m → ⊥) → g i ≡ f i) → total n g ≡ total n f + 1
sum_more zero f g m l more same = absurd (not-suc-le-zero l)
sum_more (suc n) f g m l more same =
    ⊎_elim
    (λ (lt : m < n). omega (arith, sum_more n f g m lt more (λ i k. same i (omega arith)), same n (omega arith) (omega arith)))
    (λ (ge : n ≤ m).
    let here : m ≡ n = omega arith in
    let at : g n ≡ f n + 1 = subst (λ x. g x ≡ f x + 1) here more in
    omega (arith, sum_same n g f (λ i k. same i (omega arith) (omega arith)), at))
    (cases_lt m n)

-- one of them is more, and the others are no less
pub sum_less : (n : ℕ) (f g : ℕ → ℕ) (m : ℕ) → m < n → f m + 1 ≤ g m → ((i : ℕ) → i < n → f i ≤ g i) → total n f + 1 ≤ total n g
sum_less zero f g m l more le = absurd (not-suc-le-zero l)
sum_less (suc n) f g m l more le =
    ⊎_elim
    (λ (lt : m < n). omega (arith, sum_less n f g m lt more (λ i k. le i (omega arith)), le n (omega arith)))
    (λ (ge : n ≤ m).
    let here : m ≡ n = omega arith in
    let at : f n + 1 ≤ g n = subst (λ x. f x + 1 ≤ g x) here more in
    omega (arith, sum_le n f g (λ i k. le i (omega arith)), at))
    (cases_lt m n)

pub sum_has : (n : ℕ) (f : ℕ → ℕ) (m : ℕ) → m < n → f m ≤ total n f
sum_has zero f m l = absurd (not-suc-le-zero l)
sum_has (suc n) f m l =
    ⊎_elim
    (λ (lt : m < n). omega (arith, sum_has n f m lt))
    (λ (ge : n ≤ m).
    let here : m ≡ n = omega arith in
    let at : f m ≤ f n = subst (λ x. f m ≤ f x) here (omega arith) in
    omega (arith, at))
    (cases_lt m n)

-- a search among the numbers below n
pub all_or_some : (P Q : ℕ → Type 0) → ((n : ℕ) → P n ⊎ Q n) → (n : ℕ) → ((i : ℕ) → i < n → P i) ⊎ ((i : ℕ) × (i < n) × Q i)
all_or_some P Q test zero = inl (λ i l. absurd (not-suc-le-zero l))
all_or_some P Q test (suc n) =
    ⊎_elim
    (λ all. ⊎_elim (λ here. inl (more all here)) (λ q. inr (n, omega arith, q)) (test n))
    (λ some. inr (some.0, omega (arith, some.1), some.2))
    (all_or_some P Q test n)
  where
    more : ((i : ℕ) → i < n → P i) → P n → (i : ℕ) → i < suc n → P i
    more all here i l =
        ⊎_elim (λ (lt : i < n). all i lt) (λ (ge : n ≤ i). let e : n ≡ i = omega arith in subst P e here) (cases_lt i n)
