use Rattle.std.proofs.Common.{◌≡◌, ◌&&◌, is_ok, Ok, Err, Result, refl, ap, ◌∙◌}
use Rattle.sheets.specs.Faults.{then, meaning}

-- a step that went well, and one that did not
pub then_ok : {X Y E : Type 0} (a : Result X E) (x : X) (f : X → Result Y E) → a ≡ Ok x → then a f ≡ f x
then_ok {X} {Y} {E} a x f e = ap (λ (z : Result X E). then z f) e

pub then_err : {X Y E : Type 0} (a : Result X E) (y : E) (f : X → Result Y E) → a ≡ Err y → then a f ≡ Err y
then_err {X} {Y} {E} a y f e = ap (λ (z : Result X E). then z f) e

-- both steps go well
pub IsOk-then : {X Y E : Type 0} (a : Result X E) (b : Result Y E) → is_ok (then a (λ _. b)) ≡ (is_ok a && is_ok b)
IsOk-then (Ok x) b = refl
IsOk-then (Err e) b = refl

-- a meaning of a meaning, and the meaning of what a step gives
pub meaning_after : {X Y Z E : Type 0} (f : X → Y) (g : Y → Z) (r : Result X E) → meaning (λ x. g (f x)) r ≡ meaning g (meaning f r)
meaning_after f g (Ok x) = refl
meaning_after f g (Err e) = refl

pub meaning-then : {X Y Z E : Type 0} (g : Y → Z) (a : Result X E) (y : Y) → meaning g (then a (λ _. Ok y)) ≡ then a (λ _. Ok (g y))
meaning-then g (Ok x) y = refl
meaning-then g (Err e) y = refl

-- one step more of the same kind
pub meaning_by : {X Y Z U E : Type 0} (f : X → Y) (g : Y → Z) (r : Result X E) (a : Result U E) (y : Y) → meaning f r ≡ then a (λ _. Ok y) → meaning (λ x. g (f x)) r ≡ then a (λ _. Ok (g y))
meaning_by {X} {Y} {Z} {U} {E} f g r a y e = meaning_after f g r ∙ ap (λ (z : Result Y E). meaning g z) e ∙ meaning-then g a y
