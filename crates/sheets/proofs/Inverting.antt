use Rattle.std.proofs.Common.{◌≡◌, ℕ, Bool, true, false, cond, Ok, Err, Result, refl, arith}
use Rattle.sheets.specs.Faults.{then}

-- steps that went well went well one by one
pub then_went : {X Y E : Type 0} (a : Result X E) (f : X → Result Y E) (y : Y) → then a f ≡ Ok y → (x : X) × (a ≡ Ok x) × (f x ≡ Ok y)
then_went (Ok x) f y e = (x, refl, e)
then_went (Err g) f y e = let z : ◌≡◌ {A = ℕ} 0 1 = cc in absurd (omega arith)

-- a test that refuses when it fails, or when it holds
pub passed : {X E : Type 0} (b : Bool) (r : Result X E) (g : E) (y : X) → cond b r (Err g) ≡ Ok y → (b ≡ true) × (r ≡ Ok y)
passed true r g y e = (refl, e)
passed false r g y e = let z : ◌≡◌ {A = ℕ} 0 1 = cc in absurd (omega arith)

pub not_caught : {X E : Type 0} (b : Bool) (r : Result X E) (g : E) (y : X) → cond b (Err g) r ≡ Ok y → (b ≡ false) × (r ≡ Ok y)
not_caught true r g y e = let z : ◌≡◌ {A = ℕ} 0 1 = cc in absurd (omega arith)
not_caught false r g y e = (refl, e)

pub same_ok : {X E : Type 0} (x y : X) → ◌≡◌ {A = Result X E} (Ok x) (Ok y) → x ≡ y
same_ok x y e = cc
