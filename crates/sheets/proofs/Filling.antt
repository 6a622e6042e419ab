use Rattle.std.proofs.Common.{◌≡◌, ℕ, ◌+◌, ◌<◌, ◌≤◌, List, [], ◌++◌, map, length, get_or, take, drop, sym, ap, ◌∙◌, arith}
use Rattle.std.specs.List.{flat_map}
use Rattle.std.proofs.lemmas.List.{take_more, flat_map_more, take-append-drop, length-append}
use Rattle.std.proofs.lemmas.List.Concat.{flat_map-append}
use Rattle.std.proofs.lemmas.List.Folds.{flat_map-map}

-- what is joined of one element more
pub joined_take_more : {X A : Type 0} (f : X → List A) (xs : List X) (i : ℕ) (d : X) → i < length xs → flat_map f (take (i + 1) xs) ≡ flat_map f (take i xs) ++ f (get_or xs i d)
joined_take_more {X} {A} f xs i d h = ap (λ (l : List X). flat_map f l) (take_more xs i d h) ∙ sym (flat_map_more f [] (take i xs) (get_or xs i d))

-- what is joined of a front is no longer than what is joined of all
pub joined_take_le : {X A : Type 0} (f : X → List A) (xs : List X) (i : ℕ) → length (flat_map f (take i xs)) ≤ length (flat_map f xs)
joined_take_le {X} {A} f xs i =
    let e = ap (λ (l : List X). length (flat_map f l)) (sym (take-append-drop i xs)) ∙ ap (λ (l : List A). length l) (flat_map-append f (take i xs) (drop i xs)) in
    omega (arith, e, length-append (flat_map f (take i xs)) (flat_map f (drop i xs)))

pub joined_map : {X Y A : Type 0} (f : Y → List A) (g : X → Y) (xs : List X) → flat_map f (map g xs) ≡ flat_map (λ x. f (g x)) xs
joined_map f g xs = flat_map-map f g xs
