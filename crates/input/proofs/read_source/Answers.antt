use Rattle.std.proofs.Common.{◌≡◌, ℕ, List, [], ◌++◌, take, Some, None, IfSome, Option, ap, ◌∙◌}
use Rattle.std.specs.Option.{option_map}
use Rattle.input.proofs.read_source.Goals as goal

-- what was read behind nothing, where the bytes up to the limit are known
front : (o : Option (List ℕ)) (limit most : ℕ) (old new : List ℕ) → limit ≡ most → old ≡ [] → IfSome (option_map (take limit) o) (λ bytes. new ≡ old ++ bytes) → IfSome o (λ bytes. new ≡ take most bytes)
front None limit most old new l e h = tt
front (Some bytes) limit most old new l e h = h ∙ ap (λ (front : List ℕ). front ++ take limit bytes) e ∙ ap (λ (n : ℕ). take n bytes) l

pub returns : goal.returns
returns g c =
    let source = rw c.take.ensures.inner at c.in_ok-read_to_end.ensures.bytes in
    front (g.R.Read.remaining c.args.source) _ _ _ _ c.take.ensures.limit c.new-bytes.ensures.items source
