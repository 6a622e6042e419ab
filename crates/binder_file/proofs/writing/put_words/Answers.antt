use Rattle.std.proofs.Common.{◌≡◌, ℕ, ◌+◌, ◌*◌, ◌/◌, ◌%◌, List, [], ◌∷◌, ◌++◌, length, take, get_or, set, sym, ap, ◌∙◌, arith}
use Rattle.std.specs.List.{flat_map}
use Rattle.std.proofs.lemmas.List.{length-take-le}
use Rattle.sheets.specs.Over.{over}
use Rattle.sheets.proofs.Filling.{joined_take_more}
use Rattle.sheets.proofs.Overwriting.{over_two}
use Rattle.binder_file.specs.Format.{word_bytes}
use Rattle.binder_file.proofs.Words.{length_words}
use Rattle.binder_file.proofs.writing.put_words.Goals as goal

pub loop-i-preserved : goal.loop-i-preserved
loop-i-preserved c =
    let ws = c.args.words.now in
    let old = c.args.bytes.now in
    let i = c.loop-i.i in
    let done = flat_map word_bytes (take i ws) in
    let size : 2 * i ≡ length done = omega (arith, length_words (take i ws), length-take-le i ws (omega arith)) in
    let w = get_or ws i 0 in
    let low = get_or c.to_le_bytes.result 0 0 in
    let high = get_or c.to_le_bytes.result 1 0 in
    let low_is : low ≡ w % 256 = omega (arith, ap (λ (l : List ℕ). get_or l 0 0) c.to_le_bytes.ensures) in
    let high_is : high ≡ w / 256 = omega (arith, ap (λ (l : List ℕ). get_or l 1 0) c.to_le_bytes.ensures, c.type_inv.words i) in
    ap (λ (l : List ℕ). set (set l (2 * i) low) (2 * i + 1) high) c.loop-i.invariant
    ∙ over_two done old (2 * i) low high size (omega (arith, size))
    ∙ ap (λ (x : ℕ). over (done ++ x ∷ high ∷ []) old) low_is ∙ ap (λ (x : ℕ). over (done ++ w % 256 ∷ x ∷ []) old) high_is
    ∙ ap (λ (l : List ℕ). over l old) (sym (joined_take_more word_bytes ws i 0 (omega arith)))
