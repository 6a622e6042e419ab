use Rattle.std.proofs.Common.{◌≡◌, List, ◌≤◌, ◌<◌, length, sym, ap, ◌∙◌, arith, rules}
use Rattle.std.proofs.lemmas.List.Sorted.{answers_always}
use Rattle.std.proofs.lemmas.List.Edits.{length-insert}
use Rattle.std.specs.List.{insert}
use Rattle.sheets.specs.declared.row.Row.{Row}
use Rattle.tasks.specs.Tasks.{no_row}
use Rattle.tasks.specs.Placing.{placed}
use Rattle.tasks.proofs.Ordered.{key_of, search-found, search-missed}
use Rattle.tasks.proofs.Placed.{placed-joined, placed-inserted, refill-all}
use Rattle.tasks.proofs.making.insert_row.Goals as goal

pub insert-requires : goal.insert-requires
insert-requires c =
    let rs = c.args.rows.now.items in
    let t = c.args.row in
    let i = c.in-Err.i in
    let b : i ≤ length rs = search rules in
    let s = search-missed t rs i c.deref.result.now c.key.result c.deref.ensures.0 c.key.ensures c.requires.ordered (c.in-Err.ensures.position key_of (answers_always _ _ _ (λ f a r g h. search rules))) in
    let e : placed t rs ≡ insert rs i t = placed-inserted t rs i c.requires.ordered b s.0 s.1 in
    let m : length rs < 8 = omega (arith, ap (λ (l : List Row). length l) e, length-insert rs i t b, c.requires.room) in
    (omega arith, (b, m))

pub returns-in-Ok : goal.returns-in-Ok
returns-in-Ok c =
    let rs = c.args.rows.now.items in
    let t = c.args.row in
    let i = c.in-Ok.i in
    let a = search-found t rs i c.deref.result.now c.key.result c.deref.ensures.0 c.key.ensures (c.in-Ok.ensures.position key_of (answers_always _ _ _ (λ f a r g h. search rules)) no_row) in
    let b : i < length rs = search rules in
    refill-all rs c.deref_mut.result.now i t c.deref_mut.ensures.value b
    ∙ sym (placed-joined t rs i c.requires.ordered b a)

pub returns-in-Err : goal.returns-in-Err
returns-in-Err c =
    let rs = c.args.rows.now.items in
    let t = c.args.row in
    let i = c.in-Err.i in
    let b : i ≤ length rs = search rules in
    let s = search-missed t rs i c.deref.result.now c.key.result c.deref.ensures.0 c.key.ensures c.requires.ordered (c.in-Err.ensures.position key_of (answers_always _ _ _ (λ f a r g h. search rules))) in
    c.insert.ensures.items ∙ sym (placed-inserted t rs i c.requires.ordered b s.0 s.1)
