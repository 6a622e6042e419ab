use Rattle.std.proofs.Common.{◌≡◌, ◌+◌, ◌<◌, ◌≤◌, true, false, List, map, length, sym, ap, ◌∙◌, subst, arith}
use Rattle.std.proofs.ByRecursion.{All-weaker}
use Rattle.std.proofs.lemmas.List.{length-map, get_or-map}
use Rattle.sheets.specs.declared.row.Row.{Row}
use Rattle.tasks.specs.declared.task.MakeRefusal.TheVariants.{NoRoom}
use Rattle.tasks.specs.Placing.{no_room}
use Rattle.tasks.specs.Tasks.{rounded, copies_of, no_row, no_task, crowded, refused_by}
use Rattle.demand.proofs.Firsts.{first_here, first_later, first_none}
use Rattle.sheets.proofs.Rows.{row_ranges, ranges_from}
use Rattle.tasks.proofs.Tasked.{Filled, tasks_accepted, crowded_is, placed_few, filled_more, filled_sound}
use Rattle.tasks.proofs.making.group_tasks.Goals as goal

pub returns-then-is_crowded-clause-answer : goal.returns-then-is_crowded-clause-answer
returns-then-is_crowded-clause-answer c =
    let ts = c.args.tasks.now in
    let ks = map rounded ts in
    let v = c.loop-i.invariant in
    let i = c.loop-i.i in
    let row = c.row_of-row.result in
    let is = get_or-map rounded ts i no_task no_row (omega arith) ∙ sym c.row_of-row.ensures in
    let t : crowded ks i ≡ true =
    crowded_is ks i c.loop-i.rows.items row v.0 (omega (arith, length-map ts rounded)) is
    ∙ ap (λ (l : List Row). no_room (copies_of row l) (length l)) (sym c.as_slice.ensures.value) ∙ sym c.if-is_crowded.ensures in
    sym (ap (refused_by NoRoom) (v.1 ∙ first_here (crowded ks) i (length ts) (omega arith) t))

pub insert_row-requires-clause-room : goal.insert_row-requires-clause-room
insert_row-requires-clause-room c =
    let ts = c.args.tasks.now in
    let v = c.loop-i.invariant in
    let i = c.loop-i.i in
    let row = c.row_of-row.result in
    let is = get_or-map rounded ts i no_task no_row (omega arith) ∙ sym c.row_of-row.ensures in
    let f : no_room (copies_of row c.loop-i.rows.items) (length c.loop-i.rows.items) ≡ false =
    ap (λ (l : List Row). no_room (copies_of row l) (length l)) (sym c.as_slice.ensures.value) ∙ sym c.if-is_crowded.ensures in
    let one : row.copies ≡ 1 = ap (λ (r : Row). r.copies) c.row_of-row.ensures in
    let ranged = subst (λ (r : Row). row_ranges r ≡ true) (sym c.row_of-row.ensures) ((tasks_accepted ts c.requires).ranged i (omega arith)) in
    placed_few (map rounded ts) i c.loop-i.rows.items row v.0 (omega (arith, length-map ts rounded)) is f one ranged

pub insert_row-requires-clause-few_copies : goal.insert_row-requires-clause-few_copies
insert_row-requires-clause-few_copies c =
    let one : c.row_of-row.result.copies ≡ 1 = ap (λ (r : Row). r.copies) c.row_of-row.ensures in
    (omega arith, All-weaker (λ r. row_ranges r ≡ true) (λ r. r.copies ≤ 16) (λ r h. (ranges_from r h).copies_high) c.loop-i.rows.items c.loop-i.invariant.0.ranged)

pub loop-i-preserved : goal.loop-i-preserved
loop-i-preserved c =
    let ts = c.args.tasks.now in
    let ks = map rounded ts in
    let v = c.loop-i.invariant in
    let i = c.loop-i.i in
    let rs = c.loop-i.rows.items in
    let row = c.row_of-row.result in
    let is = get_or-map rounded ts i no_task no_row (omega arith) ∙ sym c.row_of-row.ensures in
    let here : i < length ks = omega (arith, length-map ts rounded) in
    let f : no_room (copies_of row rs) (length rs) ≡ false =
    ap (λ (l : List Row). no_room (copies_of row l) (length l)) (sym c.as_slice.ensures.value) ∙ sym c.if-is_crowded.ensures in
    let one : row.copies ≡ 1 = ap (λ (r : Row). r.copies) c.row_of-row.ensures in
    let ranged = subst (λ (r : Row). row_ranges r ≡ true) (sym c.row_of-row.ensures) ((tasks_accepted ts c.requires).ranged i (omega arith)) in (
      subst (λ (l : List Row). Filled ks (i + 1) l) (sym c.insert_row.ensures) (filled_more ks i rs row v.0 here is f one ranged),
      v.1 ∙ first_later (crowded ks) i (length ts) (omega arith) (crowded_is ks i rs row v.0 here is ∙ f),
    )

pub returns-clause-answer : goal.returns-clause-answer
returns-clause-answer c =
    sym (ap (refused_by NoRoom) (c.loop-i.invariant.1 ∙ first_none (crowded (map rounded c.args.tasks.now)) c.loop-i.i (length c.args.tasks.now) (omega arith)))

pub returns-clause-sound : goal.returns-clause-sound
returns-clause-sound c =
    let ts = c.args.tasks.now in
    let v = c.loop-i.invariant in
    let a = tasks_accepted ts c.requires in
    let s = filled_sound (map rounded ts) c.loop-i.rows.items c.loop-i.i (omega (arith, length-map ts rounded)) (omega (arith, length-map ts rounded, a.some)) v.0 in
    (v.0.few, s.0)
