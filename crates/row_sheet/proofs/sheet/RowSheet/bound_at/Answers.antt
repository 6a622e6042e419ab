use Rattle.std.proofs.Common.{ℕ, ◌≡◌, ◌^◌, true, List, sym, subst, arith, rules}
use Rattle.std.proofs.lemmas.Iterator.{YieldsList-from_slice, YieldsList-from_map}
use Rattle.std.proofs.lemmas.Iterator.Adapters.{serves_from_places}
use Rattle.std.proofs.lemmas.Iterator.Consumers.{fits_by_from_yields_list}
use Rattle.sheets.specs.declared.row.Row.{Row}
use Rattle.sheets.specs.Rows.{row_bound, rows_bound, sound_rows}
use Rattle.row_sheet.specs.RowSheets.{sheet_rows}
use Rattle.row_sheet.specs.Sporadic.{MostWork}
use Rattle.row_sheet.proofs.Sporadic.{bound_is_most}
use Rattle.sheets.proofs.Rows.{sound_all, row_bounds_fit, ranges_at}
use Rattle.row_sheet.proofs.sheet.RowSheet.bound_at.Goals as goal

pub sum-requires-clause-can : goal.sum-requires-clause-can
sum-requires-clause-can c =
    let s = sound_all c.rows.result.now (subst (λ (rs : List Row). sound_rows rs ≡ true) (sym c.rows.ensures.value) c.args.self.now.sound) in
    (tt, serves_from_places (YieldsList-from_slice c.rows.result.now cc) (λ x q h. search rules) (λ x k b e _ _ _ _ _ _. ranges_at c.rows.result.now s.2 k x.now b e))

pub sum-requires-clause-fits : goal.sum-requires-clause-fits
sum-requires-clause-fits c =
    let s = sound_all c.rows.result.now (subst (λ (rs : List Row). sound_rows rs ≡ true) (sym c.rows.ensures.value) c.args.self.now.sound) in
    fits_by_from_yields_list (λ r. row_bound r c.args.length) c.rows.result.now c.map.result (2 ^ 64) (YieldsList-from_map _ (λ r. row_bound r c.args.length) (YieldsList-from_slice c.rows.result.now cc) c.map.ensures.closure (λ x r q k. search rules))
    (omega (arith, row_bounds_fit c.rows.result.now c.args.length (omega arith) s.2))

pub returns-clause-most_sporadic_work : goal.returns-clause-most_sporadic_work
returns-clause-most_sporadic_work c =
    let rs = sheet_rows c.args.self.now in
    let e : c.sum.result ≡ rows_bound rs c.args.length = search rules in
    subst (λ (u : ℕ). MostWork rs c.args.length u) (sym e) (bound_is_most rs c.args.length (sound_all rs c.args.self.now.sound).2)
