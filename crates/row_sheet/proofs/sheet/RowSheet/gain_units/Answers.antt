use Rattle.std.proofs.Common.{◌≡◌, ◌^◌, true, List, sym, subst, arith, rules}
use Rattle.std.proofs.lemmas.Iterator.{YieldsList-from_slice, YieldsList-from_map}
use Rattle.std.proofs.lemmas.Iterator.Adapters.{serves_from_places}
use Rattle.std.proofs.lemmas.Iterator.Consumers.{fits_by_from_yields_list}
use Rattle.sheets.specs.declared.row.Row.{Row}
use Rattle.sheets.specs.Rows.{row_gain, sound_rows}
use Rattle.sheets.proofs.Rows.{sound_all, row_gains_fit, ranges_at}
use Rattle.row_sheet.proofs.sheet.RowSheet.gain_units.Goals as goal

pub sum-requires-clause-can : goal.sum-requires-clause-can
sum-requires-clause-can c =
    let s = sound_all c.rows.result.now (subst (λ (rs : List Row). sound_rows rs ≡ true) (sym c.rows.ensures.value) c.args.self.now.sound) in
    (tt, serves_from_places (YieldsList-from_slice c.rows.result.now cc) (λ x q h. search rules) (λ x k b e. ranges_at c.rows.result.now s.2 k x.now b e))

pub sum-requires-clause-fits : goal.sum-requires-clause-fits
sum-requires-clause-fits c =
    let s = sound_all c.rows.result.now (subst (λ (rs : List Row). sound_rows rs ≡ true) (sym c.rows.ensures.value) c.args.self.now.sound) in
    fits_by_from_yields_list row_gain c.rows.result.now c.map.result (2 ^ 64) (YieldsList-from_map _ row_gain (YieldsList-from_slice c.rows.result.now cc) c.map.ensures.closure (λ x r q k. search rules))
    (omega (arith, row_gains_fit c.rows.result.now s.2))
