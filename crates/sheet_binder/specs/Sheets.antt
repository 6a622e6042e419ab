use Rattle.std.specs.Prelude.{◌≡◌, ℕ, ◌+◌, ◌^◌, ◌<◌, ◌≤◌, List, [], ◌∷◌, ◌++◌, map, length, take, Ok, slice_index_or, slice_set}
use Rattle.std.proofs.Common.{sym, ap, ◌∙◌, arith}
use Rattle.std.specs.List.{AllByRecursion}
use Rattle.std.proofs.lemmas.List.{length-map, length-take-le, take_more_set, map_push, get_or-map, get_or-take}
use Rattle.sheets.specs.declared.fault.RecordStart.{RecordStart}
use Rattle.sheets.specs.Kinds.{making_judged}
use Rattle.sheets.specs.Sheets.{Declaration, bound_of, gain_of, component_value, component_bound, component_gain}
use Rattle.sheets.proofs.Components.{at_value, past_value}
use Rattle.sheets.proofs.Lawful.{Lawful, sound_rows_lawful, sound_line_lawful, components_lawful}
use Rattle.sheets.proofs.Records.{sound_rows_accepted, sound_line_accepted}
use Rattle.row_sheet.specs.RowSheets.{sheet_rows}
use Rattle.sheet_binder.specs.declared.sheet.Sheet.{Sheet}
use Rattle.sheet_binder.specs.declared.sheet.Sheet.TheVariants.{Rows, Line}
use Rattle.sheet_binder.specs.Declarations.{declared}

-- the first n sheets declare n sheets
pub length_declared : (ss : List Sheet) (n : ℕ) → n ≤ length ss → length (map declared (take n ss)) ≡ n
length_declared ss n h = length-map (take n ss) declared ∙ length-take-le n ss h

-- one sheet more behind them
pub declared_more : (ss : List Sheet) (n : ℕ) (s : Sheet) → n < length ss → map declared (take (n + 1) (slice_set ss n s)) ≡ map declared (take n ss) ++ declared s ∷ []
declared_more ss n s h = ap (map declared) (take_more_set ss n s h) ∙ map_push declared (take n ss) s

-- component k of the first n sheets is the sheet at k
sheet_at : (ss : List Sheet) (n k : ℕ) (d : Sheet) → k < n → n ≤ length ss → slice_index_or (map declared (take n ss)) k (declared d) ≡ declared (slice_index_or ss k d)
sheet_at ss n k d h m = get_or-map declared (take n ss) k d (declared d) (omega (arith, length-take-le n ss m)) ∙ ap declared (get_or-take n ss k d h)

declared_value : (f : Declaration → ℕ) (ss : List Sheet) (n k : ℕ) (d : Sheet) → k < n → n ≤ length ss → f (declared (slice_index_or ss k d)) ≡ component_value f (map declared (take n ss)) k
declared_value f ss n k d h m =
    ap f (sym (sheet_at ss n k d h m)) ∙ sym (at_value f (map declared (take n ss)) k (declared d) (omega (arith, length_declared ss n m)))

pub declared_bound : (ss : List Sheet) (n k l : ℕ) (d : Sheet) → k < n → n ≤ length ss → bound_of (declared (slice_index_or ss k d)) l ≡ component_bound (map declared (take n ss)) k l
declared_bound ss n k l d h m = declared_value (λ d. bound_of d l) ss n k d h m

pub declared_gain : (ss : List Sheet) (n k : ℕ) (d : Sheet) → k < n → n ≤ length ss → gain_of (declared (slice_index_or ss k d)) ≡ component_gain (map declared (take n ss)) k
declared_gain ss n k d h m = declared_value gain_of ss n k d h m

-- what is said of the sheet at k, and that there is none
pub value_shown : (f : Declaration → ℕ) (shown ss : List Sheet) (k : ℕ) (s : Sheet) → shown ≡ ss → k < length shown → s ≡ slice_index_or shown k s → f (declared s) ≡ component_value f (map declared ss) k
value_shown f shown ss k s e h here =
    ap (λ (x : Sheet). f (declared x)) here
    ∙ ap f (sym (get_or-map declared shown k s (declared s) h))
    ∙ sym (at_value f (map declared shown) k (declared s) (omega (arith, length-map shown declared)))
    ∙ ap (λ (l : List Sheet). component_value f (map declared l) k) e

pub none_shown : (f : Declaration → ℕ) (shown ss : List Sheet) (k : ℕ) → shown ≡ ss → length shown ≤ k → 0 ≡ component_value f (map declared ss) k
none_shown f shown ss k e h =
    sym (past_value f (map declared shown) k (omega (arith, length-map shown declared))) ∙ ap (λ (l : List Sheet). component_value f (map declared l) k) e

-- every sheet has the laws of a bound, and so has each component of a list of sheets
all_lawful : (ss : List Sheet) → AllByRecursion (λ d. Lawful (bound_of d) (gain_of d) (2 ^ 52)) (map declared ss)
all_lawful [] = tt
all_lawful (Rows s ∷ ss) = (sound_rows_lawful (sheet_rows s) s.sound, all_lawful ss)
all_lawful (Line s ∷ ss) = (sound_line_lawful s.line s.sound, all_lawful ss)

pub sheets_lawful : (ss : List Sheet) (k : ℕ) → Lawful (component_bound (map declared ss) k) (component_gain (map declared ss) k) (2 ^ 52)
sheets_lawful ss k = components_lawful (map declared ss) (all_lawful ss) k

-- a sheet that exists is accepted, wherever its record begins
pub sheet_accepted : (s : Sheet) (start : RecordStart) → making_judged (declared s) start ≡ Ok tt
sheet_accepted (Rows s) start = sound_rows_accepted (sheet_rows s) start s.sound
sheet_accepted (Line s) start = sound_line_accepted s.line start s.sound
