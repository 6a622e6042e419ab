-- Rows of fields cut into fours.
use Rattle.std.proofs.Common.{◌≡◌, ℕ, zero, suc, ◌+◌, ◌*◌, ◌/◌, ◌<◌, List, ◌∷◌, map, length, take, drop, get_or, refl, ap, ◌∙◌, arith}
use Rattle.std.specs.List.{range_with_len}
use Rattle.std.specs.Simd.{first_chunks}
use Rattle.std.proofs.lemmas.List.{get_or-take, get_or-drop, drop-drop}
use Rattle.sheets.specs.declared.row.Row.{Row}
use Rattle.sheets.specs.Kinds.{row_at, rows_in}
use Rattle.sheets.proofs.Records.{same_four}
use Rattle.row_sheet.specs.RowSheets.{row_of}

-- field j of the fields from 4 * m on
field_at : (fs : List ℕ) (m j : ℕ) → j < 4 → get_or (take 4 (drop (4 * m) fs)) j 0 ≡ get_or fs (4 * m + j) 0
field_at fs m j h = get_or-take 4 (drop (4 * m) fs) j 0 h ∙ get_or-drop (4 * m) fs j 0

one_row : (fs : List ℕ) (m : ℕ) → row_of (take 4 (drop (4 * m) fs)) ≡ row_at fs m
one_row fs m =
    let z : 4 * m + 0 ≡ 4 * m = omega arith in
    same_four _ _ _ _ _ _ _ _ (field_at fs m 0 (omega arith) ∙ ap (λ (n : ℕ). get_or fs n 0) z) (field_at fs m 1 (omega arith)) (field_at fs m 2 (omega arith)) (field_at fs m 3 (omega arith))

rows_from_chunks : (fs : List ℕ) (m k : ℕ) → map row_of (first_chunks 4 k (drop (4 * m) fs)) ≡ map (row_at fs) (range_with_len m k)
rows_from_chunks fs m zero = refl
rows_from_chunks fs m (suc k) =
    let n : 4 * m + 4 ≡ 4 * (m + 1) = omega arith in
    ap (λ (r : Row). r ∷ map row_of (first_chunks 4 k (drop 4 (drop (4 * m) fs)))) (one_row fs m)
    ∙ ap (λ (l : List ℕ). row_at fs m ∷ map row_of (first_chunks 4 k l)) (drop-drop 4 (4 * m) fs ∙ ap (λ (i : ℕ). drop i fs) n)
    ∙ ap (λ (l : List Row). row_at fs m ∷ l) (rows_from_chunks fs (m + 1) k)

pub rows-first_chunks : (fs : List ℕ) → map row_of (first_chunks 4 (length fs / 4) fs) ≡ rows_in fs
rows-first_chunks fs = rows_from_chunks fs 0 (length fs / 4)
