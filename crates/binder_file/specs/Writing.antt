use Rattle.std.specs.Prelude.{ℕ, cond, List, ◌++◌, length, Ok, Err, Result, ◌==◌, nat_lt, codes, decimal}
use Rattle.std.specs.List.{flat_map}
use Rattle.sheets.specs.Sheets.{Declaration}
use Rattle.binder_file.specs.Format.{record_bytes}
use Rattle.binder_file.specs.declared.refusal.WriteRefusal.{WriteRefusal}
use Rattle.binder_file.specs.declared.refusal.WriteRefusal.TheVariants.{NoSheet, ShortBuffer}

-- a refusal's number and the bytes needed, 0 where no file would do
abbrev pub write_numbers : WriteRefusal → ℕ × ℕ
write_numbers NoSheet = (6, 0)
write_numbers (ShortBuffer needed) = (7, needed)

-- a refusal in words
abbrev pub write_words : WriteRefusal → List ℕ
write_words NoSheet = codes "the binder has no sheet"
write_words (ShortBuffer needed) = codes "the buffer is too short: the file has " ++ (decimal needed ++ codes " bytes")

-- the file of some sheets
abbrev pub encode : List Declaration → List ℕ
encode ds = flat_map record_bytes ds

-- the answer to writing them into a buffer of `room` bytes
abbrev pub write_judged : List Declaration → ℕ → Result ℕ WriteRefusal
write_judged ds room =
    cond (length ds == 0) (Err NoSheet)
    (cond (nat_lt room (length (encode ds))) (Err (ShortBuffer (length (encode ds)))) (Ok (length (encode ds))))
