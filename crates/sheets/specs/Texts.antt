-- How functions that write a text append to it.
use Rattle.std.specs.Prelude.{◌≡◌, ℕ, List, ◌++◌, OnOk, string_bytes, Result, String}

-- without a failure, the new text is the old one with more behind it
abbrev pub Appends : {T E A : Type 0} → String A → String A → Result T E → List ℕ → Type 0
Appends old new result more = OnOk result (string_bytes new ≡ string_bytes old ++ more)
