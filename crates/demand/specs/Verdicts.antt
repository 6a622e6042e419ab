use Rattle.std.specs.Prelude.{ℕ, List, Ok, Err, codes, Result}
use Rattle.demand.specs.declared.verdict.TestRefusal.{TestRefusal}
use Rattle.demand.specs.declared.verdict.TestRefusal.TheVariants.{DemandExceeds, GainsExceed, SheetCount}

-- a refusal's number and the length that is exceeded, or 0
abbrev pub refusal_numbers : TestRefusal → ℕ × ℕ
refusal_numbers (DemandExceeds l) = (8, l)
refusal_numbers GainsExceed = (9, 0)
refusal_numbers SheetCount = (10, 0)

-- the test's verdict in numbers, (0, 0) for admitted
abbrev pub verdict_numbers : Result (Unit {0}) TestRefusal → ℕ × ℕ
verdict_numbers (Ok _) = (0, 0)
verdict_numbers (Err e) = refusal_numbers e

-- why the test refuses a binder
abbrev pub refusal_words : TestRefusal → List ℕ
refusal_words (DemandExceeds l) = codes "the bounds add up to more than that length"
refusal_words GainsExceed = codes "the gains add up to more than 4096"
refusal_words SheetCount = codes "a binder has one to eight sheets"
