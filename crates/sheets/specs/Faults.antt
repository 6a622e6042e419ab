use Rattle.std.specs.Prelude.{ℕ, ◌+◌, List, Ok, Err, codes, Result}
use Rattle.sheets.specs.declared.fault.Location.{Location}
use Rattle.sheets.specs.declared.fault.RecordStart.{RecordStart}
use Rattle.sheets.specs.declared.fault.FileFault.{FileFault}
use Rattle.sheets.specs.declared.fault.FileFault.TheVariants.{CutShort, UnknownKind, WrongLength, OutOfRange, OutOfOrder, RecordCount}

-- the location `offset` bytes into a record
abbrev pub spot : RecordStart → ℕ → Location
spot start offset = record { index = start.index; place = start.place + offset }

-- a fault's refusal number, record and place
abbrev pub fault_numbers : FileFault → ℕ × ℕ × ℕ
fault_numbers (CutShort at) = (1, at.index, at.place)
fault_numbers (UnknownKind at) = (2, at.index, at.place)
fault_numbers (WrongLength at) = (3, at.index, at.place)
fault_numbers (OutOfRange at) = (4, at.index, at.place)
fault_numbers (OutOfOrder at) = (5, at.index, at.place)
fault_numbers (RecordCount at) = (6, at.index, at.place)

-- what is wrong with a record
abbrev pub fault_words : FileFault → List ℕ
fault_words (CutShort at) = codes "is cut short by the end of the file"
fault_words (UnknownKind at) = codes "is of no known kind"
fault_words (WrongLength at) = codes "has a length that no sheet of its kind has"
fault_words (OutOfRange at) = codes "has a field outside its range"
fault_words (OutOfOrder at) = codes "has a row that does not come after the one before"
fault_words (RecordCount at) = codes "is one too few or too many: a file has one to eight"

-- the first fault, or what the next step makes of the value
abbrev pub then : {X Y E : Type 0} → Result X E → (X → Result Y E) → Result Y E
then (Ok x) f = f x
then (Err e) f = Err e

-- what a value means, where there is one
abbrev pub meaning : {X Y E : Type 0} → (X → Y) → Result X E → Result Y E
meaning f (Ok x) = Ok (f x)
meaning f (Err e) = Err e

-- the value, or another where there is none
abbrev pub value_or : {X E : Type 0} → Result X E → X → X
value_or (Ok x) old = x
value_or (Err e) old = old
