-- How the input is read: its lines, the call that a line says, and how far the calls go.
use Rattle.std.specs.Prelude.{ℕ, ◌+◌, ◌-◌, ◌*◌, cond, List, [], ◌∷◌, length, Some, None, Option, ◌==◌}
use Rattle.demand.specs.Fields.{from_to}
use Rattle.scheduler.specs.declared.calls.Call.{Call}
use Rattle.scheduler.specs.declared.calls.Call.TheVariants.{Arrive, Finish, Tick}

-- a byte more in front of the first line
abbrev pub in_front : ℕ → List (List ℕ) → List (List ℕ)
in_front b [] = (b ∷ []) ∷ []
in_front b (l ∷ ls) = (b ∷ l) ∷ ls

-- The lines. Each ends at a byte 10, which is no part of it, the last one also at the end of the input; none follows a final byte 10.
abbrev pub lines : List ℕ → List (List ℕ)
lines [] = []
lines (b ∷ bs) = cond (b == 10) ([] ∷ lines bs) (in_front b (lines bs))

-- the bytes before the first byte `stop`, all where there is none, and the bytes behind it, none where there is none
abbrev pub before : ℕ → List ℕ → List ℕ
before stop [] = []
before stop (b ∷ bs) = cond (b == stop) [] (b ∷ before stop bs)

abbrev pub behind : ℕ → List ℕ → List ℕ
behind stop [] = []
behind stop (b ∷ bs) = cond (b == stop) bs (behind stop bs)

-- the number that some digits write behind the digits of n; none where a byte is no digit
abbrev pub digits_behind : ℕ → List ℕ → Option ℕ
digits_behind n [] = Some n
digits_behind n (b ∷ bs) = cond (from_to 48 57 b) (digits_behind (10 * n + (b - 48)) bs) None

-- the number that one to nine digits write
abbrev pub number : List ℕ → Option ℕ
number bs = cond (from_to 1 9 (length bs)) (digits_behind 0 bs) None

-- a call with one number, or with two, if each could be read
abbrev pub with_number : (ℕ → Call) → Option ℕ → Option Call
with_number call None = None
with_number call (Some n) = Some (call n)

abbrev pub with_numbers : (ℕ → ℕ → Call) → Option ℕ → Option ℕ → Option Call
with_numbers call None second = None
with_numbers call (Some n) second = with_number (call n) second

-- the call whose line begins with a letter and a blank: behind "a " a component, a blank and a deadline, behind "f " a job
abbrev pub call_of_letter : ℕ → List ℕ → Option Call
call_of_letter letter rest =
    cond (letter == 97) (with_numbers Arrive (number (before 32 rest)) (number (behind 32 rest)))
    (cond (letter == 102) (with_number Finish (number rest)) None)

-- The call that a line says, if any: "a COMPONENT DEADLINE", "f JOB" or "t". No other form says one.
abbrev pub call_in : List ℕ → Option Call
call_in [] = None
call_in (letter ∷ []) = cond (letter == 116) (Some Tick) None
call_in (letter ∷ blank ∷ rest) = cond (blank == 32) (call_of_letter letter rest) None

-- the calls of the lines before the first one that says none
abbrev pub call_then : Option Call → List Call → List Call
call_then None later = []
call_then (Some c) later = c ∷ later

abbrev pub calls_in : List (List ℕ) → List Call
calls_in [] = []
calls_in (l ∷ ls) = call_then (call_in l) (calls_in ls)

-- the number of the first line that says no call, if there is one; the lines are numbered from n on
abbrev pub unless_call : Option Call → ℕ → Option ℕ → Option ℕ
unless_call None n later = Some n
unless_call (Some c) n later = later

abbrev pub unreadable_from : ℕ → List (List ℕ) → Option ℕ
unreadable_from n [] = None
unreadable_from n (l ∷ ls) = unless_call (call_in l) n (unreadable_from (n + 1) ls)
