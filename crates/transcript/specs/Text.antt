-- What is printed: the line for each event, and the whole text for a file and an input.
use Rattle.std.specs.Prelude.{◌≡◌, ℕ, List, [], ◌++◌, map, reverse, length, Some, None, Ok, Err, codes, decimal, Option, Result}
use Rattle.std.specs.List.{flat_map}
use Rattle.sheets.specs.declared.fault.FileFault.{FileFault}
use Rattle.demand.specs.declared.verdict.TestRefusal.{TestRefusal}
use Rattle.demand.specs.Admission.{admission}
use Rattle.sheets.specs.Faults.{fault_numbers}
use Rattle.sheets.specs.Sheets.{Declaration, component_bound, component_gain}
use Rattle.demand.specs.Verdicts.{refusal_numbers}
use Rattle.scheduler.specs.declared.calls.Event.{Event}
use Rattle.scheduler.specs.declared.calls.Event.TheVariants.{Arrived, Finished, Ticked, Refused}
use Rattle.scheduler.specs.Numbers.{call_number}
use Rattle.scheduler.specs.Rules.{Plan, call_of, Follows}
use Rattle.transcript.specs.Input.{lines, calls_in, unreadable_from}

-- the number and the place of a file's fault
abbrev pub fault_line : FileFault → List ℕ
fault_line f = codes "file " ++ (decimal (fault_numbers f).0 ++ (codes " at " ++ (decimal (fault_numbers f).2 ++ codes "\n")))

-- the number of the admission test's refusal, and the length
abbrev pub refused_line : TestRefusal → List ℕ
refused_line e = codes "refused " ++ (decimal (refusal_numbers e).0 ++ (codes " at " ++ (decimal (refusal_numbers e).1 ++ codes "\n")))

-- the job that a tick ran, if any, and how many jobs were held and cut
abbrev pub tick_line : Option ℕ → ℕ → ℕ → List ℕ
tick_line (Some n) held cuts = codes "ran " ++ (decimal n ++ (codes " held " ++ (decimal held ++ (codes " cut " ++ (decimal cuts ++ codes "\n")))))
tick_line None held cuts = codes "idle held " ++ (decimal held ++ (codes " cut " ++ (decimal cuts ++ codes "\n")))

abbrev pub event_line : Event → List ℕ
event_line (Arrived k d n) = codes "job " ++ (decimal n ++ codes "\n")
event_line (Finished n u) = codes "finished " ++ (decimal n ++ (codes " used " ++ (decimal u ++ codes "\n")))
event_line (Ticked x) = tick_line x.ran x.held x.cut
event_line (Refused c why) = codes "refused " ++ (decimal (call_number why) ++ codes "\n")

-- the line that could not be read, if any, by its number
abbrev pub unreadable_line : Option ℕ → List ℕ
unreadable_line None = []
unreadable_line (Some n) = codes "line " ++ (decimal n ++ codes " unreadable\n")

-- a list of sheets as the scheduler's rules see it
abbrev pub plan : List Declaration → Plan
plan ds = record { parts = length ds; bound = component_bound ds; gain = component_gain ds }

-- the text for sheets that are admitted: the calls of the input are answered by the rules, which allow one answer each
pub record Ran (ds : List Declaration) (input text : List ℕ) : Type 0 where
  pub events : List Event
  pub each_call_answered : map call_of events ≡ calls_in (lines input)
  pub by_the_rules : Follows (plan ds) (reverse events)
  pub printed : text ≡ codes "admitted\n" ++ (flat_map event_line events ++ unreadable_line (unreadable_from 1 (lines input)))

-- the text for sheets, by the admission test's verdict on them
abbrev pub Judged : Result (Unit {0}) TestRefusal → List Declaration → List ℕ → List ℕ → Type 0
Judged (Ok _) ds input text = Ran ds input text
Judged (Err e) ds input text = text ≡ refused_line e

-- the text for a file, by its sheets or its fault
abbrev pub Transcribed : Result (List Declaration) FileFault → List ℕ → List ℕ → Type 0
Transcribed (Ok ds) input text = Judged (admission (length ds) (component_bound ds) (component_gain ds)) ds input text
Transcribed (Err f) input text = text ≡ fault_line f

-- the text fits, and no other one does
abbrev pub OnlyText : (List ℕ → Type 0) → List ℕ → Type 0
OnlyText Fits text = Fits text × ((other : List ℕ) → Fits other → other ≡ text)
