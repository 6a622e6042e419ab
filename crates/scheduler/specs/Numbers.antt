-- The numbers of the calls' refusals, and what they say.
use Rattle.std.specs.Prelude.{ℕ, List, codes}
use Rattle.scheduler.specs.declared.calls.CallRefusal.{CallRefusal}
use Rattle.scheduler.specs.declared.calls.CallRefusal.TheVariants.{NotAdmitted, NoComponent, DeadlineOutOfRange, ClockEnded, TableFull, NoJob, NotOpen}

-- a refusal's number
abbrev pub call_number : CallRefusal → ℕ
call_number NotAdmitted = 11
call_number NoComponent = 12
call_number DeadlineOutOfRange = 13
call_number ClockEnded = 14
call_number TableFull = 15
call_number NoJob = 16
call_number NotOpen = 17

-- why, in words
abbrev pub call_words : CallRefusal → List ℕ
call_words NotAdmitted = codes "the binder is not admitted"
call_words NoComponent = codes "there is no such component"
call_words DeadlineOutOfRange = codes "a deadline is 1 to 4096 ticks"
call_words ClockEnded = codes "the clock has ended"
call_words TableFull = codes "the table of jobs is full"
call_words NoJob = codes "there is no such job"
call_words NotOpen = codes "the job is not open"
