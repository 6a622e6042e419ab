-- What each call makes of the job records.
use Rattle.std.specs.Prelude.{◌≡◌, ℕ, ◌+◌, Bool, true, cond, ◌&&◌, List, map, take, Some, None, Ok, Err, Option, Result, nat_le, slice_set}
use Rattle.scheduler.specs.declared.calls.CallRefusal.{CallRefusal}
use Rattle.scheduler.specs.declared.calls.CallRefusal.TheVariants.{NotOpen}
use Rattle.scheduler.specs.declared.job.Ending.{Ending}
use Rattle.scheduler.specs.declared.job.Ending.TheVariants as ending
use Rattle.scheduler.specs.declared.job.Job.{Job as Entry}
use Rattle.scheduler.specs.declared.job.JobStatus.{JobStatus}
use Rattle.scheduler.specs.declared.job.JobStatus.TheVariants as status
use Rattle.scheduler.specs.declared.table.JobTable.{JobTable}
use Rattle.scheduler.specs.Table.{at, is_open}

-- the refusal, where there is one, or else the answer
abbrev pub unless : {X : Type 0} → Option CallRefusal → X → Result X CallRefusal
unless None x = Ok x
unless (Some e) x = Err e

abbrev pub with_status : Entry → JobStatus → Entry
with_status j s = record { number = j.number; component = j.component; arrival = j.arrival; due = j.due; used = j.used; status = s }

abbrev pub with_used : Entry → ℕ → Entry
with_used j u = record { number = j.number; component = j.component; arrival = j.arrival; due = j.due; used = u; status = j.status }

-- what an ending makes of an open job
abbrev pub status_after : Ending → JobStatus
status_after ending.Finish = status.Finished
status_after ending.Due = status.Cut

-- a job that has ended, and an empty record, stay as they are
abbrev pub ended : Ending → Entry → Entry
ended e j = cond (is_open j.status) (with_status j (status_after e)) j

-- an open job answers the units that it has used
abbrev pub ending_answer : Entry → Result ℕ CallRefusal
ending_answer j = cond (is_open j.status) (Ok j.used) (Err NotOpen)

-- the job is open and its due tick is the clock or earlier
abbrev pub is_due : ℕ → Entry → Bool
is_due now j = is_open j.status && nat_le j.due now

abbrev pub cut_at : ℕ → Entry → Entry
cut_at now j = cond (nat_le j.due now) (ended ending.Due j) j

-- each open job that is due is cut
abbrev pub cut_due : ℕ → List Entry → List Entry
cut_due now js = map (cut_at now) js

abbrev pub DueIn : ℕ → List Entry → ℕ → Type 0
DueIn now js n = is_due now (at js n) ≡ true

-- one unit more of the job that ran, if any
abbrev pub with_unit : Option ℕ → List Entry → List Entry
with_unit None js = js
with_unit (Some n) js = slice_set js n (with_used (at js n) ((at js n).used + 1))

-- the record of a job that arrives at the clock
abbrev pub born : (now n k d : ℕ) → Entry
born now n k d = record { number = n; component = k; arrival = now; due = now + d; used = 0; status = status.Open }

-- the records that hold a job
abbrev pub records : JobTable → List Entry
records t = take t.count t.jobs
