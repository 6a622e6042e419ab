-- Why a call is refused. Each looks at whether the binder was admitted, how many components it has, the clock, how many jobs there are,
-- and whether the job that is named is open.
use Rattle.std.specs.Prelude.{ℕ, Bool, cond, not, Some, None, Option, ◌==◌, nat_le}
use Rattle.demand.specs.Fields.{from_to}
use Rattle.scheduler.specs.declared.calls.CallRefusal.{CallRefusal}
use Rattle.scheduler.specs.declared.calls.CallRefusal.TheVariants.{NotAdmitted, NoComponent, DeadlineOutOfRange, ClockEnded, TableFull, NoJob, NotOpen}

-- the reason to refuse an arrive, a finish and a tick: the first that applies, or none
abbrev pub arrive_reason : (ok : Bool) (parts now jobs : ℕ) (k d : ℕ) → Option CallRefusal
arrive_reason ok parts now jobs k d =
    cond (not ok) (Some NotAdmitted)
    (cond (now == 1000000) (Some ClockEnded)
    (cond (nat_le parts k) (Some NoComponent)
    (cond (not (from_to 1 4096 d)) (Some DeadlineOutOfRange)
    (cond (nat_le 96 jobs) (Some TableFull) None))))

abbrev pub finish_reason : (ok : Bool) (jobs n : ℕ) (open_job : Bool) → Option CallRefusal
finish_reason ok jobs n open_job =
    cond (not ok) (Some NotAdmitted)
    (cond (nat_le jobs n) (Some NoJob)
    (cond (not open_job) (Some NotOpen) None))

abbrev pub tick_reason : (ok : Bool) (now : ℕ) → Option CallRefusal
tick_reason ok now = cond (not ok) (Some NotAdmitted) (cond (now == 1000000) (Some ClockEnded) None)
