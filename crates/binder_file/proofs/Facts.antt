use Rattle.binder_file.proofs.Nearness.{fault_near, file_counted, verdict_fits}
use Rattle.binder_file.proofs.Rewriting.{decode_forth}
use Rattle.binder_file.proofs.Words.{alone_refused, alone_accepted, alone_declares}

-- what the meaning of a file's bytes tells
pub ruleset file_facts = (fault_near, file_counted, verdict_fits, decode_forth, alone_refused, alone_accepted, alone_declares)
