use Rattle.std.proofs.Common.{inr, subst}
use Rattle.log_dump.proofs.LogDumpLemmas.{misplaced_line}
use Rattle.log_dump.specs.Restoration.{IsEntriesFault}
use Rattle.log_dump.proofs.dump.dump_fault_at.Goals as goal

pub returns-in-CannotFollow : goal.returns-in-CannotFollow
returns-in-CannotFollow c = λ entries read h.
    inr (misplaced_line c.args.log.now entries c.in-CannotFollow.place c.octets_of_lines.result read (subst (IsEntriesFault entries) c.in-CannotFollow.is h) c.octets_of_lines.ensures)
