-- The program's status for each end of a replay, an audit or a log's dump, and the last line of a
-- replay.

use Rattle.std.specs.Prelude.{ℕ, Option, Some, None}
use Rattle.mail_script.specs.declared.outcome_line.OutcomeLine.{OutcomeLine}
use Rattle.mail_script.specs.declared.outcome_line.OutcomeLine.TheVariants as lines
use Rattle.log_dump.specs.declared.dump_end.LogDumpEnd.{LogDumpEnd}
use Rattle.log_dump.specs.declared.dump_end.LogDumpEnd.TheVariants as dumps
use Rattle.mail_audit.specs.declared.verdict.AuditEnd.{AuditEnd}
use Rattle.mail_audit.specs.declared.verdict.AuditEnd.TheVariants as audits
use Rattle.mail_replay.specs.declared.replay_end.ReplayEnd.{ReplayEnd}
use Rattle.mail_replay.specs.declared.replay_end.ReplayEnd.TheVariants.{Done, BadScript, ReadFailed}
use Rattle.mail_replay.specs.declared.replay_end.ReplayEnd.TheVariants.{WriteFailed, NoMemory}

-- The program's status after a replay: 0 if every line was served, otherwise 3.
abbrev pub status_of : ReplayEnd → ℕ
status_of Done = 0
status_of (BadScript line) = 3
status_of ReadFailed = 3
status_of WriteFailed = 3
status_of NoMemory = 3

-- The last line of the output, which reports the end. After a failed write nothing can be reported.
abbrev pub last_line_of : ReplayEnd → Option OutcomeLine
last_line_of Done = None
last_line_of (BadScript line) = Some (lines.BadScript line)
last_line_of ReadFailed = Some lines.CannotRead
last_line_of WriteFailed = None
last_line_of NoMemory = Some lines.NoMemory

-- The program's status after an audit: 0 for a yes, 1 for a no, otherwise 3.
abbrev pub audit_status_of : AuditEnd → ℕ
audit_status_of audits.Yes = 0
audit_status_of (audits.No line) = 1
audit_status_of (audits.Unreadable line) = 3
audit_status_of audits.ReadFailed = 3
audit_status_of audits.WriteFailed = 3
audit_status_of audits.NoMemory = 3

-- The program's status after the dump of a log: 0 if it was written, otherwise 3.
abbrev pub log_status_of : LogDumpEnd → ℕ
log_status_of dumps.Done = 0
log_status_of (dumps.Unreadable octets) = 3
log_status_of dumps.ReadFailed = 3
log_status_of dumps.WriteFailed = 3
log_status_of dumps.NoMemory = 3
