use Rattle.std.proofs.Common.{◌≡◌, ◌≤◌, ◌+◌, ◌*◌, None, length}
use Rattle.mail_script.specs.Reading.{cut_at}
use Rattle.mail_audit.proofs.AuditingLemmas.{HasRead}
use Rattle.mail_audit.proofs.reader_audit.judge.Given as goal

abbrev pub invariant-loop-read : goal.invariant-loop-read
invariant-loop-read g l = record {
  fits : l.progress.audit.taken + length l.progress.lines ≤ 65536 * l._read;
  piece : length l.piece ≡ 65536;
  rest : cut_at 10 l.progress.lines ≡ None;
  has_read : HasRead (g.R.Read.remaining l.fn.reader) (g.R.Read.remaining l.reader) l.progress.audit l.progress.lines;
}
