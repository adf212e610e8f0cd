use Rattle.std.proofs.Common.{◌≡◌, length}
use Rattle.imap_connection.proofs.wire.WireSource.read.Given as goal

abbrev pub invariant-loop-read : goal.invariant-loop-read
invariant-loop-read g l = record {
  piece : length l.piece ≡ length l.initial.piece;
  failed : l.self.failed ≡ l.initial.self.failed;
}
