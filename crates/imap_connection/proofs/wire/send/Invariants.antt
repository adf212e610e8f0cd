use Rattle.std.proofs.Common.{◌≤◌, length, take}
use Rattle.std.specs.Io.KnownBytes.{Appends}
use Rattle.imap_connection.proofs.wire.send.Given as goal

abbrev pub invariant-writes : goal.invariant-writes
invariant-writes g l = (l.sent ≤ length l.octets) × Appends (g.T.Write.contents l.fn.device) (g.T.Write.contents l.device) (take l.sent l.octets)
