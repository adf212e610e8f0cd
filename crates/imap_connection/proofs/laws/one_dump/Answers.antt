use Rattle.imap_connection.proofs.DumpLemmas.{one_dump}
use Rattle.imap_connection.proofs.laws.one_dump.Goals as goal

pub returns : goal.returns
returns c replica applied text other = one_dump replica applied text other
