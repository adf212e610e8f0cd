use Rattle.std.proofs.Common.{arith}
use Rattle.imap_query.proofs.RowLemmas.{last_at}
use Rattle.imap_query.proofs.pattern.last_of.Goals as goal

pub returns-in-len1-up : goal.returns-in-len1-up
returns-in-len1-up c = last_at c.args.first c.args.row.now _ (omega arith)
