use Rattle.std.proofs.Common.{arith}
use Rattle.imap_query.proofs.HitLemmas.{last_number_at}
use Rattle.imap_query.proofs.search_command.last_number.Goals as goal

pub returns-in-len1-up : goal.returns-in-len1-up
returns-in-len1-up c = last_number_at 0 c.args.hits.now _ (omega arith)
