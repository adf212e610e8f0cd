use Rattle.std.proofs.Common.{arith}
use Rattle.imap_query.proofs.HitLemmas.{last_hit_at}
use Rattle.imap_query.proofs.search_command.last_hit.Goals as goal

pub returns-in-len1-up : goal.returns-in-len1-up
returns-in-len1-up c = last_hit_at c.args.hits.now _ (omega arith)
