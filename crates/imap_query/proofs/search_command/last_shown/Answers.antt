use Rattle.std.proofs.Common.{arith}
use Rattle.imap_query.proofs.HitLemmas.{last_shown_at}
use Rattle.imap_query.proofs.search_command.last_shown.Goals as goal

pub returns-in-len1-up : goal.returns-in-len1-up
returns-in-len1-up c = last_shown_at c.args.view.now _ (omega arith)
