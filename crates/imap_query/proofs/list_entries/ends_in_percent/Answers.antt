use Rattle.std.proofs.Common.{arith}
use Rattle.imap_query.proofs.ListingLemmas.{percent_at}
use Rattle.imap_query.proofs.list_entries.ends_in_percent.Goals as goal

pub returns-in-len1-up : goal.returns-in-len1-up
returns-in-len1-up c = percent_at c.args.pattern.now _ (omega arith)
