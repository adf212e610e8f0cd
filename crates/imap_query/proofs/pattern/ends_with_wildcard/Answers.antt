use Rattle.std.proofs.Common.{◌∙◌, arith}
use Rattle.imap_query.proofs.PatternFormLemmas.{wild_at}
use Rattle.imap_query.proofs.pattern.ends_with_wildcard.Goals as goal

pub returns-in-len1-up : goal.returns-in-len1-up
returns-in-len1-up c = c.is_wildcard.ensures ∙ wild_at c.args.made.now _ (omega arith)
