use Rattle.imap_query.proofs.HitLemmas.{modseq_asked}
use Rattle.imap_commands.proofs.RangeLemmas.{intent_by_key}
use Rattle.imap_commands.proofs.laws.searches_are_by_keys.Goals as goal

pub returns : goal.returns
returns c = record { modseq = modseq_asked; intent = intent_by_key }
