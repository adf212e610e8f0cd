use Rattle.imap_commands.proofs.IssuedLemmas.{fetch_intent_issuable}
use Rattle.imap_commands.proofs.issuable.seen_stores_are_issuable.Goals as goal

pub returns : goal.returns
returns c = fetch_intent_issuable
