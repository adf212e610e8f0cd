use Rattle.imap_commands.proofs.IssuedLemmas.{store_intent_issuable}
use Rattle.imap_commands.proofs.issuable.stores_are_issuable.Goals as goal

pub returns : goal.returns
returns c = store_intent_issuable
