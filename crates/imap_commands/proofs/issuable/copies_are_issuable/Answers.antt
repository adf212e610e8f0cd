use Rattle.imap_commands.proofs.IssuedLemmas.{copy_intent_issuable}
use Rattle.imap_commands.proofs.issuable.copies_are_issuable.Goals as goal

pub returns : goal.returns
returns c = copy_intent_issuable
