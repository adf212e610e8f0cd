use Rattle.imap_commands.proofs.IssuedLemmas.{move_intent_issuable}
use Rattle.imap_commands.proofs.issuable.moves_are_issuable.Goals as goal

pub returns : goal.returns
returns c = move_intent_issuable
