use Rattle.imap_commands.proofs.IssuedLemmas.{close_intent_issuable, expunge_intent_issuable, uid_expunge_intent_issuable}
use Rattle.imap_commands.proofs.issuable.expunges_are_issuable.Goals as goal

pub returns-clause-all : goal.returns-clause-all
returns-clause-all c = expunge_intent_issuable

pub returns-clause-close : goal.returns-clause-close
returns-clause-close c = close_intent_issuable

pub returns-clause-some : goal.returns-clause-some
returns-clause-some c = uid_expunge_intent_issuable
