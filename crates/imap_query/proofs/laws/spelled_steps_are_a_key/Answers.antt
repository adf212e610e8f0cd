use Rattle.imap_syntax.proofs.KeyLemmas.{search-key}
use Rattle.imap_query.proofs.laws.spelled_steps_are_a_key.Goals as goal

pub returns : goal.returns
returns c = search-key
