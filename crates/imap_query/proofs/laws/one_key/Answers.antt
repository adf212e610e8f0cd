use Rattle.imap_query.proofs.KeyLemmas.{one_key}
use Rattle.imap_query.proofs.laws.one_key.Goals as goal

pub returns : goal.returns
returns c = one_key
