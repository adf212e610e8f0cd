use Rattle.imap_query.proofs.MatchLemmas.{answered}
use Rattle.imap_query.proofs.pattern.matches.Goals as goal

pub returns : goal.returns
returns c = answered c.args.pattern.now c.args.name.now c.is_match.result c.is_match.ensures
