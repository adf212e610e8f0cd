use Rattle.std.proofs.Common.{[]}
use Rattle.imap_commands.proofs.ListedKeywordLemmas.{borne, with_rows}
use Rattle.imap_commands.proofs.laws.listed_keywords_are_borne.Goals as goal

pub returns : goal.returns
returns c = λ rows. (with_rows rows [], borne rows)
