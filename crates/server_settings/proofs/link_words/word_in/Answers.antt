use Rattle.std.proofs.Common.{◌∙◌}
use Rattle.clap.specs.Words.{found_of}
use Rattle.clap_laws.proofs.MatchesLemmas.{first_value_of_rows}
use Rattle.server_settings.proofs.link_words.word_in.Goals as goal

pub returns : goal.returns
returns c = c.get_str.ensures ∙ first_value_of_rows (found_of c.args.matches.now) c.args.word.now
