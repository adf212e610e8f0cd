use Rattle.clap_laws.proofs.MatchesLemmas.{rows_of_matches}
use Rattle.server_settings.specs.Options.{server_words}
use Rattle.server_settings.proofs.WordLemmas.{server_is_simple}
use Rattle.server_settings.proofs.settings.find_words.Goals as goal

pub returns : goal.returns
returns c = rows_of_matches c.try_get_matches_from.result _ server_words _ server_is_simple c.in_ok-command.ensures c.try_get_matches_from.ensures.matches
