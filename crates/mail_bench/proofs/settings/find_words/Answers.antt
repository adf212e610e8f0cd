use Rattle.std.proofs.Common.{◌≡◌, rules}
use Rattle.clap.specs.Words.{app_of}
use Rattle.clap_laws.proofs.MatchesLemmas.{rows_of_matches}
use Rattle.mail_bench.specs.Options.{bench_words}
use Rattle.mail_bench.proofs.WordLemmas.{bench_is_simple}
use Rattle.mail_bench.proofs.settings.find_words.Goals as goal

pub returns : goal.returns
returns c =
    let known : app_of c.in_ok-command.command ≡ bench_words = search rules in
    rows_of_matches c.try_get_matches_from.result _ bench_words _ bench_is_simple known c.try_get_matches_from.ensures.matches
