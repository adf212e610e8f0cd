use Rattle.std.proofs.Common.{◌≡◌, Some, codes, rules}
use Rattle.clap.specs.Words.{app_of}
use Rattle.clap.specs.declared.builder.value_parser.ValueParser.TheVariants.{Unsigned}
use Rattle.clap_laws.specs.Words.{IsWord}
use Rattle.clap_laws.proofs.WordLemmas.{added}
use Rattle.server_settings.specs.Options.{word_with_value}
use Rattle.server_settings.proofs.NumberLemmas.{number_app, number_from_words}
use Rattle.server_settings.proofs.settings.check_number.Goals as goal

pub returns : goal.returns
returns c =
    let word : IsWord c.value_parser-number.result (record (word_with_value (codes "journal")) { parser = Some (Unsigned 0 c.args.most) }) = search rules in
    let is : app_of c.in_ok-command.command ≡ number_app c.args.most = added c.new.result c.in_ok-command.command c.value_parser-number.result _ _ c.in_ok-command.ensures word c.new.ensures.app in
    number_from_words c.args.most c.args.text.now (app_of c.in_ok-command.command) is c.in_ok-try_get_matches_from.ensures.kinds
