use Rattle.std.proofs.Common.{◌∙◌, rules, arith}
use Rattle.clap.specs.Words.{found_of}
use Rattle.clap_laws.proofs.MatchesLemmas.{one_text_of_rows}
use Rattle.server_settings.proofs.OptionLemmas.{number_given, number_otherwise}
use Rattle.server_settings.proofs.settings.number_in.Goals as goal

pub returns-in-Ok-None : goal.returns-in-Ok-None
returns-in-Ok-None c =
    let rows = one_text_of_rows (found_of c.args.matches.now) c.args.word.now in
    number_otherwise _ c.try_get_one.result c.args.otherwise c.args.most (λ e. c.try_get_one.ensures.none (rows ∙ e)) (λ t e. c.try_get_one.ensures.value t (rows ∙ e)) (search rules)

pub returns-else-number-most : goal.returns-else-number-most
returns-else-number-most c =
    let rows = one_text_of_rows (found_of c.args.matches.now) c.args.word.now in
    number_given _ c.try_get_one.result c.args.otherwise c.args.most (λ e. c.try_get_one.ensures.none (rows ∙ e)) (λ t e. c.try_get_one.ensures.value t (rows ∙ e))
    c.in-Ok-Some.number (search rules) (omega (arith, c.if-number-eq0.false)) (omega (arith, c.if-number-most.false))
