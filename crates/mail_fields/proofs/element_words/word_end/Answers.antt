use Rattle.std.proofs.Common.{◌∙◌, ap, arith, drop}
use Rattle.mail_fields.specs.HeaderValues.{token_stops}
use Rattle.mail_fields.proofs.ElementLemmas.{after_word-drop, word_fits}
use Rattle.mail_fields.proofs.element_words.word_end.Goals as goal

pub split_at-requires : goal.split_at-requires
split_at-requires c = let w = word_fits token_stops c.args.elements.now in omega (arith, c.requires)

pub returns : goal.returns
returns c = c.split_at.ensures.back ∙ ap (λ n. drop n c.args.elements.now) c.requires ∙ after_word-drop token_stops c.args.elements.now
