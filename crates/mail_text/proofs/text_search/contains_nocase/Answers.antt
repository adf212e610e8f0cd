use Rattle.std.proofs.Common.{◌∙◌}
use Rattle.mail_text.proofs.PlaceLemmas.{contains_of_find}
use Rattle.mail_text.proofs.text_search.contains_nocase.Goals as goal

pub returns : goal.returns
returns c =
    c.is_some.ensures ∙ contains_of_find c.args.text.now c.args.word.now _ _ c.find.result
    (c.as_slice.ensures.value ∙ c.in_ok-text.ensures.ok) (c.deref.ensures.value ∙ c.in_ok-word.ensures.ok) c.find.ensures
