use Rattle.std.proofs.Common.{sym, ◌∙◌}
use Rattle.rev1_front.proofs.StatusLemmas.{other_by, recent_added}
use Rattle.rev1_front.proofs.status_frame.push_word.Goals as goal

pub returns-then-is_word : goal.returns-then-is_word
returns-then-is_word c = λ words h. recent_added words c.args.word.now _ _ _ h (sym c.is_word.ensures ∙ c.if-is_word.true)

pub returns : goal.returns
returns c = λ words h. other_by words c.args.word.now _ _ _ _ _ c.in_ok-push_separator.ensures c.in_ok-extend_from_slice.ensures.items h (sym c.is_word.ensures ∙ c.if-is_word.false)
