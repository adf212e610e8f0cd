use Rattle.std.proofs.Common.{◌∙◌, ◌++◌, ap, sym, refl}
use Rattle.mailbox_utf7.specs.Reading.{shift_if_any}
use Rattle.mailbox_utf7.proofs.ReadingLemmas.{on_ok}
use Rattle.mailbox_utf7.proofs.SpellingLemmas.{direct_written, shifted_waits}
use Rattle.mailbox_utf7.proofs.encoding.push_character.Goals as goal

pub returns-then-not-is_direct : goal.returns-then-not-is_direct
returns-then-not-is_direct c =
    shifted_waits _ _ _ _ c.args.character (sym c.is_direct.ensures ∙ c.if-not-is_direct.true) refl c.in_ok-push.ensures.items

pub returns : goal.returns
returns c =
    on_ok c.push_direct.result _ _ (λ n. direct_written c.args.output.now.items c.push_shift.new.output.items c.push_direct.new.output.items c.args.pending.now.items c.clear.new.self.items c.args.character
    (sym c.is_direct.ensures ∙ c.if-not-is_direct.false) (c.in_ok-push_shift.ensures ∙ ap (λ p. c.args.output.now.items ++ shift_if_any p) c.deref.ensures.value) c.clear.ensures.items n) c.push_direct.ensures
