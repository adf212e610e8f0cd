use Rattle.std.proofs.Common.{◌∙◌, ap, sym, [], ◌++◌, map-id}
use Rattle.std.proofs.lemmas.Iterator.{YieldsList-from_chars}
use Rattle.std.proofs.lemmas.Iterator.Consumers.{YieldsList-end}
use Rattle.std.proofs.lemmas.List.{append-nil}
use Rattle.mailbox_utf7.specs.ModifiedUtf7.{spelling_of}
use Rattle.mailbox_utf7.specs.Reading.{shift_if_any}
use Rattle.mailbox_utf7.proofs.SpellingLemmas.{spelling_after-nil}
use Rattle.mailbox_utf7.proofs.encoding.encode.Goals as goal

pub returns : goal.returns
returns c =
    let done = YieldsList-end (YieldsList-from_chars c.args.name.now c.utf8.name cc) c.loop-character.yielded _ c.loop-character.yielded_by _ _ c.in-None.is c.next.ensures.steps in
    c.in_ok-push_shift.ensures ∙ ap (λ p. c.loop-character.output.items ++ shift_if_any p) c.deref.ensures.value
    ∙ ap (λ o. c.loop-character.output.items ++ o) (sym (spelling_after-nil c.loop-character.pending.items))
    ∙ c.loop-character.invariant [] ∙ ap spelling_of (append-nil c.loop-character.yielded)
    ∙ ap spelling_of (sym (map-id c.loop-character.yielded) ∙ done.0)
