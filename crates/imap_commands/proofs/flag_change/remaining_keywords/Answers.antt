use Rattle.std.proofs.Common.{List, ℕ, ap, ◌∙◌}
use Rattle.imap_types.specs.Keywords.{are_keywords}
use Rattle.imap_commands.specs.FlagChange.{remaining_keywords}
use Rattle.imap_commands.proofs.FlagChangeLemmas.{never_none, remaining_are_keywords}
use Rattle.imap_commands.proofs.flag_change.remaining_keywords.Goals as goal

pub unreachable-requires : goal.unreachable-requires
unreachable-requires c =
    let left = c.in_ok-remaining_words.field-0.items in
    let given = c.args.given.now in
    never_none (are_keywords left) left c.new.result
    (ap are_keywords (c.in_ok-remaining_words.ensures {u = tt} ∙ ap (λ (keywords : List (List ℕ)). remaining_keywords given keywords) c.as_slice.ensures.value) ∙ remaining_are_keywords given c.args.keywords.now c.as_slice.ensures.ascending)
    c.new.ensures c.in-None.is
