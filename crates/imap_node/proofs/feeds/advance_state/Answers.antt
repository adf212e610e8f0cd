use Rattle.std.proofs.Common.{true, inl, ap, ◌∙◌}
use Rattle.idle_feed.specs.Feeds.{Pending, pending_after, input_of_restore}
use Rattle.idle_feed.specs.declared.feed.TakenNotes.TheVariants.{Resync}
use Rattle.imap_node.proofs.feeds.advance_state.Goals as goal

pub returns-then-not-shows_all-clause-noted : goal.returns-then-not-shows_all-clause-noted
returns-then-not-shows_all-clause-noted c = λ start ops leaves old view q.
    let pending = c.clear.ensures.pending in
    inl (ap (λ (p : Pending). p.missed) (c.restore.ensures.back (ap (λ (p : Pending). p.notes) pending)) ∙ ap (λ (p : Pending). (pending_after p (input_of_restore Resync true)).missed) pending)
