use Rattle.std.proofs.Common.{List, true, ap, sym, subst, ◌∙◌}
use Rattle.idle_feed.specs.Feeds.{Pending, pending_after, input_of_restore}
use Rattle.session_view.specs.ViewState.{ViewState}
use Rattle.session_view.specs.declared.view_entry.ViewEntry.{ViewEntry}
use Rattle.idle_feed.specs.NotedFeeds.{NotesAllOf, entries_after_change}
use Rattle.idle_feed.proofs.SyncedLemmas.{left_is_noted}
use Rattle.idle_feed.proofs.view_change.commit.Goals as goal

pub returns-clause-noted : goal.returns-clause-noted
returns-clause-noted c = λ rows h.
    let goal : List ViewEntry = entries_after_change c.args.view.now.entries c.args.change in
    let left = c.change_view-left.result in
    let cleared = c.clear.ensures.pending in
    let is = c.restore.ensures.back (ap (λ (p : Pending). p.notes) cleared) ∙ ap (λ (p : Pending). pending_after p (input_of_restore left true)) cleared in
    subst (λ (v : ViewState). NotesAllOf c.restore.new.self.pending rows v.entries) (sym c.change_view-left.ensures.view)
    (subst (λ (p : Pending). NotesAllOf p rows goal) (sym is) (left_is_noted left rows goal (c.change_view-left.ensures.left rows h)))
