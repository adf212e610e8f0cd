use Rattle.std.proofs.Common.{◌≡◌, sym, subst}
use Rattle.session_view.specs.ViewState.{ViewState}
use Rattle.idle_feed.specs.NotedFeeds.{NotesAllOf}
use Rattle.imap_node.specs.SessionFeeds.{IsNotedFor}
use Rattle.imap_node.specs.Mailboxes.{rows_for}
use Rattle.imap_node.proofs.SessionChangeLemmas.{leaves_in, same_view}
use Rattle.imap_node.proofs.feeds.change_in.Goals as goal

pub returns-in-Selected-clause-noted : goal.returns-in-Selected-clause-noted
returns-in-Selected-clause-noted c = λ start ops leaves old view q.
    let now = c.commit.new.view in
    let pending = c.commit.new.feed.pending in
    let left = leaves_in start ops c.args.state.now c.in-Selected.view c.in-Selected.read_only c.args.change c.in-Some.change c.in-Selected.is c.in-Some.is leaves in
    subst (λ (v : ViewState). IsNotedFor start ops pending v) (same_view now view q)
    (subst (λ (v : ViewState). NotesAllOf pending (rows_for start ops v) now.entries) (sym c.commit.ensures.view) (c.commit.ensures.noted (rows_for start ops c.in-Selected.view) left))
