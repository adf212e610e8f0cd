use Rattle.std.specs.Option.{option_copied}
use Rattle.std.proofs.Common.{◌≡◌, Option, Some, sym, ap, ◌∙◌, subst}
use Rattle.imap_commands.specs.declared.session.Session.{Session}
use Rattle.imap_node.specs.SessionFeeds.{IsCurrent}
use Rattle.imap_node.specs.Nodes.{NodeWithRoom}
use Rattle.imap_node.specs.Replays.{view_at, view_in, view_of}
use Rattle.imap_node.specs.Sessions.{session_at}
use Rattle.imap_node.proofs.FeedLemmas.{current_by_feed}
use Rattle.imap_node.proofs.node.Node.may_have_unsent_changes.Goals as goal

pub returns-in-Some : goal.returns-in-Some
returns-in-Some c = λ h view v.
    let n = c.args.session in
    let own = c.self.inside in
    let session = c.in-Some.entry.now in
    let entry : Some session ≡ session_at c.args.self.now.state.sessions n = ap option_copied (sym c.in-Some.is) ∙ c.session.ensures in
    let has_view : view_of session.state ≡ Some view = subst (λ (place : Option Session). view_in place ≡ Some view) (sym entry) v in
    subst (λ (node : NodeWithRoom). view_at node.state.sessions n ≡ Some view → IsCurrent node.state.start node.state.applied view) c.self.view_is
    (current_by_feed own.replica.start own.replica.applied own.sessions own.feeds n c.feed_of.result.now.pending view c.self.invariant c.feed_of.ensures (c.may_have_notes.ensures.missed h view has_view) (c.may_have_notes.ensures.none h view has_view))
    v
