use Rattle.std.proofs.Common.{◌≡◌, Option, None, Some, subst, sym}
use Rattle.imap_node.specs.SessionFeeds.{AreAllNoted}
use Rattle.imap_node.specs.Nodes.{NodeWithRoom}
use Rattle.imap_node.specs.Sessions.{IsOpen, Places, session_at}
use Rattle.imap_node.proofs.SessionChangeLemmas.{all_noted_set}
use Rattle.imap_node.proofs.SessionLemmas.{open_is}
use Rattle.session_view.specs.ViewState.{ViewState}
use Rattle.imap_node.proofs.node.Node.close.Goals as goal

pub invariant_of-self : goal.invariant_of-self
invariant_of-self c =
    let old = c.self.inside in
    let opened : IsOpen old.sessions c.args.session = subst (λ (k : NodeWithRoom). IsOpen k.state.sessions c.args.session) (sym c.self.view_is) c.requires in
    let entry = open_is (session_at old.sessions c.args.session) opened in
    subst (λ (places : Places). AreAllNoted old.replica.start old.replica.applied places old.feeds) (sym c.set.ensures)
    (all_noted_set old.replica.start old.replica.applied old.sessions old.feeds c.args.session None entry.0 entry.1 c.self.invariant (λ view q. let e : ◌≡◌ {A = Option ViewState} None (Some view) = q in cc))
