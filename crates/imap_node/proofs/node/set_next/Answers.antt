use Rattle.std.proofs.Common.{◌≡◌, List, Option, None, Some, sym, subst}
use Rattle.imap_commands.specs.declared.session.Session.{Session}
use Rattle.imap_node.specs.Replays.{view_in}
use Rattle.session_view.specs.ViewState.{ViewState}
use Rattle.imap_node.specs.SessionFeeds.{AreAllNoted}
use Rattle.imap_node.specs.Sessions.{Places, without_idle, session_at, unselected}
use Rattle.std.specs.Option.{option_map}
use Rattle.imap_node.proofs.SessionChangeLemmas.{all_noted_set, awake_view, step_leaves}
use Rattle.imap_node.proofs.SessionLemmas.{open_is}
use Rattle.imap_node.proofs.node.set_next.Goals as goal

-- a session that left its mailbox has no view
unselected_view : (place : Option Session) (view : ViewState) → view_in (option_map unselected place) ≡ Some view → ⊥
unselected_view None view q = let e : ◌≡◌ {A = Option ViewState} None (Some view) = q in cc
unselected_view (Some s) view q = let e : ◌≡◌ {A = Option ViewState} None (Some view) = q in cc

pub returns-in-Leaves-clause-noted : goal.returns-in-Leaves-clause-noted
returns-in-Leaves-clause-noted c = λ start ops can noted.
    let places = c.args.sessions.now in
    let n = c.args.number in
    let opened = open_is (session_at places n) c.requires.opened in
    subst (λ (ps : Places). AreAllNoted start ops ps c.args.feeds.now) (sym c.leave.ensures)
    (all_noted_set start ops places c.args.feeds.now n (option_map unselected (session_at places n)) opened.0 opened.1 noted (λ view q. absurd (unselected_view (session_at places n) view q)))

pub returns-in-Wakes-clause-noted : goal.returns-in-Wakes-clause-noted
returns-in-Wakes-clause-noted c = λ start ops can noted.
    let places = c.args.sessions.now in
    let n = c.args.number in
    let opened = open_is (session_at places n) c.requires.opened in
    subst (λ (ps : Places). AreAllNoted start ops ps c.args.feeds.now) (sym c.wake.ensures)
    (all_noted_set start ops places c.args.feeds.now n (option_map without_idle (session_at places n)) opened.0 opened.1 noted (λ view q. noted n view (awake_view (session_at places n) view q)))

pub returns-in-Advances-clause-noted : goal.returns-in-Advances-clause-noted
returns-in-Advances-clause-noted c = λ start ops can noted. c.advance.ensures.noted start ops (λ s at. step_leaves start ops c.args.next c.in-Advances.update s c.in-Advances.is (can s at)) noted
