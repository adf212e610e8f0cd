use Rattle.std.proofs.Common.{◌≡◌, List, Some, sym, subst}
use Rattle.idle_feed.specs.Feeds.{FeedState}
use Rattle.imap_commands.specs.declared.session.Session.{Session}
use Rattle.imap_node.specs.SessionFeeds.{AreAllNoted}
use Rattle.imap_node.specs.SessionChanges.{LeavesNoted}
use Rattle.imap_node.specs.Sessions.{Places, session_at}
use Rattle.imap_node.proofs.feeds.Feeds.advance.Goals as goal

pub returns-clause-noted : goal.returns-clause-noted
returns-clause-noted c = λ start ops leaves noted.
    c.advance_in.ensures.noted start ops
    (λ s at. leaves s (subst (λ (places : Places). session_at places c.args.session ≡ Some s) c.sessions.view_is at))
    (subst (λ (places : Places). AreAllNoted start ops places c.self.inside.feeds.items) (sym c.sessions.view_is) (subst (λ (feeds : List FeedState). AreAllNoted start ops c.args.sessions.now feeds) (sym c.self.view_is) noted))
