use Rattle.std.proofs.Common.{List, sym, subst, ◌∙◌}
use Rattle.idle_feed.specs.Feeds.{FeedState}
use Rattle.imap_node.specs.SessionFeeds.{AreAllNoted}
use Rattle.imap_node.specs.Sessions.{Places}
use Rattle.imap_node.proofs.SessionChangeLemmas.{all_still_noted}
use Rattle.imap_node.proofs.feeds.Feeds.note.Goals as goal

pub returns-then-not-is_empty : goal.returns-then-not-is_empty
returns-then-not-is_empty c = λ start before after change_notes noted.
    let places_are = c.deref.ensures.value ∙ c.sessions.view_is in
    subst (λ (places : Places). AreAllNoted start after places c.note_in.new.feeds.items) places_are
    (c.note_in.ensures start before after change_notes
    (subst (λ (places : Places). AreAllNoted start before places c.self.inside.feeds.items) (sym places_are) (subst (λ (feeds : List FeedState). AreAllNoted start before c.args.sessions.now feeds) (sym c.self.view_is) noted)))

pub returns-else-not-is_empty : goal.returns-else-not-is_empty
returns-else-not-is_empty c = all_still_noted c.args.change_notes.now c.args.sessions.now c.args.self.now (c.is_empty.ensures c.if-not-is_empty.false)
