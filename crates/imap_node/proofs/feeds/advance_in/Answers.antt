use Rattle.std.proofs.Common.{◌≡◌, ◌<◌, ◌≤◌, ◌-◌, ℕ, Some, sym, subst, ap, ◌∙◌, arith, length}
use Rattle.idle_feed.specs.Feeds.{FeedState}
use Rattle.imap_commands.specs.declared.session.Session.{Session}
use Rattle.imap_node.specs.SessionFeeds.{IsNotedFor, missing_feed, pending_at}
use Rattle.imap_node.specs.SessionChanges.{LeavesNoted}
use Rattle.imap_node.specs.Replays.{view_in}
use Rattle.imap_node.specs.Sessions.{session_at}
use Rattle.session_view.specs.ViewState.{ViewState}
use Rattle.imap_node.proofs.SessionChangeLemmas.{all_noted_set_feed, all_lacking, changed_noted, pending_default, own_session}
use Rattle.imap_node.proofs.feeds.advance_in.Goals as goal

pub returns-then-place-len-2-clause-noted : goal.returns-then-place-len-2-clause-noted
returns-then-place-len-2-clause-noted c = λ start ops leaves noted.
    let n = c.get-place.result in
    let places = c.args.places.now.items in
    let feeds = c.args.feeds.now.items in
    let was = c.index_mut-then-place-len-2.result.now in
    let old = c.index_mut.result.now in
    let inside : n - 1 < length places = let a = c.if-place-len.false in let b = c.len.ensures in let k = c.args.places.now.ok.0 in omega (arith, a, b, k) in
    let within : n - 1 < length feeds = let a = c.if-place-len-2.true in let b = c.len-2.ensures in let k = c.args.feeds.now.ok.0 in omega (arith, a, b, k) in
    all_noted_set_feed start ops places feeds n c.get-place.ensures.positive inside noted c.advance_at.new.place c.advance_at.new.feed within
    (changed_noted start ops c.args.update old c.advance_at.new.place was.pending c.advance_at.new.feed.pending c.advance_at.ensures.place (λ s at. c.advance_at.ensures.noted start ops s at)
    (λ s at. leaves s (subst (λ (m : ℕ). session_at places m ≡ Some s) c.get-place.ensures.number (own_session places n old c.get-place.ensures.positive inside c.index_mut.ensures.value ∙ at)))
    (λ view q. subst (λ (k : FeedState). IsNotedFor start ops k.pending view) (pending_default feeds (n - 1) was within c.index_mut-then-place-len-2.ensures.value) (noted n view (ap view_in (own_session places n old c.get-place.ensures.positive inside c.index_mut.ensures.value) ∙ q))))

pub returns-else-place-len-2-clause-noted : goal.returns-else-place-len-2-clause-noted
returns-else-place-len-2-clause-noted c = λ start ops leaves noted.
    let n = c.get-place.result in
    let places = c.args.places.now.items in
    let feeds = c.args.feeds.now.items in
    let inside : n - 1 < length places = let a = c.if-place-len.false in let b = c.len.ensures in let k = c.args.places.now.ok.0 in omega (arith, a, b, k) in
    let beyond : length feeds ≤ n - 1 = let a = c.if-place-len-2.false in let b = c.len-2.ensures in let k = c.args.feeds.now.ok.0 in omega (arith, a, b, k) in
    all_lacking start ops places feeds n c.get-place.ensures.positive inside noted c.advance_at-else-place-len-2.new.place beyond
