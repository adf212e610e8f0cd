use Rattle.std.proofs.Common.{◌≡◌, sym, subst, ap, ◌∙◌}
use Rattle.imap_commands.specs.declared.session.Session.{Session}
use Rattle.imap_node.specs.Replays.{view_of}
use Rattle.imap_node.proofs.SessionChangeLemmas.{StaysNoted, same_session}
use Rattle.imap_node.proofs.feeds.advance_at.Goals as goal

pub returns-in-Some-clause-noted : goal.returns-in-Some-clause-noted
returns-in-Some-clause-noted c = λ start ops s at.
    subst (λ (t : Session). StaysNoted start ops c.args.update.state_change c.args.feed.now.pending c.advance_state.new.feed.pending t) (same_session c.in-Some.session s (sym c.in-Some.is ∙ at))
    (λ leaves old view q. c.advance_state.ensures.noted start ops leaves old view (ap view_of c.advance_state.ensures.state ∙ q))
