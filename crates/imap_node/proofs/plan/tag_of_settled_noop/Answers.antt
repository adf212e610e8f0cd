use Rattle.std.proofs.Common.{ap, option_map}
use Rattle.imap_node.proofs.SettledNoopLemmas.{some_tag, nothing_unsent}
use Rattle.imap_node.proofs.plan.tag_of_settled_noop.Goals as goal

pub returns-then-has_nothing_unsent : goal.returns-then-has_nothing_unsent
returns-then-has_nothing_unsent c = λ tag e. (
  some_tag c.in_ok-tag.tag.now tag c.args.input.now e (c.noop_tag.ensures c.in_ok-tag.tag.now (ap (λ o. option_map (λ t. t.now) o) c.in_ok-tag.was)),
  nothing_unsent c.args.session.now.state c.args.feed.now.pending c.none-change_notes.result c.none-change_notes.ensures (c.is_settled-has_nothing_unsent.ensures c.if-has_nothing_unsent.true),
)
