use Rattle.imap_node.proofs.ReplayLemmas.{views_ascend_after, begins_ascending, closes_ascend, opens_ascend, stays_ascending}
use Rattle.imap_node.proofs.laws.views_ascend.Goals as goal

pub returns : goal.returns
returns c = record {
  begins = begins_ascending;
  inputs = views_ascend_after;
  opens = opens_ascend;
  closes = closes_ascend;
  deliveries = λ old new op arrival h. stays_ascending old.sessions new.sessions h.sessions;
  drains = λ old new count h. stays_ascending old.sessions new.sessions h.sessions;
}
