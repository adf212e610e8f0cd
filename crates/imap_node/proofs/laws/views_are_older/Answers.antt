use Rattle.imap_node.proofs.OlderViewLemmas.{begins_older, closes_older, delivered_older, drained_older, grown_older, inputs_older, opens_older}
use Rattle.imap_node.proofs.laws.views_are_older.Goals as goal

pub returns : goal.returns
returns c = record { begins = begins_older; inputs = inputs_older; opens = opens_older; closes = closes_older; grows = grown_older; deliveries = delivered_older; drains = drained_older }
