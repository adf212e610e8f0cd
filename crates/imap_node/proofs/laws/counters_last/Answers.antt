use Rattle.imap_node.proofs.LastingLemmas.{begins_lasting, delivery_lasts, drain_lasts, input_lasts}
use Rattle.imap_node.proofs.laws.counters_last.Goals as goal

pub returns : goal.returns
returns c = record { begins = begins_lasting; inputs = input_lasts; deliveries = delivery_lasts; drains = drain_lasts }
