use Rattle.imap_connection.proofs.OtherStepsLemmas.{delivery_of_result}
use Rattle.imap_connection.proofs.interleaving.deliver_op.Goals as goal

pub returns : goal.returns
returns c = delivery_of_result _ _ _ c.deliver.result c.deliver.ensures.answer c.deliver.ensures.err
