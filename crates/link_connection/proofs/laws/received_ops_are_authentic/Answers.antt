use Rattle.link_connection.proofs.ReceivedOpsLemmas.{ops_taken}
use Rattle.link_connection.proofs.laws.received_ops_are_authentic.Goals as goal

pub returns : goal.returns
returns g c taken limits digest first last stream end takes h = ops_taken g.R.Receiver.acts taken takes limits digest first last stream end h
