use Rattle.link_wire.proofs.FrameReadLemmas.{authentic_by_given}
use Rattle.link_wire.proofs.laws.read_payloads_are_authentic.Goals as goal

pub returns : goal.returns
returns c = authentic_by_given
