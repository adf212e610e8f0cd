use Rattle.link_wire.proofs.FrameReadLemmas.{frames_by_given}
use Rattle.link_wire.proofs.laws.read_payloads_are_frames.Goals as goal

pub returns : goal.returns
returns c = frames_by_given
