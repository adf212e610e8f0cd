use Rattle.link_wire.proofs.FrameWritingLemmas.{frames_by_writing}
use Rattle.link_wire.proofs.laws.written_frames_are_frames.Goals as goal

pub returns : goal.returns
returns c = frames_by_writing
