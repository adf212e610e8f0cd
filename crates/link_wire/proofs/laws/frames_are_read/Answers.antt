use Rattle.link_wire.proofs.FrameRunLemmas.{given_by_frames}
use Rattle.link_wire.proofs.laws.frames_are_read.Goals as goal

pub returns : goal.returns
returns c = given_by_frames
