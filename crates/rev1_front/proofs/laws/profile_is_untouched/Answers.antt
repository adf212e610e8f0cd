use Rattle.rev1_front.proofs.LawLemmas.{each_rev2, frame_rev2}
use Rattle.rev1_front.proofs.laws.profile_is_untouched.Goals as goal

pub returns : goal.returns
returns c = record {
  frames = λ frame tagged it s f. frame_rev2 c.one_reading.ensures frame tagged it s f;
  answers = λ given text e. each_rev2 given text e;
}
