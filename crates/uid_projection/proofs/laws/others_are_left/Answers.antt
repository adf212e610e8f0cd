use Rattle.uid_projection.proofs.OtherFolderLemmas.{leave_others}
use Rattle.uid_projection.proofs.laws.others_are_left.Goals as goal

pub returns : goal.returns
returns c = leave_others
