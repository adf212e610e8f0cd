use Rattle.std.proofs.Common.{refl}
use Rattle.rev1_front.proofs.HitLemmas.{frame_options, profile_options}
use Rattle.rev1_front.proofs.laws.all_hits_are_shown.Goals as goal

pub returns-clause-profile : goal.returns-clause-profile
returns-clause-profile c = λ frame tagged asked s e none. profile_options frame tagged asked s e none

pub returns-clause-rev1 : goal.returns-clause-rev1
returns-clause-rev1 c = λ days tag frame by_uid options steps f none. frame_options frame tag none days by_uid options steps f

pub returns-clause-hits : goal.returns-clause-hits
returns-clause-hits c = λ with_modseq hits. refl
