use Rattle.rev1_front.proofs.TagLemmas.{frame_tag, no_tag_taken}
use Rattle.rev1_front.proofs.laws.tags_are_kept.Goals as goal

pub returns-clause-tagged : goal.returns-clause-tagged
returns-clause-tagged c = λ mode days frame tag rest it t f. frame_tag mode days frame it tag rest t f

pub returns-clause-untagged : goal.returns-clause-untagged
returns-clause-untagged c = λ mode days frame it none f. no_tag_taken mode days frame it none f
