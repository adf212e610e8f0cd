use Rattle.tags_clocks.proofs.ClockLemmas.{within-iff}
use Rattle.tags_clocks.proofs.entries.entries_cover.Goals as goal

pub returns : goal.returns
returns c = within-iff _ _ _ c.requires c.all_within.ensures
