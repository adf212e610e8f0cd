use Rattle.uid_projection.proofs.EntryMovesLemmas.{held_lacks}
use Rattle.uid_projection.proofs.entry_moves.begin_line.Goals as goal

pub push-requires-clause-fresh : goal.push-requires-clause-fresh
push-requires-clause-fresh g c = held_lacks c.args.origin.now _ c.requires.fresh
