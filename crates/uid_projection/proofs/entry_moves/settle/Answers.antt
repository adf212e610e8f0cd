use Rattle.uid_projection.proofs.EntryMovesLemmas.{moved_none, settled}
use Rattle.uid_projection.proofs.entry_moves.settle.Goals as goal

pub returns-in-Some-clause-entries : goal.returns-in-Some-clause-entries
returns-in-Some-clause-entries g c = λ a. settled c.args.origin.now c.args.modseq c.args.stays _ _ c.in-Some.place c.in-Some.ensures c.settle_at.ensures.stays c.settle_at.ensures.removed a

pub returns-in-None-clause-entries : goal.returns-in-None-clause-entries
returns-in-None-clause-entries g c = λ a. moved_none c.args.origin.now _ c.args.modseq _ c.in-None.ensures
