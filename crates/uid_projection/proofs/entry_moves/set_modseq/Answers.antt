use Rattle.std.proofs.Common.{sym, true}
use Rattle.uid_projection.proofs.EntryMovesLemmas.{is_at_held, lacks_held, moved_none, settled}
use Rattle.uid_projection.proofs.entry_moves.set_modseq.Goals as goal

pub returns-in-Some-clause-listed : goal.returns-in-Some-clause-listed
returns-in-Some-clause-listed g c = sym (is_at_held c.args.origin.now _ _ c.in-Some.ensures)

pub returns-in-Some-clause-entries : goal.returns-in-Some-clause-entries
returns-in-Some-clause-entries g c = λ a. settled c.args.origin.now c.args.modseq true _ _ c.in-Some.place c.in-Some.ensures c.settle_at.ensures.stays c.settle_at.ensures.removed a

pub returns-in-None-clause-listed : goal.returns-in-None-clause-listed
returns-in-None-clause-listed g c = sym (lacks_held c.args.origin.now _ c.in-None.ensures)

pub returns-in-None-clause-entries : goal.returns-in-None-clause-entries
returns-in-None-clause-entries g c = λ a. moved_none c.args.origin.now (λ x. true) c.args.modseq _ c.in-None.ensures
