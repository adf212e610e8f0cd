use Rattle.std.proofs.Common.{◌≡◌, ℕ, Err, IfErr, Ok, Result, ◌∙◌}
use Rattle.std.specs.Prelude.{OnOk}
use Rattle.imap_node.specs.Nodes.{NodeState}
use Rattle.replica_lock.specs.Histories.{BookState, entry_count}
use Rattle.replica_lock.specs.Passes.{IsCall, IsCallFault, IsCallRefused, IsCalled, LacksRoomAt, LacksRoomInCall, PassState}
use Rattle.replica_lock.specs.declared.event.BookEvent.{BookEvent}
use Rattle.replica_lock.specs.declared.faults.CallFault.{CallFault}
use Rattle.replica_lock.specs.declared.faults.CallFault.TheVariants.{NoRoom, NoStoreRoom, Torn}
use Rattle.replica_lock.specs.declared.faults.UnmadeCall.{UnmadeCall}
use Rattle.replica_lock.proofs.shared.LockTurn.call.Goals as goal

-- what the caller knows of a call, if the pass stays as the call left it
called_after : {T E : Type 0} (r : Result T E) (old new : BookState) (event : BookEvent) (p q later : PassState) → OnOk r (IsCall old event new p q) → later ≡ q → OnOk r (IsCalled p event later)
called_after (Ok x) old new event p q later h e = (old.node, new.node, h.0, entry_count new, h.1, h.4, e ∙ h.5)
called_after (Err fault) old new event p q later h e = tt

pub returns-clause-called : goal.returns-clause-called
returns-clause-called g c = called_after c.call-result.result c.deref_mut.result.now c.call-result.new.self c.args.event c.args.pass.now c.call-result.new.pass c.trim.new.pass c.call-result.ensures.called c.trim.ensures.pass

-- what the caller knows of a call that wasn't made
refused_after : {T : Type 0} (r : Result T UnmadeCall) (seen actual : ℕ) → IfErr r (λ unmade. IsCallFault seen actual unmade.fault) → IfErr r (λ unmade. IsCallRefused seen unmade.fault)
refused_after (Ok x) seen actual h = h
refused_after (Err unmade) seen actual h = (actual, h)

pub returns-clause-refused : goal.returns-clause-refused
returns-clause-refused g c = refused_after c.call-result.result c.args.pass.now.seen (entry_count c.deref_mut.result.now) c.call-result.ensures.refused

-- the node at which the log lacked room
lacking_at : (fault : CallFault) (node : NodeState) (event : BookEvent) → LacksRoomAt node event fault → LacksRoomInCall event fault
lacking_at NoRoom node event h = tt
lacking_at (NoStoreRoom octets) node event h = (node, h.0, h.1)
lacking_at (Torn seen actual) node event h = tt

lacking_after : {T : Type 0} (r : Result T UnmadeCall) (node : NodeState) (event : BookEvent) → IfErr r (λ unmade. LacksRoomAt node event unmade.fault) → IfErr r (λ unmade. LacksRoomInCall event unmade.fault)
lacking_after (Ok x) node event h = h
lacking_after (Err unmade) node event h = lacking_at unmade.fault node event h

pub returns-clause-lacking : goal.returns-clause-lacking
returns-clause-lacking g c = lacking_after c.call-result.result c.deref_mut.result.now.node c.args.event c.call-result.ensures.lacking
