use Rattle.std.proofs.Common.{◌≡◌, List, ◌++◌, map, sym, ◌∙◌, subst}
use Rattle.std.proofs.lemmas.List.{append-nil, nil_from_length}
use Rattle.server_runtime.proofs.EndLemmas.{moved_name}
use Rattle.server_runtime.specs.declared.replica_threads.ReplicaSetup.{ReplicaSetup}
use Rattle.server_runtime.specs.declared.replica_threads.SetupSlot.{SetupSlot}
use Rattle.server_runtime.proofs.replica_threads.slots_of.Goals as goal

pub loop-setup-preserved : goal.loop-setup-preserved
loop-setup-preserved c =
    let before = subst
    (λ (rest : List ReplicaSetup). map (λ slot. slot.replica) c.loop-setup.slots.items ++ map (λ setup. setup.replica) rest
    ≡ map (λ setup. setup.replica) c.args.setups.items)
    (c.in-Some.ensures {u = tt}).steps.0 c.loop-setup.invariant in
    subst
    (λ (slots : List SetupSlot). map (λ slot. slot.replica) slots ++ map (λ setup. setup.replica) c.next.new.self.rest.items
    ≡ map (λ setup. setup.replica) c.args.setups.items)
    (sym (c.in_ok-push.ensures {u = tt}).items)
    (moved_name (λ slot. slot.replica) (λ setup. setup.replica) c.loop-setup.slots.items c.slot_of.result c.in-Some.setup c.next.new.self.rest.items c.slot_of.ensures ∙ before)

pub returns : goal.returns
returns c =
    let none = nil_from_length c.loop-setup.setup-iterator.rest.items
    (sym c.loop-setup.setup-iterator.rest.ok.0 ∙ (c.in-None.ensures {u = tt}).steps.0) in
    sym (append-nil (map (λ slot. slot.replica) c.loop-setup.slots.items))
    ∙ subst
    (λ (rest : List ReplicaSetup). map (λ slot. slot.replica) c.loop-setup.slots.items ++ map (λ setup. setup.replica) rest
    ≡ map (λ setup. setup.replica) c.args.setups.items)
    none c.loop-setup.invariant
