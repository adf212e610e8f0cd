use Rattle.std.proofs.Common.{◌≡◌, ◌++◌, map}
use Rattle.server_runtime.proofs.replica_threads.slots_of.Given as goal

-- the slots so far and the setups to come have the names of all setups
abbrev pub invariant-loop-setup : goal.invariant-loop-setup
invariant-loop-setup l = map (λ slot. slot.replica) l.slots.items ++ map (λ setup. setup.replica) l.setup-iterator.rest.items
    ≡ map (λ setup. setup.replica) l.fn.setups.items
