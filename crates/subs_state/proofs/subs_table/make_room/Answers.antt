use Rattle.std.proofs.Common.{◌≡◌, List, true, subst, sym}
use Rattle.std.specs.List.{list_any}
use Rattle.std.proofs.lemmas.List.{take_all}
use Rattle.crdt_ops.specs.declared.op.Op.{Op}
use Rattle.subs_state.specs.Entries.{room_of, subscribes}
use Rattle.subs_state.proofs.TableLemmas.{room_for_all}
use Rattle.subs_state.proofs.subs_table.make_room.Goals as goal

pub returns-clause-room : goal.returns-clause-room
returns-clause-room c = λ n.
    room_for_all (subscribes n) c.args.ops.now (room_of n c.loop-op.tags.entries)
    (λ any. c.loop-op.invariant.1 n (subst (λ (ops : List Op). list_any (subscribes n) ops ≡ true) (sym (take_all c.loop-op.op-index c.args.ops.now c.loop-op-test.false)) any))
