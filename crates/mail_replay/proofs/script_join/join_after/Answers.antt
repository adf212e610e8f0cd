use Rattle.std.proofs.Common.{List, Some, [], ◌∷◌, ◌++◌, ap, refl, subst, ◌∙◌}
use Rattle.causal_inbox.specs.OwnIds.{IsLeastOwn}
use Rattle.crdt_ops.specs.declared.op.Op.{Op}
use Rattle.mail_replay.proofs.JoinLemmas.{none_own, slice_get_unchanged}
use Rattle.mail_replay.specs.declared.script_state.ScriptReplica.{ScriptReplica}
use Rattle.imap_node.specs.Operations.{id_of}
use Rattle.mail_replay.proofs.script_join.join_after.Goals as goal

pub returns-in-Some : goal.returns-in-Some
returns-in-Some c = (
  c.index.result.now,
  slice_get_unchanged c.args.replicas.now.items _ c.args.place _ refl c.requires c.index.ensures,
  (subst (λ (os : List Op). IsLeastOwn id_of c.args.name os (Some c.in-Some.id)) c.op_list.ensures.applied c.in-Some.ensures, refl),
)

pub returns-in_default-reserve : goal.returns-in_default-reserve
returns-in_default-reserve c =
    let here = slice_get_unchanged c.args.replicas.now.items _ c.args.place _ refl c.requires c.index.ensures in
    (c.index.result.now, here, (none_own _ c.args.place c.args.name _ _ _ here here c.op_list.ensures.applied c.in_default.ensures, c.reserve.ensures.items))

pub returns-in-Err-Exhausted : goal.returns-in-Err-Exhausted
returns-in-Err-Exhausted c =
    let here = slice_get_unchanged c.args.replicas.now.items _ c.args.place _ refl c.requires c.index.ensures in
    let still = slice_get_unchanged c.args.replicas.now.items _ c.args.place _ c.reserve.ensures.items c.requires c.index-2.ensures in (
      c.index-2.result.now,
      still,
      (none_own _ c.args.place c.args.name _ _ _ here still c.op_list.ensures.applied c.in_default.ensures, c.in-Err-Exhausted.ensures c.in-Err-Exhausted.field-0-is, c.reserve.ensures.items),
    )

pub returns-in-Err-NoMemory : goal.returns-in-Err-NoMemory
returns-in-Err-NoMemory c =
    let here = slice_get_unchanged c.args.replicas.now.items _ c.args.place _ refl c.requires c.index.ensures in
    let still = slice_get_unchanged c.args.replicas.now.items _ c.args.place _ c.reserve.ensures.items c.requires c.index-2.ensures in
    (c.index-2.result.now, still, (none_own _ c.args.place c.args.name _ _ _ here still c.op_list.ensures.applied c.in_default.ensures, c.reserve.ensures.items))

pub returns-in-Ok-joined_node : goal.returns-in-Ok-joined_node
returns-in-Ok-joined_node c =
    let here = slice_get_unchanged c.args.replicas.now.items _ c.args.place _ refl c.requires c.index.ensures in
    let still = slice_get_unchanged c.args.replicas.now.items _ c.args.place _ c.reserve.ensures.items c.requires c.index-2.ensures in
    let more : ScriptReplica = record { name = c.args.name; node = c.in-Ok-joined_node.node; issued = c.new.result } in (
      c.index-2.result.now,
      still,
      (
        none_own _ c.args.place c.args.name _ _ _ here still c.op_list.ensures.applied c.in_default.ensures,
        c.in-Ok-joined_node.ensures.1,
        (
          more,
          (refl, c.in-Ok-joined_node.ensures.0, c.new.ensures),
          c.push_reserved.ensures.items ∙ ap (λ (rs : List ScriptReplica). rs ++ more ∷ []) c.reserve.ensures.items,
        ),
      ),
    )
