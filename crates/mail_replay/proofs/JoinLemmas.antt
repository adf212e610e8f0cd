use Rattle.std.proofs.Common.{◌≡◌, ℕ, ◌<◌, List, Some, None, length, get_or, refl, sym, subst}
use Rattle.std.specs.List.{slice_get}
use Rattle.causal_inbox.specs.OwnIds.{IsLeastOwn}
use Rattle.crdt_ops.specs.declared.op.Op.{Op}
use Rattle.mail_replay.specs.declared.script_state.ScriptReplica.{ScriptReplica}
use Rattle.mail_replay.proofs.ScriptStateLemmas.{some_same, slice_get_some}
use Rattle.imap_node.specs.Operations.{id_of}

-- an element of an unchanged list was at the same place before
pub slice_get_unchanged : (old items : List ScriptReplica) (place : ℕ) (x : ScriptReplica) → items ≡ old → place < length old → x ≡ get_or items place x → slice_get old place ≡ Some x
slice_get_unchanged old items place x same within e =
    subst (λ (rs : List ScriptReplica). slice_get rs place ≡ Some x) same (slice_get_some items items place x refl (subst (λ (rs : List ScriptReplica). place < length rs) (sym same) within) e)

-- no operation of the replica at a place is the joining replica's own
pub none_own : (old : List ScriptReplica) (place name : ℕ) (x y : ScriptReplica) (ops : List Op) → slice_get old place ≡ Some x → slice_get old place ≡ Some y → ops ≡ x.node.state.applied
    → IsLeastOwn id_of name ops None → IsLeastOwn id_of name y.node.state.applied None
none_own old place name x y ops e f same none =
    subst (λ (r : ScriptReplica). IsLeastOwn id_of name r.node.state.applied None) (some_same (slice_get old place) x y e f)
    (subst (λ (os : List Op). IsLeastOwn id_of name os None) same none)
