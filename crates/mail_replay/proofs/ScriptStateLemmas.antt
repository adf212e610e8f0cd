use Rattle.std.proofs.Common.{◌≡◌, inl, inr, ℕ, ◌<◌, List, [], ◌∷◌, Option, Some, Result, Ok, Err, length, get_or, subst, sym, ap, ◌∙◌}
use Rattle.std.specs.List.{slice_get}
use Rattle.std.specs.Prelude.{◌↔◌, IfOk, IsTrue, MatchResult, OnErr, OnOk}
use Rattle.causal_inbox.specs.declared.delivery.DeliverFault.{DeliverFault}
use Rattle.causal_inbox.specs.declared.delivery.Delivered.{Delivered}
use Rattle.imap_node.specs.Deliveries.{Delivers, HoldsRipeOp, IsRefusedAt}
use Rattle.imap_node.specs.Nodes.{NodeState}
use Rattle.std.proofs.lemmas.Option.{same_Some, slice_get-get_or}
use Rattle.crdt_ops.specs.declared.op.Op.{Op}
use Rattle.mail_replay.specs.Deliveries.{Answers, Issued}
use Rattle.mail_replay.specs.ScriptState.{ScriptContents, replica_place}
use Rattle.mail_replay.specs.declared.script_state.ScriptReplica.{ScriptReplica}
use Rattle.merge_laws.specs.Orders.{HasId, IsIn}
use Rattle.tags_clocks.specs.declared.id.OpId.{OpId}
use Rattle.crdt_ops.specs.Ops.{id_of}

-- the element that a valid index gives is at that place
pub slice_get_some : {X : Type 0} (xs ys : List X) (k : ℕ) (x : X) → ys ≡ xs → k < length ys → x ≡ get_or xs k x → slice_get xs k ≡ Some x
slice_get_some {X} xs ys k x same within e =
    let fits : k < length xs = subst (λ (zs : List X). k < length zs) same within in
    slice_get-get_or xs k x fits ∙ sym (ap Some e)

has_id_in : (ops : List Op) (op : Op) (id : OpId) → IsIn op ops → op.id ≡ id → HasId id_of ops id
has_id_in [] op id h e = absurd h
has_id_in (o ∷ ops) op id h e = elim h [ inl k ↦ inl (subst (λ (p : Op). p.id ≡ id) (sym k) e) | inr t ↦ inr (has_id_in ops op id t e) ]

pub some_same : {X : Type 0} (o : Option X) (x y : X) → o ≡ Some x → o ≡ Some y → x ≡ y
some_same o x y e f = same_Some x y (sym e ∙ f)

-- a replica that has issued no operation with this id hasn't issued this operation
pub never_issued : (setup : ScriptContents) (id : OpId) (op : Op) (at : ℕ) (source : ScriptReplica) → replica_place setup.replicas id.replica ≡ Some at → slice_get setup.replicas at ≡ Some source → ¬ HasId id_of source.issued id
    → Issued setup id op → ⊥
never_issued setup id op at source place is_declared none i =
    let here : i.0 ≡ at = some_same (replica_place setup.replicas id.replica) i.0 at i.2.0 place in
    let at_source : slice_get setup.replicas at ≡ Some i.1 = subst (λ (k : ℕ). slice_get setup.replicas k ≡ Some i.1) here i.2.1 in
    let same : i.1 ≡ source = some_same (slice_get setup.replicas at) i.1 source at_source is_declared in
    none (has_id_in source.issued op id (subst (λ (r : ScriptReplica). IsIn op r.issued) same i.3) i.4)

-- a node's answer to a delivery
pub answers_given : (old : NodeState) (op : Op) (answer : Result Delivered DeliverFault) (new : NodeState)
    → MatchResult answer (λ d. Delivers old op d.arrival new) (λ e. IsRefusedAt old op e) → IfOk answer (λ d. IsTrue d.stalled ↔ HoldsRipeOp new) → OnErr answer (new ≡ old)
    → Answers old op answer new
answers_given old op (Ok d) new arrives stalled unchanged = (arrives, stalled)
answers_given old op (Err why) new refused stalled unchanged = (refused, unchanged)

-- what follows from an `Ok`, if there is one
pub on_ok : {T E : Type 0} (r : Result T E) {P Q : Type 0} → (P → Q) → OnOk r P → OnOk r Q
on_ok (Ok x) f h = f h
on_ok (Err e) f h = h

err_in : {T E : Type 0} → E → Result T E → E
err_in d (Ok x) = d
err_in d (Err e) = e

-- equal errors have equal faults
pub err_same : {T E : Type 0} (d e : E) → ◌≡◌ {A = Result T E} (Err d) (Err e) → d ≡ e
unfolding err_in
err_same {T} d e h = ap (err_in {T = T} d) h
