use Rattle.std.proofs.Common.{◌≡◌, inl, inr, ℕ, Option, Some, List, [], ◌∷◌, map, refl, sym, ap, ◌∙◌, subst}
use Rattle.std.proofs.lemmas.Bool.Decides.{eqb_tells}
use Rattle.crdt_ops.specs.declared.op.Op.{Op}
use Rattle.imap_node.specs.Nodes.{NodeState}
use Rattle.merge_laws.specs.Orders.{IsIn}
use Rattle.merge_laws.proofs.Lists.{in_front}
use Rattle.replica_lock.specs.declared.book.JournalEntry.{JournalEntry}
use Rattle.replica_lock.specs.declared.event.BookEvent.TheVariants.{Deliver}
use Rattle.server_laws.specs.WorldEvents.{event_of, outcome_of}
use Rattle.server_laws.specs.Interleavings.{ReplicaEntry, LeadsAt, IsIssuedAmong, entries_of_replica, ops_of_outcome}
use Rattle.server_laws.specs.BookWorlds.{AllLead, AreIssuedBeforeDeliveryFrom}
use Rattle.server_laws.proofs.EventLemmas.{step_issues, world_steps}
use Rattle.server_laws.proofs.InterleavingLemmas.{Begins, begins_with, entries_here, entries_past, leads_without_entries}
use Rattle.world_core.specs.WorldPromises.{AllNodesGrow, IsIssuedWorld}
use Rattle.world_core.specs.Replicas.{IsIssuedIn, Replicas, with_node}
use Rattle.world_core.specs.Steps.{Runs, Steps}
use Rattle.world_core.proofs.FairLemmas.{applied_at}
use Rattle.world_core.proofs.MoveLemmas.{step_keeps_promises}
use Rattle.world_core.proofs.NamedLemmas.{with_node_own, with_node_other}

-- issued operations stay issued
issued_later : (old new : Replicas) → AllNodesGrow old new → (op : Op) → IsIssuedIn old op → IsIssuedIn new op
issued_later old new grows op i =
    let g = grows op.id.replica i.issuer i.is_at in
    record { issuer = g.0; is_at = g.1; applied = subst (IsIn op) (sym g.2.1) (in_front op i.issuer.applied g.2.0 i.applied) }

-- The first entry of an interleaving as a step of a world, and the effect of the others from the next
-- world on.
record FirstStep (old : Replicas) (item : ReplicaEntry) (interleaving : List ReplicaEntry) (new : Replicas) : Type 0 where
  next : Replicas
  steps : Steps old (event_of item) (outcome_of item) next
  fair : IsIssuedWorld next
  grows : AllNodesGrow old next
  issues : (op : Op) → IsIn op (ops_of_outcome item.entry.outcome) → IsIssuedIn next op
  leads : AllLead next interleaving new
  linked : AreIssuedBeforeDeliveryFrom next interleaving

module _ (old new : Replicas) (item : ReplicaEntry) (interleaving : List ReplicaEntry) (fair : IsIssuedWorld old) (lead : AllLead old (item ∷ interleaving) new) (link : AreIssuedBeforeDeliveryFrom old (item ∷ interleaving)) where
  begins : Begins (old item.replica) item.entry (entries_of_replica interleaving item.replica) (new item.replica)
  begins = begins_with (old item.replica) item.entry (entries_of_replica interleaving item.replica) (new item.replica)
      (subst (λ (es : List JournalEntry). LeadsAt (old item.replica) es (new item.replica)) (entries_here item interleaving item.replica refl) (lead item.replica))

  abbrev next_world : Replicas
  next_world = with_node old item.replica begins.after

  -- each operation that the entry delivers was issued
  delivers_issued : (op : Op) → item.entry.event ≡ Deliver op → IsIssuedIn old op
  delivers_issued op e = elim (link [] item interleaving op refl e) [ inl i ↦ i | inr w ↦ absurd w.1 ]

  entry_steps : Steps old (event_of item) (outcome_of item) next_world
  entry_steps = world_steps old item.replica begins.before item.entry.event item.entry.outcome begins.after begins.is_at delivers_issued begins.step

  world_grows : AllNodesGrow old next_world
  world_grows = (step_keeps_promises old fair (event_of item) (outcome_of item) next_world entry_steps).grows

  entry_issued : (op : Op) → IsIn op (ops_of_outcome item.entry.outcome) → IsIssuedIn next_world op
  entry_issued op i =
      let k = step_issues begins.before item.entry.event item.entry.outcome begins.after (applied_at old fair item.replica begins.before begins.is_at) begins.step op i in
      record {
        issuer = begins.after;
        is_at = with_node_own old item.replica begins.after op.id.replica (k.0 ∙ fair.named item.replica begins.before begins.is_at);
        applied = k.1;
      }

  next_leads : AllLead next_world interleaving new
  next_leads name = elim (eqb_tells name item.replica) [
    | inl t ↦
        subst (λ (o : Option NodeState). LeadsAt o (entries_of_replica interleaving name) (new name)) (sym (with_node_own old item.replica begins.after name t.1))
        (subst (λ (q : ℕ). LeadsAt (Some begins.after) (entries_of_replica interleaving q) (new q)) (sym t.1) begins.rest)
    | inr f ↦
        subst (λ (o : Option NodeState). LeadsAt o (entries_of_replica interleaving name) (new name)) (sym (with_node_other old item.replica begins.after name f.1))
        (subst (λ (es : List JournalEntry). LeadsAt (old name) es (new name)) (entries_past item interleaving name f.1) (lead name))
  ]

  next_linked : AreIssuedBeforeDeliveryFrom next_world interleaving
  next_linked front one back op cut e = elim (link (item ∷ front) one back op (ap (λ (hs : List ReplicaEntry). item ∷ hs) cut) e) [
    | inl i ↦ inl (issued_later old next_world world_grows op i)
    | inr w ↦ elim w.1 [
      | inl same ↦ inl (entry_issued op (subst (λ (h : ReplicaEntry). IsIn op (ops_of_outcome h.entry.outcome)) (sym same) w.2))
      | inr t ↦ inr (w.0, t, w.2)
    ]
  ]

  first_step : FirstStep old item interleaving new
  first_step = record {
    next = next_world;
    steps = entry_steps;
    fair = (step_keeps_promises old fair (event_of item) (outcome_of item) next_world entry_steps).fair;
    grows = world_grows;
    issues = entry_issued;
    leads = next_leads;
    linked = next_linked;
  }

-- an interleaving is a run, from any world in which all operations were issued
pub interleaving_runs : (interleaving : List ReplicaEntry) (old new : Replicas) → IsIssuedWorld old → AllLead old interleaving new → AreIssuedBeforeDeliveryFrom old interleaving → Runs old (map event_of interleaving) (map outcome_of interleaving) new
interleaving_runs [] old new fair lead link = record { moments = []; trace = tt; ends = λ k name. leads_without_entries (old name) (new name) (lead name) k }
interleaving_runs (item ∷ interleaving) old new fair lead link =
    let g = first_step old new item interleaving fair lead link in
    let rest = interleaving_runs interleaving g.next new g.fair g.leads g.linked in
    record { moments = g.next ∷ rest.moments; trace = (g.steps, rest.trace); ends = rest.ends }

-- each operation that had been issued is issued in the end
pub issued_then : (interleaving : List ReplicaEntry) (old new : Replicas) → IsIssuedWorld old → AllLead old interleaving new → AreIssuedBeforeDeliveryFrom old interleaving → (op : Op) → IsIssuedIn old op → IsIssuedIn new op
issued_then [] old new fair lead link op i = subst (λ (w : Replicas). IsIssuedIn w op) (λ k name. sym (leads_without_entries (old name) (new name) (lead name)) k) i
issued_then (item ∷ interleaving) old new fair lead link op i =
    let g = first_step old new item interleaving fair lead link in
    issued_then interleaving g.next new g.fair g.leads g.linked op (issued_later old g.next g.grows op i)

-- each operation that an entry issued is issued in the end
pub interleaving_issues : (interleaving : List ReplicaEntry) (old new : Replicas) → IsIssuedWorld old → AllLead old interleaving new → AreIssuedBeforeDeliveryFrom old interleaving → (op : Op) → IsIssuedAmong interleaving op → IsIssuedIn new op
interleaving_issues [] old new fair lead link op w = absurd w.1
interleaving_issues (item ∷ interleaving) old new fair lead link op w =
    let g = first_step old new item interleaving fair lead link in
    elim w.1 [
      | inl same ↦ issued_then interleaving g.next new g.fair g.leads g.linked op (g.issues op (subst (λ (h : ReplicaEntry). IsIn op (ops_of_outcome h.entry.outcome)) (sym same) w.2))
      | inr t ↦ interleaving_issues interleaving g.next new g.fair g.leads g.linked op (w.0, t, w.2)
    ]
