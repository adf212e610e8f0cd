use Rattle.std.proofs.Common.{◌≡◌, ◌≢◌, inl, inr, ℕ, cond, Option, None, Some, List, [], ◌∷◌, refl, ap, ◌∙◌}
use Rattle.std.proofs.lemmas.Bool.Decides.{eqb_tells}
use Rattle.imap_node.specs.Nodes.{NodeState}
use Rattle.replica_lock.specs.Steps.{IsStep}
use Rattle.replica_lock.specs.declared.book.JournalEntry.{JournalEntry}
use Rattle.server_laws.specs.Interleavings.{ReplicaEntry, LeadsAt, entries_of_replica}

-- ---- the entries of one replica

module _ (item : ReplicaEntry) (interleaving : List ReplicaEntry) (name : ℕ) where
  pub entries_here : name ≡ item.replica → entries_of_replica (item ∷ interleaving) name ≡ item.entry ∷ entries_of_replica interleaving name
  entries_here e = elim (eqb_tells name item.replica) [
    | inl t ↦ λ k. cond (t.0 k) (item.entry ∷ entries_of_replica interleaving name) (entries_of_replica interleaving name)
    | inr f ↦ absurd (f.1 e)
  ]

  pub entries_past : name ≢ item.replica → entries_of_replica (item ∷ interleaving) name ≡ entries_of_replica interleaving name
  entries_past e = elim (eqb_tells name item.replica) [
    | inl t ↦ absurd (e t.1)
    | inr f ↦ λ k. cond (f.0 k) (item.entry ∷ entries_of_replica interleaving name) (entries_of_replica interleaving name)
  ]

-- ---- the state after entries

-- the first entry's step, and the state after the other entries
pub record Begins (now : Option NodeState) (entry : JournalEntry) (entries : List JournalEntry) (later : Option NodeState) : Type 0 where
  pub before : NodeState
  pub after : NodeState
  pub is_at : now ≡ Some before
  pub step : IsStep before entry.event entry.outcome after
  pub rest : LeadsAt (Some after) entries later

pub begins_with : (now : Option NodeState) (entry : JournalEntry) (entries : List JournalEntry) (later : Option NodeState) → LeadsAt now (entry ∷ entries) later → Begins now entry entries later
begins_with None entry entries later h = absurd h
begins_with (Some node) entry entries later h =
    let first = h.1 in
    record { before = node; after = first.0; is_at = refl; step = first.1; rest = (h.0, first.2, h.2) }

-- if there are no entries, nothing changed
pub leads_without_entries : (now later : Option NodeState) → LeadsAt now [] later → later ≡ now
leads_without_entries None later h = h
leads_without_entries (Some node) later h = h.2 ∙ ap (λ (n : NodeState). Some n) h.1
