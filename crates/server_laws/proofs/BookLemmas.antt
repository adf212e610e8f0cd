use Rattle.std.proofs.Common.{◌≡◌, ◌≢◌, inl, inr, ℕ, Option, None, Some, List, [], ◌∷◌, ◌++◌, map, refl, sym, ap, ◌∙◌, subst}
use Rattle.std.proofs.lemmas.Bool.Decides.{eqb_tells}
use Rattle.causal_inbox.specs.Inbox.{IsClockOf}
use Rattle.crdt_ops.specs.Meanings.{MeansTheSame}
use Rattle.crdt_ops.specs.declared.op.Op.{Op}
use Rattle.imap_node.specs.Nodes.{NodeState, unused_node}
use Rattle.imap_node.specs.Operations.{id_of}
use Rattle.merge_laws.specs.Orders.{IsIn}
use Rattle.replica_lock.specs.Histories.{LeadsTo, BookState}
use Rattle.replica_lock.specs.declared.book.JournalEntry.{JournalEntry}
use Rattle.server_laws.specs.WorldEvents.{event_of, outcome_of}
use Rattle.server_laws.specs.Interleavings.{HaveHistories, IsWholeHistory, ReplicaEntry, LeadsAt, IsIssuedAmong, entries_of_replica}
use Rattle.server_laws.specs.BookWorlds.{AllLead, AreIssuedBeforeDeliveryFrom, IsLinkedInterleaving, starting_world, node_of, current_world, start_of, starts_of}
use Rattle.server_laws.proofs.RunLemmas.{interleaving_issues, interleaving_runs}
use Rattle.server_laws.proofs.InterleavingLemmas.{entries_past}
use Rattle.world_core.specs.Headline.{Headline}
use Rattle.world_core.specs.WorldPromises.{IsIssuedWorld}
use Rattle.world_core.specs.Replicas.{IsAt, IsIssuedIn}
use Rattle.world_core.specs.Steps.{Runs}
use Rattle.world_core.specs.Worlds.{AreFromOne, HaveDistinctNames}
use Rattle.world_core.proofs.BeginLemmas.{begins_fair}
use Rattle.world_core.proofs.FairLemmas.{converges, same_from_clocks}
use Rattle.world_core.proofs.HeadLemmas.{run_fair, run_holds}
use Rattle.world_core.proofs.NamedLemmas.{by_here, by_none, by_past}

-- ---- books by their names

-- none of the books bears a name at which the world has no replica
none_named : (books : List BookState) (name : ℕ) → current_world books name ≡ None → (book : BookState) → IsIn book books → name ≢ book.node.start.replica
none_named [] name none book i = absurd i
none_named (first ∷ books) name none book i =
    let w = by_none first.node (map node_of books) name none in
    elim i [
      | inl same ↦ subst (λ (b : BookState). name ≢ b.node.start.replica) same w.0
      | inr t ↦ none_named books name w.1 book t
    ]

-- no entry of an interleaving bears such a name
pub no_entries : (books : List BookState) (interleaving : List ReplicaEntry) (name : ℕ) → ((item : ReplicaEntry) → IsIn item interleaving → (book : BookState) × IsIn book books × (book.node.start.replica ≡ item.replica))
    → current_world books name ≡ None → entries_of_replica interleaving name ≡ []
no_entries books [] name theirs none = refl
no_entries books (item ∷ interleaving) name theirs none =
    let b = theirs item (inl refl) in
    entries_past item interleaving name (λ e. none_named books name none b.0 b.1 (e ∙ sym b.2)) ∙ no_entries books interleaving name (λ h i. theirs h (inr i)) none

pub start_in : (books : List BookState) (book : BookState) → IsIn book books → IsIn book.node.start (starts_of books)
start_in [] book i = absurd i
start_in (first ∷ books) book i = elim i [ inl same ↦ inl (ap start_of same) | inr t ↦ inr (start_in books book t) ]

-- books with different names are each in the world at their own name
pub at_own_name : (books : List BookState) → HaveDistinctNames (starts_of books) → (book : BookState) → IsIn book books → IsAt (current_world books) book.node.start.replica book.node
at_own_name [] apart book i = absurd i
at_own_name (first ∷ books) apart book i = elim i [
  | inl same ↦ subst (λ (b : BookState). current_world (first ∷ books) b.node.start.replica ≡ Some b.node) same (by_here first.node (map node_of books) first.node.start.replica refl)
  | inr t ↦ by_past first.node (map node_of books) book.node.start.replica (apart.0 book.node.start (start_in books book t)) ∙ at_own_name books apart.1 book t
]

-- ---- the states after the journals

from_ones : (books : List BookState) → HaveHistories books → AreFromOne (starts_of books)
from_ones [] has = tt
from_ones (book ∷ books) has = ((has book (inl refl)).from_one, from_ones books (λ b i. has b (inr i)))

leads_at_name : (books : List BookState) (interleaving : List ReplicaEntry) (name : ℕ) → ((book : BookState) → IsIn book books → IsWholeHistory book (entries_of_replica interleaving book.node.start.replica))
    → (current_world books name ≡ None → entries_of_replica interleaving name ≡ []) → LeadsAt (starting_world books name) (entries_of_replica interleaving name) (current_world books name)
leads_at_name [] interleaving name whole none = subst (λ (es : List JournalEntry). LeadsAt None es None) (sym (none refl)) refl
leads_at_name (book ∷ books) interleaving name whole none = elim (eqb_tells name book.node.start.replica) [
  | inl t ↦
      let h = whole book (inl refl) in
      let entries : entries_of_replica interleaving name ≡ h.0 ++ book.journal = ap (entries_of_replica interleaving) t.1 ∙ h.2 in
      subst (λ (o : Option NodeState). LeadsAt o (entries_of_replica interleaving name) (current_world (book ∷ books) name)) (sym (by_here (unused_node book.node.start) (map unused_node (starts_of books)) name t.1)) (
        book.node,
        subst (λ (es : List JournalEntry). LeadsTo (unused_node book.node.start) es book.node) (sym entries) h.1.leads,
        by_here book.node (map node_of books) name t.1,
      )
  | inr f ↦
      let past : current_world (book ∷ books) name ≡ current_world books name = by_past book.node (map node_of books) name f.1 in
      let rest = leads_at_name books interleaving name (λ b i. whole b (inr i)) (λ e. none (past ∙ e)) in
      subst (λ (o : Option NodeState). LeadsAt o (entries_of_replica interleaving name) (current_world (book ∷ books) name)) (sym (by_past (unused_node book.node.start) (map unused_node (starts_of books)) name f.1))
      (subst (λ (o : Option NodeState). LeadsAt (starting_world books name) (entries_of_replica interleaving name) o) (sym past) rest)
]

module _ (books : List BookState) (interleaving : List ReplicaEntry) (ran : IsLinkedInterleaving books interleaving) where
  issued_at_start : IsIssuedWorld (starting_world books)
  issued_at_start = begins_fair (starts_of books) (from_ones books ran.histories)

  all_lead : AllLead (starting_world books) interleaving (current_world books)
  all_lead name = leads_at_name books interleaving name ran.merged.whole (no_entries books interleaving name ran.merged.only)

  issued_from_start : AreIssuedBeforeDeliveryFrom (starting_world books) interleaving
  issued_from_start front item back op cut e = inr (ran.linked front item back op cut e)

  pub books_run : Runs (starting_world books) (map event_of interleaving) (map outcome_of interleaving) (current_world books)
  books_run = interleaving_runs interleaving (starting_world books) (current_world books) issued_at_start all_lead issued_from_start

  pub books_headline : Headline (starting_world books) (map event_of interleaving) (map outcome_of interleaving) (current_world books)
  books_headline = run_holds (starting_world books) (current_world books) (map event_of interleaving) (map outcome_of interleaving) issued_at_start books_run

  pub books_fair : IsIssuedWorld (current_world books)
  books_fair = run_fair (starting_world books) (current_world books) (map event_of interleaving) (map outcome_of interleaving) issued_at_start books_run

  pub books_issue : (op : Op) → IsIssuedAmong interleaving op → IsIssuedIn (current_world books) op
  books_issue op w = interleaving_issues interleaving (starting_world books) (current_world books) issued_at_start all_lead issued_from_start op w

  pub same_by_clocks : HaveDistinctNames (starts_of books) → (one other : BookState) → IsIn one books → IsIn other books → (clock : List (ℕ × ℕ)) → IsClockOf id_of one.node.applied clock → IsClockOf id_of other.node.applied clock
      → MeansTheSame one.node.applied other.node.applied
  same_by_clocks apart one other i j clock c d =
      let at_one = at_own_name books apart one i in
      let at_other = at_own_name books apart other j in
      converges (current_world books) books_fair one.node.start.replica other.node.start.replica one.node other.node at_one at_other
      (same_from_clocks (current_world books) books_fair one.node.start.replica other.node.start.replica one.node other.node clock at_one at_other c d)
