use Rattle.std.proofs.Common.{◌≡◌, inl, inr, List, [], ◌∷◌, ◌++◌, append_assoc, map, refl, sym, ap, ◌∙◌, subst}
use Rattle.crdt_ops.specs.declared.op.Op.{Op}
use Rattle.imap_node.specs.Nodes.{NodeState}
use Rattle.merge_laws.specs.Orders.{IsIn}
use Rattle.merge_laws.proofs.Lists.{in_cases, in_middle, in_parts, in_rest}
use Rattle.replica_lock.specs.Histories.{BookState}
use Rattle.replica_lock.specs.JoinedBook.{applied_entry}
use Rattle.replica_lock.specs.declared.book.JournalEntry.{JournalEntry}
use Rattle.replica_lock.specs.declared.event.BookEvent.TheVariants.{Deliver}
use Rattle.replica_lock.proofs.Journals.{history_grows}
use Rattle.server_laws.specs.BookWorlds.{starts_of}
use Rattle.server_laws.specs.Interleavings.{ReplicaEntry, TakesStep, entries_of_replica}
use Rattle.server_laws.specs.RestoredBooks.{HaveHistoriesSince, IsHistorySince, IsKnownOrIssued, IsRestoredInterleaving}
use Rattle.server_laws.proofs.GrowLemmas.{cut_last, entries_append_one, entries_stay, named_apart, new_named, started}
use Rattle.uid_projection.specs.declared.first_numbers.Counters.{Counters}
use Rattle.world_core.specs.Worlds.{HaveDistinctNames}

-- ---- the histories of several books

-- What happened since at a book in one interleaving, and in another.
abbrev GrowsTo : List ReplicaEntry → List ReplicaEntry → NodeState → BookState → BookState → Type 0
GrowsTo interleaving more node old new =
    IsHistorySince node old (entries_of_replica interleaving old.node.start.replica)
    → IsHistorySince node new (entries_of_replica more new.node.start.replica)

histories_more : (interleaving more : List ReplicaEntry) (crashed : List NodeState) (books : List BookState) → ((node : NodeState) (book : BookState) → IsIn book books → GrowsTo interleaving more node book book)
    → HaveHistoriesSince crashed interleaving books → HaveHistoriesSince crashed more books
histories_more interleaving more [] [] stays h = tt
histories_more interleaving more [] (book ∷ books) stays h = absurd h
histories_more interleaving more (node ∷ crashed) [] stays h = absurd h
histories_more interleaving more (node ∷ crashed) (book ∷ books) stays h = (stays node book (inl refl) h.0, histories_more interleaving more crashed books (λ n b i. stays n b (inr i)) h.1)

histories_step : (interleaving more : List ReplicaEntry) (crashed : List NodeState) (front : List BookState) (old new : BookState) (back : List BookState)
    → ((node : NodeState) → GrowsTo interleaving more node old new) → ((node : NodeState) (book : BookState) → IsIn book (front ++ back) → GrowsTo interleaving more node book book)
    → HaveHistoriesSince crashed interleaving (front ++ old ∷ back) → HaveHistoriesSince crashed more (front ++ new ∷ back)
histories_step interleaving more [] [] old new back grows stays h = absurd h
histories_step interleaving more [] (book ∷ front) old new back grows stays h = absurd h
histories_step interleaving more (node ∷ crashed) [] old new back grows stays h = (grows node h.0, histories_more interleaving more crashed back stays h.1)
histories_step interleaving more (node ∷ crashed) (book ∷ front) old new back grows stays h =
    (stays node book (inl refl) h.0, histories_step interleaving more crashed front old new back grows (λ n b i. stays n b (inr i)) h.1)

-- ---- one more entry

module _ (crashed : List NodeState) (books later : List BookState) (item : ReplicaEntry) (w : TakesStep books item later) (interleaving : List ReplicaEntry) (given : IsRestoredInterleaving crashed books interleaving)
    (given_apart : HaveDistinctNames (starts_of books)) (known : (op : Op) → item.entry.event ≡ Deliver op → IsKnownOrIssued crashed interleaving op) where
  restored : IsRestoredInterleaving crashed (w.front ++ w.old ∷ w.back) interleaving
  restored = subst (λ (bs : List BookState). IsRestoredInterleaving crashed bs interleaving) w.before given

  apart : HaveDistinctNames (starts_of (w.front ++ w.old ∷ w.back))
  apart = subst (λ (bs : List BookState). HaveDistinctNames (starts_of bs)) w.before given_apart

  abbrev more : List ReplicaEntry
  more = interleaving ++ item ∷ []

  new_grows : (node : NodeState) → GrowsTo interleaving more node w.old w.new
  new_grows node h =
      let past = h.whole.0 in
      let entries = entries_of_replica interleaving w.old.node.start.replica in
      let since = map applied_entry node.applied in
      let last : past ++ w.new.journal ≡ (past ++ w.old.journal) ++ item.entry ∷ [] = ap (λ (es : List JournalEntry). past ++ es) w.entry ∙ sym (append_assoc past w.old.journal (item.entry ∷ [])) in
      let all : entries_of_replica more w.new.node.start.replica ≡ entries ++ item.entry ∷ [] =
      entries_append_one interleaving item w.new.node.start.replica (new_named books later item w)
      ∙ ap (λ (s : Counters). entries_of_replica interleaving s.replica ++ item.entry ∷ []) (started books later item w) in
      record {
        start = started books later item w ∙ h.start;
        whole = (
          past,
          record {
            count = h.whole.1.count ∙ sym w.forgotten_count;
            leads = history_grows w.old.node w.new.node (past ++ w.old.journal) (past ++ w.new.journal) item.entry.event item.entry.outcome h.whole.1.leads w.step last;
          },
          ap (λ (es : List JournalEntry). since ++ es) all ∙ sym (append_assoc since entries (item.entry ∷ [])) ∙ ap (λ (es : List JournalEntry). es ++ item.entry ∷ []) h.whole.2 ∙ sym last,
        );
      }

  others_stay : (node : NodeState) (book : BookState) → IsIn book (w.front ++ w.back) → GrowsTo interleaving more node book book
  others_stay node book i h =
      subst (IsHistorySince node book) (sym (entries_stay interleaving item book.node.start.replica (λ e. named_apart w.front w.old w.back apart book i (e ∙ w.named)))) h

  grown : IsRestoredInterleaving crashed (w.front ++ w.new ∷ w.back) more
  grown = record {
    histories = histories_step interleaving more crashed w.front w.old w.new w.back new_grows others_stay restored.histories;
    only = λ other i. elim (in_parts other interleaving (item ∷ []) i) [
      | inl t ↦
          let b = restored.only other t in
          elim (in_cases w.old b.0 w.front w.back b.1) [
            | inl same ↦ (w.new, in_middle w.new w.front w.back, ap (λ (s : Counters). s.replica) (started books later item w) ∙ ap (λ (r : BookState). r.node.start.replica) same ∙ b.2)
            | inr u ↦ (b.0, in_rest w.new b.0 w.front w.back u, b.2)
          ]
      | inr t ↦ elim t [
        | inl same ↦ (w.new, in_middle w.new w.front w.back, new_named books later item w ∙ ap (λ (h : ReplicaEntry). h.replica) same)
        | inr none ↦ absurd none
      ]
    ];
    linked = λ front other back op cut e. elim (cut_last interleaving front back item other cut) [
      | inl s ↦ subst (λ (hs : List ReplicaEntry). IsKnownOrIssued crashed hs op) s.0 (known op (ap (λ (h : ReplicaEntry). h.entry.event) s.1 ∙ e))
      | inr s ↦ restored.linked front other s.0 op s.1 e
    ];
  }

  pub restored_grows : IsRestoredInterleaving crashed later (interleaving ++ item ∷ [])
  restored_grows = subst (λ (bs : List BookState). IsRestoredInterleaving crashed bs more) (sym w.after) grown
