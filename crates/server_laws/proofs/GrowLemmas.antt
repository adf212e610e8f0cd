use Rattle.std.proofs.Common.{◌≡◌, ◌≢◌, ◌⊎◌, inl, inr, ℕ, ◌≤◌, List, [], ◌∷◌, ◌++◌, append_assoc, map, refl, sym, ap, ◌∙◌, subst}
use Rattle.std.proofs.lemmas.Bool.Decides.{eqb_tells}
use Rattle.crdt_ops.specs.declared.op.Op.{Op}
use Rattle.merge_laws.specs.Orders.{IsIn}
use Rattle.merge_laws.proofs.Lists.{in_cases, in_middle, in_parts, in_rest}
use Rattle.replica_lock.specs.Histories.{BookState, IsPast, book_after_forget}
use Rattle.replica_lock.specs.declared.book.JournalEntry.{JournalEntry}
use Rattle.replica_lock.specs.declared.event.BookEvent.TheVariants.{Deliver}
use Rattle.replica_lock.proofs.HistoryLemmas.{past_after_forget}
use Rattle.replica_lock.proofs.Journals.{history_grows, counts_after_step}
use Rattle.server_laws.specs.Interleavings.{ForgetsEntries, ReplicaEntry, HasHistory, IsInterleavingOf, IsIssuedAmong, IsWholeHistory, TakesStep, entries_of_replica, unused_book}
use Rattle.server_laws.specs.BookWorlds.{IsLinkedInterleaving, start_of, starts_of}
use Rattle.server_laws.proofs.BookLemmas.{start_in}
use Rattle.server_laws.proofs.InterleavingLemmas.{entries_here, entries_past}
use Rattle.uid_projection.specs.declared.first_numbers.Counters.{Counters}
use Rattle.world_core.specs.Worlds.{AreFromOne, HaveDistinctNames}

-- ---- an interleaving of no entries

no_cut : {X : Type 0} (front back : List X) (x : X) → [] ≡ front ++ x ∷ back → ⊥
no_cut [] back x e = absurd cc
no_cut (y ∷ front) back x e = absurd cc

first_book : (starts : List Counters) (book : BookState) → AreFromOne starts → IsIn book (map unused_book starts) → (start : Counters) × (1 ≤ start.uid) × (unused_book start ≡ book)
first_book [] book first i = absurd i
first_book (start ∷ starts) book first i = elim i [ inl same ↦ (start, first.0, same) | inr t ↦ first_book starts book first.1 t ]

pub begins_with_none : (starts : List Counters) → AreFromOne starts → IsLinkedInterleaving (map unused_book starts) []
begins_with_none starts first = record {
  histories = λ book i. let b = first_book starts book first i in subst HasHistory b.2 (record { from_one = b.1; history = ([], record { count = refl; leads = refl }) });
  merged = record {
    whole = λ book i. let b = first_book starts book first i in subst (λ (r : BookState). IsWholeHistory r []) b.2 ([], record { count = refl; leads = refl }, refl);
    only = λ item i. absurd i;
  };
  linked = λ front item back op cut e. absurd (no_cut front back item cut);
}

-- ---- one more entry

pub entries_append_one : (interleaving : List ReplicaEntry) (one : ReplicaEntry) (name : ℕ) → name ≡ one.replica → entries_of_replica (interleaving ++ one ∷ []) name ≡ entries_of_replica interleaving name ++ one.entry ∷ []
entries_append_one [] one name e = entries_here one [] name e
entries_append_one (item ∷ interleaving) one name e = elim (eqb_tells name item.replica) [
  | inl t ↦
      entries_here item (interleaving ++ one ∷ []) name t.1
      ∙ ap (λ (es : List JournalEntry). item.entry ∷ es) (entries_append_one interleaving one name e)
      ∙ ap (λ (es : List JournalEntry). es ++ one.entry ∷ []) (sym (entries_here item interleaving name t.1))
  | inr f ↦
      entries_past item (interleaving ++ one ∷ []) name f.1
      ∙ entries_append_one interleaving one name e
      ∙ ap (λ (es : List JournalEntry). es ++ one.entry ∷ []) (sym (entries_past item interleaving name f.1))
]

pub entries_stay : (interleaving : List ReplicaEntry) (one : ReplicaEntry) (name : ℕ) → name ≢ one.replica → entries_of_replica (interleaving ++ one ∷ []) name ≡ entries_of_replica interleaving name
entries_stay [] one name e = entries_past one [] name e
entries_stay (item ∷ interleaving) one name e = elim (eqb_tells name item.replica) [
  | inl t ↦
      entries_here item (interleaving ++ one ∷ []) name t.1
      ∙ ap (λ (es : List JournalEntry). item.entry ∷ es) (entries_stay interleaving one name e)
      ∙ sym (entries_here item interleaving name t.1)
  | inr f ↦
      entries_past item (interleaving ++ one ∷ []) name f.1
      ∙ entries_stay interleaving one name e
      ∙ sym (entries_past item interleaving name f.1)
]

-- a cut of an interleaving with one more entry is at its end, or within the rest
pub cut_last : (interleaving front back : List ReplicaEntry) (one other : ReplicaEntry) → interleaving ++ one ∷ [] ≡ front ++ other ∷ back → ((interleaving ≡ front) × (one ≡ other)) ⊎ ((rest : List ReplicaEntry) × (interleaving ≡ front ++ other ∷ rest))
cut_last [] [] back one other k = inl (refl, cc)
cut_last [] (a ∷ []) back one other k = absurd cc
cut_last [] (a ∷ b ∷ front) back one other k = absurd cc
cut_last (b ∷ interleaving) [] back one other k = let e : b ≡ other = cc in inr (interleaving, ap (λ (x : ReplicaEntry). x ∷ interleaving) e)
cut_last (b ∷ interleaving) (a ∷ front) back one other k =
    let e : b ≡ a = cc in
    let rest : interleaving ++ one ∷ [] ≡ front ++ other ∷ back = cc in
    elim (cut_last interleaving front back one other rest) [
      | inl s ↦ inl (λ i. e i ∷ s.0 i, s.1)
      | inr s ↦ inr (s.0, λ i. e i ∷ s.1 i)
    ]

same_starts : (front : List BookState) (old new : BookState) (back : List BookState) → start_of new ≡ start_of old → starts_of (front ++ new ∷ back) ≡ starts_of (front ++ old ∷ back)
same_starts [] old new back e = ap (λ (s : Counters). s ∷ starts_of back) e
same_starts (book ∷ front) old new back e = ap (λ (ss : List Counters). start_of book ∷ ss) (same_starts front old new back e)

-- the other books have other names
pub named_apart : (front : List BookState) (old : BookState) (back : List BookState) → HaveDistinctNames (starts_of (front ++ old ∷ back)) → (book : BookState) → IsIn book (front ++ back) → book.node.start.replica ≢ old.node.start.replica
named_apart [] old back apart book i = apart.0 book.node.start (start_in back book i)
named_apart (first ∷ front) old back apart book i = elim i [
  | inl same ↦ λ e. apart.0 old.node.start (start_in (front ++ old ∷ back) old (in_middle old front back)) (sym e ∙ ap (λ (b : BookState). b.node.start.replica) (sym same))
  | inr t ↦ named_apart front old back apart.1 book t
]

module _ (books later : List BookState) (item : ReplicaEntry) (w : TakesStep books item later) where
  pub started : w.new.node.start ≡ w.old.node.start
  started = (counts_after_step w.old.node item.entry.event item.entry.outcome w.new.node w.step).start

  pub starts_stay : starts_of later ≡ starts_of books
  starts_stay = ap starts_of w.after ∙ same_starts w.front w.old w.new w.back started ∙ ap starts_of (sym w.before)

  pub new_named : w.new.node.start.replica ≡ item.replica
  new_named = ap (λ (s : Counters). s.replica) started ∙ sym w.named

  module _ (interleaving : List ReplicaEntry) (given : IsLinkedInterleaving books interleaving) (given_apart : HaveDistinctNames (starts_of books)) (issued : (op : Op) → item.entry.event ≡ Deliver op → IsIssuedAmong interleaving op) where
    ran : IsLinkedInterleaving (w.front ++ w.old ∷ w.back) interleaving
    ran = subst (λ (bs : List BookState). IsLinkedInterleaving bs interleaving) w.before given

    apart : HaveDistinctNames (starts_of (w.front ++ w.old ∷ w.back))
    apart = subst (λ (bs : List BookState). HaveDistinctNames (starts_of bs)) w.before given_apart

    old_in : IsIn w.old (w.front ++ w.old ∷ w.back)
    old_in = in_middle w.old w.front w.back

    abbrev old_whole : IsWholeHistory w.old (entries_of_replica interleaving w.old.node.start.replica)
    old_whole = ran.merged.whole w.old old_in

    abbrev past_of_new : List JournalEntry
    past_of_new = old_whole.0

    new_entries : past_of_new ++ w.new.journal ≡ (past_of_new ++ w.old.journal) ++ item.entry ∷ []
    new_entries = ap (λ (es : List JournalEntry). past_of_new ++ es) w.entry ∙ sym (append_assoc past_of_new w.old.journal (item.entry ∷ []))

    new_past : IsPast w.new past_of_new
    new_past = record {
      count = old_whole.1.count ∙ sym w.forgotten_count;
      leads = history_grows w.old.node w.new.node (past_of_new ++ w.old.journal) (past_of_new ++ w.new.journal) item.entry.event item.entry.outcome old_whole.1.leads w.step new_entries;
    }

    new_history : HasHistory w.new
    new_history = record {
      from_one = subst (λ (s : Counters). 1 ≤ s.uid) (sym started) (ran.histories w.old old_in).from_one;
      history = (past_of_new, new_past);
    }

    whole_new : IsWholeHistory w.new (entries_of_replica (interleaving ++ item ∷ []) w.new.node.start.replica)
    whole_new = (
      past_of_new,
      new_past,
      entries_append_one interleaving item w.new.node.start.replica new_named
          ∙ ap (λ (es : List JournalEntry). es ++ item.entry ∷ []) (ap (λ (s : Counters). entries_of_replica interleaving s.replica) started ∙ old_whole.2)
          ∙ sym new_entries,
    )

    interleaving_append : IsInterleavingOf (w.front ++ w.new ∷ w.back) (interleaving ++ item ∷ [])
    interleaving_append = record {
      whole = λ book i. elim (in_cases w.new book w.front w.back i) [
        | inl same ↦ subst (λ (b : BookState). IsWholeHistory b (entries_of_replica (interleaving ++ item ∷ []) b.node.start.replica)) same whole_new
        | inr t ↦
            let h = ran.merged.whole book (in_rest w.old book w.front w.back t) in
            (h.0, h.1, entries_stay interleaving item book.node.start.replica (λ e. named_apart w.front w.old w.back apart book t (e ∙ w.named)) ∙ h.2)
      ];
      only = λ other i. elim (in_parts other interleaving (item ∷ []) i) [
        | inl t ↦
            let b = ran.merged.only other t in
            elim (in_cases w.old b.0 w.front w.back b.1) [
              | inl same ↦ (w.new, in_middle w.new w.front w.back, ap (λ (s : Counters). s.replica) started ∙ ap (λ (r : BookState). r.node.start.replica) same ∙ b.2)
              | inr u ↦ (b.0, in_rest w.new b.0 w.front w.back u, b.2)
            ]
        | inr t ↦ elim t [
          | inl same ↦ (w.new, in_middle w.new w.front w.back, new_named ∙ ap (λ (h : ReplicaEntry). h.replica) same)
          | inr none ↦ absurd none
        ]
      ];
    }

    grown : IsLinkedInterleaving (w.front ++ w.new ∷ w.back) (interleaving ++ item ∷ [])
    grown = record {
      histories = λ book i. elim (in_cases w.new book w.front w.back i) [ inl same ↦ subst HasHistory same new_history | inr t ↦ ran.histories book (in_rest w.old book w.front w.back t) ];
      merged = interleaving_append;
      linked = λ front other back op cut e. elim (cut_last interleaving front back item other cut) [
        | inl s ↦ subst (λ (hs : List ReplicaEntry). IsIssuedAmong hs op) s.0 (issued op (ap (λ (h : ReplicaEntry). h.entry.event) s.1 ∙ e))
        | inr s ↦ ran.linked front other s.0 op s.1 e
      ];
    }

pub grows_by_one : (books later : List BookState) (interleaving : List ReplicaEntry) (item : ReplicaEntry) → IsLinkedInterleaving books interleaving → HaveDistinctNames (starts_of books) → TakesStep books item later → ((op : Op) → item.entry.event ≡ Deliver op → IsIssuedAmong interleaving op)
    → IsLinkedInterleaving later (interleaving ++ item ∷ [])
grows_by_one books later interleaving item ran apart w issued = subst (λ (bs : List BookState). IsLinkedInterleaving bs (interleaving ++ item ∷ [])) (sym w.after) (grown books later item w interleaving ran apart issued)

-- ---- a book that forgets its oldest entries

module _ (books later : List BookState) (w : ForgetsEntries books later) (interleaving : List ReplicaEntry) (given : IsLinkedInterleaving books interleaving) where
  known : IsLinkedInterleaving (w.front ++ w.old ∷ w.back) interleaving
  known = subst (λ (bs : List BookState). IsLinkedInterleaving bs interleaving) w.before given

  abbrev shorter : BookState
  shorter = book_after_forget w.count w.old

  known_old : IsIn w.old (w.front ++ w.old ∷ w.back)
  known_old = in_middle w.old w.front w.back

  whole_old : IsWholeHistory w.old (entries_of_replica interleaving w.old.node.start.replica)
  whole_old = known.merged.whole w.old known_old

  whole_shorter : IsWholeHistory shorter (entries_of_replica interleaving w.old.node.start.replica)
  whole_shorter = let p = past_after_forget w.old w.count whole_old.0 whole_old.1 in (p.0, p.1, whole_old.2 ∙ p.2)

  forgotten : IsLinkedInterleaving (w.front ++ shorter ∷ w.back) interleaving
  forgotten = record {
    histories = λ book i. elim (in_cases shorter book w.front w.back i) [
      | inl same ↦ subst HasHistory same (record { from_one = (known.histories w.old known_old).from_one; history = (whole_shorter.0, whole_shorter.1) })
      | inr t ↦ known.histories book (in_rest w.old book w.front w.back t)
    ];
    merged = record {
      whole = λ book i. elim (in_cases shorter book w.front w.back i) [
        | inl same ↦ subst (λ (b : BookState). IsWholeHistory b (entries_of_replica interleaving b.node.start.replica)) same whole_shorter
        | inr t ↦ known.merged.whole book (in_rest w.old book w.front w.back t)
      ];
      only = λ item i.
          let b = known.merged.only item i in
          elim (in_cases w.old b.0 w.front w.back b.1) [
            | inl same ↦ (shorter, in_middle shorter w.front w.back, ap (λ (r : BookState). r.node.start.replica) same ∙ b.2)
            | inr u ↦ (b.0, in_rest shorter b.0 w.front w.back u, b.2)
          ];
    };
    linked = known.linked;
  }

pub linked_after_forget : (books later : List BookState) (interleaving : List ReplicaEntry) → IsLinkedInterleaving books interleaving → ForgetsEntries books later → IsLinkedInterleaving later interleaving
linked_after_forget books later interleaving given w = subst (λ (bs : List BookState). IsLinkedInterleaving bs interleaving) (sym w.after) (forgotten books later w interleaving given)
