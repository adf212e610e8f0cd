use Rattle.std.proofs.Common.{◌≡◌, ◌≢◌, ◌⊎◌, inl, inr, ℕ, List, [], ◌∷◌, ◌++◌, length, map, refl, sym, ap, ◌∙◌, subst, arith}
use Rattle.std.proofs.lemmas.Bool.Decides.{eqb_tells}
use Rattle.crdt_ops.specs.declared.op.Op.{Op}
use Rattle.merge_laws.specs.Orders.{IsIn}
use Rattle.merge_laws.proofs.Lists.{in_front, in_middle, in_parts, split_at}
use Rattle.replica_lock.specs.Histories.{BookState, HasPast, IsPast}
use Rattle.replica_lock.specs.declared.book.JournalEntry.{JournalEntry}
use Rattle.replica_lock.specs.declared.event.BookEvent.{BookEvent}
use Rattle.replica_lock.specs.declared.event.BookEvent.TheVariants.{Deliver}
use Rattle.server_laws.specs.BookWorlds.{IsLinkedInterleaving}
use Rattle.server_laws.specs.ExampleInterleavings.{CrossedAreNotLinked, HasOneEntry, HasJoinedFrom, JoinedAreLinked, HaveTwoInterleavings, UnissuedAreNotLinked, entry_at}
use Rattle.server_laws.specs.Interleavings.{AreKnownBeforeDelivery, HasHistory, IsInterleavingOf, IsWholeHistory, IssuesOrDelivers, ReplicaEntry, entries_of_replica}
use Rattle.server_laws.proofs.InterleavingLemmas.{entries_here, entries_past}
use Rattle.server_laws.proofs.LinkLemmas.{issued_if_known, issued_or_delivered}

-- ---- one entry at each of two replicas

two_in_order : (one other : BookState) (first second : ReplicaEntry) → first.replica ≢ second.replica → HasOneEntry one first → HasOneEntry other second
    → IsInterleavingOf (one ∷ other ∷ []) (first ∷ second ∷ [])
two_in_order one other first second apart h k = record {
  whole = λ book i. elim i [
    | inl same ↦
        subst (λ (b : BookState). IsWholeHistory b (entries_of_replica (first ∷ second ∷ []) b.node.start.replica)) same (
          [],
          h.past,
          entries_here first (second ∷ []) one.node.start.replica (sym h.named)
              ∙ ap (λ (es : List JournalEntry). first.entry ∷ es) (entries_past second [] one.node.start.replica (λ e. apart (h.named ∙ e)))
              ∙ sym h.entry,
        )
    | inr rest ↦ elim rest [
      | inl same ↦
          subst (λ (b : BookState). IsWholeHistory b (entries_of_replica (first ∷ second ∷ []) b.node.start.replica)) same (
            [],
            k.past,
            entries_past first (second ∷ []) other.node.start.replica (λ e. apart (sym (k.named ∙ e)))
                ∙ entries_here second [] other.node.start.replica (sym k.named)
                ∙ sym k.entry,
          )
      | inr none ↦ absurd none
    ]
  ];
  only = λ item i. elim i [
    | inl same ↦ (one, inl refl, sym h.named ∙ ap (λ (e : ReplicaEntry). e.replica) same)
    | inr rest ↦ elim rest [
      | inl same ↦ (other, inr (inl refl), sym k.named ∙ ap (λ (e : ReplicaEntry). e.replica) same)
      | inr none ↦ absurd none
    ]
  ];
}

swapped : (one other : BookState) (interleaving : List ReplicaEntry) → IsInterleavingOf (other ∷ one ∷ []) interleaving → IsInterleavingOf (one ∷ other ∷ []) interleaving
swapped one other interleaving h = record {
  whole = λ book i. h.whole book (turned book i);
  only = λ item i. let b = h.only item i in (b.0, turned_back b.0 b.1, b.2);
}
  where
    turned : (book : BookState) → IsIn book (one ∷ other ∷ []) → IsIn book (other ∷ one ∷ [])
    turned book i = elim i [ inl e ↦ inr (inl e) | inr r ↦ elim r [ inl e ↦ inl e | inr none ↦ absurd none ] ]

    turned_back : (book : BookState) → IsIn book (other ∷ one ∷ []) → IsIn book (one ∷ other ∷ [])
    turned_back book i = elim i [ inl e ↦ inr (inl e) | inr r ↦ elim r [ inl e ↦ inl e | inr none ↦ absurd none ] ]

pub two_interleavings : HaveTwoInterleavings
two_interleavings one other first second apart h k = (
  two_in_order one other first second apart h k,
  swapped one other (second ∷ first ∷ []) (two_in_order other one second first (λ e. apart (sym e)) k h),
)

-- ---- a replica that joins

entries_append : (front back : List ReplicaEntry) (name : ℕ) → entries_of_replica (front ++ back) name ≡ entries_of_replica front name ++ entries_of_replica back name
entries_append [] back name = refl
entries_append (item ∷ front) back name = elim (eqb_tells name item.replica) [
  | inl t ↦
      entries_here item (front ++ back) name t.1
      ∙ ap (λ (es : List JournalEntry). item.entry ∷ es) (entries_append front back name)
      ∙ ap (λ (es : List JournalEntry). es ++ entries_of_replica back name) (sym (entries_here item front name t.1))
  | inr f ↦
      entries_past item (front ++ back) name f.1
      ∙ entries_append front back name
      ∙ ap (λ (es : List JournalEntry). es ++ entries_of_replica back name) (sym (entries_past item front name f.1))
]

own_entries : (name : ℕ) (entries : List JournalEntry) → entries_of_replica (map (entry_at name) entries) name ≡ entries
own_entries name [] = refl
own_entries name (entry ∷ entries) =
    entries_here (entry_at name entry) (map (entry_at name) entries) name refl ∙ ap (λ (es : List JournalEntry). entry ∷ es) (own_entries name entries)

other_entries : (name other : ℕ) (entries : List JournalEntry) → other ≢ name → entries_of_replica (map (entry_at name) entries) other ≡ []
other_entries name other [] apart = refl
other_entries name other (entry ∷ entries) apart =
    entries_past (entry_at name entry) (map (entry_at name) entries) other apart ∙ other_entries name other entries apart

no_entries_of : (interleaving : List ReplicaEntry) (name : ℕ) → ((item : ReplicaEntry) → IsIn item interleaving → name ≢ item.replica) → entries_of_replica interleaving name ≡ []
no_entries_of [] name apart = refl
no_entries_of (item ∷ interleaving) name apart =
    entries_past item interleaving name (apart item (inl refl)) ∙ no_entries_of interleaving name (λ other i. apart other (inr i))

append_none : {X : Type 0} (xs : List X) → xs ++ [] ≡ xs
append_none [] = refl
append_none (x ∷ xs) = ap (λ ys. x ∷ ys) (append_none xs)

-- an entry of a replica is one of the interleaving
entry_in : (interleaving : List ReplicaEntry) (name : ℕ) (entry : JournalEntry) → IsIn entry (entries_of_replica interleaving name)
    → (item : ReplicaEntry) × IsIn item interleaving × (item.entry ≡ entry)
entry_in [] name entry i = absurd i
entry_in (item ∷ interleaving) name entry i = elim (eqb_tells name item.replica) [
  | inl t ↦ elim (subst (IsIn entry) (entries_here item interleaving name t.1) i) [
    | inl same ↦ (item, inl refl, same)
    | inr later ↦ let w = entry_in interleaving name entry later in (w.0, inr w.1, w.2)
  ]
  | inr f ↦ let w = entry_in interleaving name entry (subst (IsIn entry) (entries_past item interleaving name f.1) i) in (w.0, inr w.1, w.2)
]

-- an item of a journal at a name is one of its entries
in_entries : (name : ℕ) (entries : List JournalEntry) (item : ReplicaEntry) → IsIn item (map (entry_at name) entries) → IsIn item.entry entries × (item.replica ≡ name)
in_entries name [] item i = absurd i
in_entries name (entry ∷ entries) item i = elim i [
  | inl same ↦ (inl (ap (λ (e : ReplicaEntry). e.entry) same), ap (λ (e : ReplicaEntry). e.replica) (sym same))
  | inr later ↦ let w = in_entries name entries item later in (inr w.0, w.1)
]

-- a cut of a list of two parts is in its first part or in its second
cut_parts : {X : Type 0} (xs ys front back : List X) (x : X) → xs ++ ys ≡ front ++ x ∷ back
    → ((rest : List X) × (xs ≡ front ++ x ∷ rest)) ⊎ ((rest : List X) × (front ≡ xs ++ rest) × (ys ≡ rest ++ x ∷ back))
cut_parts [] ys front back x e = inr (front, refl, e)
cut_parts (z ∷ xs) ys [] back x e = let same : z ≡ x = cc in inl (xs, ap (λ v. v ∷ xs) same)
cut_parts (z ∷ xs) ys (a ∷ front) back x e =
    let same : z ≡ a = cc in
    let tails : xs ++ ys ≡ front ++ x ∷ back = cc in
    elim (cut_parts xs ys front back x tails) [
      | inl s ↦ inl (s.0, λ i. same i ∷ s.1 i)
      | inr s ↦ inr (s.0, (λ i. sym same i ∷ s.1 i), s.2)
    ]

deliver_same : (event : BookEvent) (one other : Op) → event ≡ Deliver one → event ≡ Deliver other → one ≡ other
deliver_same event one other e f = let g : Deliver one ≡ Deliver other = sym e ∙ f in cc

-- no entry was forgotten
none_of_count : (past : List JournalEntry) → length past ≡ 0 → past ≡ []
none_of_count [] e = refl
none_of_count (entry ∷ past) e = absurd (omega (arith, e))

no_past : (book : BookState) → book.forgotten_count ≡ 0 → HasPast book → IsPast book []
no_past book none h = subst (IsPast book) (none_of_count h.0 (h.1.count ∙ none)) h.1

module _ (books : List BookState) (peer joined : BookState) (interleaving : List ReplicaEntry) (ran : IsLinkedInterleaving books interleaving) (known : IsIn peer books)
    (from : HasJoinedFrom peer joined) (apart : (book : BookState) → IsIn book books → book.node.start.replica ≢ joined.node.start.replica) where
  abbrev name : ℕ
  name = joined.node.start.replica

  abbrev added : List ReplicaEntry
  added = map (entry_at name) joined.journal

  -- the others' entries, also with the joined replica's entries added
  others_stay : (book : BookState) → IsIn book books → entries_of_replica (interleaving ++ added) book.node.start.replica ≡ entries_of_replica interleaving book.node.start.replica
  others_stay book i =
      entries_append interleaving added book.node.start.replica
      ∙ ap (λ (es : List JournalEntry). entries_of_replica interleaving book.node.start.replica ++ es) (other_entries name book.node.start.replica joined.journal (apart book i))
      ∙ append_none (entries_of_replica interleaving book.node.start.replica)

  own_added : entries_of_replica (interleaving ++ added) name ≡ joined.journal
  own_added =
      entries_append interleaving added name
      ∙ ap (λ (es : List JournalEntry). es ++ entries_of_replica added name)
      (no_entries_of interleaving name (λ item i e. let b = ran.merged.only item i in apart b.0 b.1 (b.2 ∙ sym e)))
      ∙ own_entries name joined.journal

  interleaving_append : IsInterleavingOf (books ++ joined ∷ []) (interleaving ++ added)
  interleaving_append = record {
    whole = λ book i. elim (in_parts book books (joined ∷ []) i) [
      | inl old ↦ let h = ran.merged.whole book old in (h.0, h.1, others_stay book old ∙ h.2)
      | inr new ↦ elim new [
        | inl same ↦ subst (λ (b : BookState). IsWholeHistory b (entries_of_replica (interleaving ++ added) b.node.start.replica)) same
            ([], no_past joined from.forgotten_count from.history.history, own_added)
        | inr none ↦ absurd none
      ]
    ];
    only = λ item i. elim (in_parts item interleaving added i) [
      | inl old ↦ let b = ran.merged.only item old in (b.0, in_front b.0 books (joined ∷ []) b.1, b.2)
      | inr new ↦ (joined, in_middle joined books [], sym (in_entries name joined.journal item new).1)
    ];
  }

  -- an entry of the interleaving issued or delivered each operation in the peer's list
  in_list_known : (op : Op) → IsIn op peer.node.applied → (earlier : ReplicaEntry) × IsIn earlier interleaving × IssuesOrDelivers earlier.entry op
  in_list_known op i =
      let w = issued_or_delivered peer (entries_of_replica interleaving peer.node.start.replica) (ran.merged.whole peer known) op i in
      let e = entry_in interleaving peer.node.start.replica w.0 w.1 in
      (e.0, e.1, subst (λ (entry : JournalEntry). IssuesOrDelivers entry op) (sym e.2) w.2)

  known_append : AreKnownBeforeDelivery (interleaving ++ added)
  known_append front item back op cut event = elim (cut_parts interleaving added front back item cut) [
    | inl s ↦ let w = ran.linked front item s.0 op s.1 event in (w.0, w.1, inl w.2)
    | inr s ↦
        let in_added : IsIn item added = subst (IsIn item) (sym s.2) (in_middle item s.0 back) in
        let d = from.delivers item.entry (in_entries name joined.journal item in_added).0 in
        let same : d.0 ≡ op = deliver_same item.entry.event d.0 op d.2 event in
        let k = in_list_known op (subst (λ (o : Op). IsIn o peer.node.applied) same d.1) in
        (k.0, subst (IsIn k.0) (sym s.1) (in_front k.0 interleaving s.0 k.1), k.2)
  ]

  linked_append : IsLinkedInterleaving (books ++ joined ∷ []) (interleaving ++ added)
  linked_append = record {
    histories = λ book i. elim (in_parts book books (joined ∷ []) i) [
      | inl old ↦ ran.histories book old
      | inr new ↦ elim new [ inl same ↦ subst HasHistory same from.history | inr none ↦ absurd none ]
    ];
    merged = interleaving_append;
    linked = issued_if_known (interleaving ++ added) known_append;
  }

pub joined_linked : JoinedAreLinked
joined_linked books peer joined interleaving ran known from apart = linked_append books peer joined interleaving ran known from apart

-- ---- the premise fails

pub unissued_not_linked : UnissuedAreNotLinked
unissued_not_linked interleaving item op i event unissued linked =
    let s = split_at item interleaving i in
    let w = linked s.0 item s.1 op s.2 event in
    unissued (w.0, subst (IsIn w.0) (sym s.2) (in_front w.0 s.0 (item ∷ s.1) w.1), w.2)

first_entry : (entry other : JournalEntry) (entries rest : List JournalEntry) → entry ∷ entries ≡ other ∷ rest → entry ≡ other
first_entry entry other entries rest e = cc

none_of_some : (past : List JournalEntry) (entry : JournalEntry) (rest : List JournalEntry) → [] ≡ past ++ entry ∷ rest → ⊥
none_of_some [] entry rest e = absurd cc
none_of_some (x ∷ past) entry rest e = absurd cc

pub crossed_not_linked : CrossedAreNotLinked
crossed_not_linked books book [] i begins merged linked =
    let b = begins book i in
    let h = merged.whole book i in
    none_of_some h.0 b.entry b.rest (h.2 ∙ ap (λ (es : List JournalEntry). h.0 ++ es) b.journal)
crossed_not_linked books book (item ∷ interleaving) i begins merged linked =
    let owner = merged.only item (inl refl) in
    let b = begins owner.0 owner.1 in
    let h = merged.whole owner.0 owner.1 in
    let none : h.0 ≡ [] = none_of_count h.0 (h.1.count ∙ b.forgotten_count) in
    let same : item.entry ≡ b.entry =
    first_entry item.entry b.entry (entries_of_replica interleaving owner.0.node.start.replica) b.rest
    (sym (entries_here item interleaving owner.0.node.start.replica owner.2) ∙ h.2
    ∙ ap (λ (es : List JournalEntry). es ++ owner.0.journal) none ∙ b.journal) in
    let w = linked [] item interleaving b.op refl (ap (λ (e : JournalEntry). e.event) same ∙ b.event) in
    absurd w.1
