use Rattle.std.specs.List.{slice_get}
use Rattle.std.specs.Option.{option_to_list}
use Rattle.std.proofs.Common.{◌≡◌, ◌⊎◌, inl, inr, ℕ, zero, suc, ◌<◌, nat_eq, Bool, true, false, cond, ◌&&◌, ◌||◌, Option, Some, None, List, [], ◌∷◌, ◌++◌, length, map, get_or, refl, sym, ap, ◌∙◌, subst, arith}
use Rattle.std.proofs.lemmas.Bool.{cases_Bool, eq-eqb, eqb-true, false≢true, or_cases}
use Rattle.tags_clocks.specs.declared.id.OpId.{OpId}
use Rattle.merge_laws.specs.Orders.{IsIn}
use Rattle.merge_laws.proofs.Lists.{in_back, in_front}
use Rattle.mailbox_rows.specs.declared.entry.ListingEntry.{ListingEntry}
use Rattle.mailbox_rows.specs.ListingEntries.{IsAt, Lacks}
use Rattle.crdt_ops.specs.declared.op.Op.{Op}
use Rattle.crdt_ops.specs.SortedSets.{is_some_id, same_id}
use Rattle.crdt_ops.specs.Tags.{removed_ids}
use Rattle.mailbox_rows.specs.ListedMessage.{ListedMessage}
use Rattle.mailbox_rows.specs.RowViews.{row_of}
use Rattle.uid_projection.specs.UidsAndModSeqs.{kind_names_folder}
use Rattle.uid_projection.specs.EntryMoves.{AreApart, added_origin, loses}
use Rattle.uid_projection.specs.TouchedMessages.{AddsUids, names_message}
use Rattle.uid_projection.proofs.EntryMovesLemmas.{same_own, same_true}

-- ---- the row with a UID

same_row : (a b : ListedMessage) → ◌≡◌ {A = Option ListedMessage} (Some a) (Some b) → a ≡ b
same_row a b h = cc

pub row_cases : (o : Option ListedMessage) → (o ≡ None) ⊎ ((r : ListedMessage) × (o ≡ Some r))
row_cases None = inl refl
row_cases (Some r) = inr (r, refl)

-- it is a row, with this UID
pub row_of_some : (uid : ℕ) (rows : List ListedMessage) (r : ListedMessage) → row_of uid rows ≡ Some r → IsIn r rows × (r.uid ≡ uid)
row_of_some uid [] r h = absurd cc
row_of_some uid (x ∷ rows) r h =
    elim (cases_Bool (nat_eq x.uid uid)) [
      | inl t ↦
          let e : x ≡ r = same_row x r (sym (ap (λ b. cond {A = Option ListedMessage} b (Some x) (row_of uid rows)) t) ∙ h) in
          (inl e, subst (λ (y : ListedMessage). y.uid ≡ uid) e (eqb-true x.uid uid t))
      | inr f ↦
          let w = row_of_some uid rows r (sym (ap (λ b. cond {A = Option ListedMessage} b (Some x) (row_of uid rows)) f) ∙ h) in
          (inr w.0, w.1)
    ]

-- the only row with the UID is the result
pub row_here : (uid : ℕ) (rows : List ListedMessage) (r : ListedMessage) → IsIn r rows → r.uid ≡ uid → ((x : ListedMessage) → IsIn x rows → x.uid ≡ uid → x ≡ r) → row_of uid rows ≡ Some r
row_here uid [] r i e one = absurd i
row_here uid (x ∷ rows) r i e one =
    elim (cases_Bool (nat_eq x.uid uid)) [
      | inl t ↦ rw t (λ k. Some (one x (inl refl) (eqb-true x.uid uid t) k))
      | inr f ↦ elim i [
        | inl s ↦ absurd (false≢true (sym f ∙ eq-eqb x.uid uid (ap (λ (y : ListedMessage). y.uid) s ∙ e)))
        | inr j ↦ rw f (row_here uid rows r j e (λ y k. one y (inr k)))
      ]
    ]

-- if no row has the UID, there is no result
pub row_none : (uid : ℕ) (rows : List ListedMessage) → ((x : ListedMessage) → IsIn x rows → x.uid ≡ uid → ⊥) → row_of uid rows ≡ None
row_none uid [] h = refl
row_none uid (x ∷ rows) h =
    elim (cases_Bool (nat_eq x.uid uid)) [
      | inl t ↦ absurd (h x (inl refl) (eqb-true x.uid uid t))
      | inr f ↦ rw f (row_none uid rows (λ y i. h y (inr i)))
    ]

-- ---- UIDs of named entries

pub adds_none : (p : OpId → Bool) (es : List ListingEntry) (us : List ℕ) → ((g : OpId) → p g ≡ false) → AddsUids p es us us
adds_none p es us none = record { retained = λ u i. i; named = λ a e i t. absurd (false≢true (sym (none e.origin) ∙ t)) }

pub adds_alike : (p q : OpId → Bool) (es : List ListingEntry) (old new : List ℕ) → ((g : OpId) → p g ≡ q g) → AddsUids p es old new → AddsUids q es old new
adds_alike p q es old new h r = record { retained = r.retained; named = λ a e i t. r.named a e i (h e.origin ∙ t) }

-- an entry that is named already
pub adds_covered : (p : OpId → Bool) (o : OpId) (es : List ListingEntry) (a b : List ℕ) → p o ≡ true → AddsUids p es a b → AddsUids (λ g. p g || is_some_id g (Some o)) es a b
adds_covered p o es a b h r = record {
  retained = r.retained;
  named = λ apart e i t. elim (or_cases (p e.origin) (is_some_id e.origin (Some o)) t) [
    | inl x ↦ r.named apart e i x
    | inr x ↦ r.named apart e i (subst (λ g. p g ≡ true) (sym (same_true e.origin o x)) h)
  ];
}

pub adds_both : (p q : OpId → Bool) (es : List ListingEntry) (a b c : List ℕ) → AddsUids p es a b → AddsUids q es b c → AddsUids (λ g. p g || q g) es a c
adds_both p q es a b c r s = record {
  retained = λ u i. s.retained u (r.retained u i);
  named = λ apart e i t. elim (or_cases (p e.origin) (q e.origin) t) [
    | inl x ↦ s.retained e.uid (r.named apart e i x)
    | inr x ↦ s.named apart e i x
  ];
}

lacks_in : (g : OpId) (es : List ListingEntry) (x : ListingEntry) → Lacks g es → IsIn x es → same_id g x.origin ≡ false
lacks_in g [] x l i = absurd i
lacks_in g (e ∷ es) x l i = elim i [ inl s ↦ subst (λ (y : ListingEntry). same_id g y.origin ≡ false) s l.0 | inr j ↦ lacks_in g es x l.1 j ]

same_entry : (g h : OpId) → g ≡ h → same_id g h ≡ true
same_entry g h e = subst (λ (j : OpId). same_id g j ≡ true) e (same_own g)

apart_one : (es : List ListingEntry) → AreApart es → (a b : ListingEntry) → IsIn a es → IsIn b es → a.origin ≡ b.origin → a ≡ b
apart_one [] h a b i j e = absurd i
apart_one (x ∷ es) h a b i j e =
    elim i [
      | inl p ↦ elim j [
        | inl q ↦ sym p ∙ q
        | inr q ↦ absurd (false≢true (sym (lacks_in x.origin es b h.0 q) ∙ same_entry x.origin b.origin (ap (λ (y : ListingEntry). y.origin) p ∙ e)))
      ]
      | inr p ↦ elim j [
        | inl q ↦ absurd (false≢true (sym (lacks_in x.origin es a h.0 p) ∙ same_entry x.origin a.origin (ap (λ (y : ListingEntry). y.origin) q ∙ sym e)))
        | inr q ↦ apart_one es h.1 a b p q e
      ]
    ]

entry_at : (es : List ListingEntry) (at : ℕ) → at < length es → (x : ListingEntry) × (slice_get es at ≡ Some x) × IsIn x es × ((d : ListingEntry) → get_or es at d ≡ x)
entry_at [] at l = absurd (omega (arith, l))
entry_at (e ∷ es) zero l = (e, refl, inl refl, λ d. refl)
entry_at (e ∷ es) (suc n) l = let w = entry_at es n (omega (arith, l)) in (w.0, w.1, inr w.2, w.3)

-- the entry of an origin
pub adds_entry : (g : OpId) (es : List ListingEntry) (at : ℕ) (old new : List ℕ) → IsAt g es at → new ≡ old ++ map (λ (e : ListingEntry). e.uid) (option_to_list (slice_get es at)) → AddsUids (λ h. is_some_id h (Some g)) es old new
adds_entry g es at old new is add =
    let w = entry_at es at is.within in
    let whole : new ≡ old ++ w.0.uid ∷ [] = add ∙ ap (λ o. old ++ map (λ (e : ListingEntry). e.uid) (option_to_list o)) w.1 in
    record {
      retained = λ u i. subst (IsIn u) (sym whole) (in_front u old (w.0.uid ∷ []) i);
      named = λ apart e i t.
          let own : w.0.origin ≡ g = sym (ap (λ (y : ListingEntry). y.origin) (w.3 e)) ∙ is.has_origin e in
          let one : w.0 ≡ e = apart_one es apart w.0 e w.2 i (own ∙ sym (same_true e.origin g t)) in
          subst (IsIn e.uid) (sym whole) (in_back e.uid old (w.0.uid ∷ []) (inl (ap (λ (y : ListingEntry). y.uid) one)));
    }

-- an origin without an entry
pub adds_lacking : (g : OpId) (es : List ListingEntry) (us : List ℕ) → Lacks g es → AddsUids (λ h. is_some_id h (Some g)) es us us
adds_lacking g es us l = record {
  retained = λ u i. i;
  named = λ apart e i t. absurd (false≢true (sym (lacks_in g es e l i) ∙ same_entry g e.origin (sym (same_true e.origin g t))));
}

-- ---- the messages that an operation names

pub names_none : (f : OpId → Option OpId) (folder : List ℕ) (op : Op) → kind_names_folder folder op.kind ≡ false → (g : OpId) → names_message f folder g op ≡ false
names_none f folder op other g = ap (λ b. b && (loses f (removed_ids op.kind) g || is_some_id g (added_origin op))) other

pub names_both : (f : OpId → Option OpId) (folder : List ℕ) (op : Op) (ids : List OpId) (added : Option OpId) → kind_names_folder folder op.kind ≡ true → ids ≡ removed_ids op.kind → added ≡ added_origin op → (g : OpId) → (loses f ids g || is_some_id g added) ≡ names_message f folder g op
names_both f folder op ids added about is own g =
    (λ k. loses f (is k) g || is_some_id g (own k))
    ∙ sym (ap (λ b. b && (loses f (removed_ids op.kind) g || is_some_id g (added_origin op))) about)
