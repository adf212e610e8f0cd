use Rattle.std.specs.Option.{unwrap_or}
use Rattle.std.specs.Str.{bytes_eq}
use Rattle.std.proofs.Common.{◌≡◌, ◌≢◌, ◌⊎◌, inl, inr, ℕ, ◌+◌, ◌*◌, ◌<◌, ◌≤◌, Bool, true, List, [], ◌∷◌, ◌++◌, Option, Some, None, append_assoc, append-nil, refl, sym, ap, ◌∙◌, subst, arith, eq-eqb, if◌then◌else◌}
use Rattle.std.proofs.lemmas.Bool.{cases_Bool}
use Rattle.std.proofs.lemmas.Bool.Decides.{eqb_tells}
use Rattle.crdt_ops.specs.declared.op.Op.{Op}
use Rattle.imap_types.specs.Names.{inbox}
use Rattle.mailbox_rows.specs.ListedMessage.{ListedMessage}
use Rattle.merge_laws.specs.Orders.{IsIn}
use Rattle.session_view.specs.ViewState.{ViewState, rows_under}
use Rattle.session_view.specs.declared.view_entry.ViewEntry.{ViewEntry}
use Rattle.uid_projection.specs.declared.first_numbers.Counters.{Counters}
use Rattle.uid_projection.specs.Applied.{IsApplied}
use Rattle.uid_projection.specs.Incarnations.{folder_exists, k_of, uidvalidity_of}
use Rattle.uid_projection.specs.UidsAndModSeqs.{uidnext_of}
use Rattle.uid_projection.specs.Listing.{listing}
use Rattle.uid_projection.proofs.ForGoodLemmas.{apart, for_good}
use Rattle.uid_projection.proofs.CounterLemmas.{Stays, stays_by_uidvalidity}
use Rattle.uid_projection.proofs.SortedRowLemmas.{row_in}
use Rattle.uid_projection.proofs.NextOpLemmas.{validity_inbox, validity_present}
use Rattle.uid_projection.proofs.Steps.{k_here}
use Rattle.session_view.specs.NoteChanges.{uids_of}
use Rattle.imap_node.specs.OlderViews.{IsOlderView}
use Rattle.imap_node.specs.Mailboxes.{rows_for, validity_of}
use Rattle.imap_node.proofs.UidLemmas.{IsKnown}

-- ---- UIDVALIDITY during an incarnation

stays_now : (start : Counters) (folder : List ℕ) (more ops : List Op) → Stays start folder ops more → folder_exists folder ops ≡ true
stays_now start folder [] ops s = s
stays_now start folder (o ∷ more) ops s = s.0

validity_once : (start : Counters) (folder : List ℕ) (ops : List Op) (o : Op) → folder_exists folder ops ≡ true → folder_exists folder (ops ++ o ∷ []) ≡ true → uidvalidity_of start folder ops ≡ uidvalidity_of start folder (ops ++ o ∷ [])
validity_once start folder ops o t u =
    elim (cases_Bool (bytes_eq folder inbox)) [
      | inl own ↦ sym (validity_inbox start ops folder own) ∙ validity_inbox start (ops ++ o ∷ []) folder own
      | inr other ↦ sym (validity_present start ops folder other t (k_of start folder ops) refl) ∙ validity_present start (ops ++ o ∷ []) folder other u (k_of start folder ops) (sym (k_here start folder ops o u))
    ]

validity_stays : (start : Counters) (folder : List ℕ) (back more ops : List Op) → Stays start folder ops (back ++ more) → uidvalidity_of start folder ops ≡ uidvalidity_of start folder (ops ++ back)
validity_stays start folder [] more ops s = ap (uidvalidity_of start folder) (sym (append-nil ops))
validity_stays start folder (o ∷ back) more ops s =
    validity_once start folder ops o s.0 (stays_now start folder (back ++ more) (ops ++ o ∷ []) s.1)
    ∙ validity_stays start folder back more (ops ++ o ∷ []) s.1
    ∙ ap (uidvalidity_of start folder) (append_assoc ops (o ∷ []) back)

-- UIDVALIDITY is the same at any two moments of one incarnation
validity_between : (start : Counters) (folder : List ℕ) (front back more : List Op) (v : ℕ) → IsApplied ((front ++ back) ++ more) → uidvalidity_of start folder front ≡ Some v → uidvalidity_of start folder ((front ++ back) ++ more) ≡ Some v
    → uidvalidity_of start folder (front ++ back) ≡ Some v
validity_between start folder front back more v a t e =
    let whole : (front ++ back) ++ more ≡ front ++ (back ++ more) = append_assoc front back more in
    let s = stays_by_uidvalidity start folder front (back ++ more) v (subst IsApplied whole a) t (subst (λ (os : List Op). uidvalidity_of start folder os ≡ Some v) whole e) in
    sym (validity_stays start folder back more front s) ∙ t

-- an existing mailbox has a UIDVALIDITY
pub validity_is : (start : Counters) (name : List ℕ) (ops : List Op) → folder_exists name ops ≡ true → uidvalidity_of start name ops ≡ Some (validity_of start name ops)
validity_is start name ops t =
    elim (cases_Bool (bytes_eq name inbox)) [
      | inl own ↦ some_own (uidvalidity_of start name ops) start.replica (sym (validity_inbox start ops name own))
      | inr other ↦ some_own (uidvalidity_of start name ops) (65536 * k_of start name ops + start.replica) (sym (validity_present start ops name other t (k_of start name ops) refl))
    ]
  where
    some_own : (o : Option ℕ) (v : ℕ) → o ≡ Some v → o ≡ Some (unwrap_or o 0)
    some_own None v e = let k : ◌≡◌ {A = Option ℕ} None (Some v) = e in cc
    some_own (Some u) v e = refl

-- ---- an older view, after further operations

pub older_view_append : (start : Counters) (ops more : List Op) (view : ViewState) → IsApplied (ops ++ more) → IsOlderView start ops view → IsOlderView start (ops ++ more) view
older_view_append start ops more view a g =
    let still : uidvalidity_of start view.name (ops ++ more) ≡ Some view.uidvalidity → uidvalidity_of start view.name ops ≡ Some view.uidvalidity = λ e.
    subst (λ (os : List Op). uidvalidity_of start view.name os ≡ Some view.uidvalidity) (sym g.split)
    (validity_between start view.name g.front g.back more view.uidvalidity (subst (λ (os : List Op). IsApplied (os ++ more)) g.split a) g.exists
    (subst (λ (os : List Op). uidvalidity_of start view.name (os ++ more) ≡ Some view.uidvalidity) g.split e)) in
    record {
      front = g.front;
      back = g.back ++ more;
      split = ap (λ (os : List Op). os ++ more) g.split ∙ append_assoc g.front g.back more;
      exists = g.exists;
      has = λ e. g.has (still e);
      below = λ e. g.below (still e);
    }

-- whether a view is an older one depends only on its UIDs
pub older_by_uids : (start : Counters) (ops : List Op) (view : ViewState) (es : List ViewEntry) → uids_of es ≡ uids_of view.entries → IsOlderView start ops view → IsOlderView start ops (record view { entries = es })
older_by_uids start ops view es u g = record {
  front = g.front;
  back = g.back;
  split = g.split;
  exists = g.exists;
  has = λ e row i. subst (IsIn row.uid) (sym u) (g.has e row i);
  below = λ e uid i. g.below e uid (subst (IsIn uid) u i);
}

-- ---- messages that such a view lacks were added after its moment

listed_or_not : (uid : ℕ) (rows : List ListedMessage) → ((a : ListedMessage) × IsIn a rows × (a.uid ≡ uid)) ⊎ ((a : ListedMessage) → IsIn a rows → a.uid ≢ uid)
listed_or_not uid [] = inr (λ a i. absurd i)
listed_or_not uid (row ∷ rows) =
    elim (eqb_tells row.uid uid) [
      | inl t ↦ inl (row, inl refl, t.1)
      | inr f ↦ elim (listed_or_not uid rows) [
        | inl w ↦ inl (w.0, inr w.1, w.2)
        | inr none ↦ inr (λ a i. elim i [ inl e ↦ subst (λ (x : ListedMessage). x.uid ≢ uid) e f.1 | inr t ↦ none a t ])
      ]
    ]

known_since : (start : Counters) (folder : List ℕ) (front back : List Op) (v : ℕ) (uids : List ℕ) → IsApplied (front ++ back) → uidvalidity_of start folder front ≡ Some v → uidvalidity_of start folder (front ++ back) ≡ Some v
    → ((row : ListedMessage) → IsIn row (listing start folder front) → IsIn row.uid uids) → ((uid : ℕ) → IsIn uid uids → uid < uidnext_of start folder front)
    → (row : ListedMessage) → IsIn row (listing start folder (front ++ back)) → IsKnown uids row.uid
known_since start folder front back v uids a t e has below row i =
    let good = for_good start folder front back v a t e in
    elim (listed_or_not row.uid (listing start folder front)) [
      | inl w ↦ inl (subst (λ (u : ℕ). IsIn u uids) w.2 (has w.0 w.1))
      | inr none ↦ let from = (good.fresh row i none).0 in inr (λ uid j. let l = below uid j in omega (arith, l, from))
    ]

pub listed_known : (start : Counters) (ops : List Op) (view : ViewState) → IsApplied ops → IsOlderView start ops view → uidvalidity_of start view.name ops ≡ Some view.uidvalidity → (row : ListedMessage) → IsIn row (listing start view.name ops) → IsKnown (uids_of view.entries) row.uid
listed_known start ops view a g e =
    subst (λ (os : List Op). (row : ListedMessage) → IsIn row (listing start view.name os) → IsKnown (uids_of view.entries) row.uid) (sym g.split)
    (known_since start view.name g.front g.back view.uidvalidity (uids_of view.entries) (subst IsApplied g.split a) g.exists (subst (λ (os : List Op). uidvalidity_of start view.name os ≡ Some view.uidvalidity) g.split e) (g.has e) (g.below e))

-- UIDNEXT is no less than at the view's moment
pub next_grown : (start : Counters) (ops : List Op) (view : ViewState) → IsApplied ops → (g : IsOlderView start ops view) → uidvalidity_of start view.name ops ≡ Some view.uidvalidity → uidnext_of start view.name g.front ≤ uidnext_of start view.name ops
next_grown start ops view a g e =
    subst (λ (os : List Op). uidnext_of start view.name g.front ≤ uidnext_of start view.name os) (sym g.split)
    (for_good start view.name g.front g.back view.uidvalidity (subst IsApplied g.split a) g.exists (subst (λ (os : List Op). uidvalidity_of start view.name os ≡ Some view.uidvalidity) g.split e)).uidnext

-- ---- a view that is brought up to date

pub row_below : (start : Counters) (folder : List ℕ) (ops : List Op) (row : ListedMessage) → IsApplied ops → IsIn row (listing start folder ops) → row.uid < uidnext_of start folder ops
row_below start folder ops row a i =
    let w = row_in start folder ops row i in
    subst (λ (r : ListedMessage). r.uid < uidnext_of start folder ops) w.2 ((apart start folder ops a).below w.0 w.1)

pub is_or_not : (o : Option ℕ) (v : ℕ) → (o ≡ Some v) ⊎ ((o ≡ Some v) → ⊥)
is_or_not None v = inr (λ e. let k : ◌≡◌ {A = Option ℕ} None (Some v) = e in cc)
is_or_not (Some u) v =
    elim (eqb_tells u v) [
      | inl t ↦ inl (ap (λ (n : ℕ). Some n) t.1)
      | inr f ↦ inr (λ e. f.1 (let same : u ≡ v = cc in same))
    ]

-- the rows for a view of the current incarnation are its mailbox's listing
pub rows_are : (start : Counters) (ops : List Op) (view : ViewState) → uidvalidity_of start view.name ops ≡ Some view.uidvalidity → rows_for start ops view ≡ listing start view.name ops
rows_are start ops view e =
    ap (λ (now : Option ℕ). rows_under view.uidvalidity now (listing start view.name ops)) e
    ∙ ap (λ (b : Bool). if b then listing start view.name ops else []) (eq-eqb view.uidvalidity view.uidvalidity refl)

pub older_with_entries : (start : Counters) (ops : List Op) (view : ViewState) (es : List ViewEntry) → IsOlderView start ops view
    → (uidvalidity_of start view.name ops ≡ Some view.uidvalidity → (row : ListedMessage) → IsIn row (listing start view.name ops) → IsIn row.uid (uids_of es))
    → (uidvalidity_of start view.name ops ≡ Some view.uidvalidity → (uid : ℕ) → IsIn uid (uids_of es) → uid < uidnext_of start view.name ops)
    → IsOlderView start ops (record view { entries = es })
older_with_entries start ops view es g has below =
    elim (is_or_not (uidvalidity_of start view.name ops) view.uidvalidity) [
      | inl e ↦ record { front = ops; back = []; split = sym (append-nil ops); exists = e; has = has; below = below }
      | inr ended ↦ record { front = g.front; back = g.back; split = g.split; exists = g.exists; has = λ e. absurd (ended e); below = λ e. absurd (ended e) }
    ]
