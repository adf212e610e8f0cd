use Rattle.std.specs.Str.{bytes_eq}
use Rattle.std.specs.List.{filter, list_any}
use Rattle.std.specs.Option.{option_map}
use Rattle.std.proofs.lemmas.Slice.Eq.{bytes_eq-Decides}
use Rattle.std.proofs.Common.{◌≡◌, ◌↔◌, ◌⊎◌, inl, inr, ℕ, ◌+◌, ◌-◌, ◌<◌, ◌≤◌, Bool, true, false, cond, not, ◌&&◌, ◌||◌, List, [], ◌∷◌, ◌++◌, length, map, Option, Some, None, nat_lt, nat_eq, if◌then◌else◌, refl, sym, ap, ◌∙◌, subst, append_assoc, append-nil, arith}
use Rattle.std.proofs.lemmas.Bool.{and_from, and_parts, cases_Bool, false≢true, false_from_ne_true}
use Rattle.std.proofs.lemmas.Bool.Decides.{nat_tests}
use Rattle.imap_answers.specs.Printable.{Each, IfPresent}
use Rattle.mailbox_rows.specs.ListedMessage.{ListedMessage}
use Rattle.mailbox_rows.specs.RowViews.{AreRisingRows, rows_after_uid, row_of}
use Rattle.merge_laws.specs.Orders.{IsIn}
use Rattle.tags_clocks.proofs.Decide.{ids_decide}
use Rattle.tags_clocks.specs.declared.id.OpId.{OpId}
use Rattle.crdt_ops.proofs.Members.{in_filter, in_map}
use Rattle.crdt_ops.proofs.Presence.{Has}
use Rattle.crdt_ops.specs.declared.kind.Kind.{Kind}
use Rattle.crdt_ops.specs.declared.kind.Kind.TheVariants as kinds
use Rattle.crdt_ops.specs.declared.op.Op.{Op}
use Rattle.crdt_ops.specs.Meanings.{IsVersion}
use Rattle.crdt_ops.specs.SortedSets.{same_id}
use Rattle.crdt_ops.specs.Sets.{MessageTagData, tag_data_by}
use Rattle.crdt_ops.specs.TagLaws.{adds_own, same_id_is}
use Rattle.crdt_ops.specs.Tags.{MessageTag, tag_added_by, adds, is_some_tag, tags_removed_by, removes, same_tag}
use Rattle.imap_commands.specs.CopyCommand.{append_of, appends_of, expunge_of_moved, expunges_of_moved}
use Rattle.imap_commands.specs.MessageNames.{name_at, existing_messages}
use Rattle.imap_commands.specs.Arguments.{OpenMailbox}
use Rattle.imap_commands.specs.Printing.{HasAllCopies}
use Rattle.imap_commands.specs.Report.{entry_at, is_gone, message_at, row_for}
use Rattle.imap_commands.proofs.PrintSelectLemmas.{each_append, each_in}
use Rattle.session_view.specs.Sets.{numbers_in_set}
use Rattle.session_view.specs.declared.view_entry.ViewEntry.{ViewEntry}
use Rattle.uid_projection.specs.declared.first_numbers.Counters.{Counters}
use Rattle.uid_projection.specs.Applied.{IsApplied}
use Rattle.uid_projection.specs.Incarnations.{folder_exists}
use Rattle.uid_projection.specs.UidsAndModSeqs.{kind_names_folder, has_version, origin_added, uid_of, uidnext_of}
use Rattle.uid_projection.specs.Listing.{listed_message_of, listing}
use Rattle.uid_projection.proofs.HistoryLemmas.{once}
use Rattle.uid_projection.proofs.ForGoodLemmas.{apart}
use Rattle.uid_projection.proofs.SortedRowLemmas.{row_from, row_in}
use Rattle.uid_projection.proofs.Presence.{adds_about, applied_front, removed_about}
use Rattle.uid_projection.proofs.Steps.{uid_unchanged, uid_new, uidnext_here}
use Rattle.uid_projection.proofs.Versions.{starts_added, origin_applied, origin_new, version_cases, version_in, version_remains}
use Rattle.imap_node.proofs.ExistingFolderLemmas.{IsNoDelete, added_present, exists_after_one, mapped_in}
use Rattle.imap_node.specs.Mailboxes.{copy_target_in}
use Rattle.crdt_ops.specs.Ops.{id_of}
use Rattle.imap_syntax.specs.declared.arguments.Transfer.{Transfer}

-- ---- operations that copy

-- an operation appends a message to the folder
abbrev pub appends_message_to : List ℕ → Kind → Bool
appends_message_to folder (kinds.Append name flags date text) = bytes_eq folder name
appends_message_to folder _ = false

-- each of the ids is that of an operation in `before`
abbrev pub HasAll : List Op → List OpId → Type 0
HasAll before ids = (i : OpId) → IsIn i ids → Has before i

-- an operation appends a message, or expunges versions with ids of operations in `before`
abbrev pub IsCopying : List Op → Kind → Type 0
IsCopying before (kinds.Append name flags date text) = Unit {0}
IsCopying before (kinds.Expunge name old_ids) = HasAll before old_ids
IsCopying before _ = ⊥

copying_stays : (before : List Op) (kind : Kind) → IsCopying before kind → IsNoDelete kind
copying_stays before (kinds.Create name) h = tt
copying_stays before (kinds.Delete name seen) h = absurd h
copying_stays before (kinds.Append name flags date text) h = tt
copying_stays before (kinds.Expunge name old_ids) h = tt
copying_stays before (kinds.Store name flags old_ids origin) h = tt
copying_stays before (kinds.Subscribe name) h = tt
copying_stays before (kinds.Unsubscribe name seen) h = tt

elsewhere : (folder : List ℕ) (kind : Kind) → kind_names_folder folder kind ≡ false → appends_message_to folder kind ≡ false
elsewhere folder (kinds.Create name) h = refl
elsewhere folder (kinds.Delete name seen) h = refl
elsewhere folder (kinds.Append name flags date text) h = h
elsewhere folder (kinds.Expunge name old_ids) h = refl
elsewhere folder (kinds.Store name flags old_ids origin) h = refl
elsewhere folder (kinds.Subscribe name) h = refl
elsewhere folder (kinds.Unsubscribe name seen) h = refl

-- an Append to the folder
record Puts (folder : List ℕ) (id : OpId) (kind : Kind) : Type 0 where
  counted : appends_message_to folder kind ≡ true
  own : is_some_tag (MessageTag folder id) (tag_added_by id kind) ≡ true
  origin : option_map (λ (b : MessageTagData). b.origin) (tag_data_by id kind) ≡ Some id
  keeps : (i : OpId) → list_any (same_tag (MessageTag folder i)) (tags_removed_by kind) ≡ false

-- an Expunge in the folder
record Takes (before : List Op) (folder : List ℕ) (id : OpId) (kind : Kind) : Type 0 where
  counted : appends_message_to folder kind ≡ false
  adds_none : (i : OpId) → is_some_tag (MessageTag folder i) (tag_added_by id kind) ≡ false
  earlier : (i : OpId) → list_any (same_tag (MessageTag folder i)) (tags_removed_by kind) ≡ true → Has before i

or_parts : (a b : Bool) → (a || b) ≡ true → (a ≡ true) ⊎ (b ≡ true)
or_parts true b h = inl refl
or_parts false b h = inr h

-- a message tag that an Expunge of these ids removes has one of them
removed_in : (folder name : List ℕ) (i : OpId) (old_ids : List OpId) → list_any (same_tag (MessageTag folder i)) (map (MessageTag name) old_ids) ≡ true → IsIn i old_ids
removed_in folder name i [] h = absurd (false≢true h)
removed_in folder name i (old ∷ old_ids) h =
    elim (or_parts (bytes_eq folder name && same_id i old) (list_any (same_tag (MessageTag folder i)) (map (MessageTag name) old_ids)) h) [
      | inl t ↦ inl (sym (same_id_is i old (and_parts (bytes_eq folder name) (same_id i old) t).1))
      | inr t ↦ inr (removed_in folder name i old_ids t)
    ]

parts_of : (before : List Op) (folder : List ℕ) (id : OpId) (kind : Kind) → IsCopying before kind → kind_names_folder folder kind ≡ true → Puts folder id kind ⊎ Takes before folder id kind
parts_of before folder id (kinds.Create name) h c = absurd h
parts_of before folder id (kinds.Delete name seen) h c = absurd h
parts_of before folder id (kinds.Append name flags date text) h c =
    inl (record { counted = c; own = and_from (bytes_eq folder name) (same_id id id) c ((ids_decide id id).1 refl); origin = refl; keeps = λ i. refl })
parts_of before folder id (kinds.Expunge name old_ids) h c =
    inr (record { counted = refl; adds_none = λ i. refl; earlier = λ i r. h i (removed_in folder name i old_ids r) })
parts_of before folder id (kinds.Store name flags old_ids origin) h c = absurd h
parts_of before folder id (kinds.Subscribe name) h c = absurd h
parts_of before folder id (kinds.Unsubscribe name seen) h c = absurd h

-- ---- counts

length_filter_cons : {X : Type 0} (test : X → Bool) (x : X) (xs : List X) → length (filter test (x ∷ xs)) ≡ once (test x) + length (filter test xs)
length_filter_cons test x xs = elim (cases_Bool (test x)) [ inl t ↦ rw t (omega arith) | inr f ↦ rw f (omega arith) ]

pub length_filter_append : {X : Type 0} (test : X → Bool) (xs ys : List X) → length (filter test (xs ++ ys)) ≡ length (filter test xs) + length (filter test ys)
length_filter_append test [] ys = omega arith
length_filter_append test (x ∷ xs) ys =
    let a = length_filter_cons test x (xs ++ ys) in
    let b = length_filter_cons test x xs in
    let c = length_filter_append test xs ys in
    omega (arith, a, b, c)

-- ---- ascending lists

-- the keys ascend strictly, and the first is at least `low`
abbrev Rises : {X : Type 0} → (X → ℕ) → ℕ → List X → Type 0
Rises key low [] = Unit {0}
Rises key low (x ∷ xs) = (low ≤ key x) × Rises key (key x + 1) xs

rises_lower : {X : Type 0} (key : X → ℕ) (low high : ℕ) (xs : List X) → low ≤ high → Rises key high xs → Rises key low xs
rises_lower key low high [] l h = tt
rises_lower key low high (x ∷ xs) l h = let first : high ≤ key x = h.0 in (omega (arith, l, first), h.1)

rises_end : {X : Type 0} (key : X → ℕ) (low : ℕ) (y : X) (xs : List X) → low ≤ key y → ((x : X) → IsIn x xs → key x < key y) → Rises key low xs → Rises key low (xs ++ y ∷ [])
rises_end key low y [] l b h = (l, tt)
rises_end key low y (x ∷ xs) l b h = let k : key x < key y = b x (inl refl) in (h.0, rises_end key (key x + 1) y xs (omega (arith, k)) (λ z i. b z (inr i)) h.1)

-- keys that equal ascending ones ascend too
rises_same : {X : Type 0} (f g : X → ℕ) (low : ℕ) (xs : List X) → ((x : X) → IsIn x xs → f x ≡ g x) → Rises f low xs → Rises g low xs
rises_same f g low [] e h = tt
rises_same f g low (x ∷ xs) e h =
    let same : f x ≡ g x = e x (inl refl) in
    let first : low ≤ f x = h.0 in
    (omega (arith, same, first), subst (λ (k : ℕ). Rises g (k + 1) xs) same (rises_same f g (f x + 1) xs (λ y i. e y (inr i)) h.1))

rises_from : {X : Type 0} (key : X → ℕ) (low : ℕ) (y : X) (xs : List X) → Rises key low xs → IsIn y xs → low ≤ key y
rises_from key low y [] h i = absurd i
rises_from key low y (x ∷ xs) h i =
    let first : low ≤ key x = h.0 in
    elim i [
      | inl e ↦ let same : key x ≡ key y = ap key e in omega (arith, first, same)
      | inr t ↦ let rest : key x + 1 ≤ key y = rises_from key (key x + 1) y xs h.1 t in omega (arith, first, rest)
    ]

first_same : {X : Type 0} (key : X → ℕ) (x y : X) (xs ys : List X) → Rises key (key x + 1) xs → Rises key (key y + 1) ys → IsIn x (y ∷ ys) → IsIn y (x ∷ xs) → x ≡ y
first_same key x y xs ys g h i j =
    elim i [
      | inl e ↦ sym e
      | inr s ↦ elim j [
        | inl e ↦ e
        | inr t ↦
            let a : key y + 1 ≤ key x = rises_from key (key y + 1) x ys h s in
            let b : key x + 1 ≤ key y = rises_from key (key x + 1) y xs g t in
            absurd (omega (arith, a, b))
      ]
    ]

in_tail : {X : Type 0} (key : X → ℕ) (x y : X) (ys : List X) → IsIn x (y ∷ ys) → key y < key x → IsIn x ys
in_tail key x y ys i l = elim i [ inl e ↦ let same : key y ≡ key x = ap key e in absurd (omega (arith, same, l)) | inr t ↦ t ]

-- two ascending lists with the same elements are equal
same_rising : {X : Type 0} (key : X → ℕ) (low high : ℕ) (xs ys : List X) → Rises key low xs → Rises key high ys → ((z : X) → IsIn z xs ↔ IsIn z ys) → xs ≡ ys
same_rising key low high [] [] g h e = refl
same_rising key low high [] (y ∷ ys) g h e = absurd ((e y).1 (inl refl))
same_rising key low high (x ∷ xs) [] g h e = absurd ((e x).0 (inl refl))
same_rising key low high (x ∷ xs) (y ∷ ys) g h e =
    let first : x ≡ y = first_same key x y xs ys g.1 h.1 ((e x).0 (inl refl)) ((e y).1 (inl refl)) in
    let same : key x ≡ key y = ap key first in
    let rest : xs ≡ ys = same_rising key (key x + 1) (key y + 1) xs ys g.1 h.1 (λ z. (
      λ i. let l : key x + 1 ≤ key z = rises_from key (key x + 1) z xs g.1 i in in_tail key z y ys ((e z).0 (inr i)) (omega (arith, l, same)),
      λ i. let l : key y + 1 ≤ key z = rises_from key (key y + 1) z ys h.1 i in in_tail key z x xs ((e z).1 (inr i)) (omega (arith, l, same)),
    )) in
    λ i. first i ∷ rest i

in_end : {X : Type 0} (x y : X) (xs : List X) → IsIn x (xs ++ y ∷ []) → IsIn x xs ⊎ (y ≡ x)
in_end x y [] i = elim i [ inl e ↦ inr e | inr n ↦ absurd n ]
in_end x y (z ∷ xs) i = elim i [ inl e ↦ inl (inl e) | inr t ↦ elim (in_end x y xs t) [ inl j ↦ inl (inr j) | inr e ↦ inr e ] ]

in_front : {X : Type 0} (x y : X) (xs : List X) → IsIn x xs → IsIn x (xs ++ y ∷ [])
in_front x y [] i = absurd i
in_front x y (z ∷ xs) i = elim i [ inl e ↦ inl e | inr t ↦ inr (in_front x y xs t) ]

at_end : {X : Type 0} (y : X) (xs : List X) → IsIn y (xs ++ y ∷ [])
at_end y [] = inl refl
at_end y (z ∷ xs) = inr (at_end y xs)

-- ---- the messages after operations that copy

-- the ids of those that append a message to the folder
abbrev pub added_origins : List ℕ → List Op → List OpId
added_origins folder ops = map id_of (filter (λ (o : Op). appends_message_to folder o.kind) ops)

abbrev added_origins_by : Bool → OpId → List OpId
added_origins_by b id = if b then id ∷ [] else []

added_cons : (folder : List ℕ) (o : Op) (ops : List Op) → added_origins folder (o ∷ ops) ≡ added_origins_by (appends_message_to folder o.kind) o.id ++ added_origins folder ops
added_cons folder o ops = elim (cases_Bool (appends_message_to folder o.kind)) [ inl t ↦ rw t refl | inr f ↦ rw f refl ]

has_append : (i : OpId) (ops : List Op) (o : Op) → Has ops i → Has (ops ++ o ∷ []) i
has_append i [] o h = absurd h
has_append i (x ∷ ops) o h = elim h [ inl e ↦ inl e | inr t ↦ inr (has_append i ops o t) ]

and_not_true : (x y : Bool) → x ≡ true → y ≡ false → (x && not y) ≡ true
and_not_true true false p q = refl
and_not_true true true p q = absurd (false≢true (sym q))
and_not_true false y p q = absurd (false≢true p)

and_not_false : (x y : Bool) → y ≡ true → (x && not y) ≡ false
and_not_false true true q = refl
and_not_false true false q = absurd (false≢true q)
and_not_false false y q = refl

same_some : (i j : OpId) → ◌≡◌ {A = Option OpId} (Some i) (Some j) → i ≡ j
same_some i j h = cc

module _ (start : Counters) (folder : List ℕ) (before : List Op) (first : ℕ) where
  -- the message of this origin exists, with a UID of at least `first`
  abbrev IsAdded : List Op → OpId → Type 0
  IsAdded ops g = (has_version folder g ops ≡ true) × (first ≤ uid_of start folder ops g)

  -- these are the messages with UIDs from `first` on, in this order, and none of their versions has
  -- the id of an operation in `before`
  pub record AreAdded (ops : List Op) (origins : List OpId) : Type 0 where
    rises : Rises (uid_of start folder ops) first origins
    are : (g : OpId) → IsIn g origins ↔ IsAdded ops g
    new : (g i : OpId) → IsVersion ops folder g i → first ≤ uid_of start folder ops g → Has before i → ⊥
    next : first ≤ uidnext_of start folder ops

  module _ (ops : List Op) (o : Op) (a : IsApplied (ops ++ o ∷ [])) (earlier : (i : OpId) → Has before i → Has ops i) (t : folder_exists folder (ops ++ o ∷ []) ≡ true) where
    uid_stays : (g : OpId) → has_version folder g ops ≡ true → uid_of start folder (ops ++ o ∷ []) g ≡ uid_of start folder ops g
    uid_stays g b = uid_unchanged start folder ops o g t (and_not_false (has_version folder g (ops ++ o ∷ [])) (has_version folder g ops) b)

    fresh : Has ops o.id → ⊥
    fresh = (a.causal ops o [] refl).1

    -- a message stays, with its UID, if none of its versions is removed
    remains_added : (g : OpId) → ((i : OpId) → IsVersion ops folder g i → first ≤ uid_of start folder ops g → removes (MessageTag folder i) o ≡ false) → IsAdded ops g → IsAdded (ops ++ o ∷ []) g
    remains_added g stays w =
        let v = (version_in folder ops g).0 w.0 in (
          (version_in folder (ops ++ o ∷ []) g).1 (v.0, version_remains folder ops o a g v.0 v.1 (stays v.0 v.1 w.1)),
          subst (λ (k : ℕ). first ≤ k) (sym (uid_stays g w.0)) w.1,
        )

    added_before : (g : OpId) → has_version folder g ops ≡ true → IsAdded (ops ++ o ∷ []) g → IsAdded ops g
    added_before g b w = (b, subst (λ (k : ℕ). first ≤ k) (uid_stays g b) w.1)

    -- after the operation too, no version of these messages has the id of an operation in `before`
    new_still : ((g i : OpId) → IsVersion ops folder g i → first ≤ uid_of start folder ops g → Has before i → ⊥)
        → (g i : OpId) → IsVersion (ops ++ o ∷ []) folder g i → first ≤ uid_of start folder (ops ++ o ∷ []) g → Has before i → ⊥
    new_still new g i v from had =
        elim (version_cases folder ops o a g i v) [
          | inl w ↦ new g i w.0 (subst (λ (k : ℕ). first ≤ k) (uid_stays g ((version_in folder ops g).1 (i, w.0))) from) had
          | inr w ↦ fresh (earlier o.id (subst (Has before) (adds_own (MessageTag folder i) o w.0) had))
        ]

    rises_still : (origins : List OpId) → ((g : OpId) → IsIn g origins ↔ IsAdded ops g) → Rises (uid_of start folder ops) first origins → Rises (uid_of start folder (ops ++ o ∷ [])) first origins
    rises_still origins are r = rises_same (uid_of start folder ops) (uid_of start folder (ops ++ o ∷ [])) first origins (λ g i. sym (uid_stays g ((are g).0 i).0)) r

    -- an Append's message is its own origin
    put_origin : Puts folder o.id o.kind → origin_added folder o ≡ Some o.id
    put_origin puts = ap (option_map (λ (b : MessageTagData). b.origin)) (ap (λ (b : Bool). cond {A = Option MessageTagData} b (tag_data_by o.id o.kind) None) puts.own) ∙ puts.origin

    -- an Append adds one message, under UIDNEXT
    added_put : (origins : List OpId) → Puts folder o.id o.kind → AreAdded ops origins → AreAdded (ops ++ o ∷ []) (origins ++ o.id ∷ [])
    added_put origins puts l =
        let b = applied_front ops (o ∷ []) a in
        let next = l.next in
        let none : has_version folder o.id ops ≡ false = false_from_ne_true (has_version folder o.id ops) (λ h. fresh (origin_applied folder ops o.id b h)) in
        let exists : has_version folder o.id (ops ++ o ∷ []) ≡ true = (version_in folder (ops ++ o ∷ []) o.id).1 (o.id, (added_present ops o (MessageTag folder o.id) a puts.own, origin_new folder ops o a puts.own ∙ put_origin puts)) in
        let own : uid_of start folder (ops ++ o ∷ []) o.id ≡ uidnext_of start folder ops = uid_new start folder ops o o.id t (and_not_true (has_version folder o.id (ops ++ o ∷ [])) (has_version folder o.id ops) exists none) in
        let from : first ≤ uid_of start folder (ops ++ o ∷ []) o.id = subst (λ (k : ℕ). first ≤ k) (sym own) l.next in
        let up = uidnext_here start folder ops o t in
        record {
          rises = rises_end (uid_of start folder (ops ++ o ∷ [])) first o.id origins from (λ g i.
              let w = (l.are g).0 i in
              let under = (apart start folder ops b).below g w.0 in
              let same = uid_stays g w.0 in
              omega (arith, under, same, own))
              (rises_still origins l.are l.rises);
          are = λ g. (
            λ i. elim (in_end g o.id origins i) [
              | inl j ↦ remains_added g (λ i v from. puts.keeps i) ((l.are g).0 j)
              | inr e ↦ subst (λ (h : OpId). IsAdded (ops ++ o ∷ []) h) e (exists, from)
            ],
            λ w. elim (cases_Bool (has_version folder g ops)) [
              | inl h ↦ in_front g o.id origins ((l.are g).1 (added_before g h w))
              | inr f ↦ subst (λ (h : OpId). IsIn h (origins ++ o.id ∷ [])) (same_some o.id g (sym (put_origin puts) ∙ starts_added folder ops o a g (and_not_true (has_version folder g (ops ++ o ∷ [])) (has_version folder g ops) w.0 f))) (at_end o.id origins)
            ],
          );
          new = new_still l.new;
          next = omega (arith, next, up);
        }

    -- an operation that adds no message tag to the folder, and removes none of these messages'
    -- versions, leaves the messages as they are
    added_still : (origins : List OpId) → ((i : OpId) → adds (MessageTag folder i) o ≡ true → ⊥) → ((g i : OpId) → IsVersion ops folder g i → first ≤ uid_of start folder ops g → removes (MessageTag folder i) o ≡ false)
        → AreAdded ops origins → AreAdded (ops ++ o ∷ []) origins
    added_still origins adds_none keeps l =
        let next = l.next in
        let up = uidnext_here start folder ops o t in
        record {
          rises = rises_still origins l.are l.rises;
          are = λ g. (
            λ i. remains_added g (keeps g) ((l.are g).0 i),
            λ w.
                let v = (version_in folder (ops ++ o ∷ []) g).0 w.0 in
                elim (version_cases folder ops o a g v.0 v.1) [
                  | inl x ↦ (l.are g).1 (added_before g ((version_in folder ops g).1 (v.0, x.0)) w)
                  | inr x ↦ absurd (adds_none v.0 x.0)
                ],
          );
          new = new_still l.new;
          next = omega (arith, next, up);
        }

    none_added : (origins : List OpId) → appends_message_to folder o.kind ≡ false → AreAdded (ops ++ o ∷ []) origins → AreAdded (ops ++ o ∷ []) (origins ++ added_origins_by (appends_message_to folder o.kind) o.id)
    none_added origins f k = subst (λ (b : Bool). AreAdded (ops ++ o ∷ []) (origins ++ added_origins_by b o.id)) (sym f) (subst (AreAdded (ops ++ o ∷ [])) (sym (append-nil origins)) k)

    pub added_one : (origins : List OpId) → IsCopying before o.kind → AreAdded ops origins → AreAdded (ops ++ o ∷ []) (origins ++ added_origins_by (appends_message_to folder o.kind) o.id)
    added_one origins c l =
        elim (cases_Bool (kind_names_folder folder o.kind)) [
          | inl about ↦ elim (parts_of before folder o.id o.kind c about) [
            | inl puts ↦ subst (λ (b : Bool). AreAdded (ops ++ o ∷ []) (origins ++ added_origins_by b o.id)) (sym puts.counted) (added_put origins puts l)
            | inr takes ↦
                none_added origins takes.counted
                (added_still origins (λ i h. false≢true (sym (takes.adds_none i) ∙ h)) (λ g i v from. false_from_ne_true (removes (MessageTag folder i) o) (λ gone. l.new g i v from (takes.earlier i gone))) l)
          ]
          | inr other ↦
              none_added origins (elsewhere folder o.kind other)
              (added_still origins (λ i h. false≢true (sym other ∙ adds_about folder i o.id o.kind (inr h))) (λ g i v from. false_from_ne_true (removes (MessageTag folder i) o) (λ r. false≢true (sym other ∙ removed_about folder i o.kind (inr r)))) l)
        ]

  added_first : IsApplied before → first ≡ uidnext_of start folder before → AreAdded before []
  added_first a e =
      let below = (apart start folder before a).below in
      record {
        rises = tt;
        are = λ g. (λ i. absurd i, λ w. let b = below g w.0 in let from = w.1 in absurd (omega (arith, b, from, e)));
        new = λ g i v from had. let b = below g ((version_in folder before g).1 (i, v)) in absurd (omega (arith, b, from, e));
        next = omega (arith, e);
      }

  added_all : (more ops : List Op) (origins : List OpId) → IsApplied (ops ++ more) → ((i : OpId) → Has before i → Has ops i) → folder_exists folder ops ≡ true → ((o : Op) → IsIn o more → IsCopying before o.kind) → AreAdded ops origins
      → AreAdded (ops ++ more) (origins ++ added_origins folder more)
  added_all [] ops origins a earlier t c l = subst (λ (xs : List Op). AreAdded xs (origins ++ [])) (sym (append-nil ops)) (subst (AreAdded ops) (sym (append-nil origins)) l)
  added_all (o ∷ more) ops origins a earlier t c l =
      let same = append_assoc ops (o ∷ []) more in
      let b : IsApplied ((ops ++ o ∷ []) ++ more) = subst IsApplied (sym same) a in
      let d = applied_front (ops ++ o ∷ []) more b in
      let exists = exists_after_one folder ops o d (copying_stays before o.kind (c o (inl refl))) t in
      let by = added_origins_by (appends_message_to folder o.kind) o.id in
      let one = added_one ops o d earlier exists origins (c o (inl refl)) l in
      let rest = added_all more (ops ++ o ∷ []) (origins ++ by) b (λ i h. has_append i ops o (earlier i h)) exists (λ p i. c p (inr i)) one in
      let joined : (origins ++ by) ++ added_origins folder more ≡ origins ++ added_origins folder (o ∷ more) = append_assoc origins by (added_origins folder more) ∙ ap (λ (ids : List OpId). origins ++ ids) (sym (added_cons folder o more)) in
      subst (λ (xs : List Op). AreAdded xs (origins ++ added_origins folder (o ∷ more))) same (subst (AreAdded ((ops ++ o ∷ []) ++ more)) joined rest)

-- ---- their rows

abbrev uid_in : ListedMessage → ℕ
uid_in row = row.uid

-- the rows above a UID ascend
beyond_rises : (low least : ℕ) (rows : List ListedMessage) → AreRisingRows least rows → Rises uid_in least (rows_after_uid low rows)
beyond_rises low least [] h = tt
beyond_rises low least (row ∷ rows) h =
    let from : least ≤ row.uid = h.0 in
    let rest = beyond_rises low (row.uid + 1) rows h.1 in
    elim (cases_Bool (nat_lt low row.uid)) [
      | inl t ↦ rw t (from, rest)
      | inr f ↦ rw f (rises_lower uid_in least (row.uid + 1) (rows_after_uid low rows) (omega (arith, from)) rest)
    ]

listed_rises : (start : Counters) (folder : List ℕ) (ops : List Op) (low : ℕ) (origins : List OpId) → Rises (uid_of start folder ops) low origins → Rises uid_in low (map (listed_message_of start folder ops) origins)
listed_rises start folder ops low [] h = tt
listed_rises start folder ops low (g ∷ origins) h = (h.0, listed_rises start folder ops (uid_of start folder ops g + 1) origins h.1)

mapped_length : {X Y : Type 0} (f : X → Y) (xs : List X) → length (map f xs) ≡ length xs
mapped_length f [] = refl
mapped_length f (x ∷ xs) = let e = mapped_length f xs in omega (arith, e)

is_over : (first n : ℕ) → 1 ≤ first → first ≤ n → nat_lt (first - 1) n ≡ true
is_over first n l h = elim (cases_Bool (nat_lt (first - 1) n)) [ inl t ↦ t | inr f ↦ absurd (grind (arith, nat_tests)) ]

le_of_pred_lt : (first n : ℕ) → 1 ≤ first → nat_lt (first - 1) n ≡ true → first ≤ n
le_of_pred_lt first n l h = grind (arith, nat_tests)

-- the rows above a UID are those of the added messages
added_beyond : (start : Counters) (folder : List ℕ) (before ops : List Op) (first : ℕ) (origins : List OpId) (row : ListedMessage) → 1 ≤ first → ((g : OpId) → IsIn g origins ↔ IsAdded start folder before first ops g)
    → IsIn row (rows_after_uid (first - 1) (listing start folder ops)) ↔ IsIn row (map (listed_message_of start folder ops) origins)
added_beyond start folder before ops first origins row least are =
    let over : ListedMessage → Bool = λ (x : ListedMessage). nat_lt (first - 1) x.uid in
    let f = in_filter over (listing start folder ops) row in
    let m = in_map (listed_message_of start folder ops) origins row in (
      λ i.
          let w = f.0 i in
          let r = row_in start folder ops row w.0 in
          let from : first ≤ row.uid = le_of_pred_lt first row.uid least w.1 in
          m.1 (r.0, (are r.0).1 (r.1, subst (λ (x : ListedMessage). first ≤ x.uid) (sym r.2) from), r.2),
      λ i.
          let w = m.0 i in
          let l = (are w.0).0 w.1 in
          f.1 (subst (λ (x : ListedMessage). IsIn x (listing start folder ops)) w.2 (row_from start folder ops w.0 l.0), is_over first row.uid least (subst (λ (x : ListedMessage). first ≤ x.uid) w.2 l.1)),
    )

-- the rows with UIDs from the former UIDNEXT on are, in their order, those of the appended messages
pub rows_are_added : (start : Counters) (folder : List ℕ) (before issued : List Op) → 1 ≤ uidnext_of start folder before → IsApplied (before ++ issued) → AreRisingRows 1 (listing start folder (before ++ issued)) → folder_exists folder before ≡ true
    → ((o : Op) → IsIn o issued → IsCopying before o.kind)
    → rows_after_uid (uidnext_of start folder before - 1) (listing start folder (before ++ issued)) ≡ map (listed_message_of start folder (before ++ issued)) (added_origins folder issued)
rows_are_added start folder before issued least a r t c =
    let first = uidnext_of start folder before in
    let ops = before ++ issued in
    let origins = added_origins folder issued in
    let l = added_all start folder before first issued before [] a (λ i h. h) t c (added_first start folder before first (applied_front before issued a) refl) in
    same_rising uid_in 1 first (rows_after_uid (first - 1) (listing start folder ops)) (map (listed_message_of start folder ops) origins) (beyond_rises (first - 1) 1 (listing start folder ops) r) (listed_rises start folder ops first origins l.rises)
    (λ row. added_beyond start folder before ops first origins row least l.are)

-- so there are as many such rows as Appends
rows_added : (start : Counters) (folder : List ℕ) (before issued : List Op) → 1 ≤ uidnext_of start folder before → IsApplied (before ++ issued) → AreRisingRows 1 (listing start folder (before ++ issued)) → folder_exists folder before ≡ true
    → ((o : Op) → IsIn o issued → IsCopying before o.kind)
    → length (rows_after_uid (uidnext_of start folder before - 1) (listing start folder (before ++ issued))) ≡ length (filter (λ (o : Op). appends_message_to folder o.kind) issued)
rows_added start folder before issued least a r t c =
    ap (λ (rows : List ListedMessage). length rows) (rows_are_added start folder before issued least a r t c)
    ∙ mapped_length (listed_message_of start folder (before ++ issued)) (added_origins folder issued)
    ∙ mapped_length id_of (filter (λ (o : Op). appends_message_to folder o.kind) issued)

-- ---- what COPY and MOVE issue

kinds_counted : (folder : List ℕ) (issued : List Op) → length (filter (λ (o : Op). appends_message_to folder o.kind) issued) ≡ length (filter (appends_message_to folder) (map (λ (o : Op). o.kind) issued))
kinds_counted folder [] = refl
kinds_counted folder (o ∷ issued) =
    let a = length_filter_cons (λ (p : Op). appends_message_to folder p.kind) o issued in
    let b = length_filter_cons (appends_message_to folder) o.kind (map (λ (p : Op). p.kind) issued) in
    let c = kinds_counted folder issued in
    omega (arith, a, b, c)

append_counted : (folder : List ℕ) (m : Option ListedMessage) → length (filter (appends_message_to folder) (append_of folder m)) ≡ once (not (is_gone m))
append_counted folder None = refl
append_counted folder (Some row) =
    let own : bytes_eq folder folder ≡ true = (bytes_eq-Decides folder folder).1 refl in
    rw own refl

pub appends_counted : (folder : List ℕ) (rows : List ListedMessage) (view : List ViewEntry) (numbers : List ℕ) → length (filter (appends_message_to folder) (appends_of folder rows view numbers)) ≡ length (existing_messages rows view numbers)
appends_counted folder rows view [] = refl
appends_counted folder rows view (n ∷ numbers) =
    let m = message_at rows view n in
    let a = length_filter_append (appends_message_to folder) (append_of folder m) (appends_of folder rows view numbers) in
    let b = append_counted folder m in
    let c = appends_counted folder rows view numbers in
    let d = length_filter_cons (λ k. not (is_gone (message_at rows view k))) n numbers in
    omega (arith, a, b, c, d)

removal_counted : (folder destination : List ℕ) (m : Option ListedMessage) → length (filter (appends_message_to destination) (expunge_of_moved folder m)) ≡ 0
removal_counted folder destination None = refl
removal_counted folder destination (Some row) = refl

pub removals_counted : (folder destination : List ℕ) (rows : List ListedMessage) (view : List ViewEntry) (numbers : List ℕ) → length (filter (appends_message_to destination) (expunges_of_moved folder rows view numbers)) ≡ 0
removals_counted folder destination rows view [] = refl
removals_counted folder destination rows view (n ∷ numbers) =
    let m = message_at rows view n in
    let a = length_filter_append (appends_message_to destination) (expunge_of_moved folder m) (expunges_of_moved folder rows view numbers) in
    let b = removal_counted folder destination m in
    let c = removals_counted folder destination rows view numbers in
    omega (arith, a, b, c)

append_copying : (before : List Op) (folder : List ℕ) (m : Option ListedMessage) → Each (IsCopying before) (append_of folder m)
append_copying before folder None = tt
append_copying before folder (Some row) = (tt, tt)

removal_copying : (before : List Op) (folder : List ℕ) (m : Option ListedMessage) → IfPresent (λ (row : ListedMessage). HasAll before row.versions) m → Each (IsCopying before) (expunge_of_moved folder m)
removal_copying before folder None h = tt
removal_copying before folder (Some row) h = (h, tt)

row_if_present : (P : ListedMessage → Type 0) (uid : ℕ) (rows : List ListedMessage) → ((row : ListedMessage) → IsIn row rows → P row) → IfPresent P (row_of uid rows)
row_if_present P uid [] h = tt
row_if_present P uid (row ∷ rows) h =
    elim (cases_Bool (nat_eq row.uid uid)) [
      | inl t ↦ rw t (h row (inl refl))
      | inr f ↦ rw f (row_if_present P uid rows (λ x i. h x (inr i)))
    ]

message_if_present : (P : ListedMessage → Type 0) (rows : List ListedMessage) (e : Option ViewEntry) → ((row : ListedMessage) → IsIn row rows → P row) → IfPresent P (row_for rows e)
message_if_present P rows None h = tt
message_if_present P rows (Some e) h = row_if_present P e.uid rows h

pub appends_copying : (before : List Op) (folder : List ℕ) (rows : List ListedMessage) (view : List ViewEntry) (numbers : List ℕ) → Each (IsCopying before) (appends_of folder rows view numbers)
appends_copying before folder rows view [] = tt
appends_copying before folder rows view (n ∷ numbers) =
    each_append (IsCopying before) (append_of folder (message_at rows view n)) (appends_of folder rows view numbers) (append_copying before folder (message_at rows view n)) (appends_copying before folder rows view numbers)

pub removals_copying : (before : List Op) (folder : List ℕ) (rows : List ListedMessage) (view : List ViewEntry) (numbers : List ℕ) → ((row : ListedMessage) → IsIn row rows → HasAll before row.versions) → Each (IsCopying before) (expunges_of_moved folder rows view numbers)
removals_copying before folder rows view [] h = tt
removals_copying before folder rows view (n ∷ numbers) h =
    each_append (IsCopying before) (expunge_of_moved folder (message_at rows view n)) (expunges_of_moved folder rows view numbers)
    (removal_copying before folder (message_at rows view n) (message_if_present (λ (row : ListedMessage). HasAll before row.versions) rows (entry_at view n) h)) (removals_copying before folder rows view numbers h)

mapped_copying : (before issued : List Op) (intended : List Kind) → map (λ (o : Op). o.kind) issued ≡ intended → Each (IsCopying before) intended → (o : Op) → IsIn o issued → IsCopying before o.kind
mapped_copying before issued intended e h o i = each_in (IsCopying before) intended o.kind h (subst (IsIn o.kind) e (mapped_in issued o i))

-- kinds that copy add as many rows as they append messages
pub kinds_added : (start : Counters) (folder : List ℕ) (before issued : List Op) (intended : List Kind) → 1 ≤ uidnext_of start folder before → IsApplied (before ++ issued) → AreRisingRows 1 (listing start folder (before ++ issued))
    → folder_exists folder before ≡ true
    → map (λ (o : Op). o.kind) issued ≡ intended → Each (IsCopying before) intended
    → length (rows_after_uid (uidnext_of start folder before - 1) (listing start folder (before ++ issued))) ≡ length (filter (appends_message_to folder) intended)
kinds_added start folder before issued intended least a r t e c =
    rows_added start folder before issued least a r t (mapped_copying before issued intended e c) ∙ kinds_counted folder issued ∙ ap (λ ks. length (filter (appends_message_to folder) ks)) e

-- the destination gets as many messages as there are sources
pub copies_added : (start : Counters) (folder : List ℕ) (before issued : List Op) (intended : List Kind) (mailbox : OpenMailbox) (request : Transfer)
    → 1 ≤ uidnext_of start folder before → IsApplied (before ++ issued) → AreRisingRows 1 (listing start folder (before ++ issued)) → folder_exists folder before ≡ true → map (λ (o : Op). o.kind) issued ≡ intended → Each (IsCopying before) intended
    → length (filter (appends_message_to folder) intended) ≡ length (existing_messages mailbox.rows mailbox.view (numbers_in_set request.by_uid request.messages mailbox.view))
    → HasAllCopies mailbox request (copy_target_in start before (before ++ issued) folder)
copies_added start folder before issued intended mailbox request least a r t e c n =
    let rows = mailbox.rows in
    let view = mailbox.view in
    let numbers = numbers_in_set request.by_uid request.messages view in
    let low = uidnext_of start folder before - 1 in
    let all_are_added = kinds_added start folder before issued intended least a r t e c in
    let x = mapped_length (name_at true view) (existing_messages rows view numbers) in
    let y = mapped_length (λ (row : ListedMessage). row.uid) (rows_after_uid low (listing start folder (before ++ issued))) in
    omega (arith, all_are_added, x, y, n)
