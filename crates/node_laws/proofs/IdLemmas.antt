use Rattle.std.specs.Str.{bytes_eq}
use Rattle.std.specs.List.{filter}
use Rattle.std.specs.Option.{option_map}
use Rattle.std.proofs.Common.{◌≡◌, inl, inr, ℕ, ◌-◌, ◌≤◌, Bool, true, false, cond, not, ◌&&◌, List, [], ◌∷◌, ◌++◌, map, Option, Some, None, refl, sym, ap, ◌∙◌, subst}
use Rattle.std.proofs.lemmas.Bool.{and_from, cases_Bool, false≢true, false_from_ne_true}
use Rattle.mailbox_rows.specs.ListedMessage.{ListedMessage}
use Rattle.mailbox_rows.specs.RowViews.{AreRisingRows, rows_after_uid}
use Rattle.merge_laws.specs.Orders.{IsIn}
use Rattle.tags_clocks.proofs.Decide.{ids_decide}
use Rattle.tags_clocks.specs.declared.id.OpId.{OpId}
use Rattle.crdt_ops.proofs.Presence.{Has}
use Rattle.crdt_ops.specs.declared.kind.Kind.{Kind}
use Rattle.crdt_ops.specs.declared.kind.Kind.TheVariants as kinds
use Rattle.crdt_ops.specs.declared.op.Op.{Op}
use Rattle.crdt_ops.specs.SortedSets.{same_id}
use Rattle.crdt_ops.specs.Sets.{MessageTagData, tag_data_by}
use Rattle.crdt_ops.specs.Tags.{MessageTag, tag_added_by, is_some_tag}
use Rattle.uid_projection.specs.declared.first_numbers.Counters.{Counters}
use Rattle.uid_projection.specs.Applied.{IsApplied}
use Rattle.uid_projection.specs.Incarnations.{folder_exists}
use Rattle.uid_projection.specs.UidsAndModSeqs.{has_version, origin_added, uidnext_of}
use Rattle.uid_projection.specs.Listing.{listed_message_of, listing}
use Rattle.uid_projection.proofs.ChartOf.{charted}
use Rattle.uid_projection.proofs.SortedRowLemmas.{row_from}
use Rattle.uid_projection.proofs.Presence.{applied_front}
use Rattle.uid_projection.proofs.RowLemmas.{rising_chart, rows_listed}
use Rattle.uid_projection.proofs.Steps.{uid_new}
use Rattle.uid_projection.proofs.Versions.{origin_applied, origin_new, version_in}
use Rattle.imap_node.proofs.ExistingFolderLemmas.{IsNoDelete, added_present}
use Rattle.imap_node.proofs.CopyTargetLemmas.{IsCopying, appends_message_to, added_origins, rows_are_added}
use Rattle.node_laws.specs.Copies.{IsAddedRow, appends_among, is_append_to}
use Rattle.crdt_ops.specs.Ops.{id_of}

-- ---- operations that copy

pub copying_stays : (before : List Op) (kind : Kind) → IsCopying before kind → IsNoDelete kind
copying_stays before (kinds.Create name) h = tt
copying_stays before (kinds.Delete name seen) h = absurd h
copying_stays before (kinds.Append name flags date text) h = tt
copying_stays before (kinds.Expunge name old_ids) h = tt
copying_stays before (kinds.Store name flags old_ids origin) h = tt
copying_stays before (kinds.Subscribe name) h = tt
copying_stays before (kinds.Unsubscribe name seen) h = tt

pub filter_append : {X : Type 0} (test : X → Bool) (xs ys : List X) → filter test (xs ++ ys) ≡ filter test xs ++ filter test ys
filter_append test [] ys = refl
filter_append test (x ∷ xs) ys = elim (cases_Bool (test x)) [ inl t ↦ rw t (ap (λ zs. x ∷ zs) (filter_append test xs ys)) | inr f ↦ rw f (filter_append test xs ys) ]

-- ---- the rows after operations that copy

one_test : (folder : List ℕ) (kind : Kind) → appends_message_to folder kind ≡ is_append_to folder kind
one_test folder (kinds.Create name) = refl
one_test folder (kinds.Delete name seen) = refl
one_test folder (kinds.Append name flags date text) = refl
one_test folder (kinds.Expunge name old_ids) = refl
one_test folder (kinds.Store name flags old_ids origin) = refl
one_test folder (kinds.Subscribe name) = refl
one_test folder (kinds.Unsubscribe name seen) = refl

added_origins_is : (folder : List ℕ) (ops : List Op) → added_origins folder ops ≡ map id_of (appends_among folder ops)
added_origins_is folder ops = λ i. map id_of (filter (λ (o : Op). one_test folder o.kind i) ops)

origins_listed : (start : Counters) (folder : List ℕ) (ops : List Op) (origins : List OpId) → map (λ (row : ListedMessage). row.origin) (map (listed_message_of start folder ops) origins) ≡ origins
origins_listed start folder ops [] = refl
origins_listed start folder ops (g ∷ origins) = ap (λ (ids : List OpId). g ∷ ids) (origins_listed start folder ops origins)

listing_rises : (start : Counters) (folder : List ℕ) (ops : List Op) → 1 ≤ start.uid → IsApplied ops → AreRisingRows 1 (listing start folder ops)
listing_rises start folder ops l a =
    let c = charted start folder ops a in
    subst (AreRisingRows 1) (rows_listed start folder ops c.2 c.3.are_entries c.3.ascending) (rising_chart start folder ops c.0 c.1 c.2 l c.3)

-- the rows with UIDs from the former UIDNEXT on are, one by one, those of the Appends
pub ids_added : (start : Counters) (folder : List ℕ) (before issued : List Op) → 1 ≤ start.uid → 1 ≤ uidnext_of start folder before → IsApplied (before ++ issued) → folder_exists folder before ≡ true → ((o : Op) → IsIn o issued → IsCopying before o.kind)
    → map (λ (row : ListedMessage). row.origin) (rows_after_uid (uidnext_of start folder before - 1) (listing start folder (before ++ issued))) ≡ map id_of (appends_among folder issued)
ids_added start folder before issued first least a t c =
    ap (map (λ (row : ListedMessage). row.origin)) (rows_are_added start folder before issued least a (listing_rises start folder (before ++ issued) first a) t c)
    ∙ origins_listed start folder (before ++ issued) (added_origins folder issued)
    ∙ added_origins_is folder issued

-- ---- one Append

record Puts (folder : List ℕ) (id : OpId) (kind : Kind) : Type 0 where
  own : is_some_tag (MessageTag folder id) (tag_added_by id kind) ≡ true
  origin : option_map (λ (b : MessageTagData). b.origin) (tag_data_by id kind) ≡ Some id

put_of : (folder : List ℕ) (id : OpId) (kind : Kind) → is_append_to folder kind ≡ true → Puts folder id kind
put_of folder id (kinds.Append name flags date text) c = record { own = and_from (bytes_eq folder name) (same_id id id) c ((ids_decide id id).1 refl); origin = refl }
put_of folder id _ c = absurd (false≢true c)

and_not_true : (x y : Bool) → x ≡ true → y ≡ false → (x && not y) ≡ true
and_not_true true false p q = refl
and_not_true true true p q = absurd (false≢true (sym q))
and_not_true false y p q = absurd (false≢true p)

-- the message of an Append gets the former UIDNEXT
pub append_added : (start : Counters) (folder : List ℕ) (before : List Op) (o : Op) → IsApplied (before ++ o ∷ []) → folder_exists folder (before ++ o ∷ []) ≡ true → is_append_to folder o.kind ≡ true
    → IsAddedRow (listing start folder (before ++ o ∷ [])) (uidnext_of start folder before) o
append_added start folder before o a t is =
    let ops = before ++ o ∷ [] in
    let puts = put_of folder o.id o.kind is in
    let fresh : Has before o.id → ⊥ = (a.causal before o [] refl).1 in
    let none : has_version folder o.id before ≡ false = false_from_ne_true (has_version folder o.id before) (λ h. fresh (origin_applied folder before o.id (applied_front before (o ∷ []) a) h)) in
    let added : origin_added folder o ≡ Some o.id = ap (option_map (λ (b : MessageTagData). b.origin)) (ap (λ (b : Bool). cond {A = Option MessageTagData} b (tag_data_by o.id o.kind) None) puts.own) ∙ puts.origin in
    let listed : has_version folder o.id ops ≡ true = (version_in folder ops o.id).1 (o.id, (added_present before o (MessageTag folder o.id) a puts.own, origin_new folder before o a puts.own ∙ added)) in
    record {
      row = listed_message_of start folder ops o.id;
      listed = row_from start folder ops o.id listed;
      numbered = uid_new start folder before o o.id t (and_not_true (has_version folder o.id ops) (has_version folder o.id before) listed none);
      appended = refl;
    }
