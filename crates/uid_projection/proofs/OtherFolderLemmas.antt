use Rattle.std.specs.Ordering.{nat_cmp, ordering_then}
use Rattle.std.specs.Str.{bytes_eq}
use Rattle.std.proofs.Common.{◌≡◌, inl, inr, ℕ, ◌+◌, ◌*◌, Bool, true, false, cond, not, ◌&&◌, List, [], ◌∷◌, ◌++◌, map, Some, None, refl, sym, ap, ◌∙◌, subst, append_assoc, append-nil, arith}
use Rattle.std.proofs.lemmas.Bool.{cases_Bool, false≢true, false_from_ne_true}
use Rattle.imap_types.specs.Names.{inbox}
use Rattle.tags_clocks.specs.declared.id.OpId.{OpId}
use Rattle.merge_laws.specs.Orders.{IsIn}
use Rattle.crdt_ops.specs.declared.op.Op.{Op}
use Rattle.crdt_ops.specs.SortedSets.{id_order, sorted_set}
use Rattle.crdt_ops.specs.Sets.{origins_of}
use Rattle.crdt_ops.proofs.OrderLemmas.{id_order_same, id_order_total, one_ascending}
use Rattle.crdt_ops.proofs.VersionLemmas.{origins_listed}
use Rattle.mailbox_rows.specs.ListedMessage.{ListedMessage}
use Rattle.uid_projection.specs.declared.first_numbers.Counters.{Counters}
use Rattle.uid_projection.specs.Applied.{IsApplied}
use Rattle.uid_projection.specs.Incarnations.{folder_exists, k_of, uidvalidity_of}
use Rattle.uid_projection.specs.UidsAndModSeqs.{begins_line, begins_line_of_origin, changes_versions, names_folder, kind_names_folder, has_version, uid_of}
use Rattle.uid_projection.specs.Listing.{listed_message_of, listed_origins, listing}
use Rattle.uid_projection.specs.TouchedMessages.{AreAboutOthers, IsShownAlike, LeaveOthers}
use Rattle.uid_projection.proofs.ChartSteps.{none_without_folder}
use Rattle.uid_projection.proofs.HistoryLemmas.{once, counted-none}
use Rattle.uid_projection.proofs.SortedRowLemmas.{listed_in, row_in}
use Rattle.uid_projection.proofs.Presence.{adds_about, applied_front, other_exists, same_bool}
use Rattle.uid_projection.proofs.TouchedMessagesLemmas.{other_unchanged, row_unchanged}
use Rattle.uid_projection.proofs.Steps.{highest_here, k_here, uid_unchanged, uidnext_here}
use Rattle.uid_projection.proofs.TouchedLineLemmas.{line_about, has_version_still}
use Rattle.uid_projection.proofs.Versions.{version_cases, version_in}

-- ---- lists

map_alike : {X Y : Type 0} (f g : X → Y) (xs : List X) → ((x : X) → IsIn x xs → f x ≡ g x) → map f xs ≡ map g xs
map_alike f g [] h = refl
map_alike f g (x ∷ xs) h = λ k. h x (inl refl) k ∷ map_alike f g xs (λ y i. h y (inr i)) k

no_rows : (rows : List ListedMessage) → ((x : ListedMessage) → IsIn x rows → ⊥) → rows ≡ []
no_rows [] h = refl
no_rows (x ∷ rows) h = absurd (h x (inl refl))

and_not : (b : Bool) → (b && not b) ≡ false
and_not true = refl
and_not false = refl

-- ---- one operation that isn't about the folder

module _ (start : Counters) (folder : List ℕ) (list : List Op) (o : Op) (a : IsApplied (list ++ o ∷ [])) (other : kind_names_folder folder o.kind ≡ false) where
  still : (g : OpId) → changes_versions folder g list o ≡ false
  still g = other_unchanged folder list o a g other

  -- the same origins have versions
  version_still : (g : OpId) → has_version folder g (list ++ o ∷ []) ≡ has_version folder g list
  version_still g =
      same_bool (has_version folder g (list ++ o ∷ [])) (has_version folder g list)
      (λ h.
      let v = (version_in folder (list ++ o ∷ []) g).0 h in
      elim (version_cases folder list o a g v.0 v.1) [
        | inl w ↦ (version_in folder list g).1 (v.0, w.0)
        | inr w ↦ absurd (false≢true (sym other ∙ adds_about folder v.0 o.id o.kind (inr w.0)))
      ])
      (λ h. has_version_still folder list o a g (still g) h)

  origins_still : origins_of (list ++ o ∷ []) folder ≡ origins_of list folder
  origins_still =
      let l = origins_listed (list ++ o ∷ []) folder in
      let m = origins_listed list folder in
      one_ascending id_order_total id_order_same (origins_of (list ++ o ∷ []) folder) (origins_of list folder) l.0 m.0 (λ g. (
        λ i. (m.1 g).1 ((version_in folder list g).0 (sym (version_still g) ∙ (version_in folder (list ++ o ∷ []) g).1 ((l.1 g).0 i))),
        λ i. (l.1 g).1 ((version_in folder (list ++ o ∷ []) g).0 (version_still g ∙ (version_in folder list g).1 ((m.1 g).0 i))),
      ))

  no_line : begins_line folder list o ≡ false
  no_line = false_from_ne_true (begins_line folder list o) (λ t. false≢true (sym other ∙ line_about folder list o t))

  no_line_of : (g : OpId) → begins_line_of_origin folder g list o ≡ false
  no_line_of g = ap (λ b. b && not (has_version folder g list)) (version_still g) ∙ and_not (has_version folder g list)

  -- if the folder exists
  module _ (t : folder_exists folder (list ++ o ∷ []) ≡ true) where
    uid_still : (g : OpId) → uid_of start folder (list ++ o ∷ []) g ≡ uid_of start folder list g
    uid_still g = uid_unchanged start folder list o g t (no_line_of g)

    listed_still : listed_origins start folder (list ++ o ∷ []) ≡ listed_origins start folder list
    listed_still = λ k. sorted_set (λ x y. ordering_then (nat_cmp (uid_still x k) (uid_still y k)) (id_order x y)) (origins_still k)

    rows_still : listing start folder (list ++ o ∷ []) ≡ listing start folder list
    rows_still =
        ap (map (listed_message_of start folder (list ++ o ∷ []))) listed_still
        ∙ map_alike (listed_message_of start folder (list ++ o ∷ [])) (listed_message_of start folder list) (listed_origins start folder list)
        (λ g i. row_unchanged folder list o a start g t (still g) ((listed_in start folder list g).0 i))

    alike_present : IsShownAlike start folder list (list ++ o ∷ [])
    alike_present =
        let n = uidnext_here start folder list o t in
        let m = highest_here folder list o t in
        let z : once (begins_line folder list o) ≡ 0 = ap once no_line in
        let y : once (names_folder folder list o) ≡ 0 = ap once other in
        let w = other_exists folder list o a other in
        let q = k_here start folder list o t in
        record {
          rows = rows_still;
          uidvalidity = λ k. cond (bytes_eq folder inbox) (Some start.replica) (cond (w k) (Some (65536 * q k + start.replica)) None);
          uidnext = omega (arith, n, z);
          highest = omega (arith, m, y);
        }

-- ---- a folder that doesn't exist

module _ (start : Counters) (folder : List ℕ) (list : List Op) (f : folder_exists folder list ≡ false) where
  rows_absent : listing start folder list ≡ []
  rows_absent = no_rows (listing start folder list) (λ x i. let w = row_in start folder list x i in none_without_folder start folder list f w.0 w.1)

  validity_absent : uidvalidity_of start folder list ≡ cond (bytes_eq folder inbox) (Some start.replica) None
  validity_absent = ap (λ t. cond (bytes_eq folder inbox) (Some start.replica) (cond t (Some (65536 * k_of start folder list + start.replica)) None)) f

alike_absent : (start : Counters) (folder : List ℕ) (list later : List Op) → folder_exists folder list ≡ false → folder_exists folder later ≡ false → IsShownAlike start folder list later
alike_absent start folder list later f g =
    let u = counted-none (folder_exists folder) (begins_line folder) list f in
    let v = counted-none (folder_exists folder) (begins_line folder) later g in
    let m = counted-none (folder_exists folder) (names_folder folder) list f in
    let n = counted-none (folder_exists folder) (names_folder folder) later g in
    record {
      rows = rows_absent start folder later g ∙ sym (rows_absent start folder list f);
      uidvalidity = validity_absent start folder later g ∙ sym (validity_absent start folder list f);
      uidnext = omega (arith, u, v);
      highest = omega (arith, m, n);
    }

-- ---- operations that aren't about it

alike_step : (start : Counters) (folder : List ℕ) (list : List Op) (o : Op) → IsApplied (list ++ o ∷ []) → kind_names_folder folder o.kind ≡ false → IsShownAlike start folder list (list ++ o ∷ [])
alike_step start folder list o a other =
    elim (cases_Bool (folder_exists folder (list ++ o ∷ []))) [
      | inl t ↦ alike_present start folder list o a other t
      | inr f ↦ alike_absent start folder list (list ++ o ∷ []) (sym (other_exists folder list o a other) ∙ f) f
    ]

alike_all : (start : Counters) (folder : List ℕ) (ops list : List Op) → IsApplied (list ++ ops) → AreAboutOthers folder ops → IsShownAlike start folder list (list ++ ops)
alike_all start folder [] list a e = subst (IsShownAlike start folder list) (sym (append-nil list)) (record { rows = refl; uidvalidity = refl; uidnext = refl; highest = refl })
alike_all start folder (o ∷ ops) list a e =
    let whole : (list ++ o ∷ []) ++ ops ≡ list ++ o ∷ ops = append_assoc list (o ∷ []) ops in
    let b : IsApplied ((list ++ o ∷ []) ++ ops) = subst IsApplied (sym whole) a in
    let x = alike_step start folder list o (applied_front (list ++ o ∷ []) ops b) (e o (inl refl)) in
    let y = alike_all start folder ops (list ++ o ∷ []) b (λ p i. e p (inr i)) in
    subst (IsShownAlike start folder list) whole (record {
      rows = y.rows ∙ x.rows;
      uidvalidity = y.uidvalidity ∙ x.uidvalidity;
      uidnext = y.uidnext ∙ x.uidnext;
      highest = y.highest ∙ x.highest;
    })

pub leave_others : (start : Counters) → LeaveOthers start
leave_others start folder list ops a e = alike_all start folder ops list a e
