-- A folder that exists still exists, under its UIDVALIDITY, after operations that don't delete it.
use Rattle.std.specs.List.{list_any}
use Rattle.std.specs.Str.{bytes_eq}
use Rattle.std.proofs.Common.{◌≡◌, ◌⊎◌, inl, inr, ℕ, ◌+◌, ◌*◌, true, false, not, ◌&&◌, List, [], ◌∷◌, ◌++◌, Some, None, cond, refl, sym, ap, ◌∙◌, subst, append_assoc, append-nil}
use Rattle.std.proofs.lemmas.Bool.{cases_Bool, false≢true, or_left, or_parts}
use Rattle.imap_types.specs.Names.{inbox}
use Rattle.tags_clocks.specs.declared.id.OpId.{OpId}
use Rattle.tags_clocks.proofs.Decide.{ids_decide}
use Rattle.crdt_ops.specs.declared.kind.Kind.{Kind}
use Rattle.crdt_ops.specs.declared.kind.Kind.TheVariants.{Create, Delete, Append, Expunge, Store, Subscribe, Unsubscribe}
use Rattle.crdt_ops.specs.declared.op.Op.{Op}
use Rattle.crdt_ops.specs.Tags.{Tag, FolderTag, MessageTag, tag_added_by, adds, is_present, is_some_tag, removes}
use Rattle.uid_projection.specs.declared.first_numbers.Counters.{Counters}
use Rattle.uid_projection.specs.Applied.{IsApplied}
use Rattle.uid_projection.specs.Incarnations.{deletes_folder, folder_exists, k_of, uidvalidity_of}
use Rattle.uid_projection.specs.UidsAndModSeqs.{kind_names_folder}
use Rattle.uid_projection.proofs.Presence.{applied_front, other_exists, presence_step, exists_tags}
use Rattle.uid_projection.proofs.Steps.{k_here}

-- an operation about a folder that doesn't delete it adds a tag to it
added_here : (folder : List ℕ) (id : OpId) (kind : Kind) → kind_names_folder folder kind ≡ true → deletes_folder folder kind ≡ false → (is_some_tag (FolderTag folder id) (tag_added_by id kind) ≡ true) ⊎ (is_some_tag (MessageTag folder id) (tag_added_by id kind) ≡ true)
added_here folder id (Create name) h d = inl (λ k. h k && (ids_decide id id).1 refl k)
added_here folder id (Delete name seen) h d = absurd (false≢true (sym d ∙ h))
added_here folder id (Append name flags date text) h d = inr (λ k. h k && (ids_decide id id).1 refl k)
added_here folder id (Expunge name old_ids) h d = inl (λ k. h k && (ids_decide id id).1 refl k)
added_here folder id (Store name flags old_ids origin) h d = inr (λ k. h k && (ids_decide id id).1 refl k)
added_here folder id (Subscribe name) h d = absurd (false≢true h)
added_here folder id (Unsubscribe name seen) h d = absurd (false≢true h)

-- a tag that the last operation adds is present
present_added : (ops : List Op) (o : Op) (t : Tag) → IsApplied (ops ++ o ∷ []) → adds t o ≡ true → is_present (ops ++ o ∷ []) t ≡ true
present_added ops o t a h = presence_step ops o t a ∙ or_left (adds t o) (not (removes t o) && is_present ops t) h

exists_next : (folder : List ℕ) (ops : List Op) (o : Op) → IsApplied (ops ++ o ∷ []) → folder_exists folder ops ≡ true → deletes_folder folder o.kind ≡ false → folder_exists folder (ops ++ o ∷ []) ≡ true
exists_next folder ops o a t d =
    elim (cases_Bool (kind_names_folder folder o.kind)) [
      | inl about ↦ (exists_tags folder (ops ++ o ∷ [])).1 (inr (
        o.id,
        elim (added_here folder o.id o.kind about d) [
          | inl h ↦ inl (present_added ops o (FolderTag folder o.id) a h)
          | inr h ↦ inr (present_added ops o (MessageTag folder o.id) a h)
        ],
      ))
      | inr other ↦ other_exists folder ops o a other ∙ t
    ]

outlasts_ops : (start : Counters) (folder : List ℕ) (ops list : List Op) → IsApplied (list ++ ops) → folder_exists folder list ≡ true → list_any (λ (o : Op). deletes_folder folder o.kind) ops ≡ false → (folder_exists folder (list ++ ops) ≡ true) × (k_of start folder (list ++ ops) ≡ k_of start folder list)
outlasts_ops start folder [] list a t d =
    (subst (λ (xs : List Op). folder_exists folder xs ≡ true) (sym (append-nil list)) t, ap (λ (xs : List Op). k_of start folder xs) (append-nil list))
outlasts_ops start folder (o ∷ ops) list a t d =
    let whole : (list ++ o ∷ []) ++ ops ≡ list ++ o ∷ ops = append_assoc list (o ∷ []) ops in
    let b : IsApplied ((list ++ o ∷ []) ++ ops) = subst IsApplied (sym whole) a in
    let c : IsApplied (list ++ o ∷ []) = applied_front (list ++ o ∷ []) ops b in
    let e = or_parts (deletes_folder folder o.kind) (list_any (λ (o : Op). deletes_folder folder o.kind) ops) d in
    let u = exists_next folder list o c t e.0 in
    let w = outlasts_ops start folder ops (list ++ o ∷ []) b u e.1 in (
      subst (λ (xs : List Op). folder_exists folder xs ≡ true) whole w.0,
      sym (ap (λ (xs : List Op). k_of start folder xs) whole) ∙ w.1 ∙ k_here start folder list o u,
    )

pub validity_remains : (start : Counters) (folder : List ℕ) (ops list : List Op) → IsApplied (list ++ ops) → folder_exists folder list ≡ true → list_any (λ (o : Op). deletes_folder folder o.kind) ops ≡ false → uidvalidity_of start folder (list ++ ops) ≡ uidvalidity_of start folder list
validity_remains start folder ops list a t d =
    let w = outlasts_ops start folder ops list a t d in
    λ i. cond (bytes_eq folder inbox) (Some start.replica) (cond ((w.0 ∙ sym t) i) (Some (65536 * w.1 i + start.replica)) None)
