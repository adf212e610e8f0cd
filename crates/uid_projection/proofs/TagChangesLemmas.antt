-- Message tags after changes, and the lists that have the added tags.
use Rattle.std.proofs.Common.{◌≡◌, ◌⊎◌, inl, inr, Bool, true, false, cond, Option, None, Some, IsSome, List, refl, sym, ap, ◌∙◌, subst}
use Rattle.std.specs.Borrow.{Bor}
use Rattle.std.specs.Global.{Vec}
use Rattle.std.specs.List.{list_any}
use Rattle.std.specs.Map.{lookup}
use Rattle.std.specs.Option.{option_map}
use Rattle.std.proofs.lemmas.Bool.{cases_Bool, false≢true}
use Rattle.imap_types.specs.declared.flags.Flags.{Flags}
use Rattle.tags_clocks.specs.declared.id.OpId.{OpId}
use Rattle.merge_laws.specs.Orders.{IsIn}
use Rattle.crdt_ops.specs.SortedSets.{is_some_id, same_id}
use Rattle.crdt_ops.specs.Sets.{MessageTagData}
use Rattle.crdt_ops.proofs.Members.{any_in, in_map}
use Rattle.imap_types.specs.declared.version.Version.{Version}
use Rattle.imap_types.specs.Unions.{version_ids}
use Rattle.folder_state.specs.FolderTables.{FolderTables, tag_data_in}
use Rattle.uid_projection.specs.declared.tag_changes.TagChange.{TagChange}
use Rattle.uid_projection.specs.declared.messages_ahead.MessagesAhead.{MessagesAhead}
use Rattle.uid_projection.specs.TagChanges.{AreListed, Grows, HasOrigin, IsListed, IsWhole, tag_data_of, tag_data_over, change_data, change_of, after_change, ids_listed, is_version, stored_of, list_of, origin_of}
use Rattle.uid_projection.proofs.IdLemmas.{own_id, same_is}

abbrev Changed : Type 0
Changed = List (OpId × TagChange)

abbrev Lists : Type 0
Lists = List (OpId × Vec OpId)

-- one further change
module _ (stored : Option FolderTables) (id : OpId) (change : TagChange) (old new : Changed) (is : (i : OpId) → lookup (same_id i) new ≡ cond (same_id id i) (Some change) (lookup (same_id i) old)) where
  pub body_changed : (i : OpId) → tag_data_over new stored i ≡ cond (same_id id i) (change_data change) (tag_data_over old stored i)
  body_changed i = ap (λ (x : Option TagChange). after_change (tag_data_in stored i) (option_map change_data x)) (is i) ∙ step (same_id id i)
    where
      step : (b : Bool) → after_change (tag_data_in stored i) (option_map change_data (cond b (Some change) (lookup (same_id i) old))) ≡ cond b (change_data change) (tag_data_over old stored i)
      step true = refl
      step false = refl

  here : (i : OpId) → same_id id i ≡ true → lookup (same_id i) new ≡ Some change
  here i t = is i ∙ ap (λ b. cond b (Some change) (lookup (same_id i) old)) t

  other_id : (i : OpId) → same_id id i ≡ false → lookup (same_id i) new ≡ lookup (same_id i) old
  other_id i f = is i ∙ ap (λ b. cond b (Some change) (lookup (same_id i) old)) f

  pub listed_changed : (before after : Lists) → Grows before after
      → (IsSome change.flags → IsListed id (lookup (same_id change.origin) after))
      → ((o : OpId) → origin_of (tag_data_in stored id) ≡ Some o → IsSome (lookup (same_id o) after))
      → AreListed old before stored → AreListed new after stored
  listed_changed before after grows listed touched h = record {
    listed = λ i x e s. elim (cases_Bool (same_id id i)) [
      | inl t ↦
          let k : change ≡ x = (let q = sym (here i t) ∙ e in cc) in
          subst (λ (x : TagChange). IsListed i (lookup (same_id x.origin) after)) k
          (subst (λ j. IsListed j (lookup (same_id change.origin) after)) (same_is id i t) (listed (subst (λ (x : TagChange). IsSome x.flags) (sym k) s)))
      | inr f ↦ grows.listed x.origin i (h.listed i x (sym (other_id i f) ∙ e) s)
    ];
    touched = λ i o s k. elim (cases_Bool (same_id id i)) [
      | inl t ↦ touched o (subst (λ j. origin_of (tag_data_in stored j) ≡ Some o) (sym (same_is id i t)) k)
      | inr f ↦ grows.touched o (h.touched i o (subst IsSome (other_id i f) s) k)
    ];
  }

pub listed_grown : (stored : Option FolderTables) (changes : Changed) (before after : Lists) → Grows before after → AreListed changes before stored → AreListed changes after stored
listed_grown stored changes before after grows h = record {
  listed = λ i x e s. grows.listed x.origin i (h.listed i x e s);
  touched = λ i o s k. grows.touched o (h.touched i o s k);
}

-- ---- whether an origin has a version

pub version_is : (o : OpId) (x : Option OpId) → is_some_id o x ≡ true → x ≡ Some o
version_is o None h = absurd (false≢true h)
version_is o (Some i) h = ap (λ z. Some z) (sym (same_is o i h))

pub is_version_of : (o : OpId) (x : Option OpId) → x ≡ Some o → is_some_id o x ≡ true
is_version_of o x e = ap (is_some_id o) e ∙ own_id o

pub any_version : {X : Type 0} (id : X → OpId) (tag_data : OpId → Option MessageTagData) (o : OpId) (xs : List X) → list_any (λ x. is_version tag_data o (id x)) xs ≡ true → HasOrigin tag_data o
any_version id tag_data o xs h =
    let w = (any_in (λ x. is_version tag_data o (id x)) xs).0 h in
    (id w.0, version_is o (origin_of (tag_data (id w.0))) w.2)

pub no_version : {X : Type 0} (id : X → OpId) (tag_data : OpId → Option MessageTagData) (o : OpId) (xs : List X) → list_any (λ x. is_version tag_data o (id x)) xs ≡ false → (x : X) → IsIn x xs → origin_of (tag_data (id x)) ≡ Some o → ⊥
no_version id tag_data o xs h x t e = false≢true (sym h ∙ (any_in (λ x. is_version tag_data o (id x)) xs).1 (x, t, is_version_of o (origin_of (tag_data (id x))) e))

pub no_version_id : (tag_data : OpId → Option MessageTagData) (o : OpId) (vs : List Version) → list_any (λ v. is_version tag_data o v.id) vs ≡ false → (i : OpId) → IsIn i (version_ids vs) → origin_of (tag_data i) ≡ Some o → ⊥
no_version_id tag_data o vs h i t e =
    let w = (in_map (λ (v : Version). v.id) vs i).0 t in
    no_version (λ (v : Version). v.id) tag_data o vs h w.0 w.1 (ap (λ z. origin_of (tag_data z)) w.2 ∙ e)

-- a version of an origin is stored and not changed, or was added and is listed
pub version_source : (m : MessagesAhead) (o i : OpId) → IsWhole m → origin_of (tag_data_of m i) ≡ Some o → (x : Option TagChange) → change_of m i ≡ x
    → ((x ≡ None) × (origin_of (tag_data_in (stored_of m) i) ≡ Some o)) ⊎ ((change : TagChange) × (change_of m i ≡ Some change) × (origin_of (change_data change) ≡ Some o) × IsIn i (ids_listed (list_of m o)))
version_source m o i whole e None x = inl (refl, ap (λ (x : Option TagChange). origin_of (after_change (tag_data_in (stored_of m) i) (option_map change_data x))) (sym x) ∙ e)
version_source m o i whole e (Some change) x =
    let b : origin_of (change_data change) ≡ Some o = ap (λ (x : Option TagChange). origin_of (after_change (tag_data_in (stored_of m) i) (option_map change_data x))) (sym x) ∙ e in
    let p = put_parts change.flags change.origin o b in
    inr (change, x, b, listed_in i (list_of m o) (subst (λ z. IsListed i (list_of m z)) p.1 (whole.listed i change x p.0)))
  where
    put_parts : (flags : Option (Bor Flags)) (a o : OpId) → origin_of (change_data (record { flags = flags; origin = a })) ≡ Some o → IsSome flags × (a ≡ o)
    put_parts None a o h = absurd cc
    put_parts (Some f) a o h = (cc, cc)

    listed_in : (i : OpId) (x : Option (Vec OpId)) → IsListed i x → IsIn i (ids_listed x)
    listed_in i None h = absurd h
    listed_in i (Some ids) h = h
