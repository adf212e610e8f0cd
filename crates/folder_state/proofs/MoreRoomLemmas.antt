-- Folders with more room, and the same tags.
use Rattle.std.proofs.Common.{◌≡◌, ◌⊎◌, inl, inr, ℕ, ◌+◌, ◌≤◌, ◌<◌, arith, false, cond, Option, None, Some, List, [], ◌∷◌, ◌++◌, length, take, get_or, add-one, refl, sym, ap, subst, ◌∙◌}
use Rattle.std.specs.Global.{Vec}
use Rattle.std.specs.List.{list_any}
use Rattle.std.specs.Map.{lookup}
use Rattle.std.specs.Option.{option_map}
use Rattle.std.specs.Str.{bytes_eq}
use Rattle.std.specs.Vec.{vec_capacity}
use Rattle.std.proofs.Math.Seq.{take-suc}
use Rattle.std.proofs.lemmas.Bool.{cases_Bool}
use Rattle.tags_clocks.specs.declared.id.OpId.{OpId}
use Rattle.merge_laws.specs.Orders.{IsIn}
use Rattle.merge_laws.proofs.Lists.{in_parts}
use Rattle.crdt_ops.specs.SortedSets.{IsAscending, id_order, same_id}
use Rattle.imap_types.specs.declared.version.Version.{Version}
use Rattle.imap_types.specs.Unions.{version_ids}
use Rattle.folder_state.specs.FolderTables.{AreIndexed, FolderTables, tag_data_at, tag_data_in, flags_among, find_folder, has_tag_in, versions_or_none, versions_at}
use Rattle.folder_state.specs.OpRoom.{AreRoomier, AreRoomierLists, HasRoomAt, HasVersionPlaces, HasVersionRoom, IsRoomier, IsRoomierIn, IsRoomierList, counts_of}
use Rattle.folder_state.proofs.FolderTablesLemmas.{message_tag_data}
use Rattle.folder_state.proofs.Lenses.{same_name, some_is}
use Rattle.folder_state.proofs.Versions.{id_is, own_id}

-- ---- lists of versions

roomier_list : (x : Option (Vec Version)) → IsRoomierList x x
roomier_list None = tt
roomier_list (Some vs) = (refl, omega arith)

roomier_list_trans : (x y z : Option (Vec Version)) → IsRoomierList x y → IsRoomierList y z → IsRoomierList x z
roomier_list_trans None None None h k = tt
roomier_list_trans None None (Some z) h k = absurd k
roomier_list_trans None (Some y) z h k = absurd h
roomier_list_trans (Some x) None z h k = absurd h
roomier_list_trans (Some x) (Some y) None h k = absurd k
roomier_list_trans (Some x) (Some y) (Some z) h k = (k.0 ∙ h.0, let a = h.1 in let b = k.1 in omega (arith, a, b))

pub roomier_lists : (messages : List (OpId × Vec Version)) → AreRoomierLists messages messages
roomier_lists messages o = roomier_list (lookup (same_id o) messages)

list_same : (x y : Option (Vec Version)) → IsRoomierList x y → versions_or_none y ≡ versions_or_none x
list_same None None h = refl
list_same None (Some y) h = absurd h
list_same (Some x) None h = absurd h
list_same (Some x) (Some y) h = h.0

list_some : (x y : Option (Vec Version)) (vs : Vec Version) → IsRoomierList x y → y ≡ Some vs → (ws : Vec Version) × (x ≡ Some ws) × (vs.items ≡ ws.items) × (vec_capacity ws ≤ vec_capacity vs)
list_some None None vs h e = absurd (let k = e in cc)
list_some None (Some y) vs h e = absurd h
list_some (Some x) None vs h e = absurd h
list_some (Some x) (Some y) vs h e = subst (λ (zs : Vec Version). (ws : Vec Version) × (Some x ≡ Some ws) × (zs.items ≡ ws.items) × (vec_capacity ws ≤ vec_capacity zs)) (some_is y vs e) (x, refl, h.0, h.1)

pub roomier_now : (origin : OpId) (old new : List (OpId × Vec Version)) (a b : Vec Version) → lookup (same_id origin) old ≡ Some a → lookup (same_id origin) new ≡ Some b → ((o : OpId) → same_id o origin ≡ false → lookup (same_id o) new ≡ lookup (same_id o) old) → b.items ≡ a.items → vec_capacity a ≤ vec_capacity b → AreRoomierLists old new
roomier_now origin old new a b was is others items more o =
    elim (cases_Bool (same_id o origin)) [
      | inl t ↦
          let e = id_is o origin t in
          subst (λ (x : Option (Vec Version) × Option (Vec Version)). IsRoomierList x.0 x.1) (λ k. (sym (ap (λ p. lookup (same_id p) old) e ∙ was) k, sym (ap (λ p. lookup (same_id p) new) e ∙ is) k)) (items, more)
      | inr f ↦ subst (IsRoomierList (lookup (same_id o) old)) (sym (others o f)) (roomier_list (lookup (same_id o) old))
    ]

module _ (old new : List (OpId × Vec Version)) (roomier : AreRoomierLists old new) where
  pub versions_same : (o : OpId) → versions_at new o ≡ versions_at old o
  versions_same o = list_same (lookup (same_id o) old) (lookup (same_id o) new) (roomier o)

  pub filed_roomier : (origins : List (OpId × OpId)) → AreIndexed old origins → AreIndexed new origins
  filed_roomier origins indexed = record {
    some = λ o vs e. let w = list_some (lookup (same_id o) old) (lookup (same_id o) new) vs (roomier o) e in subst (λ xs. 0 < length xs) (sym w.2) (indexed.some o w.0 w.1);
    ascending = λ o. subst (λ xs. IsAscending id_order (version_ids xs)) (sym (versions_same o)) (indexed.ascending o);
    both = λ i o. let b = indexed.both i o in (λ h. subst (λ xs. IsIn i (version_ids xs)) (sym (versions_same o)) (b.0 h), λ h. b.1 (subst (λ xs. IsIn i (version_ids xs)) (versions_same o) h));
  }

  pub room_roomier : (o : OpId) (n : ℕ) → HasVersionRoom old o n → HasVersionRoom new o n
  room_roomier o n h vs e =
      let w = list_some (lookup (same_id o) old) (lookup (same_id o) new) vs (roomier o) e in
      let room = h w.0 w.1 in
      let more = w.3 in
      let same : length vs.items ≡ length w.0.items = ap length w.2 in
      omega (arith, room, more, same)

  pub data_roomier : (i : OpId) (x : Option OpId) → tag_data_at new i x ≡ tag_data_at old i x
  data_roomier i None = refl
  data_roomier i (Some o) = ap (λ (xs : List Version). option_map (message_tag_data o) (flags_among xs i)) (versions_same o)

none_listed : (es : List (OpId × Vec Version)) → AreRoomierLists [] es → es ≡ []
none_listed [] h = refl
none_listed (e ∷ es) h = absurd (subst (IsRoomierList None) (ap (λ b. cond b (Some e.1) (lookup (same_id e.0) es)) (own_id e.0)) (h e.0))

-- ---- folders

pub roomier_in : (x : Option FolderTables) → IsRoomierIn x x
roomier_in None = tt
roomier_in (Some k) = record { tags = refl; origins = refl; versions = roomier_lists k.messages; spare_tags = omega arith; spare_messages = omega arith; spare_origins = omega arith }

pub roomier_trans : (x y z : Option FolderTables) → IsRoomierIn x y → IsRoomierIn y z → IsRoomierIn x z
roomier_trans None None z h k = k
roomier_trans None (Some y) None h k = absurd k
roomier_trans None (Some y) (Some z) h k = (k.tags ∙ h.0, none_listed z.messages (subst (λ m. AreRoomierLists m z.messages) h.1 k.versions), k.origins ∙ h.2)
roomier_trans (Some x) None z h k = absurd h
roomier_trans (Some x) (Some y) None h k = absurd k
roomier_trans (Some x) (Some y) (Some z) h k = record {
  tags = k.tags ∙ h.tags;
  origins = k.origins ∙ h.origins;
  versions = λ o. roomier_list_trans (lookup (same_id o) x.messages) (lookup (same_id o) y.messages) (lookup (same_id o) z.messages) (h.versions o) (k.versions o);
  spare_tags = let a = h.spare_tags in let b = k.spare_tags in omega (arith, a, b);
  spare_messages = let a = h.spare_messages in let b = k.spare_messages in omega (arith, a, b);
  spare_origins = let a = h.spare_origins in let b = k.spare_origins in omega (arith, a, b);
}

pub tags_roomier : (x y : Option FolderTables) → IsRoomierIn x y → (i : OpId) → has_tag_in y i ≡ has_tag_in x i
tags_roomier None None h i = refl
tags_roomier None (Some y) h i = ap (list_any (same_id i)) h.0
tags_roomier (Some x) None h i = absurd h
tags_roomier (Some x) (Some y) h i = ap (list_any (same_id i)) h.tags

pub bodies_roomier : (x y : Option FolderTables) → IsRoomierIn x y → (i : OpId) → tag_data_in y i ≡ tag_data_in x i
bodies_roomier None None h i = refl
bodies_roomier None (Some y) h i = ap (λ (es : List (OpId × OpId)). tag_data_at y.messages i (lookup (same_id i) es)) h.2
bodies_roomier (Some x) None h i = absurd h
bodies_roomier (Some x) (Some y) h i =
    ap (λ (es : List (OpId × OpId)). tag_data_at y.messages i (lookup (same_id i) es)) h.origins
    ∙ data_roomier x.messages y.messages h.versions i (lookup (same_id i) x.origins)

module _ (name : List ℕ) (old new : List (Vec ℕ × FolderTables)) (was is : Option FolderTables) (before : find_folder name old ≡ was) (at : (f : List ℕ) → find_folder f new ≡ cond (bytes_eq f name) is (find_folder f old)) where
  pub roomier_at : IsRoomierIn was is → AreRoomier old new
  roomier_at h f =
      elim (cases_Bool (bytes_eq f name)) [
        | inl t ↦
            let present : find_folder f old ≡ was = ap (λ g. find_folder g old) (same_name f name t) ∙ before in
            let now : find_folder f new ≡ is = at f ∙ (λ k. cond (t k) is (find_folder f old)) in
            subst (λ (x : Option FolderTables × Option FolderTables). IsRoomierIn x.0 x.1) (λ k. (sym present k, sym now k)) h
        | inr d ↦ subst (IsRoomierIn (find_folder f old)) (sym (at f ∙ (λ k. cond (d k) is (find_folder f old)))) (roomier_in (find_folder f old))
      ]

pub places_roomier : (x y : Option FolderTables) → IsRoomierIn x y → (k : FolderTables) → x ≡ Some k → (l : FolderTables) × (y ≡ Some l) × IsRoomier k l
places_roomier None y h k e = absurd (let z = e in cc)
places_roomier (Some x) None h k e = absurd h
places_roomier (Some x) (Some y) h k e = (y, refl, subst (λ z. IsRoomier z y) (some_is x k e) h)

-- no room is lost
pub room_preserved : (old new : List (Vec ℕ × FolderTables)) → AreRoomier old new → (tags : List ℕ → ℕ) (versions : OpId → ℕ) (o : Option OpId) (t : Option (List ℕ)) → HasRoomAt tags versions o t (λ n. find_folder n old) → HasRoomAt tags versions o t (λ n. find_folder n new)
room_preserved old new roomier tags versions o None h = tt
room_preserved old new roomier tags versions o (Some n) h =
    let w = places_roomier (find_folder n old) (find_folder n new) (roomier n) h.0 h.1 in
    let p = h.2 in
    let r = w.2 in (
      w.0,
      w.1,
      record {
        tags = let a = p.tags in let b = r.spare_tags in omega (arith, a, b);
        messages = λ q e. let a = p.messages q e in let b = r.spare_messages in omega (arith, a, b);
        origins = λ q e. let a = p.origins q e in let b = r.spare_origins in omega (arith, a, b);
      },
      at o h.3,
    )
  where
    at : (o : Option OpId) → HasVersionPlaces h.0 o (counts_of versions o) → HasVersionPlaces (places_roomier (find_folder n old) (find_folder n new) (roomier n) h.0 h.1).0 o (counts_of versions o)
    at None k = tt
    at (Some q) k = room_roomier h.0.messages (places_roomier (find_folder n old) (find_folder n new) (roomier n) h.0 h.1).0.messages (places_roomier (find_folder n old) (find_folder n new) (roomier n) h.0 h.1).2.versions q (versions q) k

pub in_take_next : {X : Type 0} (xs : List X) (n : ℕ) (x y : X) → n < length xs → x ≡ get_or xs n x → IsIn y (take (n + 1) xs) → IsIn y (take n xs) ⊎ (x ≡ y)
in_take_next xs n x y l e h =
    elim (in_parts y (take n xs) (x ∷ []) (subst (IsIn y) (ap (λ m. take m xs) (add-one n) ∙ take-suc xs n x l ∙ ap (λ z. take n xs ++ z ∷ []) (sym e)) h)) [
      | inl t ↦ inl t
      | inr t ↦ elim t [ inl k ↦ inr k | inr k ↦ absurd k ]
    ]

pub places_without_messages : (k : FolderTables) (o : Option OpId) (n : ℕ) → k.messages ≡ [] → HasVersionPlaces k o n
places_without_messages k None n e = tt
places_without_messages k (Some o) n e = λ vs f. let z : ◌≡◌ {A = Option (Vec Version)} None (Some vs) = ap (lookup (same_id o)) (sym e) ∙ f in absurd cc
