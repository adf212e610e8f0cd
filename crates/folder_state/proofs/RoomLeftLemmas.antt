-- The room that changes leave.
use Rattle.std.proofs.Common.{◌≡◌, inl, inr, ◌+◌, ◌≤◌, ℕ, arith, true, false, cond, Option, None, Some, List, [], length, refl, ap, sym, ◌∙◌, subst}
use Rattle.std.specs.Global.{Vec}
use Rattle.std.specs.Map.{lookup}
use Rattle.std.specs.Vec.{vec_capacity}
use Rattle.std.specs.Str.{bytes_eq}
use Rattle.std.proofs.lemmas.Bool.{cases_Bool, false≢true}
use Rattle.tags_clocks.specs.declared.id.OpId.{OpId}
use Rattle.crdt_ops.specs.SortedSets.{is_some_id, insert_ordered, same_id}
use Rattle.imap_types.specs.declared.version.Version.{Version}
use Rattle.folder_state.specs.FolderTables.{IsTakenOut, FolderTables, by_id, find_folder}
use Rattle.folder_state.specs.OpRoom.{AreNoFuller, HasPlaces, HasRoomAt, HasVersionPlaces, HasVersionRoom, IsNoFuller, IsNoFullerIn, LeavesRoom, counts_of}
use Rattle.folder_state.proofs.Lenses.{own_name, same_name, some_is}
use Rattle.folder_state.proofs.Versions.{id_is, own_id, placed_long}

pub no_fuller_same : (a : FolderTables) → IsNoFuller a a
no_fuller_same a = record { tags = omega arith; messages = omega arith; origins = omega arith; versions = λ o n h. h }

pub no_fuller_trans : (a b c : FolderTables) → IsNoFuller a b → IsNoFuller b c → IsNoFuller a c
no_fuller_trans a b c h k = record {
  tags = omega (arith, h.tags, k.tags);
  messages = omega (arith, h.messages, k.messages);
  origins = omega (arith, h.origins, k.origins);
  versions = λ o n r. k.versions o n (h.versions o n r);
}

pub places_preserved : (a b : FolderTables) (o : Option OpId) (n : ℕ) → IsNoFuller a b → HasPlaces a o n → HasPlaces b o n
places_preserved a b o n h p = record {
  tags = omega (arith, h.tags, p.tags);
  messages = λ q e. let x = p.messages q e in omega (arith, h.messages, x);
  origins = λ q e. let x = p.origins q e in omega (arith, h.origins, x);
}

-- the room for fewer tags
fewer_places : (k : FolderTables) (o : Option OpId) (m n : ℕ) → n ≤ m → HasPlaces k o m → HasPlaces k o n
fewer_places k o m n less p = record {
  tags = let x = p.tags in omega (arith, x, less);
  messages = λ q e. let x = p.messages q e in omega (arith, x, less);
  origins = λ q e. let x = p.origins q e in omega (arith, x, less);
}

-- ---- versions of one message

pub taken_room : (o id : OpId) (old new : List (OpId × Vec Version)) → IsTakenOut o id old new → (p : OpId) (n : ℕ) → HasVersionRoom old p n → HasVersionRoom new p n
taken_room o id old new taken p n h vs e =
    elim (cases_Bool (same_id p o)) [
      | inl t ↦
          let w = taken.places vs (subst (λ q. lookup (same_id q) new ≡ Some vs) (id_is p o t) e) in
          let room = h w.0 (subst (λ q. lookup (same_id q) old ≡ Some w.0) (sym (id_is p o t)) w.1) in
          let less = w.2 in
          let same = w.3 in
          omega (arith, room, less, same)
      | inr f ↦ h vs (sym (taken.others p f) ∙ e)
    ]

pub put_room : (o origin : OpId) (n : ℕ) (old new : List (OpId × Vec Version)) (now : Vec Version) → ((p : OpId) → same_id p origin ≡ false → lookup (same_id p) new ≡ lookup (same_id p) old) → lookup (same_id origin) new ≡ Some now → (same_id o origin ≡ true → length now.items + n ≤ vec_capacity now) → HasVersionRoom old o (cond (same_id o origin) 1 0 + n) → HasVersionRoom new o n
put_room o origin n old new now others is here h vs e =
    elim (cases_Bool (same_id o origin)) [
      | inl t ↦
          let same : now ≡ vs = some_is now vs (sym is ∙ subst (λ q. lookup (same_id q) new ≡ Some vs) (id_is o origin t) e) in
          subst (λ (xs : Vec Version). length xs.items + n ≤ vec_capacity xs) same (here t)
      | inr f ↦
          let room = h vs (sym (others o f) ∙ e) in
          let none : ◌≡◌ {A = ℕ} (cond (same_id o origin) 1 0) 0 = ap (λ b. cond b 1 0) f in
          omega (arith, room, none)
    ]

-- a further version in a list that had room for it
pub one_fits : (o origin : OpId) (n : ℕ) (old : List (OpId × Vec Version)) (v : Version) (was now : Vec Version) → lookup (same_id origin) old ≡ Some was → now.items ≡ insert_ordered by_id v was.items → vec_capacity now ≡ vec_capacity was → HasVersionRoom old o (cond (same_id o origin) 1 0 + n) → same_id o origin ≡ true → length now.items + n ≤ vec_capacity now
one_fits o origin n old v was now looked_up items capacity h t =
    let room = h was (subst (λ q. lookup (same_id q) old ≡ Some was) (sym (id_is o origin t)) looked_up) in
    let one : ◌≡◌ {A = ℕ} (cond (same_id o origin) 1 0) 1 = ap (λ b. cond b 1 0) t in
    let long = (placed_long v was.items).1 in
    let same : length now.items ≡ length (insert_ordered by_id v was.items) = ap length items in
    omega (arith, room, one, long, same, capacity)

pub first_fits : (n : ℕ) (v : Version) (list now : Vec Version) → list.items ≡ [] → now.items ≡ insert_ordered by_id v list.items → vec_capacity now ≡ vec_capacity list → 1 + n ≤ vec_capacity list → length now.items + n ≤ vec_capacity now
first_fits n v list now none items capacity h =
    let same : length now.items ≡ length (insert_ordered by_id v []) = ap length (items ∙ ap (insert_ordered by_id v) none) in
    let one : length (insert_ordered by_id v []) ≡ 1 = omega arith in
    omega (arith, same, one, capacity, h)

-- ---- one folder of many

pub no_fuller_in : (o : Option FolderTables) → IsNoFullerIn o o
no_fuller_in None = tt
no_fuller_in (Some k) = no_fuller_same k

fewer : (messages : List (OpId × Vec Version)) (o : OpId) (x n : ℕ) → HasVersionRoom messages o (x + n) → HasVersionRoom messages o n
fewer messages o x n h vs e = let k = h vs e in omega (arith, k)

module _ (name : List ℕ) (old new : List (Vec ℕ × FolderTables)) (a b : FolderTables) (was : find_folder name old ≡ Some a) (at : (f : List ℕ) → find_folder f new ≡ cond (bytes_eq f name) (Some b) (find_folder f old)) where
  pub no_fuller_now : IsNoFuller a b → (f : List ℕ) → IsNoFullerIn (find_folder f old) (find_folder f new)
  no_fuller_now h f =
      elim (cases_Bool (bytes_eq f name)) [
        | inl t ↦
            let present : find_folder f old ≡ Some a = ap (λ g. find_folder g old) (same_name f name t) ∙ was in
            let now : find_folder f new ≡ Some b = at f ∙ (λ k. cond (t k) (Some b) (find_folder f old)) in
            subst (λ (x : Option FolderTables × Option FolderTables). IsNoFullerIn x.0 x.1) (λ k. (sym present k, sym now k)) h
        | inr d ↦ subst (IsNoFullerIn (find_folder f old)) (sym (at f ∙ (λ k. cond (d k) (Some b) (find_folder f old)))) (no_fuller_in (find_folder f old))
      ]

  -- the room after a tag was put in
  pub room_left : (origin : Option OpId) (places : ℕ) → ((o : Option OpId) (n : ℕ) → HasPlaces a o (n + 1) → HasPlaces b o n) → ((o : OpId) (n : ℕ) → HasVersionRoom a.messages o (cond (is_some_id o origin) 1 0 + n) → (is_some_id o origin ≡ true → 1 + n ≤ places) → HasVersionRoom b.messages o n) → LeavesRoom name origin places (λ n. find_folder n old) (λ n. find_folder n new)
  room_left origin places room fits tags versions o None h w = tt
  room_left origin places room fits tags versions o (Some n) h w =
      elim (cases_Bool (bytes_eq n name)) [
        | inl t ↦
            let same : a ≡ h.0 = some_is a h.0 (sym was ∙ ap (λ g. find_folder g old) (sym (same_name n name t)) ∙ h.1) in
            let now : find_folder n new ≡ Some b = at n ∙ (λ k. cond (t k) (Some b) (find_folder n old)) in
            let one : ◌≡◌ {A = ℕ} (cond (bytes_eq n name) 1 0) 1 = ap (λ c. cond c 1 0) t in
            let places_here : HasPlaces h.0 o (tags n + 1) = fewer_places h.0 o (cond (bytes_eq n name) 1 0 + tags n) (tags n + 1) (omega (arith, one)) h.2 in
            (b, now, room o (tags n) (subst (λ (k : FolderTables). HasPlaces k o (tags n + 1)) (sym same) places_here), fit origin o (subst (λ (k : FolderTables). HasVersionPlaces k o (counts_of (λ i. cond (is_some_id i origin) 1 0 + versions i) o)) (sym same) h.3) w fits)
        | inr d ↦
            let now : find_folder n new ≡ Some h.0 = at n ∙ (λ k. cond (d k) (Some b) (find_folder n old)) ∙ h.1 in
            (h.0, now, fewer_places h.0 o (cond (bytes_eq n name) 1 0 + tags n) (tags n) (omega arith) h.2, others o h.3)
      ]
    where
      others : (o : Option OpId) → HasVersionPlaces h.0 o (counts_of (λ i. cond (is_some_id i origin) 1 0 + versions i) o) → HasVersionPlaces h.0 o (counts_of versions o)
      others None k = tt
      others (Some q) k = fewer h.0.messages q (cond (is_some_id q origin) 1 0) (versions q) k

      fit : (origin o : Option OpId) → HasVersionPlaces a o (counts_of (λ i. cond (is_some_id i origin) 1 0 + versions i) o) → counts_of (λ i. cond (is_some_id i origin) 1 0 + versions i) origin ≤ places → ((o : OpId) (n : ℕ) → HasVersionRoom a.messages o (cond (is_some_id o origin) 1 0 + n) → (is_some_id o origin ≡ true → 1 + n ≤ places) → HasVersionRoom b.messages o n) → HasVersionPlaces b o (counts_of versions o)
      fit origin None k w fits = tt
      fit None (Some q) k w fits = fits q (versions q) k (λ t. absurd (false≢true t))
      fit (Some r) (Some q) k w fits = fits q (versions q) k (λ t.
          let same : q ≡ r = id_is q r t in
          let one : ◌≡◌ {A = ℕ} (cond (same_id r r) 1 0) 1 = ap (λ c. cond c 1 0) (own_id r) in
          let less : cond (same_id r r) 1 0 + versions r ≤ places = w in
          let turned : versions q ≡ versions r = ap versions same in
          omega (arith, one, less, turned))

pub same_lists : (a b : FolderTables) (o : OpId) (n : ℕ) → b.messages ≡ a.messages → HasVersionRoom a.messages o (0 + n) → HasVersionRoom b.messages o n
same_lists a b o n e h = subst (λ (m : List (OpId × Vec Version)). HasVersionRoom m o n) (sym e) (fewer a.messages o 0 n h)

-- ---- the counts with and without one operation

pub room_less : (extra tags : List ℕ → ℕ) (more versions : OpId → ℕ) (o : Option OpId) (t : Option (List ℕ)) (folders : List ℕ → Option FolderTables) → HasRoomAt (λ n. extra n + tags n) (λ i. more i + versions i) o t folders → HasRoomAt tags versions o t folders
room_less extra tags more versions o None folders h = tt
room_less extra tags more versions o (Some n) folders h = (h.0, h.1, fewer_places h.0 o (extra n + tags n) (tags n) (omega arith) h.2, at o h.3)
  where
    at : (o : Option OpId) → HasVersionPlaces h.0 o (counts_of (λ i. more i + versions i) o) → HasVersionPlaces h.0 o (counts_of versions o)
    at None k = tt
    at (Some q) k = fewer h.0.messages q (more q) (versions q) k

pub place_one : (name : List ℕ) (k : FolderTables) (o : Option OpId) → HasPlaces k o (cond (bytes_eq name name) 1 0 + 0) → HasPlaces k o 1
place_one name k o h =
    let one : ◌≡◌ {A = ℕ} (cond (bytes_eq name name) 1 0) 1 = ap (λ b. cond b 1 0) (own_name name) in
    fewer_places k o (cond (bytes_eq name name) 1 0 + 0) 1 (omega (arith, one)) h

pub version_one : (id : OpId) (messages : List (OpId × Vec Version)) → HasVersionRoom messages id (cond (same_id id id) 1 0 + 0) → HasVersionRoom messages id 1
version_one id messages h vs e =
    let one : ◌≡◌ {A = ℕ} (cond (same_id id id) 1 0) 1 = ap (λ b. cond b 1 0) (own_id id) in
    let x = h vs e in
    omega (arith, x, one)

pub list_one : (id : OpId) (n : ℕ) → cond (same_id id id) 1 0 + 0 ≤ n → 1 ≤ n
list_one id n h =
    let one : ◌≡◌ {A = ℕ} (cond (same_id id id) 1 0) 1 = ap (λ b. cond b 1 0) (own_id id) in
    omega (arith, h, one)

-- ---- the room after removals

pub room_no_fuller : (old new : List (Vec ℕ × FolderTables)) → AreNoFuller old new → (tags : List ℕ → ℕ) (versions : OpId → ℕ) (o : Option OpId) (t : Option (List ℕ)) → HasRoomAt tags versions o t (λ n. find_folder n old) → HasRoomAt tags versions o t (λ n. find_folder n new)
room_no_fuller old new less tags versions o None h = tt
room_no_fuller old new less tags versions o (Some n) h =
    let w = present (find_folder n old) (find_folder n new) h.0 (less n) h.1 in
    (w.0, w.1, places_preserved h.0 w.0 o (tags n) w.2 h.2, fits w.0 w.2 o h.3)
  where
    present : (x y : Option FolderTables) (k : FolderTables) → IsNoFullerIn x y → x ≡ Some k → (l : FolderTables) × (y ≡ Some l) × IsNoFuller k l
    present None y k m e = absurd (let z : ◌≡◌ {A = Option FolderTables} None (Some k) = e in cc)
    present (Some x) None k m e = absurd m
    present (Some x) (Some y) k m e = (y, refl, subst (λ z. IsNoFuller z y) (some_is x k e) m)

    fits : (l : FolderTables) → IsNoFuller h.0 l → (o : Option OpId) → HasVersionPlaces h.0 o (counts_of versions o) → HasVersionPlaces l o (counts_of versions o)
    fits l m None k = tt
    fits l m (Some q) k = m.versions q (versions q) k
