-- Maps after one change, and loops over ids.
use Rattle.std.specs.Result.{is_err}
use Rattle.std.proofs.Common.{Result, Ok, Err, OnErr, OnOk, ◌≡◌, inl, inr, ℕ, ◌+◌, ◌<◌, add-one, Bool, true, false, cond, not, ◌&&◌, ◌||◌, Option, None, Some, List, [], ◌∷◌, get_or, length, take, refl, sym, ap, ◌∙◌, subst}
use Rattle.std.specs.Global.{Vec}
use Rattle.std.specs.List.{list_any}
use Rattle.std.specs.Map.{KeepsOthers, lookup}
use Rattle.std.specs.Str.{bytes_eq}
use Rattle.std.proofs.Math.Seq.{take-suc}
use Rattle.std.proofs.lemmas.Bool.{cases_Bool}
use Rattle.std.proofs.lemmas.List.Folds.{list_any-append}
use Rattle.std.proofs.lemmas.Slice.Eq.{bytes_eq-Decides}
use Rattle.tags_clocks.specs.declared.id.OpId.{OpId}
use Rattle.crdt_ops.specs.SortedSets.{same_id}
use Rattle.folder_state.specs.FolderTables.{FolderTables, find_folder}
use Rattle.folder_state.proofs.Versions.{id_is, id_not, not_id, own_id}

pub some_is : {X : Type 0} (x y : X) → ◌≡◌ {A = Option X} (Some x) (Some y) → x ≡ y
some_is x y h = cc

pub same_turned : (a b : OpId) → same_id a b ≡ same_id b a
same_turned a b =
    elim (cases_Bool (same_id a b)) [
      | inl t ↦ t ∙ sym (subst (λ z. same_id z a ≡ true) (id_is a b t) (own_id a))
      | inr f ↦ f ∙ sym (id_not b a (λ e. not_id a b f (sym e)))
    ]

-- ---- loops over ids

pub any_take_next : {X : Type 0} (P : X → Bool) (xs : List X) (n : ℕ) (x : X) → n < length xs → x ≡ get_or xs n x → list_any P (take (n + 1) xs) ≡ (list_any P (take n xs) || P x)
any_take_next P xs n x l e =
    ap (λ m. list_any P (take m xs)) (add-one n)
    ∙ ap (list_any P) (take-suc xs n x l)
    ∙ list_any-append P (take n xs) (get_or xs n x ∷ [])
    ∙ (λ k. list_any P (take n xs) || (P (sym e k) || false))
    ∙ ap (λ b. list_any P (take n xs) || b) (or-false (P x))
  where
    or-false : (b : Bool) → (b || false) ≡ b
    or-false true = refl
    or-false false = refl

pub key_removed : (a b s t : Bool) → t ≡ s → cond t false (not a && b) ≡ (not (a || s) && b)
key_removed true b true t e = ap (λ (x : Bool). cond x false (false && b)) e
key_removed true b false t e = ap (λ (x : Bool). cond x false (false && b)) e
key_removed false b true t e = ap (λ (x : Bool). cond x false b) e
key_removed false b false t e = ap (λ (x : Bool). cond x false b) e

pub tag_data_removed : {X : Type 0} (a s : Bool) (x : Option X) → cond s None (cond a None x) ≡ cond (a || s) None x
tag_data_removed true true x = refl
tag_data_removed true false x = refl
tag_data_removed false true x = refl
tag_data_removed false false x = refl

-- ---- a folder changed

pub same_name : (xs ys : List ℕ) → bytes_eq xs ys ≡ true → xs ≡ ys
same_name xs ys e = (bytes_eq-Decides xs ys).0 e

pub own_name : (xs : List ℕ) → bytes_eq xs xs ≡ true
own_name xs = (bytes_eq-Decides xs xs).1 refl

-- The value under a name.
abbrev pub named : {X : Type 0} → List ℕ → List (Vec ℕ × X) → Option X
named name entries = lookup (λ (key : Vec ℕ). bytes_eq name key.items) entries

module _ {X : Type 0} (name : List ℕ) (old new : List (Vec ℕ × X)) (keeps : KeepsOthers (λ (x y : Vec ℕ). bytes_eq x.items y.items) (λ (key : Vec ℕ). bytes_eq name key.items) old new) where
  -- another name stays
  pub other_name : (other : List ℕ) → bytes_eq other name ≡ false → named other new ≡ named other old
  unfolding KeepsOthers
  other_name other d =
      keeps (λ (key : Vec ℕ). bytes_eq other key.items)
      (λ x y t. ap (λ (n : List ℕ). bytes_eq n y.items) (same_name other x.items t))
      (λ k t. ap (bytes_eq other) (sym (same_name name k.items t)) ∙ d)

  pub name_now : (a : Option X) → named name new ≡ a → (f : List ℕ) → named f new ≡ cond (bytes_eq f name) a (named f old)
  name_now a is f =
      elim (cases_Bool (bytes_eq f name)) [
        | inl t ↦ ap (λ g. named g new) (same_name f name t) ∙ is ∙ (λ k. cond (sym t k) a (named f old))
        | inr d ↦ other_name f d ∙ (λ k. cond (sym d k) a (named f old))
      ]

-- a folder changed, if its name was looked up by its octets
pub folder_changed : {X : Type 0} (name octets : List ℕ) → octets ≡ name → (old new : List (Vec ℕ × X)) → KeepsOthers (λ (x y : Vec ℕ). bytes_eq x.items y.items) (λ (key : Vec ℕ). bytes_eq octets key.items) old new → (a : Option X) → named octets new ≡ a → (f : List ℕ) → named f new ≡ cond (bytes_eq f name) a (named f old)
folder_changed name octets e old new keeps a is f = subst (λ n. named f new ≡ cond (bytes_eq f n) a (named f old)) e (name_now octets old new keeps a is f)

module _ (name : List ℕ) (old new : List (Vec ℕ × FolderTables)) (a b : FolderTables) (was : find_folder name old ≡ Some a) (at : (f : List ℕ) → find_folder f new ≡ cond (bytes_eq f name) (Some b) (find_folder f old)) where
  -- the data of each folder, if one folder changes
  pub folder_data_changed : {X : Type 0} (P : Option FolderTables → OpId → X) (F : Bool → OpId → X → X) → ((i : OpId) (x : X) → F false i x ≡ x) → ((i : OpId) → P (Some b) i ≡ F true i (P (Some a) i)) → (f : List ℕ) (i : OpId) → P (find_folder f new) i ≡ F (bytes_eq f name) i (P (find_folder f old) i)
  folder_data_changed P F none here f i =
      ap (λ o. P o i) (at f)
      ∙ elim (cases_Bool (bytes_eq f name)) [
        | inl t ↦
            let present : find_folder f old ≡ Some a = ap (λ g. find_folder g old) (same_name f name t) ∙ was in
            (λ k. P (cond (t k) (Some b) (find_folder f old)) i) ∙ here i ∙ (λ k. F (sym t k) i (P (sym present k) i))
        | inr d ↦ (λ k. P (cond (d k) (Some b) (find_folder f old)) i) ∙ sym (none i (P (find_folder f old) i)) ∙ (λ k. F (sym d k) i (P (find_folder f old) i))
      ]

-- nothing changes if the folder has no tables
pub folder_data_same : (name : List ℕ) (old : List (Vec ℕ × FolderTables)) → find_folder name old ≡ None → {X : Type 0} (P : Option FolderTables → OpId → X) (F : Bool → OpId → X → X) → ((i : OpId) (x : X) → F false i x ≡ x) → ((i : OpId) → P None i ≡ F true i (P None i)) → (f : List ℕ) (i : OpId) → P (find_folder f old) i ≡ F (bytes_eq f name) i (P (find_folder f old) i)
folder_data_same name old was P F none here f i =
    elim (cases_Bool (bytes_eq f name)) [
      | inl t ↦
          let present : find_folder f old ≡ None = ap (λ g. find_folder g old) (same_name f name t) ∙ was in
          (λ k. P (present k) i) ∙ here i ∙ (λ k. F (sym t k) i (P (sym present k) i))
      | inr d ↦ sym (none i (P (find_folder f old) i)) ∙ (λ k. F (sym d k) i (P (find_folder f old) i))
    ]

pub and_false : (b : Bool) → false ≡ (not b && false)
and_false true = refl
and_false false = refl

pub cond_none : {X : Type 0} (b : Bool) → ◌≡◌ {A = Option X} None (cond b None None)
cond_none true = refl
cond_none false = refl

pub on_ok : {A B : Type 0} {P : Type 0} (r : Result A B) → is_err r ≡ false → OnOk r P → P
on_ok (Ok v) e h = h
on_ok (Err v) e h = absurd (cc e)

pub on_err : {A B : Type 0} {P : Type 0} (r : Result A B) → is_err r ≡ true → OnErr r P → P
on_err (Ok v) e h = absurd (cc e)
on_err (Err v) e h = h
