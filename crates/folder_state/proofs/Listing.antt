-- Lists made in loops.
use Rattle.std.proofs.Common.{Result, Ok, Err, IfOk, ◌≡◌, ◌↔◌, ◌⊎◌, inl, inr, ℕ, zero, suc, ◌+◌, ◌≤◌, ◌<◌, add-one, arith, Bool, true, false, cond, ◌||◌, Option, None, Some, List, [], ◌∷◌, ◌++◌, drop, length, take, refl, sym, ap, ◌∙◌, subst}
use Rattle.std.specs.Global.{Vec}
use Rattle.imap_types.specs.Ascending.{octet_order}
use Rattle.folder_state.specs.FolderTables.{FolderTables, name_if_tagged}
use Rattle.std.specs.List.{cons_option, filter_map, fold, list_any, slice_get}
use Rattle.std.specs.Option.{MatchOption}
use Rattle.std.proofs.lemmas.Bool.{false≢true}
use Rattle.std.proofs.lemmas.List.{append-nil, drop_all, take_all}
use Rattle.tags_clocks.specs.declared.id.OpId.{OpId}
use Rattle.merge_laws.specs.Orders.{IsIn}
use Rattle.imap_types.specs.declared.version.Version.{Version}
use Rattle.imap_types.specs.Unions.{version_ids}
use Rattle.crdt_ops.specs.SortedSets.{IsListOf, id_order, sorted_set, insert_ordered}

pub folded : (ids list : List OpId) (i : ℕ) → length list ≤ i → fold (λ done id. insert_ordered id_order id done) ids (drop i list) ≡ sorted_set id_order list → ids ≡ sorted_set id_order list
folded ids list i l h = sym (ap (fold (λ done id. insert_ordered id_order id done) ids) (drop_all i list l)) ∙ h

-- ---- places

module _ {X : Type 0} where
  pub cut_at : (xs : List X) (i : ℕ) (x : X) → slice_get xs i ≡ Some x → drop i xs ≡ x ∷ drop (suc i) xs
  cut_at [] i x h = absurd (let k : ◌≡◌ {A = Option X} None (Some x) = h in cc)
  cut_at (y ∷ ys) zero x h = let k : y ≡ x = cc in ap (λ z. z ∷ ys) k
  cut_at (y ∷ ys) (suc i) x h = cut_at ys i x h

  pub taken_at : (xs : List X) (i : ℕ) (x : X) → slice_get xs i ≡ Some x → take (suc i) xs ≡ take i xs ++ x ∷ []
  taken_at [] i x h = absurd (let k : ◌≡◌ {A = Option X} None (Some x) = h in cc)
  taken_at (y ∷ ys) zero x h = let k : y ≡ x = cc in ap (λ z. z ∷ []) k
  taken_at (y ∷ ys) (suc i) x h = ap (λ zs. y ∷ zs) (taken_at ys i x h)

  pub none_at : (xs : List X) (i : ℕ) → slice_get xs i ≡ None → length xs ≤ i
  none_at [] i h = omega arith
  none_at (y ∷ ys) zero h = absurd (let k : ◌≡◌ {A = Option X} (Some y) None = h in cc)
  none_at (y ∷ ys) (suc i) h = let k = none_at ys i h in omega (arith, k)

  pub some_at : (xs : List X) (i : ℕ) → i < length xs → (x : X) × (slice_get xs i ≡ Some x)
  some_at [] i h = absurd (omega (arith, h))
  some_at (y ∷ ys) zero h = (y, refl)
  some_at (y ∷ ys) (suc i) h = some_at ys i (omega (arith, h))

  module _ (P : X → Bool) where
    pub any_at : (xs : List X) (i : ℕ) (x : X) → slice_get xs i ≡ Some x → P x ≡ true → list_any P xs ≡ true
    any_at [] i x h t = absurd (let k : ◌≡◌ {A = Option X} None (Some x) = h in cc)
    any_at (y ∷ ys) zero x h t = let k : y ≡ x = cc in ap (λ b. b || list_any P ys) (ap P k ∙ t)
    any_at (y ∷ ys) (suc i) x h t = ap (λ b. P y || b) (any_at ys i x h t) ∙ or-true (P y)
      where
        or-true : (b : Bool) → (b || true) ≡ true
        or-true true = refl
        or-true false = refl

    pub none_take_next : (xs : List X) (i : ℕ) (x : X) → slice_get xs i ≡ Some x → P x ≡ false → list_any P (take i xs) ≡ false → list_any P (take (suc i) xs) ≡ false
    none_take_next [] i x h t n = absurd (let k : ◌≡◌ {A = Option X} None (Some x) = h in cc)
    none_take_next (y ∷ ys) zero x h t n = let k : y ≡ x = cc in ap (λ b. b || false) (ap P k ∙ t)
    none_take_next (y ∷ ys) (suc i) x h t n = at (P y) (none_take_next ys i x h t) n
      where
        at : (b : Bool) → (list_any P (take i ys) ≡ false → list_any P (take (suc i) ys) ≡ false) → (b || list_any P (take i ys)) ≡ false → (b || list_any P (take (suc i) ys)) ≡ false
        at true k m = absurd (false≢true (sym m))
        at false k m = k m

    -- the result of a test at a place
    pub list_any_at : (xs : List X) (i : ℕ) (b : Bool) → MatchOption (slice_get xs i) (b ≡ false) (λ x. b ≡ P x) → b ≡ true → list_any P xs ≡ true
    list_any_at xs i b h t = at (slice_get xs i) refl h
      where
        at : (o : Option X) → slice_get xs i ≡ o → MatchOption o (b ≡ false) (λ x. b ≡ P x) → list_any P xs ≡ true
        at None e m = absurd (false≢true (sym m ∙ t))
        at (Some x) e m = any_at xs i x e (sym m ∙ t)

    pub passed_at : (xs : List X) (i : ℕ) (b : Bool) → i < length xs → MatchOption (slice_get xs i) (b ≡ false) (λ x. b ≡ P x) → b ≡ false → list_any P (take i xs) ≡ false → list_any P (take (i + 1) xs) ≡ false
    passed_at xs i b l h f n = ap (λ j. list_any P (take j xs)) (add-one i) ∙ at (slice_get xs i) refl h
      where
        at : (o : Option X) → slice_get xs i ≡ o → MatchOption o (b ≡ false) (λ x. b ≡ P x) → list_any P (take (suc i) xs) ≡ false
        at None e m = absurd (let k = none_at xs i e in omega (arith, k, l))
        at (Some x) e m = none_take_next xs i x e (sym m ∙ f) n

    pub passed_all : (xs : List X) (i : ℕ) → length xs ≤ i → list_any P (take i xs) ≡ false → list_any P xs ≡ false
    passed_all xs i l n = ap (list_any P) (sym (take_all i xs l)) ∙ n

pub take_next_some : {X : Type 0} (xs : List X) (i : ℕ) → take (i + 1) xs ≡ take i xs ++ cons_option (slice_get xs i) []
take_next_some xs i = ap (λ j. take j xs) (add-one i) ∙ at xs i
  where
    at : {X : Type 0} (xs : List X) (i : ℕ) → take (suc i) xs ≡ take i xs ++ cons_option (slice_get xs i) []
    at [] zero = refl
    at [] (suc i) = refl
    at (x ∷ xs) zero = refl
    at (x ∷ xs) (suc i) = ap (λ ys. x ∷ ys) (at xs i)

-- ---- names

abbrev names_put : List (List ℕ) → List (List ℕ) → List (List ℕ)
names_put names more = fold (λ done name. insert_ordered octet_order name done) names more

pub names_drop_next : (es : List (Vec ℕ × FolderTables)) (i : ℕ) (names new : List (List ℕ)) → i < length es → MatchOption (slice_get es i) (new ≡ names) (λ e. new ≡ names_put names (cons_option (name_if_tagged e) [])) → names_put new (filter_map name_if_tagged (drop (i + 1) es)) ≡ names_put names (filter_map name_if_tagged (drop i es))
names_drop_next es i names new l h = at (slice_get es i) refl h
  where
    one : (x : Option (List ℕ)) (rest : List (List ℕ)) → names_put (names_put names (cons_option x [])) rest ≡ names_put names (cons_option x rest)
    one None rest = refl
    one (Some name) rest = refl

    at : (o : Option (Vec ℕ × FolderTables)) → slice_get es i ≡ o → MatchOption o (new ≡ names) (λ e. new ≡ names_put names (cons_option (name_if_tagged e) [])) → names_put new (filter_map name_if_tagged (drop (i + 1) es)) ≡ names_put names (filter_map name_if_tagged (drop i es))
    at None e m = absurd (let k = none_at es i e in omega (arith, k, l))
    at (Some x) e m =
        ap (λ j. names_put new (filter_map name_if_tagged (drop j es))) (add-one i)
        ∙ ap (λ n. names_put n (filter_map name_if_tagged (drop (suc i) es))) m
        ∙ one (name_if_tagged x) (filter_map name_if_tagged (drop (suc i) es))
        ∙ sym (ap (λ xs. names_put names (filter_map name_if_tagged xs)) (cut_at es i x e))

pub names_done : (es : List (Vec ℕ × FolderTables)) (i : ℕ) (names all : List (List ℕ)) → length es ≤ i → names_put names (filter_map name_if_tagged (drop i es)) ≡ all → names ≡ all
names_done es i names all l h = sym (ap (λ xs. names_put names (filter_map name_if_tagged xs)) (drop_all i es l)) ∙ h

-- a list of the ids with a property is a list of those with an equivalent one
pub list_of_equivalent : (P Q : OpId → Type 0) (ids : List OpId) → IsListOf id_order P ids → ((i : OpId) → P i ↔ Q i) → IsListOf id_order Q ids
list_of_equivalent P Q ids h e = (h.0, λ i. (λ t. (e i).0 ((h.1 i).0 t), λ t. (h.1 i).1 ((e i).1 t)))

pub ids_done : (versions : List Version) (i : ℕ) (ids : List OpId) → length versions ≤ i → ids ++ version_ids (drop i versions) ≡ version_ids versions → ids ≡ version_ids versions
ids_done versions i ids l h = sym (ap (λ vs. ids ++ version_ids vs) (drop_all i versions l) ∙ append-nil ids) ∙ h

pub if_ok_by : {A E : Type 0} {P Q : A → Type 0} (r : Result A E) → ((a : A) → P a → Q a) → IfOk r P → IfOk r Q
if_ok_by (Ok a) f h = f a h
if_ok_by (Err e) f h = h

-- the elements with one further place
pub in_taken : {X : Type 0} (xs : List X) (i : ℕ) (y : X) → IsIn y (take (i + 1) xs) → IsIn y (take i xs) ⊎ (slice_get xs i ≡ Some y)
in_taken xs i y h = at xs i (subst (IsIn y) (ap (λ j. take j xs) (add-one i)) h)
  where
    at : {X : Type 0} {y : X} (xs : List X) (i : ℕ) → IsIn y (take (suc i) xs) → IsIn y (take i xs) ⊎ (slice_get xs i ≡ Some y)
    at [] i h = absurd h
    at (x ∷ xs) zero h = elim h [ inl e ↦ inr (ap (λ z. Some z) e) | inr n ↦ absurd n ]
    at (x ∷ xs) (suc i) h = elim h [ inl e ↦ inl (inl e) | inr t ↦ elim (at xs i t) [ inl u ↦ inl (inr u) | inr u ↦ inr u ] ]

abbrev pub folder_named_by : Bool → List ℕ → Option (List ℕ)
folder_named_by b name = cond b (Some name) None

pub put_named : (b : Bool) (name : List ℕ) (names : List (List ℕ)) → cond b (insert_ordered octet_order name names) names ≡ names_put names (cons_option (folder_named_by b name) [])
put_named true name names = refl
put_named false name names = refl
