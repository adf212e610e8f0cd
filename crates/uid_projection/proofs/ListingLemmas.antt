use Rattle.std.proofs.Common.{◌≡◌, inl, inr, ℕ, ◌≤◌, Bool, true, not, ◌&&◌, Option, None, Some, List, [], ◌∷◌, length, refl, sym, ap, ◌∙◌, subst, arith}
use Rattle.std.specs.List.{filter_map, flat_map, fold, list_all, list_any}
use Rattle.std.specs.Option.{option_map}
use Rattle.std.specs.Ordering.{match_ordering}
use Rattle.std.specs.declared.cmp.Ordering.{Ordering}
use Rattle.std.specs.declared.cmp.Ordering.TheVariants.{Less, Equal, Greater}
use Rattle.std.proofs.lemmas.Bool.{and_from, and_parts}
use Rattle.imap_types.specs.Ascending.{octet_order}
use Rattle.imap_types.specs.declared.flags.Flags.{Flags}
use Rattle.imap_types.specs.Keywords.{is_lawful_keyword, with_word}
use Rattle.imap_types.specs.Flags.{IsLawfulFlags}
use Rattle.tags_clocks.specs.declared.id.OpId.{OpId}
use Rattle.merge_laws.specs.Orders.{IsIn}
use Rattle.merge_laws.proofs.Lists.{id_of_element, in_parts}
use Rattle.mailbox_rows.specs.ListedMessage.{ListedMessage}
use Rattle.crdt_ops.specs.declared.kind.Kind.{Kind}
use Rattle.crdt_ops.specs.declared.kind.Kind.TheVariants.{Create, Delete, Append, Expunge, Store, Subscribe, Unsubscribe}
use Rattle.crdt_ops.specs.declared.op.Op.{Op}
use Rattle.crdt_ops.specs.Sets.{MessageTagData, tag_data_by, tag_data_from, tag_data_of, message_of, tag_flags_of, versions_of}
use Rattle.crdt_ops.specs.Sound.{HasLawfulFlags}
use Rattle.crdt_ops.specs.Tags.{MessageTag, adds, removes}
use Rattle.crdt_ops.specs.TagLaws.{adds_own}
use Rattle.crdt_ops.proofs.Members.{any_in, in_filter_map}
use Rattle.crdt_ops.proofs.Presence.{Has, id_of}
use Rattle.crdt_ops.proofs.VersionLemmas.{versions_listed}
use Rattle.uid_projection.specs.declared.first_numbers.Counters.{Counters}
use Rattle.uid_projection.specs.Listing.{AreKeywordsLawful, AreIdsApplied}
use Rattle.uid_projection.proofs.SortedRowLemmas.{row_in}
use Rattle.uid_projection.proofs.Versions.{tag_data_chosen, first_some_by, origin_applied, version_in}

-- a present tag was added by an operation with its id
own_applied : (folder : List ℕ) (ops : List Op) (id : OpId) → (list_any (adds (MessageTag folder id)) ops) ≡ true → Has ops id
own_applied folder ops id h =
    let w = (any_in (adds (MessageTag folder id)) ops).0 h in
    subst (Has ops) (sym (adds_own (MessageTag folder id) w.0 w.2)) (id_of_element id_of w.0 ops w.1)

one_at_least : {X : Type 0} (x : X) (xs : List X) → IsIn x xs → 1 ≤ length xs
one_at_least x [] i = absurd i
one_at_least x (y ∷ xs) i = omega arith

pub ids_applied : (start : Counters) → AreIdsApplied start
ids_applied start folder ops row a i =
    let row_is = row_in start folder ops row i in
    let listed = versions_listed ops folder row_is.0 in
    let version = (version_in folder ops row_is.0).0 row_is.1 in (
      λ id h.
          let present = (listed.1 id).0 (subst (IsIn id) (sym (ap (λ (r : ListedMessage). r.versions) row_is.2)) h) in
          own_applied folder ops id (and_parts (list_any (adds (MessageTag folder id)) ops) (not (list_any (removes (MessageTag folder id)) ops)) present.0).0,
      subst (Has ops) (ap (λ (r : ListedMessage). r.origin) row_is.2) (origin_applied folder ops row_is.0 a row_is.1),
      subst (λ (is : List OpId). 1 ≤ length is) (ap (λ (r : ListedMessage). r.versions) row_is.2) (one_at_least version.0 (versions_of ops folder row_is.0) ((listed.1 version.0).1 version.1)),
    )

flags_by : (id : OpId) (kind : Kind) (b : MessageTagData) → HasLawfulFlags kind → tag_data_by id kind ≡ Some b → IsLawfulFlags b.flags
flags_by id (Create folder) b h e = absurd cc
flags_by id (Delete folder seen) b h e = absurd cc
flags_by id (Append folder flags date text) b h e = let k : record { flags = flags; origin = id } ≡ b = cc in subst (λ (x : MessageTagData). IsLawfulFlags x.flags) k h
flags_by id (Expunge folder old_ids) b h e = absurd cc
flags_by id (Store folder flags old_ids origin) b h e = let k : record { flags = flags; origin = origin } ≡ b = cc in subst (λ (x : MessageTagData). IsLawfulFlags x.flags) k h
flags_by id (Subscribe folder) b h e = absurd cc
flags_by id (Unsubscribe folder seen) b h e = absurd cc

list_all_from_elements : {X : Type 0} (p : X → Bool) (xs : List X) → ((x : X) → IsIn x xs → p x ≡ true) → list_all p xs ≡ true
list_all_from_elements p [] h = refl
list_all_from_elements p (x ∷ xs) h = and_from (p x) (list_all p xs) (h x (inl refl)) (list_all_from_elements p xs (λ y i. h y (inr i)))

list_all_element : {X : Type 0} (p : X → Bool) (xs : List X) → list_all p xs ≡ true → (x : X) → IsIn x xs → p x ≡ true
list_all_element p [] h x i = absurd i
list_all_element p (y ∷ xs) h x i =
    let q = and_parts (p y) (list_all p xs) h in
    elim i [ inl e ↦ ap p (sym e) ∙ q.0 | inr t ↦ list_all_element p xs q.1 x t ]

in_flat : {X Y : Type 0} (f : X → List Y) (xs : List X) (y : Y) → IsIn y (flat_map f xs) → (x : X) × IsIn x xs × IsIn y (f x)
in_flat f [] y h = absurd h
in_flat f (x ∷ xs) y h = elim (in_parts y (f x) (flat_map f xs) h) [ inl i ↦ (x, inl refl, i) | inr i ↦ let w = in_flat f xs y i in (w.0, inr w.1, w.2) ]

flags_some : (x : Option MessageTagData) (flags : Flags) → option_map (λ (b : MessageTagData). b.flags) x ≡ Some flags → (b : MessageTagData) × (x ≡ Some b) × (b.flags ≡ flags)
flags_some None flags h = absurd (let k = h in cc)
flags_some (Some b) flags h = let k : b.flags ≡ flags = cc in (b, refl, k)

-- ---- words in their places

all_step : (p : List ℕ → Bool) (w v : List ℕ) (vs more : List (List ℕ)) (o : Ordering) → p w ≡ true → list_all p (v ∷ vs) ≡ true → list_all p more ≡ true → list_all p (match_ordering o (w ∷ v ∷ vs) (v ∷ vs) (v ∷ more)) ≡ true
all_step p w v vs more Less a h m = and_from (p w) (p v && list_all p vs) a h
all_step p w v vs more Equal a h m = h
all_step p w v vs more Greater a h m = and_from (p v) (list_all p more) (and_parts (p v) (list_all p vs) h).0 m

all_with : (p : List ℕ → Bool) (w : List ℕ) (vs : List (List ℕ)) → p w ≡ true → list_all p vs ≡ true → list_all p (with_word w vs) ≡ true
all_with p w [] a h = and_from (p w) true a refl
all_with p w (v ∷ vs) a h = all_step p w v vs (with_word w vs) (octet_order w v) a h (all_with p w vs a (and_parts (p v) (list_all p vs) h).1)

all_folded : (p : List ℕ → Bool) (start words : List (List ℕ)) → list_all p start ≡ true → list_all p words ≡ true → list_all p (fold (λ done word. with_word word done) start words) ≡ true
all_folded p start [] a h = a
all_folded p start (w ∷ ws) a h = let q = and_parts (p w) (list_all p ws) h in all_folded p (with_word w start) ws (all_with p w start q.0 a) q.1

-- ---- the flags of a message

-- a property of each version's keywords holds of the message's
pub keywords_have : (p : List ℕ → Bool) (ops : List Op) (folder : List ℕ) (g : OpId) → ((flags : Flags) → IsIn flags (filter_map (tag_flags_of ops folder) (versions_of ops folder g)) → list_all p flags.keywords ≡ true) → list_all p (message_of ops folder g).flags.keywords ≡ true
keywords_have p ops folder g h =
    let flags : List Flags = filter_map (tag_flags_of ops folder) (versions_of ops folder g) in
    all_folded p [] (flat_map (λ (f : Flags). f.keywords) flags) refl (list_all_from_elements p (flat_map (λ (f : Flags). f.keywords) flags) (λ word k.
    let u = in_flat (λ (f : Flags). f.keywords) flags word k in
    list_all_element p u.0.keywords (h u.0 u.1) word u.2))

-- each version's flags are those of an operation
pub flags_from_op : (ops : List Op) (folder : List ℕ) (g : OpId) (flags : Flags) → IsIn flags (filter_map (tag_flags_of ops folder) (versions_of ops folder g)) → (o : Op) × (b : MessageTagData) × IsIn o ops × (tag_data_by o.id o.kind ≡ Some b) × (b.flags ≡ flags)
flags_from_op ops folder g flags i =
    let version = (in_filter_map (tag_flags_of ops folder) (versions_of ops folder g) flags).0 i in
    let tag_data = flags_some (tag_data_of ops folder version.0) flags version.2 in
    let adding = first_some_by (tag_data_from folder version.0) ops tag_data.0 tag_data.1 in
    (adding.0, tag_data.0, adding.1, tag_data_chosen (adds (MessageTag folder version.0) adding.0) (tag_data_by adding.0.id adding.0.kind) tag_data.0 adding.2, tag_data.2)

pub keywords_lawful : (start : Counters) → AreKeywordsLawful start
keywords_lawful start folder ops row a i =
    let w = row_in start folder ops row i in
    subst (λ (r : ListedMessage). list_all is_lawful_keyword r.flags.keywords ≡ true) w.2 (keywords_have is_lawful_keyword ops folder w.0 (λ flags j.
    let v = flags_from_op ops folder w.0 flags j in
    let by = flags_by v.0.id v.0.kind v.1 (a.sound v.0 v.2).flags v.3 in
    subst (λ (f : Flags). list_all is_lawful_keyword f.keywords ≡ true) v.4 by.1))
