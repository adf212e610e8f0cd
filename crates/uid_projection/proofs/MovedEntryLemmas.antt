use Rattle.std.specs.List.{filter_map, cons_option, list_any}
use Rattle.std.proofs.Common.{◌≡◌, inl, inr, ℕ, ◌+◌, ◌<◌, ◌≤◌, Bool, true, false, cond, ◌||◌, List, [], ◌∷◌, ◌++◌, Option, Some, None, length, get_or, take, refl, sym, ap, ◌∙◌, subst, arith}
use Rattle.std.proofs.lemmas.List.{take_more}
use Rattle.std.proofs.lemmas.Bool.{cases_Bool}
use Rattle.std.specs.Str.{bytes_eq}
use Rattle.imap_types.specs.Names.{inbox}
use Rattle.tags_clocks.specs.declared.id.OpId.{OpId}
use Rattle.merge_laws.specs.Orders.{IsIn}
use Rattle.mailbox_rows.specs.declared.entry.ListingEntry.{ListingEntry}
use Rattle.mailbox_rows.specs.ListingEntries.{AreBelow, Lacks}
use Rattle.crdt_ops.specs.declared.op.Op.{Op}
use Rattle.crdt_ops.specs.SortedSets.{is_some_id, same_id}
use Rattle.crdt_ops.specs.Tags.{removed_ids}
use Rattle.uid_projection.specs.declared.first_numbers.Counters.{Counters}
use Rattle.uid_projection.specs.Applied.{IsApplied}
use Rattle.uid_projection.specs.Chart.{AreUidsAscending, AreVersions, IsChart, IsEntryOf}
use Rattle.uid_projection.specs.Incarnations.{folder_exists}
use Rattle.uid_projection.specs.UidsAndModSeqs.{changes_versions, kind_names_folder, first_uid, has_version}
use Rattle.uid_projection.specs.EntryMoves.{AreApart, IsNext, added_origin, has_entry, loses, move_of, moved_entries, with_modseq, with_line, origins_without}
use Rattle.uid_projection.proofs.ChartSteps.{chart_added, chart_removed, in_mapped, ascending-moved, move_none, move_unchanged, move_origin, move_renewed, move_uid, one_entry}
use Rattle.uid_projection.proofs.EntryMovesLemmas.{held_lacks, moved_none, same_back, same_own, same_true}
use Rattle.uid_projection.proofs.TouchedLineLemmas.{changed_is, origin_here, removed_here}

-- ---- one move after another

-- a second move of an entry
abbrev then_moved : (OpId → Bool) → (OpId → Bool) → ℕ → Option ListingEntry → Option ListingEntry
then_moved c s m None = None
then_moved c s m (Some e) = move_of c s m e

move_again : (b s : OpId → Bool) (m : ℕ) (x : ListingEntry) → s x.origin ≡ true → move_of b s m (with_modseq m x) ≡ Some (with_modseq m x)
move_again b s m x t = elim (cases_Bool (b x.origin)) [
  | inl y ↦ move_renewed b s m (with_modseq m x) y t
  | inr n ↦ move_unchanged b s m (with_modseq m x) n
]

move_twice : (a b s : OpId → Bool) (m : ℕ) (x : ListingEntry) → then_moved b s m (move_of a s m x) ≡ move_of (λ g. a g || b g) s m x
move_twice a b s m x =
    elim (cases_Bool (a x.origin)) [
      | inl p ↦
          let either : (a x.origin || b x.origin) ≡ true = ap (λ z. z || b x.origin) p in
          elim (cases_Bool (s x.origin)) [
            | inl t ↦ (λ k. then_moved b s m (move_renewed a s m x p t k)) ∙ move_again b s m x t ∙ sym (move_renewed (λ g. a g || b g) s m x either t)
            | inr n ↦ (λ k. then_moved b s m (move_none a s m x p n k)) ∙ sym (move_none (λ g. a g || b g) s m x either n)
          ]
      | inr p ↦ (λ k. then_moved b s m (move_unchanged a s m x p k)) ∙ (λ k. cond (sym p k || b x.origin) (cond (s x.origin) (Some (with_modseq m x)) None) (Some x))
    ]

mapped_twice : (f : ListingEntry → Option ListingEntry) (c s : OpId → Bool) (m : ℕ) (es : List ListingEntry) → filter_map (move_of c s m) (filter_map f es) ≡ filter_map (λ x. then_moved c s m (f x)) es
mapped_twice f c s m [] = refl
mapped_twice f c s m (x ∷ es) = by (f x) ∙ ap (cons_option (then_moved c s m (f x))) (mapped_twice f c s m es)
  where
    by : (o : Option ListingEntry) → filter_map (move_of c s m) (cons_option o (filter_map f es)) ≡ cons_option (then_moved c s m o) (filter_map (move_of c s m) (filter_map f es))
    by None = refl
    by (Some e) = refl

pub moved_twice : (a b s : OpId → Bool) (m : ℕ) (es : List ListingEntry) → moved_entries b s m (moved_entries a s m es) ≡ moved_entries (λ g. a g || b g) s m es
moved_twice a b s m es = mapped_twice (move_of a s m) b s m es ∙ (λ k. filter_map (λ x. move_twice a b s m x k) es)

-- tests that agree give equal moves
pub moved_alike : (a b s : OpId → Bool) (m : ℕ) (es : List ListingEntry) → ((g : OpId) → a g ≡ b g) → moved_entries a s m es ≡ moved_entries b s m es
moved_alike a b s m es h = λ k. moved_entries (λ g. h g k) s m es

-- a test of one origin moves its entry as a test of all origins does
pub moved_by_one : (g : OpId) (b : Bool) (s : OpId → Bool) (m : ℕ) (es : List ListingEntry) → b ≡ s g → moved_entries (λ x. same_id x g) (λ x. b) m es ≡ moved_entries (λ x. same_id x g) s m es
moved_by_one g b s m es h = λ k. filter_map (λ x. one x k) es
  where
    one : (x : ListingEntry) → move_of (λ y. same_id y g) (λ y. b) m x ≡ move_of (λ y. same_id y g) s m x
    one x = elim (cases_Bool (same_id x.origin g)) [
      | inl t ↦ (λ k. cond (same_id x.origin g) (cond ((h ∙ ap s (sym (same_true x.origin g t))) k) (Some (with_modseq m x)) None) (Some x))
      | inr f ↦ (λ k. cond (f k) (cond b (Some (with_modseq m x)) None) (Some x)) ∙ sym (λ k. cond (f k) (cond (s x.origin) (Some (with_modseq m x)) None) (Some x))
    ]

-- no origin is tested
pub moved_still : (c s : OpId → Bool) (m : ℕ) (es : List ListingEntry) → ((g : OpId) → c g ≡ false) → es ≡ moved_entries c s m es
moved_still c s m [] h = refl
moved_still c s m (x ∷ es) h = λ k. cons_option (cond (sym (h x.origin) k) (cond (s x.origin) (Some (with_modseq m x)) None) (Some x)) (moved_still c s m es h k)

-- ---- ids one by one

-- a list up to and including a place
through : {X : Type 0} (xs : List X) (i : ℕ) (d : X) → i < length xs → take (i + 1) xs ≡ take i xs ++ get_or xs i d ∷ []
through xs i d l = take_more xs i d l

any-append : {X : Type 0} (p : X → Bool) (xs : List X) (x : X) → list_any p (xs ++ x ∷ []) ≡ (list_any p xs || p x)
any-append p [] x = flip (p x)
  where
    flip : (b : Bool) → (b || false) ≡ b
    flip true = refl
    flip false = refl
any-append p (y ∷ xs) x = ap (λ b. p y || b) (any-append p xs x) ∙ regroup (p y) (list_any p xs) (p x)
  where
    regroup : (a b c : Bool) → (a || (b || c)) ≡ ((a || b) || c)
    regroup true b c = refl
    regroup false b c = refl

pub any_take_next : {X : Type 0} (p : X → Bool) (xs : List X) (i : ℕ) (x : X) → i < length xs → x ≡ get_or xs i x → list_any p (take (i + 1) xs) ≡ (list_any p (take i xs) || p x)
any_take_next p xs i x l is = ap (list_any p) (through xs i x l) ∙ any-append p (take i xs) (get_or xs i x) ∙ ap (λ y. list_any p (take i xs) || p y) (sym is)

-- the entries after one further id
pub lost_take_next : (f : OpId → Option OpId) (s : OpId → Bool) (m : ℕ) (es : List ListingEntry) (ids : List OpId) (i : ℕ) (id : OpId) → i < length ids → id ≡ get_or ids i id → moved_entries (λ g. is_some_id g (f id)) s m (moved_entries (loses f (take i ids)) s m es) ≡ moved_entries (loses f (take (i + 1) ids)) s m es
lost_take_next f s m es ids i id l is =
    moved_twice (loses f (take i ids)) (λ g. is_some_id g (f id)) s m es
    ∙ moved_alike (λ g. loses f (take i ids) g || is_some_id g (f id)) (loses f (take (i + 1) ids)) s m es (λ g. sym (any_take_next (λ j. is_some_id g (f j)) ids i id l is))

-- the versions after one further id
pub without_take_next : (f : OpId → Option OpId) (ids : List OpId) (i : ℕ) (id : OpId) → i < length ids → id ≡ get_or ids i id → (old new : OpId → Option OpId) → ((j : OpId) → old j ≡ origins_without f (take i ids) j) → ((j : OpId) → new j ≡ cond (same_id id j) None (old j)) → (j : OpId) → new j ≡ origins_without f (take (i + 1) ids) j
without_take_next f ids i id l is old new was one j =
    one j ∙ ap (cond (same_id id j) None) (was j) ∙ both (same_id id j) (list_any (same_id j) (take i ids)) (same_id j id) (turned id j)
    ∙ sym (ap (λ b. cond b None (f j)) (any_take_next (same_id j) ids i id l is))
  where
    turned : (a b : OpId) → same_id a b ≡ same_id b a
    turned a b = elim (cases_Bool (same_id b a)) [
      | inl t ↦ subst (λ x. same_id a x ≡ true) (sym (same_true b a t)) (same_own a) ∙ sym t
      | inr n ↦ same_back b a n ∙ sym n
    ]

    both : (p q r : Bool) → p ≡ r → cond p None (cond q None (f j)) ≡ cond (q || r) None (f j)
    both true true r e = refl
    both true false r e = ap (λ b. cond b None (f j)) e
    both false true r e = refl
    both false false r e = ap (λ b. cond b None (f j)) e

-- ---- entries of different origins

lacks_one : (g : OpId) (x : ListingEntry) (o : Option ListingEntry) (rest : List ListingEntry) → ((e : ListingEntry) → o ≡ Some e → x.origin ≡ e.origin) → same_id g x.origin ≡ false → Lacks g rest → Lacks g (cons_option o rest)
lacks_one g x None rest h n l = l
lacks_one g x (Some e) rest h n l = (subst (λ y. same_id g y ≡ false) (h e refl) n, l)

lacks_moved : (g : OpId) (c s : OpId → Bool) (m : ℕ) (es : List ListingEntry) → Lacks g es → Lacks g (moved_entries c s m es)
lacks_moved g c s m [] l = tt
lacks_moved g c s m (x ∷ es) l = lacks_one g x (move_of c s m x) (moved_entries c s m es) (move_origin c s m x) l.0 (lacks_moved g c s m es l.1)

apart_one : (x : ListingEntry) (o : Option ListingEntry) (rest : List ListingEntry) → ((e : ListingEntry) → o ≡ Some e → x.origin ≡ e.origin) → Lacks x.origin rest → AreApart rest → AreApart (cons_option o rest)
apart_one x None rest h l a = a
apart_one x (Some e) rest h l a = (subst (λ y. Lacks y rest) (h e refl) l, a)

pub apart_moved : (c s : OpId → Bool) (m : ℕ) (es : List ListingEntry) → AreApart es → AreApart (moved_entries c s m es)
apart_moved c s m [] a = tt
apart_moved c s m (x ∷ es) a = apart_one x (move_of c s m x) (moved_entries c s m es) (move_origin c s m x) (lacks_moved x.origin c s m es a.0) (apart_moved c s m es a.1)

-- a message that stays has an entry after the moves exactly when it had one before
past_other : (g : OpId) (x : ListingEntry) (o : Option ListingEntry) (rest : List ListingEntry) → ((e : ListingEntry) → o ≡ Some e → x.origin ≡ e.origin) → same_id g x.origin ≡ false → has_entry (cons_option o rest) g ≡ has_entry rest g
past_other g x None rest h n = refl
past_other g x (Some e) rest h n = ap (λ b. b || has_entry rest g) (subst (λ y. same_id g y ≡ false) (h e refl) n)

pub held_moved : (g : OpId) (c s : OpId → Bool) (m : ℕ) (es : List ListingEntry) → s g ≡ true → has_entry (moved_entries c s m es) g ≡ has_entry es g
held_moved g c s m [] t = refl
held_moved g c s m (x ∷ es) t =
    elim (cases_Bool (same_id g x.origin)) [
      | inl own ↦
          let present : s x.origin ≡ true = subst (λ y. s y ≡ true) (same_true g x.origin own) t in
          elim (cases_Bool (c x.origin)) [
            | inl y ↦ (λ k. has_entry (cons_option (move_renewed c s m x y present k) (moved_entries c s m es)) g) ∙ ap (λ b. same_id g x.origin || b) (held_moved g c s m es t)
            | inr n ↦ (λ k. has_entry (cons_option (move_unchanged c s m x n k) (moved_entries c s m es)) g) ∙ ap (λ b. same_id g x.origin || b) (held_moved g c s m es t)
          ]
      | inr other ↦ past_other g x (move_of c s m x) (moved_entries c s m es) (move_origin c s m x) other ∙ held_moved g c s m es t ∙ ap (λ b. b || has_entry es g) (sym other)
    ]

-- ---- the entries of a chart

lacks_each : (g : OpId) (es : List ListingEntry) → ((x : ListingEntry) → IsIn x es → same_id g x.origin ≡ false) → Lacks g es
lacks_each g [] h = tt
lacks_each g (x ∷ es) h = (h x (inl refl), lacks_each g es (λ y i. h y (inr i)))

apart_each : (start : Counters) (folder : List ℕ) (ops : List Op) (es : List ListingEntry) → ((e : ListingEntry) → IsIn e es → IsEntryOf start folder ops e) → AreUidsAscending es → AreApart es
apart_each start folder ops [] h a = tt
apart_each start folder ops (e ∷ es) h a = (
  lacks_each e.origin es (λ x i. elim (cases_Bool (same_id e.origin x.origin)) [
    | inr f ↦ f
    | inl t ↦
        let same = one_entry start folder ops e x (h e (inl refl)) (h x (inr i)) (same_true e.origin x.origin t) in
        let l = a.0 x i in
        let u : e.uid ≡ x.uid = ap (λ (z : ListingEntry). z.uid) same in
        absurd (omega (arith, l, u))
  ]),
  apart_each start folder ops es (λ x i. h x (inr i)) a.1,
)

pub apart_chart : (start : Counters) (folder : List ℕ) (ops : List Op) (u h : ℕ) (es : List ListingEntry) → IsChart start folder ops u h es → AreApart es
apart_chart start folder ops u h es c = apart_each start folder ops es (λ e i. (c.are_entries e).0 i) c.ascending

below_each : (u : ℕ) (es : List ListingEntry) → ((e : ListingEntry) → IsIn e es → e.uid < u) → AreBelow u es
below_each u [] h = tt
below_each u (e ∷ es) h = (h e (inl refl), below_each u es (λ x i. h x (inr i)))

few_from : (low u : ℕ) (es : List ListingEntry) → AreUidsAscending es → ((e : ListingEntry) → IsIn e es → low ≤ e.uid) → ((e : ListingEntry) → IsIn e es → e.uid < u) → low ≤ u → low + length es ≤ u
few_from low u [] a from below l = omega (arith, l)
few_from low u (e ∷ es) a from below l =
    let f = from e (inl refl) in
    let b = below e (inl refl) in
    let r = few_from (e.uid + 1) u es a.1 (λ x i. let k = a.0 x i in omega (arith, k)) (λ x i. below x (inr i)) (omega (arith, b)) in
    omega (arith, f, r)

first_least : (start : Counters) (folder : List ℕ) → 1 ≤ start.uid → 1 ≤ first_uid start folder
first_least start folder l = by (bytes_eq folder inbox)
  where
    by : (b : Bool) → 1 ≤ cond b start.uid 1
    by true = l
    by false = omega arith

-- an entry with a remaining UID can be put after the moved entries
pub next_moved : (start : Counters) (folder : List ℕ) (ops : List Op) (u h : ℕ) (es : List ListingEntry) (c s : OpId → Bool) (m : ℕ) → 1 ≤ start.uid → IsChart start folder ops u h es → u < 4294967295 → IsNext u (moved_entries c s m es)
next_moved start folder ops u h es c s m l k less =
    let below : (e : ListingEntry) → IsIn e (moved_entries c s m es) → e.uid < u = λ e i. let w = in_mapped (move_of c s m) es e i in let b = k.below w.0 w.1 in let q = move_uid c s m w.0 e w.2 in omega (arith, b, q) in
    let f = first_least start folder l in
    let is = k.is_uidnext in
    let few = few_from 0 u (moved_entries c s m es) (ascending-moved c s m es k.ascending) (λ e i. omega arith) below (omega arith) in
    record { first = omega (arith, f, is); beyond = below_each u (moved_entries c s m es) below; few = omega (arith, few, less) }

-- ---- the entries after an operation about the folder

module _ (start : Counters) (folder : List ℕ) (ops : List Op) (o : Op) (a : IsApplied (ops ++ o ∷ [])) (present : folder_exists folder (ops ++ o ∷ []) ≡ true) (about : kind_names_folder folder o.kind ≡ true) (u h : ℕ) (es : List ListingEntry) (c : IsChart start folder ops u h es) (f : OpId → Option OpId) (l : AreVersions folder ops f) where
  abbrev lost : OpId → Bool
  lost g = loses f (removed_ids o.kind) g

  abbrev stays : OpId → Bool
  stays g = has_version folder g (ops ++ o ∷ [])

  abbrev changes : OpId → Bool
  changes g = changes_versions folder g ops o

  changed : (x : Option OpId) → added_origin o ≡ x → (g : OpId) → (lost g || is_some_id g x) ≡ changes g
  changed x own g = changed_is folder ops o a (removed_ids o.kind) (removed_here folder o about) x (sym own ∙ sym (origin_here folder o about)) f l g

  or-false : (b : Bool) → b ≡ (b || false)
  or-false true = refl
  or-false false = refl

  -- an operation that adds no message tag
  pub advanced_none : added_origin o ≡ None → IsChart start folder (ops ++ o ∷ []) u (h + 1) (moved_entries lost stays (h + 1) es)
  advanced_none own =
      subst (IsChart start folder (ops ++ o ∷ []) u (h + 1))
      (sym (moved_alike lost changes stays (h + 1) es (λ g. or-false (lost g) ∙ changed None own g)))
      (chart_removed start folder ops o a present about u h es c (origin_here folder o about ∙ own))

  module _ (g : OpId) (own : added_origin o ≡ Some g) (t : stays g ≡ true) where
    abbrev left : List ListingEntry
    left = moved_entries lost stays (h + 1) es

    pub left_held : has_entry left g ≡ has_entry es g
    left_held = held_moved g lost stays (h + 1) es t

    all_moved : moved_entries (λ x. same_id x g) stays (h + 1) left ≡ moved_entries changes stays (h + 1) es
    all_moved = moved_twice lost (λ x. same_id x g) stays (h + 1) es ∙ moved_alike (λ x. lost x || same_id x g) changes stays (h + 1) es (changed (Some g) own)

    line_is : with_line g u (h + 1) left ≡ cond (has_entry es g) (moved_entries changes stays (h + 1) es) (moved_entries changes stays (h + 1) es ++ record { origin = g; uid = u; modseq = h + 1 } ∷ [])
    line_is =
        let fresh : ListingEntry = record { origin = g; uid = u; modseq = h + 1 } in
        elim (cases_Bool (has_entry es g)) [
          | inl y ↦
              (λ k. cond ((left_held ∙ y) k) (moved_entries (λ x. same_id x g) (λ x. true) (h + 1) left) (left ++ fresh ∷ []))
              ∙ moved_by_one g true stays (h + 1) left (sym t) ∙ all_moved
              ∙ sym (ap (λ b. cond b (moved_entries changes stays (h + 1) es) (moved_entries changes stays (h + 1) es ++ fresh ∷ [])) y)
          | inr n ↦
              (λ k. cond ((left_held ∙ n) k) (moved_entries (λ x. same_id x g) (λ x. true) (h + 1) left) (left ++ fresh ∷ []))
              ∙ ap (λ xs. xs ++ fresh ∷ []) (moved_none g stays (h + 1) left (held_lacks g left (left_held ∙ n)) ∙ all_moved)
              ∙ sym (ap (λ b. cond b (moved_entries changes stays (h + 1) es) (moved_entries changes stays (h + 1) es ++ fresh ∷ [])) n)
        ]

    -- an operation that adds a message tag of this origin
    pub advanced_some : IsChart start folder (ops ++ o ∷ []) (cond (has_entry left g) u (u + 1)) (h + 1) (with_line g u (h + 1) left)
    advanced_some =
        subst (λ (b : Bool). IsChart start folder (ops ++ o ∷ []) (cond b u (u + 1)) (h + 1) (with_line g u (h + 1) left)) (sym left_held)
        (subst (IsChart start folder (ops ++ o ∷ []) (cond (has_entry es g) u (u + 1)) (h + 1)) (sym line_is)
        (chart_added start folder ops o a present about u h es c g (origin_here folder o about ∙ own)))
