use Rattle.std.proofs.Common.{◌≡◌, ◌≢◌, ◌↔◌, ◌⊎◌, inl, inr, Bool, ℕ, ◌+◌, ◌<◌, ◌≤◌, Option, Some, None, List, [], ◌∷◌, ◌++◌, length, get_or, insert, remove, MatchOption, is_some, false, slice_get, sym, refl, ap, ◌∙◌, subst, arith}
use Rattle.std.proofs.lemmas.Bool.{cases_lt}
use Rattle.std.proofs.lemmas.List.Edits.{length-insert, length-remove}
use Rattle.std.proofs.lemmas.Option.{slice_get_read, slice_get_within, get_or_from_slice_get}
use Rattle.tags_clocks.specs.declared.id.OpId.{OpId}
use Rattle.tags_clocks.specs.Clock.{IsCause, count_of}
use Rattle.merge_laws.specs.Orders.{IsIn, HasId, HaveSameElements, IsRipe}
use Rattle.merge_laws.proofs.Lists.{id_of_element, element_of_id}
use Rattle.tree_list.specs.Searches.{IsPartitioned, IsPoint}
use Rattle.causal_inbox.specs.declared.cause_index.CauseEntry.{CauseEntry}
use Rattle.causal_inbox.specs.Inbox.{IsLess, AreAscending, IsClockOf}
use Rattle.causal_inbox.specs.CauseIndex.{AreApart, AreIndexed, AreOrdered, IsAwaited, IsCauseLess, IsCauseIndex, IsIndexedBefore, IsIndexedUnder, IsReindexed, IsUnderOneOf}
use Rattle.causal_inbox.proofs.AscendingLemmas.{ascending_determines, element_is_in, less_irreflexive, less_trans, inserted_ascending, removed_ascending, removed_others}
use Rattle.causal_inbox.proofs.Ordered.{bool_of, parts_around, point_before, point_not, element_at_point, first_least, in_place, inserted_same, removed_elements, removed_ordered}
use Rattle.causal_inbox.proofs.EntryOrder.{before_irr, id_decided, ids_ordered, less_decided}
use Rattle.causal_inbox.proofs.Beyond.{awaited_least}

-- the element at a place
pub in_of_get : {X : Type 0} (xs : List X) (n : ℕ) (x : X) → slice_get xs n ≡ Some x → IsIn x xs
in_of_get xs n x e = element_is_in xs n x (slice_get_within xs n x e) (sym (get_or_from_slice_get xs n x x e))

module _ {O : Type 0} (id : O → OpId) where
  -- the test of a place among the held operations
  abbrev pub is_lesser_id : OpId → ℕ → O → Bool
  is_lesser_id i k o = bool_of (less_decided (id o) i)

  down_id : (i : OpId) (x y : O) → IsLess (id x) (id y) → IsLess (id y) i → IsLess (id x) i
  down_id i x y l m = less_trans (id x) (id y) i l m

  pub lesser_parts : (i : OpId) (os : List O) → AreAscending id os → IsPartitioned (is_lesser_id i) os
  lesser_parts i os a = parts_around (λ x y. IsLess (id x) (id y)) (λ x. IsLess (id x) i) (λ x. less_decided (id x) i) os (down_id i) (ids_ordered id os a)

  pub held_put : (i : OpId) (os : List O) (n : ℕ) → AreAscending id os → n ≤ length os → IsPoint (is_lesser_id i) os n → (o : O) → id o ≡ i → ¬ HasId id os i → AreAscending id (insert os n o)
  held_put i os n a within point o e new =
      inserted_ascending id os n o within a (subst (λ j. ¬ HasId id os j) (sym e) new)
      (λ x h. subst (IsLess (id x)) (sym e) (point_before (λ x y. IsLess (id x) (id y)) (λ y. IsLess (id y) i) (λ y. less_decided (id y) i) os n point x h))
      (λ x l is h. point_not (λ x y. IsLess (id x) (id y)) (λ y. IsLess (id y) i) (λ y. less_decided (id y) i) os n point x l is (subst (IsLess (id x)) e h))

  pub op_at_point : (i : OpId) (os : List O) (n : ℕ) → AreAscending id os → IsPoint (is_lesser_id i) os n → (o : O) → IsIn o os → id o ≡ i → slice_get os n ≡ Some o
  op_at_point i os n a point o h e =
      element_at_point (λ x y. IsLess (id x) (id y)) (λ y. IsLess (id y) i) (λ y. less_decided (id y) i) os n o
      (λ x l. subst (IsLess (id x)) e l) (λ l. less_irreflexive (id o) i e l) (ids_ordered id os a) point h

  -- if the operation at the place of an id doesn't have the id, no operation has it
  pub none_has : (i : OpId) (os : List O) (n : ℕ) → ((o : O) → IsIn o os → id o ≡ i → slice_get os n ≡ Some o) → ((o : O) → slice_get os n ≡ Some o → id o ≢ i) → ¬ HasId id os i
  none_has i os n member other h = let e = element_of_id id i os h in other e.0 (member e.0 e.1 e.2) e.2

  -- the index without an entry
  pub other_entries : (entries : List CauseEntry) (at : ℕ) (f g : CauseEntry) → AreOrdered IsIndexedBefore entries → slice_get entries at ≡ Some f → IsIn g (remove entries at) ↔ (IsIn g entries × (g ≢ f))
  other_entries entries at f g a e = removed_elements IsIndexedBefore before_irr entries at f g (slice_get_within entries at f e) (sym (get_or_from_slice_get entries at f f e)) a

  pub index_taken : (held rest : List O) (entries : List CauseEntry) (at : ℕ) (f : CauseEntry) (op : O) → IsCauseIndex id held entries → slice_get entries at ≡ Some f → f.id ≡ id op → ((o : O) → IsIn o rest ↔ (IsIn o held × (id o ≢ id op))) → IsCauseIndex id rest (remove entries at)
  index_taken held rest entries at f op is e same others =
      let elements = λ (g : CauseEntry). other_entries entries at f g is.ordered e in
      let entry_at : IsIn f entries = in_of_get entries at f e in
      record {
        each = λ o h.
            let k = (others o).0 h in
            let x = is.each o k.0 in
            (x.0, (elements x.0).1 (x.1, λ q. k.1 (sym x.2 ∙ ap (λ (y : CauseEntry). y.id) q ∙ same)), x.2);
        of = λ g h.
            let k = (elements g).0 h in
            let x = is.of g k.0 in
            (x.0, (others x.0).1 (x.1, λ q. k.1 (is.once g f k.0 entry_at (sym x.2 ∙ q ∙ sym same))), x.2);
        once = λ g i h k q. is.once g i ((elements g).0 h).0 ((elements i).0 k).0 q;
        ordered = removed_ordered IsIndexedBefore entries at (slice_get_within entries at f e) is.ordered;
      }

  -- the index with one further entry
  pub index_insert : (held more : List O) (entries : List CauseEntry) (n : ℕ) (e : CauseEntry) (op : O) → IsCauseIndex id held entries → HaveSameElements more (op ∷ held) → ¬ HasId id held (id op) → e.id ≡ id op → AreOrdered IsIndexedBefore (insert entries n e) → IsCauseIndex id more (insert entries n e)
  index_insert held more entries n e op is same new eid ordered =
      let ins = inserted_same entries n e in
      let never : (g : CauseEntry) → IsIn g entries → g.id ≡ id op → ⊥ = λ g h q. let x = is.of g h in new (subst (HasId id held) (x.2 ∙ q) (id_of_element id x.0 held x.1)) in
      record {
        each = λ o h. elim ((same o).0 h) [
          | inl q ↦ (e, (ins e).1 (inl refl), eid ∙ ap id q)
          | inr t ↦ let x = is.each o t in (x.0, (ins x.0).1 (inr x.1), x.2)
        ];
        of = λ g h. elim ((ins g).0 h) [
          | inl q ↦ (op, (same op).1 (inl refl), sym eid ∙ ap (λ (y : CauseEntry). y.id) q)
          | inr t ↦ let x = is.of g t in (x.0, (same x.0).1 (inr x.1), x.2)
        ];
        once = λ f g h k q. elim ((ins f).0 h) [
          | inl a ↦ elim ((ins g).0 k) [
            | inl b ↦ sym a ∙ b
            | inr t ↦ absurd (never g t (sym q ∙ ap (λ (y : CauseEntry). y.id) (sym a) ∙ eid))
          ]
          | inr s ↦ elim ((ins g).0 k) [
            | inl b ↦ absurd (never f s (q ∙ ap (λ (y : CauseEntry). y.id) (sym b) ∙ eid))
            | inr t ↦ is.once f g s t q
          ]
        ];
        ordered = ordered;
      }

  -- an entry taken out and another of the same operation put in
  pub new_entry : (held : List O) (entries : List CauseEntry) (at : ℕ) (f e : CauseEntry) → IsCauseIndex id held entries → slice_get entries at ≡ Some f → e.id ≡ f.id → ¬ IsIn e (remove entries at)
  new_entry held entries at f e is at_f same h =
      let k = (other_entries entries at f e is.ordered at_f).0 h in
      k.1 (is.once e f k.0 (in_of_get entries at f at_f) same)

  pub index_moved : (held : List O) (entries : List CauseEntry) (at n : ℕ) (f e : CauseEntry) → AreAscending id held → IsCauseIndex id held entries → slice_get entries at ≡ Some f → e.id ≡ f.id → AreOrdered IsIndexedBefore (insert (remove entries at) n e) → IsCauseIndex id held (insert (remove entries at) n e)
  index_moved held entries at n f e a is at_f same ordered =
      let x = is.of f (in_of_get entries at f at_f) in
      let op = x.0 in
      let p = in_place held op x.1 in
      let others = λ (o : O). removed_others id held p.0 op o p.1 p.2 a in
      let rest = remove held p.0 in
      index_insert rest held (remove entries at) n e op (index_taken held rest entries at f op is at_f (sym x.2) others)
      (λ o. (
        λ h. elim (decide_id op o) [ inl q ↦ inl (determined op o x.1 h q) | inr n ↦ inr ((others o).1 (h, λ q. n (sym q))) ],
        λ h. elim h [ inl q ↦ subst (λ (y : O). IsIn y held) q x.1 | inr t ↦ ((others o).0 t).0 ],
      ))
      (λ h. let y = element_of_id id (id op) rest h in ((others y.0).0 y.1).1 y.2)
      (same ∙ sym x.2) ordered
    where
      decide_id : (o p : O) → (id o ≡ id p) ⊎ (id o ≡ id p → ⊥)
      decide_id o p = id_decided (id o) (id p)

      determined : (o p : O) → IsIn o held → IsIn p held → id o ≡ id p → o ≡ p
      determined o p h k q = ascending_determines id held o p a h k q

  module _ (clock : O → List (ℕ × ℕ)) where
    -- the index of fewer operations
    pub indexed_taken : (woken : List OpId) (applied held rest : List O) (entries fewer : List CauseEntry) → ((g : CauseEntry) → IsIn g fewer → IsIn g entries) → ((o : O) → IsIn o rest → IsIn o held) → AreIndexed id clock woken applied held entries → AreIndexed id clock woken applied rest fewer
    indexed_taken woken applied held rest entries fewer f h indexed = λ g o i j q. indexed g o (f g i) (h o j) q

    -- the index of one further operation
    pub indexed_insert : (woken : List OpId) (applied held more : List O) (entries : List CauseEntry) (n : ℕ) (e : CauseEntry) (op : O) → IsCauseIndex id held entries → HaveSameElements more (op ∷ held) → ¬ HasId id held (id op) → e.id ≡ id op → IsIndexedUnder id clock applied op e.cause → AreIndexed id clock woken applied held entries → AreIndexed id clock woken applied more (insert entries n e)
    indexed_insert woken applied held more entries n e op is same new eid under indexed = λ g o i j q.
        elim ((inserted_same entries n e g).0 i) [
          | inl a ↦ elim ((same o).0 j) [
            | inl b ↦ inl (subst (λ (c : Option OpId). IsIndexedUnder id clock applied o c) (ap (λ (y : CauseEntry). y.cause) a) (subst (λ (x : O). IsIndexedUnder id clock applied x e.cause) b under))
            | inr t ↦ absurd (new (subst (HasId id held) (q ∙ ap (λ (y : CauseEntry). y.id) (sym a) ∙ eid) (id_of_element id o held t)))
          ]
          | inr s ↦ elim ((same o).0 j) [
            | inl b ↦ let x = is.of g s in absurd (new (subst (HasId id held) (x.2 ∙ sym q ∙ ap id (sym b)) (id_of_element id x.0 held x.1)))
            | inr t ↦ indexed g o s t q
          ]
        ]

    -- an operation is indexed under one cause
    pub under_one : (applied : List O) (o : O) (c d : Option OpId) → IsIndexedUnder id clock applied o c → IsIndexedUnder id clock applied o d → c ≡ d
    under_one applied o None None h k = refl
    under_one applied o None (Some i) h k = absurd (k.missing (h.0 i k.cause))
    under_one applied o (Some i) None h k = absurd (h.missing (k.0 i h.cause))
    under_one applied o (Some i) (Some j) h k =
        let l = awaited_least id clock applied o i h j k.cause k.missing in
        let m = awaited_least id clock applied o j k i h.cause h.missing in
        let r : i.replica ≡ j.replica = omega (arith, l, m) in
        let n : i.number ≡ j.number = sym h.last ∙ ap (count_of (clock o)) r ∙ k.last in
        ap Some (λ t. record { replica = r t; number = n t })

    nowhere : (c : Option OpId) → IsUnderOneOf [] c → ⊥
    nowhere None h = h
    nowhere (Some i) h = h

    pub indexed_is : (applied held : List O) (entries : List CauseEntry) → AreIndexed id clock [] applied held entries → (f : CauseEntry) (o : O) → IsIn f entries → IsIn o held → id o ≡ f.id → IsIndexedUnder id clock applied o f.cause
    indexed_is applied held entries indexed f o h k e = elim (indexed f o h k e) [ inl u ↦ u | inr w ↦ absurd (nowhere f.cause w) ]

    -- the index has the entry of a held operation
    pub has_entry : (applied held : List O) (entries : List CauseEntry) (op : O) (e : CauseEntry) → IsCauseIndex id held entries → AreIndexed id clock [] applied held entries → IsIn op held → e.id ≡ id op → IsIndexedUnder id clock applied op e.cause → IsIn e entries
    has_entry applied held entries op e is indexed h same under =
        let x = is.each op h in
        let c : x.0.cause ≡ e.cause = under_one applied op x.0.cause e.cause (indexed_is applied held entries indexed x.0 op x.1 h (sym x.2)) under in
        let k : x.0.id ≡ e.id = x.2 ∙ sym same in
        subst (λ (y : CauseEntry). IsIn y entries) (λ t. record { cause = c t; id = k t }) x.1

    -- the ripe operations come first
    ripe_none : (applied : List O) (o : O) (c : Option OpId) → IsRipe id clock applied o → IsIndexedUnder id clock applied o c → c ≡ None
    ripe_none applied o None r u = refl
    ripe_none applied o (Some i) r u = absurd (u.missing (r.0 i u.cause))

    some_cause_first : (f g : CauseEntry) (i : OpId) → f.cause ≡ Some i → g.cause ≡ None → ((f ≡ g) ⊎ IsIndexedBefore f g) → ⊥
    some_cause_first f g i e n h = elim h [
      | inl q ↦ let k : ◌≡◌ {A = Option OpId} (Some i) None = sym e ∙ ap (λ (y : CauseEntry). y.cause) q ∙ n in absurd cc
      | inr b ↦ elim b [
        | inl l ↦ let k : IsCauseLess (Some i) None = subst (λ (c : Option OpId). IsCauseLess c None) e (subst (IsCauseLess f.cause) n l) in k
        | inr p ↦ let k : ◌≡◌ {A = Option OpId} (Some i) None = sym e ∙ p.0 ∙ n in absurd cc
      ]
    ]

    pub none_ripe : (applied held : List O) (entries : List CauseEntry) → IsCauseIndex id held entries → AreIndexed id clock [] applied held entries → ((f : CauseEntry) → slice_get entries 0 ≡ Some f → f.cause ≢ None) → (o : O) → IsIn o held → ¬ IsRipe id clock applied o
    none_ripe applied held entries is indexed first o h r =
        let x = is.each o h in
        let n : x.0.cause ≡ None = ripe_none applied o x.0.cause r (indexed_is applied held entries indexed x.0 o x.1 h (sym x.2)) in
        at_front entries is.ordered first x.0 x.1 n
      where
        cause_cases : (c : Option OpId) → (c ≡ None) ⊎ ((i : OpId) × (c ≡ Some i))
        cause_cases None = inl refl
        cause_cases (Some i) = inr (i, refl)

        at_front : (entries : List CauseEntry) → AreOrdered IsIndexedBefore entries → ((f : CauseEntry) → slice_get entries 0 ≡ Some f → f.cause ≢ None) → (g : CauseEntry) → IsIn g entries → g.cause ≡ None → ⊥
        at_front [] a first g h n = h
        at_front (f ∷ fs) a first g h n =
            elim (cause_cases f.cause) [
              | inl e ↦ first f refl e
              | inr p ↦ some_cause_first f g p.0 p.1 n (elim h [ inl q ↦ inl q | inr t ↦ inr (a.0 g t) ])
            ]

    pub least_ripe : (applied held : List O) (entries : List CauseEntry) (f : CauseEntry) (o : O) → AreAscending id held → IsCauseIndex id held entries → AreIndexed id clock [] applied held entries → slice_get entries 0 ≡ Some f → f.cause ≡ None → IsIn o held → id o ≡ f.id → IsRipe id clock applied o × ((p : O) → IsIn p held → IsRipe id clock applied p → ¬ IsLess (id p) (id o))
    least_ripe applied held entries f o a is indexed at none h same = (
      subst (IsIndexedUnder id clock applied o) none (indexed_is applied held entries indexed f o (in_of_get entries 0 f at) h same),
      λ p k r l.
          let x = is.each p k in
          let n : x.0.cause ≡ None = ripe_none applied p x.0.cause r (indexed_is applied held entries indexed x.0 p x.1 k (sym x.2)) in
          elim (first_least IsIndexedBefore entries f x.0 (slice_get_within entries 0 f at) (sym (get_or_from_slice_get entries 0 f f at)) is.ordered x.1) [
            | inl q ↦ less_irreflexive (id p) (id o) (sym x.2 ∙ ap (λ (y : CauseEntry). y.id) (sym q) ∙ sym same) l
            | inr b ↦ elim b [
              | inl m ↦ let z : IsCauseLess None None = subst (λ (c : Option OpId). IsCauseLess c None) none (subst (IsCauseLess f.cause) n m) in z
              | inr m ↦ less_irreflexive (id o) (id o) refl (less_trans (id o) (id p) (id o) (subst (λ (i : OpId). IsLess i (id p)) (sym same) (subst (IsLess f.id) x.2 m.1)) l)
            ]
          ],
    )

    pub next_place : (applied held : List O) (entries : List CauseEntry) (f : CauseEntry) (r : Option ℕ) → AreAscending id held → IsCauseIndex id held entries → AreIndexed id clock [] applied held entries → slice_get entries 0 ≡ Some f → f.cause ≡ None → MatchOption r (¬ HasId id held f.id) (λ at. (at < length held) × ((o : O) → o ≡ get_or held at o → id o ≡ f.id)) → MatchOption r ((o : O) → IsIn o held → ¬ IsRipe id clock applied o) (λ at. (at < length held) × ((o : O) → o ≡ get_or held at o → IsRipe id clock applied o) × ((o p : O) → o ≡ get_or held at o → IsIn p held → IsRipe id clock applied p → ¬ IsLess (id p) (id o)))
    next_place applied held entries f None a is indexed first none m =
        let x = is.of f (in_of_get entries 0 f first) in
        absurd (m (subst (HasId id held) x.2 (id_of_element id x.0 held x.1)))
    next_place applied held entries f (Some at) a is indexed first none m = (
      m.0,
      λ o e. (least_ripe applied held entries f o a is indexed first none (element_is_in held at o m.0 e) (m.1 o e)).0,
      λ o p e. (least_ripe applied held entries f o a is indexed first none (element_is_in held at o m.0 e) (m.1 o e)).1 p,
    )

module _ {O : Type 0} (id : O → OpId) where
  -- one further operation is held
  pub absent : (held : List O) (entries : List CauseEntry) (e : CauseEntry) (op : O) → IsCauseIndex id held entries → ¬ HasId id held (id op) → e.id ≡ id op → ¬ IsIn e entries
  absent held entries e op is new same h = let x = is.of e h in new (subst (HasId id held) (x.2 ∙ same) (id_of_element id x.0 held x.1))

  pub one_more : (held more : List O) (entries longer : List CauseEntry) (at to : ℕ) (e : CauseEntry) (op : O) → more ≡ insert held at op → longer ≡ insert entries to e → at ≤ length held → to ≤ length entries → length entries ≡ length held → IsCauseIndex id held entries → ¬ HasId id held (id op) → e.id ≡ id op → AreOrdered IsIndexedBefore (insert entries to e) → (length longer ≡ length more) × IsCauseIndex id more longer × HaveSameElements more (op ∷ held)
  one_more held more entries longer at to e op m l inside within count is new same ordered =
      let elements : HaveSameElements more (op ∷ held) = subst (λ xs. HaveSameElements xs (op ∷ held)) (sym m) (inserted_same held at op) in
      let a = ap length m in
      let b = ap length l in
      let x = length-insert held at op inside in
      let y = length-insert entries to e within in (
        omega (arith, a, b, x, y, count),
        subst (IsCauseIndex id more) (sym l) (index_insert id held more entries to e op is elements new same ordered),
        elements,
      )

  -- one operation fewer is held
  pub one_less : (held rest : List O) (entries fewer : List CauseEntry) (at entry_at : ℕ) (e : CauseEntry) (op : O) → rest ≡ remove held at → fewer ≡ remove entries entry_at → slice_get held at ≡ Some op → slice_get entries entry_at ≡ Some e → e.id ≡ id op → AreAscending id held → IsCauseIndex id held entries → length entries ≡ length held → AreAscending id rest × (length fewer ≡ length rest) × IsCauseIndex id rest fewer
  one_less held rest entries fewer at entry_at e op m l is_op is_e same a is count =
      let below = slice_get_within held at op is_op in
      let entry_below = slice_get_within entries entry_at e is_e in
      let place : op ≡ get_or held at op = sym (get_or_from_slice_get held at op op is_op) in
      let x = length-remove held at below in
      let y = length-remove entries entry_at entry_below in
      let p = ap length m in
      let q = ap length l in (
        subst (AreAscending id) (sym m) (removed_ascending id held at below a),
        omega (arith, x, y, p, q, count),
        subst (λ xs. IsCauseIndex id xs fewer) (sym m) (subst (IsCauseIndex id (remove held at)) (sym l)
            (index_taken id held (remove held at) entries entry_at e op is is_e same (λ o. removed_others id held at op o below place a))),
      )

  pub less_indexed : (clock : O → List (ℕ × ℕ)) (woken : List OpId) (applied held rest : List O) (entries fewer : List CauseEntry) (at entry_at : ℕ) (e : CauseEntry) (op : O) → rest ≡ remove held at → fewer ≡ remove entries entry_at → slice_get held at ≡ Some op → slice_get entries entry_at ≡ Some e → AreAscending id held → IsCauseIndex id held entries → AreIndexed id clock woken applied held entries → AreIndexed id clock woken applied rest fewer
  less_indexed clock woken applied held rest entries fewer at entry_at e op m l is_op is_e a is indexed =
      indexed_taken id clock woken applied held rest entries fewer
      (λ g h. ((other_entries id entries entry_at e g is.ordered is_e).0 (subst (IsIn g) l h)).0)
      (λ o h. ((removed_others id held at op o (slice_get_within held at op is_op) (sym (get_or_from_slice_get held at op op is_op)) a).0 (subst (IsIn o) m h)).0)
      indexed

  pub entry_place : (clock : O → List (ℕ × ℕ)) (applied held : List O) (entries : List CauseEntry) (at entry_at : ℕ) (e : CauseEntry) (op : O) → slice_get held at ≡ Some op → IsCauseIndex id held entries → AreIndexed id clock [] applied held entries → AreApart id held applied → e.id ≡ id op → (¬ HasId id applied (id op) → IsIndexedUnder id clock applied op e.cause) → (IsIn e entries → slice_get entries entry_at ≡ Some e) → slice_get entries entry_at ≡ Some e
  entry_place clock applied held entries at entry_at e op is_op is indexed disjoint same under member =
      let h : IsIn op held = in_of_get held at op is_op in
      member (has_entry id clock applied held entries op e is indexed h same (under (disjoint (id op) (id_of_element id op held h))))

pub none_cause : {X : Type 0} (c : Option X) → is_some c ≡ false → c ≡ None
none_cause None e = refl
none_cause (Some x) e = absurd cc
