use Rattle.std.proofs.Common.{◌≡◌, ◌≢◌, ◌↔◌, inl, inr, ℕ, suc, ◌+◌, ◌<◌, ◌≤◌, Bool, IsTrue, Option, Some, None, MatchOption, is_some, List, [], ◌∷◌, ◌++◌, length, get_or, take, drop, sym, refl, ap, ◌∙◌, subst, arith, length-append}
use Rattle.tags_clocks.specs.declared.id.OpId.{OpId}
use Rattle.merge_laws.specs.Orders.{IsIn, HasId, HaveSameElements, AreSound, IsRipe, IsCausal}
use Rattle.merge_laws.proofs.Lists.{in_parts, in_cases, in_front, in_back, id_of_element, element_of_id, id_in_parts}
use Rattle.std.specs.List.{remove}
use Rattle.merge_laws.proofs.Causal.{causal_determines}
use Rattle.causal_inbox.specs.Inbox.{ReceivedOps, AreAscending, IsLess, IsLawfulInbox, IsReceived, IsStalled, IsLeastRipe, IsNextReleased, IsReleased, held_limit}
use Rattle.causal_inbox.proofs.AscendingLemmas.{less_irreflexive, less_trans, ascending_determines, ascending_back, cut_at, element_is_in, element_at, removed_others}

-- no operation that is still held has the id of one applied now
pub remaining_apart : {O : Type 0} (id : O → OpId) (applied ops all old new : List O) → all ≡ applied ++ ops → ((i : OpId) → HasId id old i → ¬ HasId id applied i) → ((o : O) → IsIn o new → IsIn o old × ¬ HasId id ops (id o)) → (i : OpId) → HasId id new i → ¬ HasId id all i
remaining_apart id applied ops all old new e disjoint remaining i h k =
    let x = element_of_id id i new h in
    let received = remaining x.0 x.1 in
    elim (id_in_parts id i applied ops (subst (λ xs. HasId id xs i) e k)) [
      | inl t ↦ disjoint i (subst (HasId id old) x.2 (id_of_element id x.0 old received.0)) t
      | inr t ↦ received.1 (subst (HasId id ops) (sym x.2) t)
    ]

-- the length after one held operation is removed
pub removed_length : {X : Type 0} (xs : List X) (at : ℕ) → at < length xs → length (remove xs at) + 1 ≡ length xs
removed_length xs at l =
    let x = element_at xs at l in
    let whole : length xs ≡ length (take at xs) + length (x.0 ∷ drop (suc at) xs) = ap length (cut_at xs at x.0 l x.1) ∙ length-append (take at xs) (x.0 ∷ drop (suc at) xs) in
    let less : length (remove xs at) ≡ length (take at xs) + length (drop (suc at) xs) = length-append (take at xs) (drop (suc at) xs) in
    omega arith

-- one more operation is held, and no applied operation has its id
pub held_apart : {O : Type 0} (id : O → OpId) (applied old new : List O) (op : O) → HaveSameElements new (op ∷ old) → ((i : OpId) → HasId id old i → ¬ HasId id applied i) → ¬ HasId id applied (id op) → (i : OpId) → HasId id new i → ¬ HasId id applied i
held_apart id applied old new op same disjoint none i h k =
    let x = element_of_id id i new h in
    elim ((same x.0).0 x.1) [
      | inl e ↦ none (subst (HasId id applied) (sym x.2 ∙ ap id (sym e)) k)
      | inr t ↦ disjoint i (subst (HasId id old) x.2 (id_of_element id x.0 old t)) k
    ]

pub held_sound : {O : Type 0} (sound : O → Type 0) (old new : List O) (op : O) → HaveSameElements new (op ∷ old) → AreSound sound old → sound op → AreSound sound new
held_sound sound old new op same all one o h = elim ((same o).0 h) [ inl e ↦ subst sound e one | inr t ↦ all o t ]

pub only_id : {O : Type 0} (id : O → OpId) (op o : O) → id o ≢ id op → ¬ HasId id (op ∷ []) (id o)
only_id id op o n h = elim h [ inl e ↦ n (sym e) | inr f ↦ f ]

module _ {S O : Type 0} (id : O → OpId) (clock : O → List (ℕ × ℕ)) where
  pub lawful_from : (s : ReceivedOps S O) → IsCausal id clock s.applied → ((i : OpId) → HasId id s.held i → ¬ HasId id s.applied i) → AreAscending id s.held → length s.held ≤ held_limit → IsLawfulInbox id clock s
  lawful_from s causal disjoint ascending limited = record {
    causal = causal;
    disjoint = disjoint;
    determined = λ a b h k same. elim (in_parts a s.applied s.held h) [
      | inl p ↦ elim (in_parts b s.applied s.held k) [
        | inl q ↦ causal_determines id clock s.applied a b causal p q same
        | inr q ↦ absurd (disjoint (id b) (id_of_element id b s.held q) (subst (HasId id s.applied) same (id_of_element id a s.applied p)))
      ]
      | inr p ↦ elim (in_parts b s.applied s.held k) [
        | inl q ↦ absurd (disjoint (id a) (id_of_element id a s.held p) (subst (HasId id s.applied) (sym same) (id_of_element id b s.applied q)))
        | inr q ↦ ascending_determines id s.held a b ascending p q same
      ]
    ];
    ascending = ascending;
    limited = limited;
  }

  -- in an ascending list, the first ripe operation has the least id
  least_ripe : (s : ReceivedOps S O) (at : ℕ) → at < length s.held → ((o : O) → o ≡ get_or s.held at o → IsRipe id clock s.applied o) → ((o : O) → IsIn o (take at s.held) → ¬ IsRipe id clock s.applied o) → AreAscending id s.held → IsLeastRipe id clock s at
  least_ripe s at l ripe none a = (
    l,
    ripe,
    λ o p is h r. let cut = cut_at s.held at o l is in
        elim (in_parts p (take at s.held) (o ∷ drop (suc at) s.held) (subst (IsIn p) cut h)) [
          | inl t ↦ absurd (none p t r)
          | inr t ↦ elim t [
            | inl e ↦ less_irreflexive (id p) (id o) (ap id (sym e))
            | inr u ↦ λ less. less_irreflexive (id o) (id o) refl (less_trans (id o) (id p) (id o) (ascending_back id (take at s.held) (drop (suc at) s.held) o p (subst (AreAscending id) cut a) u) less)
          ]
        ],
  )

  pub next_from : (s : ReceivedOps S O) (r : Option ℕ) (held : List O) → held ≡ s.held → MatchOption r ((o : O) → IsIn o held → ¬ IsRipe id clock s.applied o) (λ at. (at < length held) × ((o : O) → o ≡ get_or held at o → IsRipe id clock s.applied o) × ((o : O) → IsIn o (take at held) → ¬ IsRipe id clock s.applied o)) → AreAscending id s.held → MatchOption r (¬ IsStalled id clock s) (IsLeastRipe id clock s)
  next_from s None held e h a = λ t. h t.0 (subst (IsIn t.0) (sym e) t.1) t.2
  next_from s (Some at) held e h a =
      least_ripe s at (subst (λ xs. at < length xs) e h.0)
      (λ o is. h.1 o (subst (λ xs. o ≡ get_or xs at o) (sym e) is))
      (λ o t. h.2 o (subst (λ xs. IsIn o (take at xs)) (sym e) t)) a

  pub stalled_at : (s : ReceivedOps S O) (at : ℕ) → IsLeastRipe id clock s at → IsStalled id clock s
  stalled_at s at h = let x = element_at s.held at h.0 in (x.0, element_is_in s.held at x.0 h.0 x.1, h.1 x.0 x.1)

  pub stalled_from : (s : ReceivedOps S O) (r : Option ℕ) (b : Bool) → MatchOption r (¬ IsStalled id clock s) (IsLeastRipe id clock s) → b ≡ is_some r → IsTrue b ↔ IsStalled id clock s
  stalled_from s None b h e = (λ t. absurd cc, λ t. absurd (h t))
  stalled_from s (Some at) b h e = (λ t. stalled_at s at h, λ t. e)

  received_in : (s : ReceivedOps S O) (o : O) → IsReceived s o → IsIn o (s.applied ++ s.held)
  received_in s o h = elim h [ inl t ↦ in_front o s.applied s.held t | inr t ↦ in_back o s.applied s.held t ]

  pub id_received : (s : ReceivedOps S O) (o : O) (j : OpId) → IsReceived s o → id o ≡ j → HasId id (s.applied ++ s.held) j
  id_received s o j h e = subst (HasId id (s.applied ++ s.held)) e (id_of_element id o (s.applied ++ s.held) (received_in s o h))

  -- the result of a search by id, whether an applied operation has the id or not
  pub member_applied : {X : Type 0} (now : X → O) (s : ReceivedOps S O) (list : List O) (i j : OpId) (r : Option X) → list ≡ s.applied → i ≡ j → IsLawfulInbox id clock s → HasId id s.applied j → MatchOption r (¬ HasId id list i) (λ x. IsIn (now x) list × (id (now x) ≡ i)) → MatchOption r ((¬ HasId id s.applied j) × ¬ HasId id s.held j) (λ x. IsReceived s (now x) × (id (now x) ≡ j) × ((o : O) → IsReceived s o → id o ≡ j → o ≡ now x))
  member_applied now s list i j None shown e law h m = absurd (m (subst (λ xs. HasId id xs i) (sym shown) (subst (HasId id s.applied) (sym e) h)))
  member_applied now s list i j (Some x) shown e law h m =
      let received : IsReceived s (now x) = inl (subst (IsIn (now x)) shown m.0) in
      (received, m.1 ∙ e, λ o p k. law.determined o (now x) (received_in s o p) (received_in s (now x) received) (k ∙ sym (m.1 ∙ e)))

  pub member_held : {X : Type 0} (now : X → O) (s : ReceivedOps S O) (list : List O) (i j : OpId) (r : Option X) → list ≡ s.held → i ≡ j → IsLawfulInbox id clock s → ¬ HasId id s.applied j → MatchOption r (¬ HasId id list i) (λ x. IsIn (now x) list × (id (now x) ≡ i)) → MatchOption r ((¬ HasId id s.applied j) × ¬ HasId id s.held j) (λ x. IsReceived s (now x) × (id (now x) ≡ j) × ((o : O) → IsReceived s o → id o ≡ j → o ≡ now x))
  member_held now s list i j None shown e law h m = (h, λ k. m (subst (λ xs. HasId id xs i) (sym shown) (subst (HasId id s.held) (sym e) k)))
  member_held now s list i j (Some x) shown e law h m =
      let received : IsReceived s (now x) = inr (subst (IsIn (now x)) shown m.0) in
      (received, m.1 ∙ e, λ o p k. law.determined o (now x) (received_in s o p) (received_in s (now x) received) (k ∙ sym (m.1 ∙ e)))

  -- in a lawful inbox, the least ripe operation is released next
  pub next_released : (s : ReceivedOps S O) (at : ℕ) (op : O) → IsLeastRipe id clock s at → op ≡ get_or s.held at op → IsNextReleased id clock s op
  next_released s at op least is = record {
    held = element_is_in s.held at op least.0 is;
    ripe = least.1 op is;
    least = λ o h r. least.2 op o is h r;
  }

  -- the least ripe operation is released
  pub released : (exhausts : S → List O → List O → Type 0) (old new : ReceivedOps S O) (at : ℕ) (op : O) → IsLeastRipe id clock old at → AreAscending id old.held → op ≡ get_or old.held at op → ¬ exhausts old.start old.applied (op ∷ []) → new.start ≡ old.start → new.applied ≡ old.applied ++ op ∷ [] → new.held ≡ remove old.held at → IsReleased id clock exhausts old new
  released exhausts old new at op least a is reach start applied held =
      let cut = cut_at old.held at op least.0 is in
      let others : (o : O) → IsIn o (remove old.held at) ↔ (IsIn o old.held × (id o ≢ id op)) = λ o. removed_others id old.held at op o least.0 is a in
      record {
        op = op;
        next = next_released old at op least is;
        not_exhausted = reach;
        start = start;
        applied = applied;
        held = λ o. (
          λ h. elim (in_cases op o (take at old.held) (drop (suc at) old.held) (subst (IsIn o) cut h)) [ inl e ↦ inl e | inr t ↦ inr (subst (IsIn o) (sym held) t) ],
          λ h. elim h [
            | inl e ↦ subst (λ (x : O). IsIn x old.held) e (element_is_in old.held at op least.0 is)
            | inr t ↦ ((others o).0 (subst (IsIn o) held t)).0
          ],
        );
        not_held = λ h. ((others op).0 (subst (IsIn op) held h)).1 refl;
      }

module _ {S O : Type 0} (id : O → OpId) (clock : O → List (ℕ × ℕ)) where
  -- what the index says of the next operation
  pub next_least : (s : ReceivedOps S O) (r : Option ℕ) → MatchOption r ((o : O) → IsIn o s.held → ¬ IsRipe id clock s.applied o) (λ at. (at < length s.held) × ((o : O) → o ≡ get_or s.held at o → IsRipe id clock s.applied o) × ((o p : O) → o ≡ get_or s.held at o → IsIn p s.held → IsRipe id clock s.applied p → ¬ IsLess (id p) (id o))) → MatchOption r (¬ IsStalled id clock s) (IsLeastRipe id clock s)
  next_least s None m = λ h. m h.0 h.1 h.2
  next_least s (Some at) m = m
