-- The arguments of FETCH, as they are written.
use Rattle.std.proofs.Common.{◌≡◌, ◌≢◌, inl, inr, ℕ, zero, suc, ◌+◌, ◌<◌, Bool, true, false, cond, eqb, nat_lt, ◌||◌, List, [], ◌∷◌, ◌++◌, codes, length, take, drop, Option, Some, None, refl, sym, ap, ◌∙◌, append_assoc, arith}
use Rattle.std.specs.Prelude.{◌==◌}
use Rattle.std.proofs.lemmas.Bool.{and_from, cases_Bool, eqb-true, lt-ltb}
use Rattle.std.proofs.lemmas.List.{length-append}
use Rattle.std.proofs.Math.Seq.{drop-append_seam, take-append_seam}
use Rattle.rev1_fetch.specs.FetchArguments.{AreItemOctets, arguments_of, closed_items, cut_messages, fetch_arguments, follows_item, has_space, items_after, items_after_messages, single_item, word_end}
use Rattle.rev1_fetch.specs.ItemPlaces.{ends_items, is_outside, items_len, place_after, place_at}
use Rattle.rev1_fetch.specs.declared.item_places.Place.{Place}
use Rattle.rev1_fetch.specs.declared.item_places.Place.TheVariants.{Outside}
use Rattle.rev1_fetch.proofs.SpanLemmas.{before_space}

-- all octets of items, from a place on
abbrev pub ItemOctets : Bool → Place → List ℕ → Type 0
ItemOctets several place items = (front back : List ℕ) (octet : ℕ) → items ≡ front ++ octet ∷ back → ends_items several (place_at place front) octet ≡ false

module _ (several : Bool) where
  all_octets : (items tail : List ℕ) (place : Place) → ItemOctets several place items → items_len several (place_at place items) tail ≡ 0 → items_len several place (items ++ tail) ≡ length items
  all_octets [] tail place h e = e
  all_octets (octet ∷ items) tail place h e =
      ap (λ b. cond b zero (suc (items_len several (place_after place octet) (items ++ tail)))) (h [] items octet refl)
      ∙ ap suc (all_octets items tail (place_after place octet) (λ front back o k. h (octet ∷ front) back o (ap (λ xs. octet ∷ xs) k)) e)

  stopped : (place : Place) (octet : ℕ) (octets : List ℕ) → ends_items several place octet ≡ true → items_len several place (octet ∷ octets) ≡ 0
  stopped place octet octets h = ap (λ b. cond b zero (suc (items_len several (place_after place octet) octets))) h

-- what ends items
paren_ends : (place : Place) → is_outside place ≡ true → ends_items true place 41 ≡ true
paren_ends place h = and_from (is_outside place) _ h refl

space_ends : (place : Place) → is_outside place ≡ true → ends_items false place 32 ≡ true
space_ends place h = and_from (is_outside place) _ h refl

line_ends : (place : Place) → is_outside place ≡ true → ends_items false place 13 ≡ true
line_ends place h = and_from (is_outside place) _ h refl

follows_none : (place : Place) (back : List ℕ) → is_outside place ≡ true → follows_item back ≡ true → items_len false place back ≡ 0
follows_none place [] o h = refl
follows_none place (octet ∷ octets) o h = elim (cases_Bool (eqb octet 32)) [
  | inl t ↦ stopped false place octet octets (ap (ends_items false place) (eqb-true octet 32 t) ∙ space_ends place o)
  | inr f ↦
      let k : eqb octet 13 ≡ true = sym (ap (λ b. b || (octet == 13)) f) ∙ h in
      stopped false place octet octets (ap (ends_items false place) (eqb-true octet 13 k) ∙ line_ends place o)
]

-- the messages
cut_read : (messages tail : List ℕ) → has_space messages ≡ false → cut_messages (32 ∷ (messages ++ 32 ∷ tail)) ≡ Some (32 ∷ (messages ++ 32 ∷ []), tail)
cut_read messages tail h =
    let octets : List ℕ = messages ++ 32 ∷ tail in
    let front : List ℕ = 32 ∷ (messages ++ 32 ∷ []) in
    let w : word_end octets ≡ length messages = ap (λ (cut : List ℕ × List ℕ). length cut.0) (before_space messages tail h) in
    let all : length octets ≡ length messages + suc (length tail) = length-append messages (32 ∷ tail) in
    let within : length messages < length octets = omega arith in
    let short : length (messages ++ 32 ∷ []) ≡ length messages + 1 = length-append messages (32 ∷ []) in
    let long : length messages + 2 ≡ length front = omega arith in
    let joined : 32 ∷ octets ≡ front ++ tail = ap (λ xs. 32 ∷ xs) (sym (append_assoc messages (32 ∷ []) tail)) in
    let taken : take (length messages + 2) (32 ∷ octets) ≡ front = ap (λ n. take n (32 ∷ octets)) long ∙ ap (take (length front)) joined ∙ take-append_seam front tail in
    let left : drop (length messages + 2) (32 ∷ octets) ≡ tail = ap (λ n. drop n (32 ∷ octets)) long ∙ ap (drop (length front)) joined ∙ drop-append_seam front tail in
    ap (λ n. cond {A = Option (List ℕ × List ℕ)} (nat_lt n (length octets)) (Some (take (n + 2) (32 ∷ octets), drop (n + 2) (32 ∷ octets))) None) w
    ∙ ap (λ b. cond {A = Option (List ℕ × List ℕ)} b (Some (take (length messages + 2) (32 ∷ octets), drop (length messages + 2) (32 ∷ octets))) None) (lt-ltb (length messages) (length octets) within)
    ∙ (λ i. Some (taken i, left i))

-- items between parentheses
closed_read : (front items back : List ℕ) → AreItemOctets true items → items_after front (40 ∷ (items ++ 41 ∷ back)) ≡ Some (record { front = front; items = items; is_single = false; back = back })
closed_read front items back h =
    let list : List ℕ = items ++ 41 ∷ back in
    let len : items_len true Outside list ≡ length items = all_octets true items (41 ∷ back) Outside h.octets (stopped true (place_at Outside items) 41 back (paren_ends (place_at Outside items) h.closed)) in
    ap (λ n. closed_items front (take n list) (drop n list)) len ∙ ap (λ xs. closed_items front xs (drop (length items) list)) (take-append_seam items (41 ∷ back)) ∙ ap (closed_items front items) (drop-append_seam items (41 ∷ back))

pub listed_read : (messages items back : List ℕ) → has_space messages ≡ false → AreItemOctets true items
    → fetch_arguments (codes " " ++ (messages ++ (codes " (" ++ (items ++ (codes ")" ++ back))))) ≡ Some (arguments_of messages items false back)
listed_read messages items back h k = ap items_after_messages (cut_read messages (40 ∷ (items ++ 41 ∷ back)) h) ∙ closed_read (32 ∷ (messages ++ 32 ∷ [])) items back k

-- one item
not_paren : (octet : ℕ) → ends_items false Outside octet ≡ false → eqb octet 40 ≡ false
not_paren octet h = elim (cases_Bool (eqb octet 40)) [
  | inl t ↦ let z : true ≡ false = sym (ap (ends_items false Outside) (eqb-true octet 40 t)) ∙ h in cc
  | inr f ↦ f
]

single_read : (front item back : List ℕ) → AreItemOctets false item → item ≢ [] → follows_item back ≡ true → items_after front (item ++ back) ≡ Some (record { front = front; items = item; is_single = true; back = back })
single_read front [] back h some f = absurd (some refl)
single_read front (octet ∷ item) back h some f =
    let whole : List ℕ = octet ∷ (item ++ back) in
    let len : items_len false Outside whole ≡ length (octet ∷ item) = all_octets false (octet ∷ item) back Outside h.octets (follows_none (place_at Outside (octet ∷ item)) back h.closed f) in
    ap (λ b. cond b (closed_items front (take (items_len true Outside (item ++ back)) (item ++ back)) (drop (items_len true Outside (item ++ back)) (item ++ back))) (single_item front whole)) (not_paren octet (h.octets [] item octet refl))
    ∙ ap (λ n. Some (record { front = front; items = take n whole; is_single = true; back = drop n whole })) len
    ∙ (λ i. Some (record { front = front; items = take-append_seam (octet ∷ item) back i; is_single = true; back = drop-append_seam (octet ∷ item) back i }))

pub one_read : (messages item back : List ℕ) → has_space messages ≡ false → AreItemOctets false item → item ≢ [] → follows_item back ≡ true
    → fetch_arguments (codes " " ++ (messages ++ (codes " " ++ (item ++ back)))) ≡ Some (arguments_of messages item true back)
one_read messages item back h k some f = ap items_after_messages (cut_read messages (item ++ back) h) ∙ single_read (32 ∷ (messages ++ 32 ∷ [])) item back k some f
