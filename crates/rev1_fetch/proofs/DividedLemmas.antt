-- Items of a text, joined and divided.
use Rattle.std.proofs.Common.{◌≡◌, inl, inr, ℕ, true, false, cond, ◌&&◌, List, [], ◌∷◌, ◌++◌, flat_map, refl, sym, ap, ◌∙◌}
use Rattle.std.specs.Prelude.{◌==◌}
use Rattle.std.specs.List.{onto_first}
use Rattle.std.proofs.lemmas.Bool.{and_from, and_parts, cases_Bool, eqb-true}
use Rattle.imap_answers.specs.Strings.{separated_by}
use Rattle.rev1_fetch.specs.ItemPlaces.{AreItems, is_outside, items_from, items_of, place_after, place_at}
use Rattle.rev1_fetch.specs.declared.item_places.Place.{Place}
use Rattle.rev1_fetch.specs.declared.item_places.Place.TheVariants.{Outside}

abbrev spaced : List (List ℕ) → List ℕ
spaced items = flat_map (λ next. 32 ∷ next) items

-- a list that isn't empty
abbrev pub HasFirst : List (List ℕ) → Type 0
HasFirst items = (first : List ℕ) × (more : List (List ℕ)) × (items ≡ first ∷ more)

onto_some : (octet : ℕ) (items : List (List ℕ)) → HasFirst (onto_first octet items)
onto_some octet [] = (octet ∷ [], [], refl)
onto_some octet (item ∷ items) = (octet ∷ item, items, refl)

items_some : (place : Place) (text : List ℕ) → HasFirst (items_from place text)
items_some place [] = ([], [], refl)
items_some place (octet ∷ octets) = elim (cases_Bool (is_outside place && (octet == 32))) [
  | inl t ↦ ([], items_from Outside octets, ap (λ b. cond b ([] ∷ items_from Outside octets) (onto_first octet (items_from (place_after place octet) octets))) t)
  | inr f ↦
      let o = onto_some octet (items_from (place_after place octet) octets) in
      (o.0, o.1, ap (λ b. cond b ([] ∷ items_from Outside octets) (onto_first octet (items_from (place_after place octet) octets))) f ∙ o.2)
]

-- joined again
spaced_joined : (items : List (List ℕ)) → HasFirst items → spaced items ≡ 32 ∷ separated_by 32 items
spaced_joined [] h = cc
spaced_joined (item ∷ items) h = refl

onto_joined : (octet : ℕ) (items : List (List ℕ)) → HasFirst items → separated_by 32 (onto_first octet items) ≡ octet ∷ separated_by 32 items
onto_joined octet [] h = cc
onto_joined octet (item ∷ items) h = refl

from_joined : (place : Place) (text : List ℕ) → separated_by 32 (items_from place text) ≡ text
from_joined place [] = refl
from_joined place (octet ∷ octets) = elim (cases_Bool (is_outside place && (octet == 32))) [
  | inl t ↦
      let is : octet ≡ 32 = eqb-true octet 32 (and_parts (is_outside place) (octet == 32) t).1 in
      ap (λ b. separated_by 32 (cond b ([] ∷ items_from Outside octets) (onto_first octet (items_from (place_after place octet) octets)))) t ∙ spaced_joined (items_from Outside octets) (items_some Outside octets)
      ∙ ap (λ xs. 32 ∷ xs) (from_joined Outside octets) ∙ ap (λ (o : ℕ). o ∷ octets) (sym is)
  | inr f ↦
      ap (λ b. separated_by 32 (cond b ([] ∷ items_from Outside octets) (onto_first octet (items_from (place_after place octet) octets)))) f
      ∙ onto_joined octet (items_from (place_after place octet) octets) (items_some (place_after place octet) octets) ∙ ap (λ xs. octet ∷ xs) (from_joined (place_after place octet) octets)
]

pub items_joined : (text : List ℕ) → separated_by 32 (items_of text) ≡ text
items_joined text = from_joined Outside text

-- no space from a place on is outside brackets
abbrev pub Within : Place → List ℕ → Type 0
Within place item = (front back : List ℕ) → item ≡ front ++ 32 ∷ back → is_outside (place_at place front) ≡ false

module _ (place : Place) (octet : ℕ) (octets : List ℕ) (h : Within place (octet ∷ octets)) where
  not_divided : (is_outside place && (octet == 32)) ≡ false
  not_divided = elim (cases_Bool (is_outside place && (octet == 32))) [
    | inl t ↦
        let p = and_parts (is_outside place) (octet == 32) t in
        let is : octet ≡ 32 = eqb-true octet 32 p.1 in
        let z : is_outside place ≡ false = h [] octets (ap (λ (o : ℕ). o ∷ octets) is) in
        let k : true ≡ false = sym p.0 ∙ z in
        cc
    | inr f ↦ f
  ]

  within_next : Within (place_after place octet) octets
  within_next front back e = h (octet ∷ front) back (ap (λ xs. octet ∷ xs) e)

  step : (more : List ℕ) → items_from place (octet ∷ (octets ++ more)) ≡ onto_first octet (items_from (place_after place octet) (octets ++ more))
  step more = ap (λ b. cond b ([] ∷ items_from Outside (octets ++ more)) (onto_first octet (items_from (place_after place octet) (octets ++ more)))) not_divided

-- the last item
last_divided : (item : List ℕ) (place : Place) → Within place item → items_from place (item ++ []) ≡ item ∷ []
last_divided [] place h = refl
last_divided (octet ∷ octets) place h = step place octet octets h [] ∙ ap (onto_first octet) (last_divided octets (place_after place octet) (within_next place octet octets h))

-- an item before others
outside_divided : (place : Place) (more : List ℕ) → is_outside place ≡ true → items_from place (32 ∷ more) ≡ [] ∷ items_from Outside more
outside_divided place more h = ap (λ b. cond b ([] ∷ items_from Outside more) (onto_first 32 (items_from (place_after place 32) more))) (and_from (is_outside place) (32 == 32) h refl)

next_divided : (item more : List ℕ) (place : Place) → Within place item → is_outside (place_at place item) ≡ true → items_from place (item ++ 32 ∷ more) ≡ item ∷ items_from Outside more
next_divided [] more place h o = outside_divided place more o
next_divided (octet ∷ octets) more place h o =
    step place octet octets h (32 ∷ more) ∙ ap (onto_first octet) (next_divided octets more (place_after place octet) (within_next place octet octets h) o)

pub items_divided : (items : List (List ℕ)) → AreItems items → items_of (separated_by 32 items) ≡ items
items_divided [] h = absurd h
items_divided (item ∷ []) h = last_divided item Outside h
items_divided (item ∷ next ∷ items) h = next_divided item (separated_by 32 (next ∷ items)) Outside h.0 h.1 ∙ ap (λ rest. item ∷ rest) (items_divided (next ∷ items) h.2)
