-- The tokens of a command's arguments.
use Rattle.std.proofs.Common.{◌≡◌, inl, inr, ℕ, ◌+◌, ◌-◌, ◌<◌, ◌≤◌, Bool, true, false, not, cond, ◌&&◌, ◌||◌, List, [], ◌∷◌, length, drop, get_or, Option, Some, None, refl, sym, ap, ◌∙◌, eqb, min, arith, add-one, drop-cons, length-drop}
use Rattle.std.specs.Prelude.{◌==◌}
use Rattle.std.specs.Option.{option_map}
use Rattle.std.proofs.lemmas.Bool.{cases_Bool, eqb-true}
use Rattle.std.proofs.lemmas.List.{nil_from_length}
use Rattle.imap_syntax.specs.Strings.{is_quotable}
use Rattle.imap_grammar.specs.Reading.{quoted_at, with_prefix}
use Rattle.rev1_front.specs.SearchReading.{token_end}

-- the octets after what was read
abbrev pub rest_of : Option (List ℕ × List ℕ) → Option (List ℕ)
rest_of read = option_map (λ x. x.1) read

rest_prefix : (p : List ℕ) (r : Option (List ℕ × List ℕ)) → rest_of (with_prefix p r) ≡ rest_of r
rest_prefix p None = refl
rest_prefix p (Some x) = refl

-- whether an octet may come next
abbrev pub allowed : Bool → ℕ → Bool
allowed escaped octet = cond escaped ((octet == 34) || (octet == 92)) (is_quotable octet)

pub quoted_closed : (escaped : Bool) (o : ℕ) (os : List ℕ) → (not escaped && (o == 34)) ≡ true → rest_of (quoted_at escaped (o ∷ os)) ≡ Some os
quoted_closed true o os h = cc
quoted_closed false o os h = let k : eqb o 34 ≡ true = h in rw k refl

pub quoted_refused : (escaped : Bool) (o : ℕ) (os : List ℕ) → (not escaped && (o == 34)) ≡ false → allowed escaped o ≡ false → rest_of (quoted_at escaped (o ∷ os)) ≡ None
quoted_refused true o os h a = let k : (eqb o 34 || eqb o 92) ≡ false = a in rw k refl
quoted_refused false o os h a =
    let k : eqb o 34 ≡ false = h in
    let q : is_quotable o ≡ false = a in
    elim (cases_Bool (eqb o 92)) [
      | inl t ↦
          let e : o ≡ 92 = eqb-true o 92 t in
          let z : true ≡ false = sym (ap is_quotable e) ∙ q in
          absurd (let y : true ≡ false = z in cc)
      | inr f ↦ rw (k, f) (rw q refl)
    ]

pub quoted_next : (escaped : Bool) (o : ℕ) (os : List ℕ) → (not escaped && (o == 34)) ≡ false → allowed escaped o ≡ true → rest_of (quoted_at escaped (o ∷ os)) ≡ rest_of (quoted_at (not escaped && (o == 92)) os)
quoted_next true o os h a = let k : (eqb o 34 || eqb o 92) ≡ true = a in rw k (rest_prefix (o ∷ []) (quoted_at false os))
quoted_next false o os h a =
    let k : eqb o 34 ≡ false = h in
    let q : is_quotable o ≡ true = a in
    elim (cases_Bool (eqb o 92)) [
      | inl t ↦ rw (k, t) refl
      | inr f ↦ rw (k, f) (rw q (rest_prefix (o ∷ []) (quoted_at false os)))
    ]

-- the length of a token
pub token_none : (octets : List ℕ) (r : Option (List ℕ × List ℕ)) → None ≡ rest_of r → token_end octets r ≡ min (length octets) 1
token_none octets None h = refl
token_none octets (Some x) h = cc

pub token_some : (octets rest : List ℕ) (r : Option (List ℕ × List ℕ)) → Some rest ≡ rest_of r → token_end octets r ≡ length octets - length rest
token_some octets rest None h = cc
token_some octets rest (Some x) h = let e : rest ≡ x.1 = cc in ap (λ t. length octets - length t) (sym e)

-- octets between quotes, from a place on
quoted_nil : (escaped : Bool) → rest_of (quoted_at escaped []) ≡ None
quoted_nil true = refl
quoted_nil false = refl

module _ (octets : List ℕ) (place : ℕ) (escaped : Bool) (total : Option (List ℕ)) (l : place < length octets) (inv : rest_of (quoted_at escaped (drop place octets)) ≡ total) where
  here : drop place octets ≡ get_or octets place 0 ∷ drop (place + 1) octets
  here = drop-cons octets place 0 l ∙ ap (λ n. get_or octets place 0 ∷ drop n octets) (sym (add-one place))

  from_here : total ≡ rest_of (quoted_at escaped (get_or octets place 0 ∷ drop (place + 1) octets))
  from_here = sym inv ∙ ap (λ os. rest_of (quoted_at escaped os)) here

  pub place_closed : (not escaped && (get_or octets place 0 == 34)) ≡ true → Some (drop (place + 1) octets) ≡ total
  place_closed h = sym (from_here ∙ quoted_closed escaped (get_or octets place 0) (drop (place + 1) octets) h)

  pub place_refused : (not escaped && (get_or octets place 0 == 34)) ≡ false → allowed escaped (get_or octets place 0) ≡ false → None ≡ total
  place_refused h a = sym (from_here ∙ quoted_refused escaped (get_or octets place 0) (drop (place + 1) octets) h a)

  pub place_next : (after : Bool) → after ≡ (not escaped && (get_or octets place 0 == 92)) → (not escaped && (get_or octets place 0 == 34)) ≡ false → allowed escaped (get_or octets place 0) ≡ true → rest_of (quoted_at after (drop (place + 1) octets)) ≡ total
  place_next after e h a = ap (λ b. rest_of (quoted_at b (drop (place + 1) octets))) e ∙ sym (from_here ∙ quoted_next escaped (get_or octets place 0) (drop (place + 1) octets) h a)

pub place_end : (octets : List ℕ) (place : ℕ) (escaped : Bool) (total : Option (List ℕ)) → length octets ≤ place → rest_of (quoted_at escaped (drop place octets)) ≡ total → None ≡ total
place_end octets place escaped total l inv =
    let none : drop place octets ≡ [] = nil_from_length (drop place octets) (omega (arith, length-drop place octets)) in
    sym (quoted_nil escaped) ∙ sym (ap (λ os. rest_of (quoted_at escaped os)) none) ∙ inv
