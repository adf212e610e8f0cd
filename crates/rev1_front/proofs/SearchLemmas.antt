-- Words at the beginning of octets, and SEARCH with RETURN.
use Rattle.std.proofs.Common.{◌≡◌, ◌↔◌, inl, inr, ℕ, ◌+◌, ◌<◌, ◌≤◌, Bool, true, List, [], ◌∷◌, ◌++◌, codes, length, take, Option, Some, None, refl, sym, ap, ◌∙◌, append_assoc, arith, min}
use Rattle.std.specs.Option.{MatchOption, is_some}
use Rattle.std.specs.Char.{to_ascii_lowercase}
use Rattle.std.proofs.lemmas.Bool.{cases_lt}
use Rattle.std.proofs.lemmas.Bool.Decides.{same_from_decides}
use Rattle.std.proofs.lemmas.List.{append_cancel_left, length-append, length-map, length-take, map-append, take_all}
use Rattle.std.proofs.lemmas.Slice.Eq.{bytes_eq-Decides}
use Rattle.mail_text.specs.TextSearch.{is_prefix}
use Rattle.std.proofs.Math.Seq.{take-append_seam}
use Rattle.imap_types.specs.Keywords.{to_lower_case}
use Rattle.imap_syntax.specs.Languages.{word}
use Rattle.imap_grammar.specs.CommandReading.{tag_at}
use Rattle.imap_grammar.specs.Reading.{span}
use Rattle.imap_grammar.proofs.FrameLaws.{has_tag, no_tag, tag_read}
use Rattle.imap_grammar.proofs.ReaderLaws.{some_is}
use Rattle.imap_grammar.proofs.Spans.{span_parts}
use Rattle.rev1_front.specs.ClientFrames.{AsksReturn, search_return}

word_length : (letters front : List ℕ) → word letters front → length front ≡ length letters
word_length letters front h = sym (length-map front to_ascii_lowercase) ∙ ap length h ∙ length-map letters to_ascii_lowercase

-- a word at the beginning
pub prefix_is : (letters octets front back : List ℕ) → word letters front → octets ≡ front ++ back → front ≡ take (length letters) octets
prefix_is letters octets front back h e =
    sym (take-append_seam front back) ∙ ap (λ n. take n (front ++ back)) (word_length letters front h) ∙ ap (take (length letters)) (sym e)

pub prefix_short : (letters octets : List ℕ) → length octets < length letters → (front back : List ℕ) → word letters front → octets ≡ front ++ back → ⊥
prefix_short letters octets l front back h e =
    let n : length front ≡ length letters = word_length letters front h in
    let m : length octets ≡ length front + length back = ap length e ∙ length-append front back in
    omega arith

pub prefix_other : (letters octets : List ℕ) → (to_lower_case (take (length letters) octets) ≡ to_lower_case letters → ⊥) → (front back : List ℕ) → word letters front → octets ≡ front ++ back → ⊥
prefix_other letters octets other front back h e = other (ap to_lower_case (sym (prefix_is letters octets front back h e)) ∙ h)

-- a word, or none, by an option
module _ {X : Type 0} (now : X → List ℕ) (letters octets : List ℕ) where
  abbrev pub Found : Option X → Type 0
  Found r = MatchOption r ((front back : List ℕ) → word letters front → octets ≡ front ++ back → ⊥) (λ x. (front : List ℕ) × word letters front × (octets ≡ front ++ now x))

  pub found_is : (r : Option X) → Found r → (front back : List ℕ) → word letters front → octets ≡ front ++ back → is_some r ≡ true
  found_is None f front back h e = absurd (f front back h e)
  found_is (Some x) f front back h e = refl

abbrev first_octet : List ℕ → ℕ
first_octet [] = 0
first_octet (o ∷ os) = o

module _ {X : Type 0} (now : X → List ℕ) (octets : List ℕ) where
  return_plain : (r : Option X) → Found now (codes "SEARCH RETURN ") octets r → is_some r ≡ true → (front back : List ℕ) × (octets ≡ front ++ back) × search_return front
  return_plain None f b = cc
  return_plain (Some x) f b = (f.0, now x, f.2, ([], f.0, inl refl, f.1, refl))

  pub plain_iff : ((front back : List ℕ) → word (codes "UID ") front → octets ≡ front ++ back → ⊥) → (r : Option X) → Found now (codes "SEARCH RETURN ") octets r
      → (is_some r ≡ true) ↔ ((front back : List ℕ) × (octets ≡ front ++ back) × search_return front)
  plain_iff no_uid r f = (
    return_plain r f,
    λ h.
        let s = h.3 in
        let all : octets ≡ s.0 ++ (s.1 ++ h.1) = h.2 ∙ ap (λ xs. xs ++ h.1) s.4 ∙ append_assoc s.0 s.1 h.1 in
        elim s.2 [
          | inl n ↦ found_is now (codes "SEARCH RETURN ") octets r f s.1 h.1 s.3 (all ∙ ap (λ xs. xs ++ (s.1 ++ h.1)) n)
          | inr u ↦ absurd (no_uid s.0 (s.1 ++ h.1) u all)
        ],
  )

  module _ (uid rest : List ℕ) (u : word (codes "UID ") uid) (e : octets ≡ uid ++ rest) where
    return_uid : (r : Option X) → Found now (codes "SEARCH RETURN ") rest r → is_some r ≡ true → (front back : List ℕ) × (octets ≡ front ++ back) × search_return front
    return_uid None f b = cc
    return_uid (Some x) f b = (uid ++ f.0, now x, e ∙ ap (λ xs. uid ++ xs) f.2 ∙ sym (append_assoc uid f.0 (now x)), (uid, f.0, inr u, f.1, refl))

    not_search : (w back : List ℕ) → word (codes "SEARCH RETURN ") w → octets ≡ w ++ back → ⊥
    not_search w back h k =
        let a : to_lower_case octets ≡ to_lower_case (codes "UID ") ++ to_lower_case rest = ap to_lower_case e ∙ map-append to_ascii_lowercase uid rest ∙ ap (λ xs. xs ++ to_lower_case rest) u in
        let b : to_lower_case octets ≡ to_lower_case (codes "SEARCH RETURN ") ++ to_lower_case back = ap to_lower_case k ∙ map-append to_ascii_lowercase w back ∙ ap (λ xs. xs ++ to_lower_case back) h in
        let z : to_lower_case (codes "UID ") ++ to_lower_case rest ≡ to_lower_case (codes "SEARCH RETURN ") ++ to_lower_case back = sym a ∙ b in
        let y : ◌≡◌ {A = ℕ} 117 115 = ap first_octet z in
        omega arith

    pub uid_iff : (r : Option X) → Found now (codes "SEARCH RETURN ") rest r → (is_some r ≡ true) ↔ ((front back : List ℕ) × (octets ≡ front ++ back) × search_return front)
    uid_iff r f = (
      return_uid r f,
      λ h.
          let s = h.3 in
          let all : octets ≡ s.0 ++ (s.1 ++ h.1) = h.2 ∙ ap (λ xs. xs ++ h.1) s.4 ∙ append_assoc s.0 s.1 h.1 in
          elim s.2 [
            | inl n ↦ absurd (not_search s.1 h.1 s.3 (all ∙ ap (λ xs. xs ++ (s.1 ++ h.1)) n))
            | inr v ↦
                let same : s.0 ≡ uid = prefix_is (codes "UID ") octets s.0 (s.1 ++ h.1) v all ∙ sym (prefix_is (codes "UID ") octets uid rest u e) in
                let tail : rest ≡ s.1 ++ h.1 = append_cancel_left uid rest (s.1 ++ h.1) (sym e ∙ all ∙ ap (λ xs. xs ++ (s.1 ++ h.1)) same) in
                found_is now (codes "SEARCH RETURN ") rest r f s.1 h.1 s.3 tail
          ],
    )

-- a frame, by what follows its tag
pub asks_iff : (frame : List ℕ) (tag : List ℕ × List ℕ) (b : Bool) → tag_at frame ≡ Some tag → (b ≡ true) ↔ ((front back : List ℕ) × (tag.1 ≡ front ++ back) × search_return front) → (b ≡ true) ↔ AsksReturn frame
asks_iff frame tag b h e = (
  λ t.
      let k = e.0 t in
      let is = has_tag frame tag h in
      (tag.0, k.0, k.1, (is.0, is.1 ∙ ap (λ xs. tag.0 ++ 32 ∷ xs) k.2), k.3),
  λ a.
      let t : tag ≡ (a.0, a.1 ++ a.2) = some_is tag (a.0, a.1 ++ a.2) (sym h ∙ tag_read frame a.0 (a.1 ++ a.2) a.3) in
      e.1 (a.1, a.2, ap (λ (y : List ℕ × List ℕ). y.1) t, a.4),
)

pub asks_none : (frame : List ℕ) → tag_at frame ≡ None → AsksReturn frame → ⊥
asks_none frame h a = no_tag frame h (a.0, a.1 ++ a.2, a.3)

-- octets that begin with a word are as long
pub prefix_long : (letters octets : List ℕ) → is_prefix letters octets ≡ true → length letters ≤ length octets
prefix_long letters octets h =
    let e = (bytes_eq-Decides (to_lower_case (take (length letters) octets)) (to_lower_case letters)).0 h in
    let n : length (take (length letters) octets) ≡ length letters = sym (length-map (take (length letters) octets) to_ascii_lowercase) ∙ ap length e ∙ length-map letters to_ascii_lowercase in
    omega (arith, length-take (length letters) octets)

-- the same test by another name
pub by_test : {P : Type 0} (b c : Bool) → b ≡ c → (c ≡ true) ↔ P → (b ≡ true) ↔ P
by_test b c e h = (λ t. h.0 (sym e ∙ t), λ p. e ∙ h.1 p)

-- whether octets begin with a word, by as many octets as there are
taken_word : (letters octets : List ℕ) → take (min (length letters) (length octets)) octets ≡ take (length letters) octets
taken_word letters octets = elim (cases_lt (length octets) (length letters)) [
  | inl l ↦ let n : min (length letters) (length octets) ≡ length octets = omega arith in ap (λ k. take k octets) n ∙ take_all (length octets) octets (omega arith) ∙ sym (take_all (length letters) octets (omega arith))
  | inr l ↦ let n : min (length letters) (length octets) ≡ length letters = omega arith in ap (λ k. take k octets) n
]

pub prefix_test : (letters octets : List ℕ) (n : ℕ) (b : Bool) → n ≡ min (length letters) (length octets) → (b ≡ true) ↔ (to_lower_case (take n octets) ≡ to_lower_case letters) → b ≡ is_prefix letters octets
prefix_test letters octets n b e h =
    let t : take n octets ≡ take (length letters) octets = ap (λ k. take k octets) e ∙ taken_word letters octets in
    same_from_decides b (is_prefix letters octets) (λ k. ap to_lower_case (sym t) ∙ h.0 k, λ k. h.1 (ap to_lower_case t ∙ k))
    (bytes_eq-Decides (to_lower_case (take (length letters) octets)) (to_lower_case letters))

-- octets before another one
pub cut_within : (p : ℕ → Bool) (octets a b : List ℕ) → (a, b) ≡ span p octets → (length b ≡ 0 → ⊥) → length a + 1 ≤ length octets
cut_within p octets a b e some =
    let whole : octets ≡ a ++ b = span_parts p octets ∙ ap (λ (y : List ℕ × List ℕ). y.0 ++ y.1) (sym e) in
    let n : length octets ≡ length a + length b = ap length whole ∙ length-append a b in
    omega arith
