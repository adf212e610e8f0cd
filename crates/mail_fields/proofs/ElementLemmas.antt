use Rattle.std.proofs.Common.{◌≡◌, ℕ, zero, suc, ◌+◌, ◌<◌, ◌≤◌, true, false, ◌==◌, List, [], ◌∷◌, length, take, drop, get_or, ap, arith, refl, inl, inr, Option, Some, None}
use Rattle.std.proofs.lemmas.Bool.{cases_Bool, or_parts}
use Rattle.std.specs.List.{list_any}
use Rattle.mail_fields.specs.HeaderValues.{after_word, is_semicolon, sections_of, skip_blanks, with_element, word_of}
use Rattle.mail_fields.specs.ElementReading.{is_blank_first, more_sections, word_octet}
use Rattle.mail_fields.specs.declared.elements.Element.{Element}
use Rattle.mail_fields.specs.declared.elements.Element.TheVariants.{Blank, Comment, Octet, Quoted}

-- the first section ends before the first semicolon
pub section_cut : (elements : List Element) (n : ℕ) (d : Element) → n < length elements → list_any is_semicolon (take n elements) ≡ false → is_semicolon (get_or elements n d) ≡ true
    → sections_of elements ≡ take n elements ∷ more_sections (drop n elements)
section_cut [] n d l h t = absurd (omega arith)
section_cut (e ∷ elements) zero d l h t = rw t refl
section_cut (e ∷ elements) (suc n) d l h t =
    let p = or_parts (is_semicolon e) (list_any is_semicolon (take n elements)) h in
    rw p.0 (ap (with_element e) (section_cut elements n d (omega arith) p.1 t))

pub section_all : (elements : List Element) → list_any is_semicolon (take (length elements) elements) ≡ false → sections_of elements ≡ take (length elements) elements ∷ more_sections (drop (length elements) elements)
section_all [] h = refl
section_all (e ∷ elements) h =
    let p = or_parts (is_semicolon e) (list_any is_semicolon (take (length elements) elements)) h in
    rw p.0 (ap (with_element e) (section_all elements p.1))

pub section_passed : (elements : List Element) (n : ℕ) (d : Element) → n < length elements → list_any is_semicolon (take n elements) ≡ false → is_semicolon (get_or elements n d) ≡ false
    → list_any is_semicolon (take (n + 1) elements) ≡ false
section_passed [] n d l h f = absurd (omega arith)
section_passed (e ∷ elements) zero d l h f = rw f refl
section_passed (e ∷ elements) (suc n) d l h f =
    let p = or_parts (is_semicolon e) (list_any is_semicolon (take n elements)) h in
    let s : suc n + 1 ≡ suc (n + 1) = omega arith in
    rw (s, p.0) (section_passed elements n d (omega arith) p.1 f)

-- blanks
pub blank_stays : (elements : List Element) → is_blank_first elements ≡ false → elements ≡ skip_blanks elements
blank_stays [] h = refl
blank_stays (Blank ∷ elements) h = absurd (let k : true ≡ false = h in cc)
blank_stays (Comment t ∷ elements) h = absurd (let k : true ≡ false = h in cc)
blank_stays (Octet o ∷ elements) h = refl
blank_stays (Quoted t ∷ elements) h = refl

pub blank_passed : (elements : List Element) → is_blank_first elements ≡ true → skip_blanks (drop 1 elements) ≡ skip_blanks elements
blank_passed [] h = refl
blank_passed (Blank ∷ elements) h = refl
blank_passed (Comment t ∷ elements) h = refl
blank_passed (Octet o ∷ elements) h = absurd (let k : false ≡ true = h in cc)
blank_passed (Quoted t ∷ elements) h = absurd (let k : false ≡ true = h in cc)

pub blank_some : (elements : List Element) → is_blank_first elements ≡ true → 0 < length elements
blank_some [] h = absurd (let k : false ≡ true = h in cc)
blank_some (e ∷ elements) h = omega arith

-- words
pub word_goes_on : (stops : List ℕ) (e : Element) (elements : List Element) (o : ℕ) → word_octet stops e ≡ Some o → word_of stops (e ∷ elements) ≡ o ∷ word_of stops elements
word_goes_on stops Blank elements o h = absurd (let k : ◌≡◌ {A = Option ℕ} None (Some o) = h in cc)
word_goes_on stops (Comment t) elements o h = absurd (let k : ◌≡◌ {A = Option ℕ} None (Some o) = h in cc)
word_goes_on stops (Octet x) elements o h =
    elim (cases_Bool (list_any (λ stop. stop == x) stops)) [
      | inl t ↦ absurd (let k : ◌≡◌ {A = Option ℕ} None (Some o) = rw t at h in cc)
      | inr f ↦ let e : x ≡ o = (let k : ◌≡◌ {A = Option ℕ} (Some x) (Some o) = rw f at h in cc) in rw f (ap (λ y. y ∷ word_of stops elements) e)
    ]
word_goes_on stops (Quoted t) elements o h = absurd (let k : ◌≡◌ {A = Option ℕ} None (Some o) = h in cc)

pub word_stops : (stops : List ℕ) (e : Element) (elements : List Element) → word_octet stops e ≡ None → word_of stops (e ∷ elements) ≡ []
word_stops stops Blank elements h = refl
word_stops stops (Comment t) elements h = refl
word_stops stops (Octet x) elements h =
    elim (cases_Bool (list_any (λ stop. stop == x) stops)) [
      | inl t ↦ rw t refl
      | inr f ↦ absurd (let k : ◌≡◌ {A = Option ℕ} (Some x) None = rw f at h in cc)
    ]
word_stops stops (Quoted t) elements h = refl

pub after_word-drop : (stops : List ℕ) (elements : List Element) → drop (length (word_of stops elements)) elements ≡ after_word stops elements
after_word-drop stops [] = refl
after_word-drop stops (Blank ∷ elements) = refl
after_word-drop stops (Comment t ∷ elements) = refl
after_word-drop stops (Octet x ∷ elements) =
    elim (cases_Bool (list_any (λ stop. stop == x) stops)) [
      | inl t ↦ rw t refl
      | inr f ↦ rw f (after_word-drop stops elements)
    ]
after_word-drop stops (Quoted t ∷ elements) = refl

pub word_fits : (stops : List ℕ) (elements : List Element) → length (word_of stops elements) ≤ length elements
word_fits stops [] = omega arith
word_fits stops (Blank ∷ elements) = omega arith
word_fits stops (Comment t ∷ elements) = omega arith
word_fits stops (Octet x ∷ elements) =
    elim (cases_Bool (list_any (λ stop. stop == x) stops)) [
      | inl t ↦ rw t (omega arith)
      | inr f ↦ rw f (let w = word_fits stops elements in omega arith)
    ]
word_fits stops (Quoted t ∷ elements) = omega arith
