use Rattle.std.proofs.Common.{◌≡◌, ℕ, true, false, ◌||◌, ◌==◌, List, [], ◌∷◌, ◌++◌, length, map, codes, cond, ap, sym, ◌∙◌, refl, append_assoc, inl, inr, Some, None}
use Rattle.std.proofs.lemmas.Bool.{and_parts, cases_Bool, eqb-true, or_parts}
use Rattle.std.proofs.lemmas.List.{append-nil}
use Rattle.std.specs.List.{list_all, list_any}
use Rattle.mail_fields.specs.HeaderValues.{after_octet, after_word, elements_of, elements_within, is_line_end, is_semicolon, sections_of, skip_blanks, token_stops, with_element, word_of}
use Rattle.mail_fields.specs.Parameters.{after_token_and, media_type_in, media_type_of, parameter_of, parameters_of, token_of, type_names_from, type_names_of, with_parameters}
use Rattle.mail_fields.specs.Written.{AreParameters, IsToken, escaped, is_token_octet, written_parameters, written_value}
use Rattle.mail_fields.specs.declared.elements.Element.{Element}
use Rattle.mail_fields.specs.declared.elements.Element.TheVariants.{Blank, Octet, Quoted}
use Rattle.mail_fields.specs.declared.elements.Within.TheVariants.{Value, QuotedString}
use Rattle.mail_fields.specs.declared.parameters.Parameter.{Parameter}

-- an octet of a token isn't one that is no octet of a token
other : (octet code : ℕ) → is_token_octet octet ≡ true → is_token_octet code ≡ false → (octet == code) ≡ false
other octet code h n = elim (cases_Bool (octet == code)) [
  | inl t ↦ absurd (let k : true ≡ false = sym h ∙ ap is_token_octet (eqb-true octet code t) ∙ n in cc)
  | inr f ↦ f
]

swapped : (octet code : ℕ) → is_token_octet octet ≡ true → is_token_octet code ≡ false → (code == octet) ≡ false
swapped octet code h n = elim (cases_Bool (code == octet)) [
  | inl t ↦ absurd (let k : true ≡ false = sym h ∙ ap is_token_octet (sym (eqb-true code octet t)) ∙ n in cc)
  | inr f ↦ f
]

-- no stop stops a token
not_stopped : (stops : List ℕ) (octet : ℕ) → is_token_octet octet ≡ true → list_any is_token_octet stops ≡ false → list_any (λ stop. stop == octet) stops ≡ false
not_stopped [] octet h n = refl
not_stopped (s ∷ stops) octet h n =
    let p = or_parts (is_token_octet s) (list_any is_token_octet stops) n in rw (swapped octet s h p.0) (not_stopped stops octet h p.1)

-- the elements of a token
token_elements : (xs rest : List ℕ) → list_all is_token_octet xs ≡ true → elements_within Value [] (xs ++ rest) ≡ map Octet xs ++ elements_within Value [] rest
token_elements [] rest h = refl
token_elements (x ∷ xs) rest h =
    let p = and_parts (is_token_octet x) (list_all is_token_octet xs) h in
    rw (other x 34 p.0 refl, other x 40 p.0 refl, other x 32 p.0 refl, other x 9 p.0 refl, other x 13 p.0 refl, other x 10 p.0 refl) (ap (λ es. Octet x ∷ es) (token_elements xs rest p.1))

-- the element of a quoted string
pub quoted_element : (v text rest : List ℕ) → list_any is_line_end v ≡ false → elements_within QuotedString text (escaped v ++ 34 ∷ rest) ≡ Quoted (text ++ v) ∷ elements_within Value [] rest
quoted_element [] text rest h = ap (λ t. Quoted t ∷ elements_within Value [] rest) (sym (append-nil text))
quoted_element (o ∷ v) text rest h =
    let l = or_parts (is_line_end o) (list_any is_line_end v) h in
    let next : elements_within QuotedString (text ++ o ∷ []) (escaped v ++ 34 ∷ rest) ≡ Quoted (text ++ o ∷ v) ∷ elements_within Value [] rest =
    quoted_element v (text ++ o ∷ []) rest l.1 ∙ ap (λ t. Quoted t ∷ elements_within Value [] rest) (append_assoc text (o ∷ []) v) in
    elim (cases_Bool ((o == 34) || (o == 92))) [
      | inl t ↦ rw t next
      | inr f ↦ let p = or_parts (o == 34) (o == 92) f in let q = or_parts (o == 13) (o == 10) l.0 in rw (f, p.1, p.0, q.0, q.1) next
    ]

-- sections
section_then : (xs more : List Element) → list_any is_semicolon xs ≡ false → sections_of (xs ++ Octet 59 ∷ more) ≡ xs ∷ sections_of more
section_then [] more h = refl
section_then (x ∷ xs) more h = let p = or_parts (is_semicolon x) (list_any is_semicolon xs) h in rw p.0 (ap (with_element x) (section_then xs more p.1))

section_last : (xs : List Element) → list_any is_semicolon xs ≡ false → sections_of xs ≡ xs ∷ []
section_last [] h = refl
section_last (x ∷ xs) h = let p = or_parts (is_semicolon x) (list_any is_semicolon xs) h in rw p.0 (ap (with_element x) (section_last xs p.1))

none-append : (xs ys : List Element) → list_any is_semicolon xs ≡ false → list_any is_semicolon ys ≡ false → list_any is_semicolon (xs ++ ys) ≡ false
none-append [] ys h k = k
none-append (x ∷ xs) ys h k = let p = or_parts (is_semicolon x) (list_any is_semicolon xs) h in rw p.0 (none-append xs ys p.1 k)

token_none : (xs : List ℕ) → list_all is_token_octet xs ≡ true → list_any is_semicolon (map Octet xs) ≡ false
token_none [] h = refl
token_none (x ∷ xs) h = let p = and_parts (is_token_octet x) (list_all is_token_octet xs) h in rw (other x 59 p.0 refl) (token_none xs p.1)

-- a token among elements
abbrev StopsToken : List Element → Type 0
StopsToken rest = (word_of token_stops rest ≡ []) × (after_word token_stops rest ≡ rest)

word_token : (xs : List ℕ) (rest : List Element) → list_all is_token_octet xs ≡ true → StopsToken rest → (word_of token_stops (map Octet xs ++ rest) ≡ xs) × (after_word token_stops (map Octet xs ++ rest) ≡ rest)
word_token [] rest h s = s
word_token (x ∷ xs) rest h s =
    let p = and_parts (is_token_octet x) (list_all is_token_octet xs) h in
    let n = not_stopped token_stops x p.0 refl in
    let r = word_token xs rest p.1 s in
    (rw n (ap (λ ys. x ∷ ys) r.0), rw n r.1)

token_stays : (xs : List ℕ) (rest : List Element) → (length xs == 0) ≡ false → skip_blanks (map Octet xs ++ rest) ≡ map Octet xs ++ rest
token_stays [] rest n = absurd (let k : true ≡ false = n in cc)
token_stays (x ∷ xs) rest n = refl

-- a written parameter is read
abbrev section_of : Parameter → List Element → List Element
section_of p tail = Blank ∷ (map Octet p.name ++ Octet 61 ∷ Quoted p.value ∷ tail)

parameter_again : (p : Parameter) (tail : List Element) → IsToken p.name → parameter_of (section_of p tail) ≡ p ∷ []
parameter_again p tail t =
    let rest : List Element = Octet 61 ∷ Quoted p.value ∷ tail in
    let s = token_stays p.name rest t.some in
    let w = word_token p.name rest t.octets (refl, refl) in
    let name : token_of (section_of p tail) ≡ p.name = ap (word_of token_stops) s ∙ w.0 in
    let after : after_token_and 61 (section_of p tail) ≡ Some (Quoted p.value ∷ tail) = ap (λ es. after_octet 61 (skip_blanks (after_word token_stops es))) s ∙ ap (λ es. after_octet 61 (skip_blanks es)) w.1 in
    rw (name, after, t.some) refl

section_none : (p : Parameter) (tail : List Element) → IsToken p.name → list_any is_semicolon tail ≡ false → list_any is_semicolon (section_of p tail) ≡ false
section_none p tail t h = none-append (map Octet p.name) (Octet 61 ∷ Quoted p.value ∷ tail) (token_none p.name t.octets) h

-- written parameters are read
elements_after : List Parameter → List Element → List Element
elements_after [] tail = tail
elements_after (p ∷ ps) tail = Octet 59 ∷ section_of p (elements_after ps tail)

written_elements : (ps : List Parameter) (rest : List ℕ) → AreParameters ps → elements_within Value [] (written_parameters ps rest) ≡ elements_after ps (elements_within Value [] rest)
unfolding elements_after
written_elements [] rest a = refl
written_elements (p ∷ ps) rest a =
    let tail : List ℕ = written_parameters ps rest in
    ap (λ es. Octet 59 ∷ Blank ∷ es) (
    token_elements p.name (codes "=\"" ++ (escaped p.value ++ (codes "\"" ++ tail))) a.0.octets
    ∙ ap (λ es. map Octet p.name ++ Octet 61 ∷ es) (quoted_element p.value [] tail a.1 ∙ ap (λ es. Quoted p.value ∷ es) (written_elements ps rest a.2))
    )

sections_after : List Element → List Parameter → List Element → List (List Element)
sections_after first [] tail = (first ++ tail) ∷ []
sections_after first (p ∷ ps) tail = first ∷ sections_after (section_of p []) ps tail

split_sections : (first : List Element) (ps : List Parameter) (tail : List Element) → list_any is_semicolon first ≡ false → list_any is_semicolon tail ≡ false → AreParameters ps
    → sections_of (first ++ elements_after ps tail) ≡ sections_after first ps tail
unfolding elements_after sections_after
split_sections first [] tail f t a = section_last (first ++ tail) (none-append first tail f t)
split_sections first (p ∷ ps) tail f t a =
    section_then first (section_of p (elements_after ps tail)) f
    ∙ ap (λ ss. first ∷ ss) (
    ap (λ es. sections_of (Blank ∷ es)) (sym (append_assoc (map Octet p.name) (Octet 61 ∷ Quoted p.value ∷ []) (elements_after ps tail)))
    ∙ split_sections (section_of p []) ps tail (section_none p [] a.0 refl) t a.2
    )

parameters_again : (p : Parameter) (ps : List Parameter) (tail : List Element) → IsToken p.name → AreParameters ps → parameters_of (sections_after (section_of p []) ps tail) ≡ p ∷ ps
unfolding sections_after
parameters_again p [] tail t a =
    ap (λ es. parameter_of (Blank ∷ es) ++ []) (append_assoc (map Octet p.name) (Octet 61 ∷ Quoted p.value ∷ []) tail) ∙ ap (λ ps. ps ++ []) (parameter_again p tail t)
parameters_again p (q ∷ ps) tail t a =
    (λ i. parameter_again p [] t i ++ parameters_again q ps tail a.0 a.2 i)

-- a written type is read
names_again : (major minor : List ℕ) (tail : List Element) → IsToken major → IsToken minor → StopsToken tail → type_names_of (Blank ∷ (map Octet major ++ Octet 47 ∷ (map Octet minor ++ tail))) ≡ Some (major, minor)
names_again major minor tail m n s =
    let rest : List Element = Octet 47 ∷ (map Octet minor ++ tail) in
    let k = token_stays major rest m.some in
    let w = word_token major rest m.octets (refl, refl) in
    let a : token_of (Blank ∷ (map Octet major ++ rest)) ≡ major = ap (word_of token_stops) k ∙ w.0 in
    let b : after_token_and 47 (Blank ∷ (map Octet major ++ rest)) ≡ Some (map Octet minor ++ tail) =
    ap (λ es. after_octet 47 (skip_blanks (after_word token_stops es))) k ∙ ap (λ es. after_octet 47 (skip_blanks es)) w.1 in
    let j = token_stays minor tail n.some in
    let v = word_token minor tail n.octets s in
    let d : token_of (map Octet minor ++ tail) ≡ minor = ap (word_of token_stops) j ∙ v.0 in
    (λ i. type_names_from (a i) (b i))
    ∙ (λ i. cond ((m.some i) || (length (d i) == 0)) None (Some (major, d i)))
    ∙ (λ i. cond (n.some i) None (Some (major, minor)))

media_again : (major minor : List ℕ) (ps : List Parameter) → IsToken major → IsToken minor → AreParameters ps
    → media_type_in (sections_after (Blank ∷ (map Octet major ++ Octet 47 ∷ map Octet minor)) ps (Blank ∷ Blank ∷ [])) ≡ Some ((major, minor), ps)
unfolding sections_after
media_again major minor [] m n a =
    ap (λ es. with_parameters (type_names_of (Blank ∷ es)) []) (append_assoc (map Octet major) (Octet 47 ∷ map Octet minor) (Blank ∷ Blank ∷ []))
    ∙ ap (λ names. with_parameters names []) (names_again major minor (Blank ∷ Blank ∷ []) m n (refl, refl))
media_again major minor (p ∷ ps) m n a =
    let rest = sections_after (section_of p []) ps (Blank ∷ Blank ∷ []) in
    ap (λ es. with_parameters (type_names_of (Blank ∷ (map Octet major ++ Octet 47 ∷ es))) rest) (sym (append-nil (map Octet minor)))
    ∙ ap (λ names. with_parameters names rest) (names_again major minor [] m n (refl, refl))
    ∙ ap (λ qs. Some ((major, minor), qs)) (parameters_again p ps (Blank ∷ Blank ∷ []) a.0 a.2)

pub written_again : (major minor : List ℕ) (ps : List Parameter) → IsToken major → IsToken minor → AreParameters ps → media_type_of (written_value major minor ps) ≡ Some ((major, minor), ps)
written_again major minor ps m n a =
    let end : List Element = Blank ∷ Blank ∷ [] in
    let elements : elements_of (written_value major minor ps) ≡ (Blank ∷ (map Octet major ++ Octet 47 ∷ map Octet minor)) ++ elements_after ps end =
    ap (λ es. Blank ∷ es) (
    token_elements major (codes "/" ++ (minor ++ written_parameters ps (codes "\r\n"))) m.octets
    ∙ ap (λ es. map Octet major ++ Octet 47 ∷ es) (token_elements minor (written_parameters ps (codes "\r\n")) n.octets ∙ ap (λ es. map Octet minor ++ es) (written_elements ps (codes "\r\n") a))
    ∙ sym (append_assoc (map Octet major) (Octet 47 ∷ map Octet minor) (elements_after ps end))
    ) in
    let first : list_any is_semicolon (Blank ∷ (map Octet major ++ Octet 47 ∷ map Octet minor)) ≡ false = none-append (map Octet major) (Octet 47 ∷ map Octet minor) (token_none major m.octets) (token_none minor n.octets) in
    ap (λ es. media_type_in (sections_of es)) elements
    ∙ ap media_type_in (split_sections (Blank ∷ (map Octet major ++ Octet 47 ∷ map Octet minor)) ps end first refl a)
    ∙ media_again major minor ps m n a
