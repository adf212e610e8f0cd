use Rattle.std.proofs.Common.{◌≡◌, ◌≢◌, ◌↔◌, ℕ, ◌==◌, ◌⊎◌, inl, inr, Bool, true, false, not, ◌&&◌, ◌||◌, List, [], ◌∷◌, ◌++◌, sym, refl, ap, ◌∙◌}
use Rattle.std.proofs.lemmas.Bool.Decides.{Decides-eqb, eqb_tells}
use Rattle.std.specs.Prelude.{IfOk, Result, Ok, Err}
use Rattle.std.specs.declared.alloc.AllocError.{AllocError}
use Rattle.imap_query.specs.Patterns.{IsPatternMatch, IsOctetMatch}
use Rattle.imap_query.specs.PatternRows.{after_octet, after_wildcard, is_match, is_wildcard, may_hold}
use Rattle.imap_query.proofs.RowLemmas.{chosen_true, chosen_false, either_way}

pub or_cases : (a b : Bool) → (a || b) ≡ true → (a ≡ true) ⊎ (b ≡ true)
or_cases true b h = inl refl
or_cases false b h = inr h

pub or_right : (a b : Bool) → b ≡ true → (a || b) ≡ true
or_right true b h = refl
or_right false b h = h

pub or_left : (a b : Bool) → a ≡ true → (a || b) ≡ true
or_left true b h = refl
or_left false b h = cc

pub both : (a b : Bool) → (a && b) ≡ true → (a ≡ true) × (b ≡ true)
both true b h = (refl, h)
both false b h = cc

pub joined : (a b : Bool) → a ≡ true → b ≡ true → (a && b) ≡ true
joined true b h k = k
joined false b h k = cc

-- a wildcard is one of two octets
pub wildcard_cases : (octet : ℕ) → is_wildcard octet ≡ true → (octet ≡ 42) ⊎ (octet ≡ 37)
wildcard_cases octet w = elim (or_cases (octet == 42) (octet == 37) w) [ inl a ↦ inl ((Decides-eqb octet 42).0 a) | inr b ↦ inr ((Decides-eqb octet 37).0 b) ]

no_star : (octet : ℕ) → is_wildcard octet ≡ false → (octet ≢ 42) × (octet ≢ 37)
no_star octet w = (λ e. let q : is_wildcard octet ≡ true = ap is_wildcard e in cc, λ e. let q : is_wildcard octet ≡ true = ap is_wildcard e in cc)

octet_match_nil : (octet : ℕ) → is_wildcard octet ≡ true → IsOctetMatch octet []
octet_match_nil octet w = elim (wildcard_cases octet w) [ inl e ↦ inl e | inr e ↦ inr (inl (e, λ h. h)) ]

held : (octet letter : ℕ) → may_hold octet letter ≡ true → octet ≡ 37 → letter ≡ 47 → ⊥
held octet letter h e f = let q : may_hold octet letter ≡ false = λ k. may_hold (e k) (f k) in cc

holds : (octet letter : ℕ) → (letter ≢ 47) → may_hold octet letter ≡ true
holds octet letter h = elim (eqb_tells letter 47) [ inl t ↦ absurd (h t.1) | inr f ↦ or_right _ _ (ap not f.0) ]

octet_match_cons : (octet letter : ℕ) (text : List ℕ) → is_wildcard octet ≡ true → may_hold octet letter ≡ true → IsOctetMatch octet text → IsOctetMatch octet (letter ∷ text)
octet_match_cons octet letter text w h s =
    elim s [
      | inl e ↦ inl e
      | inr more ↦ elim more [
        | inl p ↦ inr (inl (p.0, λ i. elim i [ inl q ↦ held octet letter h p.0 q | inr t ↦ p.1 t ]))
        | inr o ↦ elim (wildcard_cases octet w) [ inl e ↦ inl e | inr e ↦ absurd (o.1 e) ]
      ]
    ]

octet_match_tail : (octet letter : ℕ) (text : List ℕ) → is_wildcard octet ≡ true → IsOctetMatch octet (letter ∷ text) → (may_hold octet letter ≡ true) × IsOctetMatch octet text
octet_match_tail octet letter text w s =
    elim s [
      | inl e ↦ (ap (λ o. may_hold o letter) e, inl e)
      | inr more ↦ elim more [
        | inl p ↦ (holds octet letter (λ q. p.1 (inl q)), inr (inl (p.0, λ i. p.1 (inr i))))
        | inr o ↦ elim (wildcard_cases octet w) [ inl e ↦ absurd (o.0 e) | inr e ↦ absurd (o.1 e) ]
      ]
    ]

-- a piece that the octet matches, and a rest that a test accepts
abbrev HasPiece : (List ℕ → Bool) → ℕ → List ℕ → Type 0
HasPiece accepts octet name = (front : List ℕ) × (rest : List ℕ) × (name ≡ front ++ rest) × IsOctetMatch octet front × (accepts rest ≡ true)

wildcard_sound : (accepts : List ℕ → Bool) (octet : ℕ) (name : List ℕ) → is_wildcard octet ≡ true → after_wildcard accepts octet name ≡ true → HasPiece accepts octet name
wildcard_sound accepts octet [] w h = ([], [], refl, octet_match_nil octet w, h)
wildcard_sound accepts octet (letter ∷ name) w h =
    elim (or_cases _ _ h) [
      | inl now ↦ ([], letter ∷ name, refl, octet_match_nil octet w, now)
      | inr later ↦
          let parts = both _ _ later in
          let piece = wildcard_sound accepts octet name w parts.1 in
          (letter ∷ piece.0, piece.1, ap (λ cs. letter ∷ cs) piece.2, octet_match_cons octet letter piece.0 w parts.0 piece.3, piece.4)
    ]

wildcard_now : (accepts : List ℕ → Bool) (octet : ℕ) (name : List ℕ) → accepts name ≡ true → after_wildcard accepts octet name ≡ true
wildcard_now accepts octet [] h = h
wildcard_now accepts octet (letter ∷ name) h = or_left _ _ h

wildcard_complete : (accepts : List ℕ → Bool) (octet : ℕ) (front rest : List ℕ) → is_wildcard octet ≡ true → IsOctetMatch octet front → accepts rest ≡ true → after_wildcard accepts octet (front ++ rest) ≡ true
wildcard_complete accepts octet [] rest w s h = wildcard_now accepts octet rest h
wildcard_complete accepts octet (letter ∷ front) rest w s h =
    let less = octet_match_tail octet letter front w s in
    or_right _ _ (joined _ _ less.0 (wildcard_complete accepts octet front rest w less.1 h))

octet_sound : (accepts : List ℕ → Bool) (octet : ℕ) (name : List ℕ) → is_wildcard octet ≡ false → after_octet accepts octet name ≡ true → HasPiece accepts octet name
octet_sound accepts octet [] w h = cc
octet_sound accepts octet (letter ∷ name) w h =
    let parts = both (letter == octet) (accepts name) h in
    let other = no_star octet w in
    let same : letter ≡ octet = (Decides-eqb letter octet).0 parts.0 in
    (letter ∷ [], name, refl, inr (inr (other.0, other.1, ap (λ c. c ∷ []) same)), parts.1)

octet_itself : (accepts : List ℕ → Bool) (octet : ℕ) (rest : List ℕ) → accepts rest ≡ true → after_octet accepts octet (octet ∷ rest) ≡ true
octet_itself accepts octet rest h = elim (eqb_tells octet octet) [ inl t ↦ joined _ _ t.0 h | inr f ↦ absurd (f.1 refl) ]

octet_complete : (accepts : List ℕ → Bool) (octet : ℕ) (front rest : List ℕ) → is_wildcard octet ≡ false → IsOctetMatch octet front → accepts rest ≡ true → after_octet accepts octet (front ++ rest) ≡ true
octet_complete accepts octet front rest w s h =
    let other = no_star octet w in
    elim s [
      | inl e ↦ absurd (other.0 e)
      | inr more ↦ elim more [
        | inl p ↦ absurd (other.1 p.0)
        | inr o ↦ ap (λ text. after_octet accepts octet (text ++ rest)) o.2 ∙ octet_itself accepts octet rest h
      ]
    ]

pub match_sound : (pattern name : List ℕ) → is_match pattern name ≡ true → IsPatternMatch pattern name
match_sound [] [] h = refl
match_sound [] (letter ∷ name) h = cc
match_sound (octet ∷ pattern) name h =
    elim (either_way (is_wildcard octet)) [
      | inl t ↦ let piece = wildcard_sound (is_match pattern) octet name t (sym (chosen_true (is_wildcard octet) _ _ t) ∙ h) in (piece.0, piece.1, piece.2, piece.3, match_sound pattern piece.1 piece.4)
      | inr f ↦ let piece = octet_sound (is_match pattern) octet name f (sym (chosen_false (is_wildcard octet) _ _ f) ∙ h) in (piece.0, piece.1, piece.2, piece.3, match_sound pattern piece.1 piece.4)
    ]

pub match_complete : (pattern name : List ℕ) → IsPatternMatch pattern name → is_match pattern name ≡ true
match_complete [] name m = ap (is_match []) m
match_complete (octet ∷ pattern) name m =
    let rest : is_match pattern m.1 ≡ true = match_complete pattern m.1 m.4 in
    ap (is_match (octet ∷ pattern)) m.2
    ∙ elim (either_way (is_wildcard octet)) [
      | inl t ↦ chosen_true (is_wildcard octet) _ _ t ∙ wildcard_complete (is_match pattern) octet m.0 m.1 t m.3 rest
      | inr f ↦ chosen_false (is_wildcard octet) _ _ f ∙ octet_complete (is_match pattern) octet m.0 m.1 f m.3 rest
    ]

-- the test agrees with the definition
is_match_decides : (pattern name : List ℕ) (answer : Bool) → answer ≡ is_match pattern name → (answer ≡ true) ↔ IsPatternMatch pattern name
is_match_decides pattern name answer e = (λ t. match_sound pattern name (sym e ∙ t), λ m. e ∙ match_complete pattern name m)

pub answered : (pattern name : List ℕ) (result : Result Bool AllocError) → IfOk result (λ answer. answer ≡ is_match pattern name) → IfOk result (λ answer. (answer ≡ true) ↔ IsPatternMatch pattern name)
answered pattern name (Ok answer) h = is_match_decides pattern name answer h
answered pattern name (Err e) h = h
