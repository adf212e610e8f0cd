use Rattle.std.proofs.Common.{◌≡◌, ℕ, ◌-◌, true, false, eqb, List, [], ◌∷◌, ◌++◌, length, get_or, ◌⊎◌, inl, inr, sym, refl, ap, ◌∙◌, subst, append_assoc, arith}
use Rattle.std.proofs.lemmas.Bool.{cases_Bool, and_parts, and_from, eqb-true, eq-eqb}
use Rattle.std.proofs.lemmas.List.{get_or_push, length_push, same_from_push}
use Rattle.imap_lex.specs.Frames.{HasNoCrlf, HasNoNul, IsLine}
use Rattle.imap_lex.specs.Framing.{is_end}

-- A list is empty or has a last element.
last_of : {X : Type 0} (xs : List X) → (xs ≡ []) ⊎ ((ys : List X) × (y : X) × (xs ≡ ys ++ y ∷ []))
last_of [] = inl refl
last_of (x ∷ xs) =
    elim (last_of xs) [
      | inl e ↦ inr ([], x, ap (λ t. x ∷ t) e)
      | inr h ↦ inr (x ∷ h.0, h.1, ap (λ t. x ∷ t) h.2)
    ]

-- The octet that ends a line.
last_octet : (line : List ℕ) (octet : ℕ) → get_or (line ++ octet ∷ []) (length (line ++ octet ∷ []) - 1) 0 ≡ octet
last_octet line octet = get_or_push line octet 0 (length (line ++ octet ∷ []) - 1) (omega (arith, length_push line octet))

ends_with_cr : (line : List ℕ) → get_or line (length line - 1) 0 ≡ 13 → (inside : List ℕ) × (line ≡ inside ++ 13 ∷ [])
ends_with_cr line h =
    elim (last_of line) [
      | inl e ↦ let k : get_or {A = ℕ} [] (length {A = ℕ} [] - 1) 0 ≡ 13 = subst (λ (t : List ℕ). get_or t (length t - 1) 0 ≡ 13) e h in absurd (omega arith)
      | inr s ↦
          let k : get_or (s.0 ++ s.1 ∷ []) (length (s.0 ++ s.1 ∷ []) - 1) 0 ≡ 13 = subst (λ (t : List ℕ). get_or t (length t - 1) 0 ≡ 13) s.2 h in
          (s.0, s.2 ∙ ap (λ b. s.0 ++ b ∷ []) (sym (last_octet s.0 s.1) ∙ k))
    ]

pub end_parts : (line : List ℕ) (octet : ℕ) → is_end line octet ≡ true → (inside : List ℕ) × (octet ≡ 10) × (line ≡ inside ++ 13 ∷ [])
end_parts line octet h =
    let p = and_parts (eqb octet 10) (eqb (get_or line (length line - 1) 0) 13) h in
    let s = ends_with_cr line (eqb-true (get_or line (length line - 1) 0) 13 p.1) in
    (s.0, eqb-true octet 10 p.0, s.1)

end_at : (inside : List ℕ) → is_end (inside ++ 13 ∷ []) 10 ≡ true
end_at inside = and_from (eqb 10 10) (eqb (get_or (inside ++ 13 ∷ []) (length (inside ++ 13 ∷ []) - 1) 0) 13) refl (eq-eqb (get_or (inside ++ 13 ∷ []) (length (inside ++ 13 ∷ []) - 1) 0) 13 (last_octet inside 13))

-- If a text's end isn't a CRLF, each CRLF of it is in all but its last octet.
before_last : (line front back : List ℕ) (octet : ℕ) (last : ℕ) → line ++ octet ∷ [] ≡ front ++ 13 ∷ 10 ∷ (back ++ last ∷ []) → line ≡ front ++ 13 ∷ 10 ∷ back
before_last line front back octet last e =
    (same_from_push line (front ++ 13 ∷ 10 ∷ back) octet last (e ∙ sym (append_assoc front (13 ∷ 10 ∷ back) (last ∷ [])))).0

at_last : (line front : List ℕ) (octet : ℕ) → line ++ octet ∷ [] ≡ front ++ 13 ∷ 10 ∷ [] → (line ≡ front ++ 13 ∷ []) × (octet ≡ 10)
at_last line front octet e = same_from_push line (front ++ 13 ∷ []) octet 10 (e ∙ sym (append_assoc front (13 ∷ []) (10 ∷ [])))

-- An open line with its LF is a line.
pub ended_line : (line inside : List ℕ) → HasNoCrlf line → line ≡ inside ++ 13 ∷ [] → IsLine (line ++ 10 ∷ [])
ended_line line inside h e = record {
  inside = inside;
  ends = ap (λ t. t ++ 10 ∷ []) e ∙ append_assoc inside (13 ∷ []) (10 ∷ []);
  shortest = λ front back f. elim (last_of back) [
    | inl k ↦ k
    | inr s ↦ absurd (h front s.0 (before_last line front s.0 10 s.1 (f ∙ ap (λ t. front ++ 13 ∷ 10 ∷ t) s.2)))
  ];
}

-- An open line with another octet is still open.
pub open_line_append : (line : List ℕ) (octet : ℕ) → HasNoCrlf line → is_end line octet ≡ false → HasNoCrlf (line ++ octet ∷ [])
open_line_append line octet h not_end front back e =
    elim (last_of back) [
      | inl k ↦
          let p = at_last line front octet (e ∙ ap (λ t. front ++ 13 ∷ 10 ∷ t) k) in
          let q : is_end line octet ≡ true = rw (p.0, p.1) (end_at front) in
          cc
      | inr s ↦ h front s.0 (before_last line front s.0 octet s.1 (e ∙ ap (λ t. front ++ 13 ∷ 10 ∷ t) s.2))
    ]

pub open_front : (line more : List ℕ) → HasNoCrlf (line ++ more) → HasNoCrlf line
open_front line more h front back e = h front (back ++ more) (ap (λ t. t ++ more) e ∙ append_assoc front (13 ∷ 10 ∷ back) more)

-- No octet of an open line ends it.
pub open_step : (line more : List ℕ) (octet : ℕ) → HasNoCrlf (line ++ octet ∷ more) → is_end line octet ≡ false
open_step line more octet h =
    elim (cases_Bool (is_end line octet)) [
      | inl t ↦
          let p = end_parts line octet t in
          absurd (h p.0 more (ap (λ l. l ++ octet ∷ more) p.2 ∙ append_assoc p.0 (13 ∷ []) (octet ∷ more) ∙ ap (λ b. p.0 ++ 13 ∷ b ∷ more) p.1))
      | inr f ↦ f
    ]

-- A line is an open line and its LF.
pub line_parts : (text : List ℕ) → IsLine text → (line : List ℕ) × (text ≡ line ++ 10 ∷ []) × HasNoCrlf line × (is_end line 10 ≡ true)
line_parts text l =
    let whole : text ≡ (l.inside ++ 13 ∷ []) ++ 10 ∷ [] = l.ends ∙ sym (append_assoc l.inside (13 ∷ []) (10 ∷ [])) in (
      l.inside ++ 13 ∷ [],
      whole,
      λ front back e.
          let k : back ++ 10 ∷ [] ≡ [] = l.shortest front (back ++ 10 ∷ []) (whole ∙ ap (λ t. t ++ 10 ∷ []) e ∙ append_assoc front (13 ∷ 10 ∷ back) (10 ∷ [])) in
          let n : length (back ++ 10 ∷ []) ≡ 0 = ap length k in
          omega (arith, length_push back 10),
      end_at l.inside,
    )

pub no_nul_parts : (xs ys : List ℕ) → HasNoNul (xs ++ ys) → HasNoNul xs × HasNoNul ys
no_nul_parts [] ys h = (tt, h)
no_nul_parts (x ∷ xs) ys h = let p = no_nul_parts xs ys h.1 in ((h.0, p.0), p.1)

pub no_nul_both : (xs ys : List ℕ) → HasNoNul xs → HasNoNul ys → HasNoNul (xs ++ ys)
no_nul_both [] ys h k = k
no_nul_both (x ∷ xs) ys h k = (h.0, no_nul_both xs ys h.1 k)
