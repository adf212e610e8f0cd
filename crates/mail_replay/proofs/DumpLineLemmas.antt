use Rattle.std.proofs.Common.{◌≡◌, inl, inr, ℕ, List, [], ◌∷◌, ◌++◌, refl, sym, ap}
use Rattle.std.proofs.lemmas.Bool.Decides.{eqb_tells}
use Rattle.mail_audit.specs.Audits.{text_of}
use Rattle.mail_script.specs.Lines.{prepend_octet, lines_of}

no_end : (front : List ℕ) → ◌≡◌ {A = List ℕ} [] (front ++ 10 ∷ []) → ⊥
no_end [] e = absurd cc
no_end (octet ∷ front) e = absurd cc

-- one more octet at the start of the first line
text_of_prepend : (octet : ℕ) (lines : List (List ℕ)) (front : List ℕ) → text_of lines ≡ front ++ 10 ∷ [] → text_of (prepend_octet octet lines) ≡ octet ∷ (front ++ 10 ∷ [])
text_of_prepend octet [] front e = absurd (no_end front e)
text_of_prepend octet (line ∷ lines) front e = ap (λ (text : List ℕ). octet ∷ text) e

-- a text that ends with LF consists of its lines, each with its end
pub whole_lines : (front : List ℕ) → text_of (lines_of (front ++ 10 ∷ [])) ≡ front ++ 10 ∷ []
whole_lines [] = refl
whole_lines (octet ∷ front) =
    elim (eqb_tells octet 10) [
      | inl t ↦ rw t.0 (λ i. sym t.1 i ∷ whole_lines front i)
      | inr f ↦ rw f.0 (text_of_prepend octet (lines_of (front ++ 10 ∷ [])) front (whole_lines front))
    ]
