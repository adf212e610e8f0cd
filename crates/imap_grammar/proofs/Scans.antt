use Rattle.std.proofs.Common.{◌≡◌, ◌↔◌, ℕ, suc, ◌+◌, ◌<◌, Bool, true, false, cond, List, [], ◌∷◌, length, drop, get_or, ap, sym, ◌∙◌, arith, length-drop, refl, drop-cons, add-one, Option, Some, None, IsTrue}
use Rattle.std.proofs.lemmas.Bool.Decides.{same_from_decides}
use Rattle.std.proofs.lemmas.List.{nil_from_length}
use Rattle.std.proofs.lemmas.Slice.Eq.{bytes_eq-Decides}
use Rattle.std.specs.Str.{bytes_eq}
use Rattle.imap_types.specs.Keywords.{to_lower_case}
use Rattle.imap_grammar.specs.Reading.{after, named}

pub dropped : {X : Type 0} (xs : List X) (i : ℕ) (x : X) → i < length xs → x ≡ get_or xs i x → drop i xs ≡ x ∷ drop (i + 1) xs
dropped xs i x l e = drop-cons xs i x l ∙ ap (λ v. v ∷ drop (suc i) xs) (sym e) ∙ ap (λ j. x ∷ drop j xs) (sym (add-one i))

-- no octets remain to match a prefix that isn't empty
after-nil : (ws : List ℕ) → 0 < length ws → after ws [] ≡ None
after-nil [] l = absurd (omega arith)
after-nil (w ∷ ws) l = refl

pub after-short : (ws rest : List ℕ) (i : ℕ) (total : Option (List ℕ)) → i < length ws → length rest < 1 → after (drop i ws) rest ≡ total → total ≡ None
after-short ws rest i total l m e =
    let n : rest ≡ [] = nil_from_length rest (omega arith) in
    sym e ∙ ap (after (drop i ws)) n ∙ after-nil (drop i ws) (omega (arith, length-drop i ws))

module _ {W : Type 0} (word_of : W → List ℕ) where
  -- a value whose word equals the text
  pub named_equal : (text : List ℕ) (ws : List W) (i : ℕ) (w : W) (shown : List ℕ) (b : Bool) → i < length ws → w ≡ get_or ws i w → shown ≡ word_of w → IsTrue b ↔ (to_lower_case text ≡ to_lower_case shown) → b ≡ true
      → named word_of (drop i ws) text ≡ named word_of ws text → Some w ≡ named word_of ws text
  named_equal text ws i w shown b l e s t h inv =
      let f : bytes_eq (to_lower_case text) (to_lower_case (word_of w)) ≡ true = (bytes_eq-Decides _ _).1 (t.0 h ∙ ap to_lower_case s) in
      let g : named word_of (w ∷ drop (i + 1) ws) text ≡ Some w = ap (λ c. cond c (Some w) (named word_of (drop (i + 1) ws) text)) f in
      sym (sym inv ∙ ap (λ vs. named word_of vs text) (dropped ws i w l e) ∙ g)

  -- a value whose word differs from the text
  pub passed : (text : List ℕ) (ws : List W) (i : ℕ) (w : W) (shown : List ℕ) (b : Bool) → i < length ws → w ≡ get_or ws i w → shown ≡ word_of w → IsTrue b ↔ (to_lower_case text ≡ to_lower_case shown) → b ≡ false
      → named word_of (drop i ws) text ≡ named word_of ws text → named word_of (drop (i + 1) ws) text ≡ named word_of ws text
  passed text ws i w shown b l e s t h inv =
      let f : bytes_eq (to_lower_case text) (to_lower_case (word_of w)) ≡ false = same_from_decides _ _ (bytes_eq-Decides (to_lower_case text) (to_lower_case (word_of w))) (λ k. t.0 k ∙ ap to_lower_case s, λ k. t.1 (k ∙ sym (ap to_lower_case s))) ∙ h in
      let g : named word_of (w ∷ drop (i + 1) ws) text ≡ named word_of (drop (i + 1) ws) text = ap (λ c. cond c (Some w) (named word_of (drop (i + 1) ws) text)) f in
      sym (sym inv ∙ ap (λ vs. named word_of vs text) (dropped ws i w l e) ∙ g)
