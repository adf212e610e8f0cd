-- AUTHENTICATE PLAIN.
use Rattle.std.proofs.Common.{◌≡◌, inl, inr, ℕ, List, [], ◌∷◌, ◌++◌, codes, Option, Some, None, refl, sym, ap, ◌∙◌, subst}
use Rattle.std.specs.Prelude.{MatchOption}
use Rattle.std.proofs.lemmas.List.{append_cancel_left}
use Rattle.imap_syntax.specs.Languages.{◌⌢◌, sp, word}
use Rattle.rev1_front.specs.ClientFrames.{IsAuthenticate, IsPlainTaken, answer_to_response}
use Rattle.rev1_front.specs.Plain.{IsResponseLine}
use Rattle.rev1_front.specs.declared.authentication.PlainResponse.{PlainResponse}
use Rattle.rev1_front.specs.declared.taken.Taken.{Taken}
use Rattle.rev1_front.proofs.SearchLemmas.{Found, prefix_is}

-- a space and a word
pub spaced_is : (letters text : List ℕ) (h : (sp ⌢ word letters) text) → text ≡ 32 ∷ h.1
spaced_is letters text h = h.4 ∙ ap (λ xs. xs ++ h.1) h.2

pub spaced_front : (letters rest text back : List ℕ) (h : (sp ⌢ word letters) text) → rest ≡ text ++ back → rest ≡ 32 ∷ (h.1 ++ back)
spaced_front letters rest text back h e = e ∙ ap (λ xs. xs ++ back) (spaced_is letters text h)

module _ {X : Type 0} (now : X → List ℕ) (letters rest inner : List ℕ) (e : rest ≡ 32 ∷ inner) where
  pub spaced_found : (r : Option X) → Found now letters inner r
      → MatchOption r ((front back : List ℕ) → (sp ⌢ word letters) front → rest ≡ front ++ back → ⊥) (λ x. (front : List ℕ) × (sp ⌢ word letters) front × (rest ≡ front ++ now x))
  spaced_found None f = λ front back h k.
      let tails : inner ≡ h.1 ++ back = tail_is inner (h.1 ++ back) (sym e ∙ spaced_front letters rest front back h k) in
      f h.1 back h.3 tails
    where
      tail_is : (xs ys : List ℕ) → 32 ∷ xs ≡ 32 ∷ ys → xs ≡ ys
      tail_is xs ys p = cc
  spaced_found (Some x) f = (32 ∷ f.0, (32 ∷ [], f.0, refl, f.1, refl), e ∙ ap (λ xs. 32 ∷ xs) f.2)

pub no_space : (letters rest : List ℕ) → ((other : List ℕ) → rest ≡ 32 ∷ other → ⊥) → (front back : List ℕ) → (sp ⌢ word letters) front → rest ≡ front ++ back → ⊥
no_space letters rest none front back h e = none (h.1 ++ back) (spaced_front letters rest front back h e)

-- one rest follows the word
pub spaced_same : (letters rest f a g b : List ℕ) → (sp ⌢ word letters) f → rest ≡ f ++ a → (sp ⌢ word letters) g → rest ≡ g ++ b → b ≡ a
spaced_same letters rest f a g b h e i k =
    let inner : h.1 ++ a ≡ i.1 ++ b = tail_is (h.1 ++ a) (i.1 ++ b) (sym (spaced_front letters rest f a h e) ∙ spaced_front letters rest g b i k) in
    let one : h.1 ≡ i.1 = prefix_is letters (h.1 ++ a) h.1 a h.3 refl ∙ sym (prefix_is letters (h.1 ++ a) i.1 b i.3 inner) in
    append_cancel_left i.1 b a (sym inner ∙ ap (λ xs. xs ++ a) one)
  where
    tail_is : (xs ys : List ℕ) → 32 ∷ xs ≡ 32 ∷ ys → xs ≡ ys
    tail_is xs ys p = cc

module _ (tag rest front response : List ℕ) (h : (sp ⌢ word (codes "PLAIN")) front) (e : rest ≡ front ++ response) where
  pub plain_to : (it : Taken) → IsPlainTaken tag response it → IsAuthenticate tag rest it
  plain_to it p = (front, response, h, e, p)

  pub plain_back : (it : Taken) → IsAuthenticate tag rest it → IsPlainTaken tag response it
  plain_back it a = subst (λ (r : List ℕ). IsPlainTaken tag r it) (spaced_same (codes "PLAIN") rest front response a.0 a.1 h e a.2 a.3) a.4

-- neither CRLF nor a space follow
pub plain_none : (tag response : List ℕ) → (response ≡ codes "\r\n" → ⊥) → ((line : List ℕ) → response ≡ 32 ∷ line → ⊥) → (it : Taken) → IsPlainTaken tag response it → ⊥
plain_none tag response no_end no_space it h = elim h [ inl p ↦ no_end p.0 | inr p ↦ no_space p.0 p.2 ]

-- a response follows
pub plain_said : (tag response line : List ℕ) (it : Taken) → response ≡ 32 ∷ line → (said : PlainResponse) × IsResponseLine line said × (it ≡ answer_to_response tag said) → IsPlainTaken tag response it
plain_said tag response line it e h = inr (line, h.0, e, h.1, h.2)
