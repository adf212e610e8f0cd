use Rattle.std.proofs.Common.{◌≡◌, ◌∙◌, sym, refl, ℕ, inl, inr, Bool, true, false, List, [], ◌∷◌, Option, Some, None, if◌then◌else◌}
use Rattle.std.specs.Prelude.{not}
use Rattle.std.specs.List.{filter, list_all}
use Rattle.std.proofs.lemmas.Bool.{and_from, and_parts, cases_Bool}
use Rattle.std.proofs.lemmas.Cmp.{nat_list_cmp_total}
use Rattle.imap_types.specs.Ascending.{AreAscending, IsBefore}
use Rattle.imap_types.specs.Keywords.{AreKeywords, are_keywords, has_keyword, is_lower_case}
use Rattle.imap_types.proofs.KeywordLemmas.{test_from_keywords}
use Rattle.imap_commands.specs.FlagChange.{remaining_keywords}

-- ---- the remaining keywords

first_out : (a b : List ℕ) (rest : List (List ℕ)) → IsBefore a b → AreAscending (b ∷ rest) → AreAscending (a ∷ rest)
first_out a b [] h i = tt
first_out a b (c ∷ rest) h i = (nat_list_cmp_total.trans a b c h i.0, i.1)

filter_ascending : (test : List ℕ → Bool) (a : List ℕ) (words : List (List ℕ)) → AreAscending (a ∷ words) → AreAscending (a ∷ filter test words)
filter_ascending test a [] h = tt
filter_ascending test a (b ∷ words) h =
    elim (cases_Bool (test b)) [
      | inl t ↦ rw t (h.0, filter_ascending test b words h.1)
      | inr f ↦ rw f (filter_ascending test a words (first_out a b words h.0 h.1))
    ]

ascending_tail : (a : List ℕ) (words : List (List ℕ)) → AreAscending (a ∷ words) → AreAscending words
ascending_tail a [] h = tt
ascending_tail a (b ∷ words) h = h.1

filtered : (test : List ℕ → Bool) (words : List (List ℕ)) → AreAscending words → AreAscending (filter test words)
filtered test [] h = tt
filtered test (a ∷ words) h =
    elim (cases_Bool (test a)) [
      | inl t ↦ rw t (filter_ascending test a words h)
      | inr f ↦ rw f (filtered test words (ascending_tail a words h))
    ]

-- A property of all words is one of the remaining words.
pub all_filtered : (p test : List ℕ → Bool) (words : List (List ℕ)) → list_all p words ≡ true → list_all p (filter test words) ≡ true
all_filtered p test [] h = refl
all_filtered p test (a ∷ words) h =
    let parts = and_parts (p a) (list_all p words) h in
    elim (cases_Bool (test a)) [
      | inl t ↦ rw t (and_from (p a) (list_all p (filter test words)) parts.0 (all_filtered p test words parts.1))
      | inr f ↦ rw f (all_filtered p test words parts.1)
    ]

pub never_none : (b : Bool) (words : List (List ℕ)) (made : Option (List (List ℕ))) → b ≡ true → made ≡ (if b then Some words else None) → made ≡ None → ⊥
never_none true words made t m e = let k : Some words ≡ None = sym m ∙ e in cc
never_none false words made t m e = cc

pub remaining_are_keywords : (given keywords : List (List ℕ)) → AreKeywords keywords → are_keywords (remaining_keywords given keywords) ≡ true
remaining_are_keywords given keywords h =
    let test = λ (keyword : List ℕ). not (has_keyword keyword given) in
    test_from_keywords (remaining_keywords given keywords) (all_filtered is_lower_case test keywords h.0, filtered test keywords h.1)
