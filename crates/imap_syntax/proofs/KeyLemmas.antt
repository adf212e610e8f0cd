use Rattle.std.proofs.Common.{ℕ, zero, suc, List, [], ◌∷◌, ◌++◌, ap, sym, ◌∙◌, inl, inr, subst}
use Rattle.imap_syntax.specs.Keys.{all_of, and_all, key_over, key_within, search_keys}
use Rattle.imap_syntax.specs.Languages.{each_after, listed, never, sp}
use Rattle.imap_syntax.specs.declared.search.SearchStep.{SearchStep}
use Rattle.imap_syntax.specs.declared.search.SearchStep.TheVariants.{Not, Or, And}
use Rattle.imap_syntax.specs.SearchKeys.{Asks, Lacks, Either, Both, IsKey}

AreKeys : List (List SearchStep) → Type 0
AreKeys [] = Unit {0}
AreKeys (steps ∷ rest) = IsKey steps × AreKeys rest

and_all-key : (steps : List SearchStep) (keys : List (List SearchStep)) → IsKey steps → AreKeys keys → IsKey (and_all steps keys)
unfolding AreKeys
and_all-key steps [] k ks = k
and_all-key steps (key ∷ keys) k ks =
    and_all-key (steps ++ key ++ And ∷ []) keys
    (record { key = Both k.key ks.0.key; steps_are = λ i. (k.steps_are i ++ ks.0.steps_are i) ++ And ∷ [] }) ks.1

listed-keys : (inner : List SearchStep → List ℕ → Type 0) → ((steps : List SearchStep) (text : List ℕ) → inner steps text → IsKey steps) → (keys : List (List SearchStep)) (text : List ℕ) → each_after sp inner keys text → AreKeys keys
unfolding AreKeys
listed-keys inner f [] text h = tt
listed-keys inner f (key ∷ keys) text h = let b = h.3 in (f key b.0 b.2, listed-keys inner f keys b.1 b.3)

all_of-key : (inner : List SearchStep → List ℕ → Type 0) → ((steps : List SearchStep) (text : List ℕ) → inner steps text → IsKey steps) → (keys : List (List SearchStep)) (text : List ℕ) → listed sp inner keys text → IsKey (all_of keys)
all_of-key inner f [] text h = absurd h
all_of-key inner f (key ∷ keys) text h = and_all-key key keys (f key h.0 h.2) (listed-keys inner f keys h.1 h.3)

over-key : (inner : List SearchStep → List ℕ → Type 0) → ((steps : List SearchStep) (text : List ℕ) → inner steps text → IsKey steps) → (steps : List SearchStep) (text : List ℕ) → key_over inner steps text → IsKey steps
over-key inner f steps text h =
    elim h [
      | inl t ↦ record { key = Asks t.0; steps_are = sym t.2 }
      | inr g ↦ elim g [
        | inl n ↦
            let k = f n.0 _ n.1.3.3 in
            record { key = Lacks k.key; steps_are = sym n.2 ∙ ap (λ xs. xs ++ Not ∷ []) k.steps_are }
        | inr m ↦ elim m [
          | inl o ↦
              let k = f o.0 _ o.2.3.3.2 in
              let j = f o.1 _ o.2.3.3.3.3 in
              record { key = Either k.key j.key; steps_are = sym o.3 ∙ (λ i. (k.steps_are i ++ j.steps_are i) ++ Or ∷ []) }
          | inr p ↦ subst IsKey p.2 (all_of-key inner f p.0 _ p.1.3.2)
        ]
      ]
    ]

never-key : (steps : List SearchStep) (text : List ℕ) → never text → IsKey steps
never-key steps text h = absurd h

pub within-key : (levels : ℕ) (steps : List SearchStep) (text : List ℕ) → key_within levels steps text → IsKey steps
unfolding key_within
within-key zero steps text h = over-key (λ steps. never) never-key steps text h
within-key (suc levels) steps text h = over-key (key_within levels) (within-key levels) steps text h

-- the steps that a frame of SEARCH spells are those of a key
pub search-key : (steps : List SearchStep) (text : List ℕ) → search_keys steps text → IsKey steps
search-key steps text h = subst IsKey h.2 (all_of-key (key_within 64) (within-key 64) h.0 text h.1)
