use Rattle.std.proofs.Common.{◌≡◌, ℕ, zero, suc, ◌+◌, ◌≤◌, true, false, List, [], ◌∷◌, length, take, drop, ap, sym, ◌∙◌, arith, refl, Option, Some, None, is_some, inl, inr}
use Rattle.std.specs.Char.{to_ascii_lowercase}
use Rattle.std.proofs.lemmas.Bool.{cases_Bool}
use Rattle.std.proofs.lemmas.List.{length-map}
use Rattle.mail_text.proofs.LineLemmas.{further, nearer}
use Rattle.std.proofs.lemmas.Slice.Eq.{bytes_eq-Decides}
use Rattle.memchr.specs.Find.{OccursAt, Nowhere, FindsNeedle}
use Rattle.memchr.proofs.lemmas.MatchLemmas.{OccursAt-part, OccursAt-from_part}
use Rattle.imap_types.specs.Keywords.{to_lower_case}
use Rattle.mail_text.specs.TextSearch.{is_prefix, occurs_in}

lowered-take : (n : ℕ) (text : List ℕ) → to_lower_case (take n text) ≡ take n (to_lower_case text)
lowered-take zero text = refl
lowered-take (suc n) [] = refl
lowered-take (suc n) (a ∷ text) = ap (λ xs. to_ascii_lowercase a ∷ xs) (lowered-take n text)

prefix_of_occurs : (text word : List ℕ) → OccursAt (to_lower_case text) (to_lower_case word) 0 → is_prefix word text ≡ true
prefix_of_occurs text word o =
    (bytes_eq-Decides _ _).1 (lowered-take (length word) text ∙ ap (λ n. take n (to_lower_case text)) (sym (length-map word _)) ∙ OccursAt-part (to_lower_case text) (to_lower_case word) 0 o)

length-prefix_occurs : (n : ℕ) (text word : List ℕ) → to_lower_case (take n text) ≡ to_lower_case word → length word ≡ n → n ≤ length text
length-prefix_occurs zero text word e l = omega arith
length-prefix_occurs (suc n) [] [] e l = absurd (omega arith)
length-prefix_occurs (suc n) [] (w ∷ word) e l = absurd cc
length-prefix_occurs (suc n) (a ∷ text) [] e l = absurd (omega arith)
length-prefix_occurs (suc n) (a ∷ text) (w ∷ word) e l = let h = length-prefix_occurs n text word (ap (drop 1) e) (omega arith) in omega arith

prefix_occurs : (text word : List ℕ) → is_prefix word text ≡ true → OccursAt (to_lower_case text) (to_lower_case word) 0
prefix_occurs text word h =
    let e : to_lower_case (take (length word) text) ≡ to_lower_case word = (bytes_eq-Decides _ _).0 h in
    let l : length word ≤ length text = length-prefix_occurs (length word) text word e refl in
    OccursAt-from_part (to_lower_case text) (to_lower_case word) 0 (omega (arith, length-map word to_ascii_lowercase, length-map text to_ascii_lowercase))
    (ap (λ n. take n (to_lower_case text)) (length-map word _) ∙ sym (lowered-take (length word) text) ∙ e)

pub occurs_at : (text word : List ℕ) (k : ℕ) → OccursAt (to_lower_case text) (to_lower_case word) k → occurs_in word text ≡ true
occurs_at [] word zero o = prefix_of_occurs [] word o
occurs_at [] word (suc k) o = let f = o.fits in absurd (omega arith)
occurs_at (a ∷ text) word zero o = rw (prefix_of_occurs (a ∷ text) word o) refl
occurs_at (a ∷ text) word (suc k) o =
    let h = occurs_at text word k (nearer _ (to_lower_case text) (to_lower_case word) k o) in
    elim (cases_Bool (is_prefix word (a ∷ text))) [ inl t ↦ rw t refl | inr f ↦ rw f h ]

pub occurs_nowhere : (text word : List ℕ) → Nowhere (OccursAt (to_lower_case text) (to_lower_case word)) 0 (length (to_lower_case text) + 1) → occurs_in word text ≡ false
occurs_nowhere [] word n =
    elim (cases_Bool (is_prefix word [])) [ inl t ↦ absurd (n 0 (omega arith) (omega arith) (prefix_occurs [] word t)) | inr f ↦ f ]
occurs_nowhere (a ∷ text) word n =
    elim (cases_Bool (is_prefix word (a ∷ text))) [
      | inl t ↦ absurd (n 0 (omega arith) (omega arith) (prefix_occurs (a ∷ text) word t))
      | inr f ↦ rw f (occurs_nowhere text word (λ j l m p. n (suc j) (omega arith) (omega arith) (further _ (to_lower_case text) (to_lower_case word) j p)))
    ]

pub is_some_of_find : (text word : List ℕ) (r : Option ℕ) → FindsNeedle (to_lower_case text) (to_lower_case word) 0 r → is_some r ≡ occurs_in word text
is_some_of_find text word None f = sym (occurs_nowhere text word f)
is_some_of_find text word (Some k) f = sym (occurs_at text word k f.1)

pub contains_of_find : (text word low sought : List ℕ) (r : Option ℕ) → low ≡ to_lower_case text → sought ≡ to_lower_case word → FindsNeedle low sought 0 r → is_some r ≡ occurs_in word text
contains_of_find text word low sought r e f h = is_some_of_find text word r (rw (e, f) at h)
