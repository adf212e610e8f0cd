use Rattle.std.proofs.Common.{◌≡◌, Bool, List, [], ◌∷◌, ◌++◌, ap, sym, ◌∙◌, refl, append_assoc, ℕ, zero, suc, ◌≤◌, length, drop, reverse, false, arith}
use Rattle.std.proofs.lemmas.List.{reverse-append}
use Rattle.imap_syntax.specs.declared.search.SearchStep.{SearchStep}
use Rattle.imap_syntax.specs.declared.search.SearchStep.TheVariants.{Test, Not, Or, And}
use Rattle.imap_syntax.specs.declared.search.SearchTest.{SearchTest}
use Rattle.imap_query.specs.KeyHits.{Key, Asks, Lacks, Either, Both, hits, steps_of}
use Rattle.imap_query.specs.Runs.{run, key_stack}

-- the steps of one key, those of another and a last step, before the rest
append_three : (these those : List SearchStep) (last : SearchStep) (rest : List SearchStep) → (these ++ those ++ last ∷ []) ++ rest ≡ these ++ (those ++ (last ∷ rest))
append_three these those last rest = append_assoc (these ++ those) (last ∷ []) rest ∙ append_assoc these those (last ∷ rest)

-- the steps of a key push whether the key matches
pub run-key : (holds : SearchTest → Bool) (key : Key) (rest : List SearchStep) (results : List Bool) → run holds (steps_of key ++ rest) results ≡ run holds rest (hits holds key ∷ results)
run-key holds (Asks test) rest results = refl
run-key holds (Lacks key) rest results =
    ap (λ xs. run holds xs results) (append_assoc (steps_of key) (Not ∷ []) rest) ∙ run-key holds key (Not ∷ rest) results
run-key holds (Either this that) rest results =
    ap (λ xs. run holds xs results) (append_three (steps_of this) (steps_of that) Or rest)
    ∙ run-key holds this (steps_of that ++ (Or ∷ rest)) results
    ∙ run-key holds that (Or ∷ rest) (hits holds this ∷ results)
run-key holds (Both this that) rest results =
    ap (λ xs. run holds xs results) (append_three (steps_of this) (steps_of that) And rest)
    ∙ run-key holds this (steps_of that ++ (And ∷ rest)) results
    ∙ run-key holds that (And ∷ rest) (hits holds this ∷ results)

append_nil : {A : Type 0} (xs : List A) → xs ++ [] ≡ xs
append_nil [] = refl
append_nil (x ∷ xs) = ap (λ ys. x ∷ ys) (append_nil xs)

pub run-all : (holds : SearchTest → Bool) (key : Key) → run holds (steps_of key) [] ≡ hits holds key ∷ []
run-all holds key = ap (λ xs. run holds xs []) (sym (append_nil (steps_of key))) ∙ run-key holds key [] []

-- if keys are pushed, the steps of a key push the key itself
pub key_stack-key : (key : Key) (rest : List SearchStep) (keys : List Key) → key_stack (steps_of key ++ rest) keys ≡ key_stack rest (key ∷ keys)
key_stack-key (Asks test) rest keys = refl
key_stack-key (Lacks key) rest keys =
    ap (λ xs. key_stack xs keys) (append_assoc (steps_of key) (Not ∷ []) rest) ∙ key_stack-key key (Not ∷ rest) keys
key_stack-key (Either this that) rest keys =
    ap (λ xs. key_stack xs keys) (append_three (steps_of this) (steps_of that) Or rest)
    ∙ key_stack-key this (steps_of that ++ (Or ∷ rest)) keys
    ∙ key_stack-key that (Or ∷ rest) (this ∷ keys)
key_stack-key (Both this that) rest keys =
    ap (λ xs. key_stack xs keys) (append_three (steps_of this) (steps_of that) And rest)
    ∙ key_stack-key this (steps_of that ++ (And ∷ rest)) keys
    ∙ key_stack-key that (And ∷ rest) (this ∷ keys)

first_or : Key → List Key → Key
first_or other [] = other
first_or other (key ∷ keys) = key

-- two keys with the same steps are equal
pub one_key : (a b : Key) → steps_of a ≡ steps_of b → a ≡ b
unfolding first_or
one_key a b e =
    let ea : key_stack (steps_of a) [] ≡ a ∷ [] = ap (λ xs. key_stack xs []) (sym (append_nil (steps_of a))) ∙ key_stack-key a [] [] in
    let eb : key_stack (steps_of b) [] ≡ b ∷ [] = ap (λ xs. key_stack xs []) (sym (append_nil (steps_of b))) ∙ key_stack-key b [] [] in
    ap (first_or a) (sym ea ∙ ap (λ xs. key_stack xs []) e ∙ eb)

-- the end of the steps
drop-past : {A : Type 0} (n : ℕ) (xs : List A) → length xs ≤ n → drop n xs ≡ []
drop-past zero [] l = refl
drop-past (suc n) [] l = refl
drop-past zero (x ∷ xs) l = absurd (omega arith)
drop-past (suc n) (x ∷ xs) l = drop-past n xs (omega arith)

results-are : (holds : SearchTest → Bool) (key : Key) (steps : List SearchStep) (n : ℕ) (items : List Bool) → length steps ≤ n → run holds (drop n steps) (reverse items) ≡ run holds steps [] → steps ≡ steps_of key → reverse items ≡ hits holds key ∷ []
results-are holds key steps n items l i e = ap (λ xs. run holds xs (reverse items)) (sym (drop-past n steps l)) ∙ i ∙ ap (λ xs. run holds xs []) e ∙ run-all holds key

first_result : Bool → List Bool → Bool
first_result other [] = other
first_result other (b ∷ bs) = b

-- steps that are only one test
pub test_alone : (holds : SearchTest → Bool) (key : Key) (steps : List SearchStep) (test : SearchTest) → steps ≡ Test test ∷ [] → steps ≡ steps_of key → holds test ≡ hits holds key
unfolding first_result
test_alone holds key steps test t e =
    let ran : run holds (Test test ∷ []) [] ≡ hits holds key ∷ [] = ap (λ xs. run holds xs []) (sym t ∙ e) ∙ run-all holds key in
    ap (first_result false) ran

pub last_result : (holds : SearchTest → Bool) (key : Key) (steps : List SearchStep) (n : ℕ) (items rest : List Bool) (last : Bool) → length steps ≤ n → run holds (drop n steps) (reverse items) ≡ run holds steps [] → items ≡ rest ++ last ∷ [] → steps ≡ steps_of key → last ≡ hits holds key
unfolding first_result
last_result holds key steps n items rest last l i p e =
    let r : reverse items ≡ last ∷ reverse rest = ap reverse p ∙ reverse-append rest (last ∷ []) in
    ap (first_result false) (sym r ∙ results-are holds key steps n items l i e)

pub some_result : (holds : SearchTest → Bool) (key : Key) (steps : List SearchStep) (n : ℕ) (items : List Bool) → length steps ≤ n → run holds (drop n steps) (reverse items) ≡ run holds steps [] → length items ≡ 0 → steps ≡ steps_of key → false ≡ hits holds key
some_result holds key steps n [] l i z e = let r = results-are holds key steps n [] l i e in cc
some_result holds key steps n (x ∷ items) l i z e = absurd (omega arith)
