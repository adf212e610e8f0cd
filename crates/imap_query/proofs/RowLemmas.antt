use Rattle.std.proofs.Common.{◌≡◌, ℕ, suc, ◌-◌, ◌<◌, ◌==◌, ◌⊎◌, inl, inr, Bool, true, false, not, ◌&&◌, ◌||◌, cond, List, [], ◌∷◌, length, get_or, sym, refl, ap, ◌∙◌, arith}
use Rattle.std.proofs.Math.ListN.{replicate}
use Rattle.std.specs.List.{list_all}
use Rattle.imap_query.specs.PatternRows.{after_octet, after_wildcard, answer_after, cell, cells, is_match, is_unset, is_wildcard, last_of, may_hold}

-- a conditional with a known test
pub chosen_true : {A : Type 0} (test : Bool) (x y : A) → test ≡ true → cond test x y ≡ x
chosen_true true x y h = refl
chosen_true false x y h = cc

pub chosen_false : {A : Type 0} (test : Bool) (x y : A) → test ≡ false → cond test x y ≡ y
chosen_false true x y h = cc
chosen_false false x y h = refl

pub either_way : (test : Bool) → (test ≡ true) ⊎ (test ≡ false)
either_way true = inl refl
either_way false = inr refl

-- laws of Booleans
or_false : (x : Bool) → (x || false) ≡ x
or_false true = refl
or_false false = refl

never : (x q : Bool) → ((x && false) || q) ≡ q
never true q = refl
never false q = refl

and_true : (x : Bool) → x ≡ (x && true)
and_true true = refl
and_true false = refl

and_or : (a b x : Bool) → ((a || b) && x) ≡ ((a && x) || (b && x))
and_or true true true = refl
and_or true true false = refl
and_or true false true = refl
and_or true false false = refl
and_or false b x = refl

and_or_more : (a b x q : Bool) → (((a || b) && x) || q) ≡ (((a && x) || q) || (b && x))
and_or_more true true true q = refl
and_or_more true true false true = refl
and_or_more true true false false = refl
and_or_more true false true q = refl
and_or_more true false false true = refl
and_or_more true false false false = refl
and_or_more false true true true = refl
and_or_more false true true false = refl
and_or_more false true false true = refl
and_or_more false true false false = refl
and_or_more false false x true = refl
and_or_more false false x false = refl

wildcard_now : (m f h w q : Bool) → ((m && f) || (q || ((m && h) && w))) ≡ ((m && (f || (h && w))) || q)
wildcard_now true true h w q = refl
wildcard_now true false true true true = refl
wildcard_now true false true true false = refl
wildcard_now true false true false true = refl
wildcard_now true false true false false = refl
wildcard_now true false false w true = refl
wildcard_now true false false w false = refl
wildcard_now false f h w true = refl
wildcard_now false f h w false = refl

octet_now : (m f b e g q : Bool) → ((m && f) || (((b && e) && g) || q)) ≡ ((m && f) || ((b && (e && g)) || q))
octet_now m f true e g q = refl
octet_now m f false e g q = refl

or_and_false : (m b : Bool) → m ≡ (m || (b && false))
or_and_false true b = refl
or_and_false false true = refl
or_and_false false false = refl

-- whether the row is true at a prefix of the name, and the test accepts the rest after it
reaches : (List ℕ → Bool) → Bool → List ℕ → List Bool → Bool
reaches accepts first [] row = first && accepts []
reaches accepts first (letter ∷ name) [] = first && accepts (letter ∷ name)
reaches accepts first (letter ∷ name) (here ∷ row) = (first && accepts (letter ∷ name)) || reaches accepts here name row

reaches_or : (accepts : List ℕ → Bool) (a b : Bool) (name : List ℕ) (row : List Bool) → reaches accepts (a || b) name row ≡ (reaches accepts a name row || (b && accepts name))
unfolding reaches
reaches_or accepts a b [] row = and_or a b (accepts [])
reaches_or accepts a b (letter ∷ name) [] = and_or a b (accepts (letter ∷ name))
reaches_or accepts a b (letter ∷ name) (here ∷ row) = and_or_more a b (accepts (letter ∷ name)) (reaches accepts here name row)

-- after a wildcard is read
reaches_wildcard : (accepts : List ℕ → Bool) (octet : ℕ) (before made : Bool) (name : List ℕ) (row : List Bool) → is_wildcard octet ≡ true → length row ≡ length name → reaches accepts made name (cells octet before made row name) ≡ reaches (after_wildcard accepts octet) made name row
unfolding reaches
reaches_wildcard accepts octet before made [] [] t n = refl
reaches_wildcard accepts octet before made [] (here ∷ row) t n = absurd (omega arith)
reaches_wildcard accepts octet before made (letter ∷ name) [] t n = absurd (omega arith)
reaches_wildcard accepts octet before made (letter ∷ name) (here ∷ row) t n =
    let made' : Bool = cell octet letter before made here in
    let is : made' ≡ (here || (made && may_hold octet letter)) = chosen_true (is_wildcard octet) _ _ t in
    let more : reaches accepts made' name (cells octet here made' row name) ≡ reaches (after_wildcard accepts octet) made' name row = reaches_wildcard accepts octet here made' name row t (omega arith) in
    ap (λ q. (made && accepts (letter ∷ name)) || q)
    (more ∙ ap (λ m. reaches (after_wildcard accepts octet) m name row) is ∙ reaches_or (after_wildcard accepts octet) here (made && may_hold octet letter) name row)
    ∙ wildcard_now made (accepts (letter ∷ name)) (may_hold octet letter) (after_wildcard accepts octet name) (reaches (after_wildcard accepts octet) here name row)

-- after another octet is read
reaches_octet : (accepts : List ℕ → Bool) (octet : ℕ) (before made : Bool) (name : List ℕ) (row : List Bool) → is_wildcard octet ≡ false → length row ≡ length name → reaches accepts made name (cells octet before made row name) ≡ ((made && accepts name) || reaches (after_octet accepts octet) before name row)
unfolding reaches
reaches_octet accepts octet before made [] [] t n = or_and_false (made && accepts []) before
reaches_octet accepts octet before made [] (here ∷ row) t n = absurd (omega arith)
reaches_octet accepts octet before made (letter ∷ name) [] t n = absurd (omega arith)
reaches_octet accepts octet before made (letter ∷ name) (here ∷ row) t n =
    let made' : Bool = cell octet letter before made here in
    let is : made' ≡ (before && (letter == octet)) = chosen_false (is_wildcard octet) _ _ t in
    let more : reaches accepts made' name (cells octet here made' row name) ≡ ((made' && accepts name) || reaches (after_octet accepts octet) here name row) = reaches_octet accepts octet here made' name row t (omega arith) in
    ap (λ q. (made && accepts (letter ∷ name)) || q)
    (more ∙ ap (λ m. (m && accepts name) || reaches (after_octet accepts octet) here name row) is)
    ∙ octet_now made (accepts (letter ∷ name)) before (letter == octet) (accepts name) (reaches (after_octet accepts octet) here name row)

reaches_next : (octet : ℕ) (pattern : List ℕ) (first : Bool) (name : List ℕ) (row : List Bool) → length row ≡ length name → reaches (is_match pattern) (is_wildcard octet && first) name (cells octet first (is_wildcard octet && first) row name) ≡ reaches (is_match (octet ∷ pattern)) first name row
reaches_next octet pattern first name row n =
    elim (either_way (is_wildcard octet)) [
      | inl t ↦
          let tests : is_match (octet ∷ pattern) ≡ after_wildcard (is_match pattern) octet = λ k word. chosen_true (is_wildcard octet) (after_wildcard (is_match pattern) octet word) (after_octet (is_match pattern) octet word) t k in
          ap (λ w. reaches (is_match pattern) (w && first) name (cells octet first (w && first) row name)) t
          ∙ reaches_wildcard (is_match pattern) octet first first name row t n
          ∙ ap (λ accepts. reaches accepts first name row) (sym tests)
      | inr f ↦
          let tests : is_match (octet ∷ pattern) ≡ after_octet (is_match pattern) octet = λ k word. chosen_false (is_wildcard octet) (after_wildcard (is_match pattern) octet word) (after_octet (is_match pattern) octet word) f k in
          ap (λ w. reaches (is_match pattern) (w && first) name (cells octet first (w && first) row name)) f
          ∙ reaches_octet (is_match pattern) octet first false name row f n
          ∙ ap (λ accepts. reaches accepts first name row) (sym tests)
    ]

pub length-cells : (octet : ℕ) (before made : Bool) (row : List Bool) (name : List ℕ) → length row ≡ length name → length (cells octet before made row name) ≡ length name
length-cells octet before made [] [] n = refl
length-cells octet before made [] (letter ∷ name) n = absurd (omega arith)
length-cells octet before made (here ∷ row) [] n = absurd (omega arith)
length-cells octet before made (here ∷ row) (letter ∷ name) n = ap suc (length-cells octet here (cell octet letter before made here) row name (omega arith))

last_reaches : (first : Bool) (row : List Bool) (name : List ℕ) → length row ≡ length name → last_of first row ≡ reaches (is_match []) first name row
unfolding reaches
last_reaches first [] [] n = and_true first
last_reaches first [] (letter ∷ name) n = absurd (omega arith)
last_reaches first (here ∷ row) [] n = absurd (omega arith)
last_reaches first (here ∷ row) (letter ∷ name) n = last_reaches here row name (omega arith) ∙ sym (never first _)

answer_reaches : (pattern : List ℕ) (first : Bool) (row : List Bool) (name : List ℕ) → length row ≡ length name → answer_after pattern first row name ≡ reaches (is_match pattern) first name row
answer_reaches [] first row name n = last_reaches first row name n
answer_reaches (octet ∷ pattern) first row name n =
    answer_reaches pattern (is_wildcard octet && first) (cells octet first (is_wildcard octet && first) row name) name (length-cells octet first _ row name n)
    ∙ reaches_next octet pattern first name row n

reaches_none : (accepts : List ℕ → Bool) (name : List ℕ) → reaches accepts false name (replicate (length name) false) ≡ false
unfolding reaches
reaches_none accepts [] = refl
reaches_none accepts (letter ∷ name) = reaches_none accepts name

reaches_all : (accepts : List ℕ → Bool) (name : List ℕ) → reaches accepts true name (replicate (length name) false) ≡ accepts name
unfolding reaches
reaches_all accepts [] = refl
reaches_all accepts (letter ∷ name) = ap (λ q. accepts (letter ∷ name) || q) (reaches_none accepts name) ∙ or_false _

-- the answer of a pattern, read from its first octet, is the test's answer
pub answer_after_match : (pattern name : List ℕ) (row : List Bool) → row ≡ replicate (length name) false → length row ≡ length name → answer_after pattern true row name ≡ is_match pattern name
answer_after_match pattern name row e n = answer_reaches pattern true row name n ∙ ap (reaches (is_match pattern) true name) e ∙ reaches_all (is_match pattern) name

reaches_unset : (accepts : List ℕ → Bool) (name : List ℕ) (row : List Bool) → list_all not row ≡ true → reaches accepts false name row ≡ false
unfolding reaches
reaches_unset accepts [] row h = refl
reaches_unset accepts (letter ∷ name) [] h = refl
reaches_unset accepts (letter ∷ name) (true ∷ row) h = absurd cc
reaches_unset accepts (letter ∷ name) (false ∷ row) h = reaches_unset accepts name row h

-- once no prefix is matched, none is matched later
pub unset_never : (pattern name : List ℕ) (first : Bool) (row : List Bool) → is_unset first row ≡ true → length row ≡ length name → answer_after pattern first row name ≡ false
unset_never pattern name true row h n = absurd cc
unset_never pattern name false row h n = answer_reaches pattern false row name n ∙ reaches_unset (is_match pattern) name row h

-- the last of the answers, by its place
pub last_at : (first : Bool) (row : List Bool) (d : Bool) → 0 < length row → get_or row (length row - 1) d ≡ last_of first row
last_at first [] d h = absurd (omega arith)
last_at first (here ∷ []) d h = refl
last_at first (here ∷ next ∷ row) d h =
    let less : length (here ∷ next ∷ row) - 1 ≡ suc (length (next ∷ row) - 1) = omega arith in
    ap (λ n. get_or (here ∷ next ∷ row) n d) less ∙ last_at here (next ∷ row) d (omega arith)
