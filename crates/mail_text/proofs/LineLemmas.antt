use Rattle.std.proofs.Common.{◌≡◌, ◌≢◌, slice_index, ℕ, zero, suc, ◌+◌, ◌-◌, ◌<◌, ◌==◌, true, List, [], ◌∷◌, length, take, drop, ap, sym, ◌∙◌, arith, refl, inl, inr}
use Rattle.std.proofs.lemmas.Bool.{cases_Bool, and_from, and_parts, eq-eqb, eqb-true}
use Rattle.std.specs.List.{concat}
use Rattle.memchr.specs.Find.{OccursAt, NoneBefore, Nowhere, Passes, is_byte}
use Rattle.mail_text.specs.TextLines.{crlf, in_first, is_crlf, lines_of}

-- a place of a word, one octet later
pub further : (a : ℕ) (text word : List ℕ) (k : ℕ) → OccursAt text word k → OccursAt (a ∷ text) word (suc k)
further a text word k o =
    let f = o.fits in
    record { fits = omega arith; reads = λ j l. let e : suc k + j ≡ suc (k + j) = omega arith in ap (slice_index (a ∷ text)) e ∙ o.reads j l }

pub nearer : (a : ℕ) (text word : List ℕ) (k : ℕ) → OccursAt (a ∷ text) word (suc k) → OccursAt text word k
nearer a text word k o =
    let f = o.fits in
    record { fits = omega arith; reads = λ j l. let e : suc k + j ≡ suc (k + j) = omega arith in ap (slice_index (a ∷ text)) (sym e) ∙ o.reads j l }

-- a place at the beginning
pub here : (a b : ℕ) (rest : List ℕ) → OccursAt (a ∷ b ∷ rest) crlf 0 → is_crlf a b ≡ true
here a b rest o = and_from _ _ (eq-eqb a 13 (o.reads 0 (omega arith))) (eq-eqb b 10 (o.reads 1 (omega arith)))

read_here : (a b : ℕ) (rest : List ℕ) → a ≡ 13 → b ≡ 10 → (j : ℕ) → j < 2 → slice_index (a ∷ b ∷ rest) (0 + j) ≡ slice_index crlf j
read_here a b rest e f zero l = e
read_here a b rest e f (suc zero) l = f
read_here a b rest e f (suc (suc j)) l = absurd (omega arith)

pub begins : (a b : ℕ) (rest : List ℕ) → is_crlf a b ≡ true → OccursAt (a ∷ b ∷ rest) crlf 0
begins a b rest h = let p = and_parts _ _ h in record { fits = omega arith; reads = read_here a b rest (eqb-true a 13 p.0) (eqb-true b 10 p.1) }

-- the first CRLF ends the first line
pub first_cut : (text : List ℕ) (k : ℕ) → OccursAt text crlf k → Nowhere (OccursAt text crlf) 0 k → lines_of text ≡ take (k + 2) text ∷ lines_of (drop (k + 2) text)
first_cut [] k o n = let f = o.fits in absurd (omega arith)
first_cut (a ∷ []) k o n = let f = o.fits in absurd (omega arith)
first_cut (a ∷ b ∷ rest) zero o n = rw (here a b rest o) refl
first_cut (a ∷ b ∷ rest) (suc k) o n =
    elim (cases_Bool (is_crlf a b)) [
      | inl t ↦ absurd (n 0 (omega arith) (omega arith) (begins a b rest t))
      | inr f ↦
          let e : suc k + 2 ≡ suc (k + 2) = omega arith in
          rw (f, e) (ap (in_first a) (first_cut (b ∷ rest) k (nearer a (b ∷ rest) crlf k o) (λ j l m p. n (suc j) (omega arith) (omega arith) (further a (b ∷ rest) crlf j p))))
    ]

-- a text without CRLF is one line
pub no_cut : (text : List ℕ) → text ≢ [] → Nowhere (OccursAt text crlf) 0 (length text + 1) → lines_of text ≡ text ∷ []
no_cut [] e n = absurd (e refl)
no_cut (a ∷ []) e n = refl
no_cut (a ∷ b ∷ rest) e n =
    elim (cases_Bool (is_crlf a b)) [
      | inl t ↦ absurd (n 0 (omega arith) (omega arith) (begins a b rest t))
      | inr f ↦ rw f (ap (in_first a) (no_cut (b ∷ rest) (λ i. cc) (λ j l m p. n (suc j) (omega arith) (omega arith) (further a (b ∷ rest) crlf j p))))
    ]

-- a text's lines joined are the text
in_first-joined : (a : ℕ) (lines : List (List ℕ)) → concat (in_first a lines) ≡ a ∷ concat lines
in_first-joined a [] = refl
in_first-joined a (line ∷ lines) = refl

pub lines-joined : (text : List ℕ) → concat (lines_of text) ≡ text
lines-joined [] = refl
lines-joined (a ∷ []) = refl
lines-joined (a ∷ b ∷ rest) =
    elim (cases_Bool (is_crlf a b)) [
      | inl t ↦ rw t (ap (λ xs. a ∷ b ∷ xs) (lines-joined rest))
      | inr f ↦ rw f (in_first-joined a (lines_of (b ∷ rest)) ∙ ap (λ xs. a ∷ xs) (lines-joined (b ∷ rest)))
    ]

take-all : (xs : List ℕ) → take (length xs) xs ≡ xs
take-all [] = refl
take-all (x ∷ xs) = ap (λ ys. x ∷ ys) (take-all xs)

drop-all : (xs : List ℕ) → drop (length xs) xs ≡ []
drop-all [] = refl
drop-all (x ∷ xs) = drop-all xs

pub whole : (text line tail : List ℕ) → text ≢ [] → Nowhere (OccursAt text crlf) 0 (length text + 1) → line ≡ take (length text) text → tail ≡ drop (length text) text → lines_of text ≡ line ∷ lines_of tail
whole text line tail e n f b = rw (f, take-all text, b, drop-all text) (no_cut text e n)

-- the first LF, if it comes after a CR, ends the first CRLF
read_feed : (text : List ℕ) (feed j : ℕ) → 0 < feed → slice_index text (feed - 1) ≡ 13 → slice_index text feed ≡ 10 → j < 2 → slice_index text (feed - 1 + j) ≡ slice_index crlf j
read_feed text feed zero s r f l = let e : feed - 1 + 0 ≡ feed - 1 = omega arith in ap (slice_index text) e ∙ r
read_feed text feed (suc zero) s r f l = let e : feed - 1 + 1 ≡ feed = omega (arith, s) in ap (slice_index text) e ∙ f
read_feed text feed (suc (suc j)) s r f l = absurd (omega arith)

pub at_first_feed : (text : List ℕ) (feed : ℕ) → feed < length text → Passes (is_byte 10) text feed → Nowhere (Passes (is_byte 10) text) 0 feed → 0 < feed → is_byte 13 (slice_index text (feed - 1)) ≡ true
    → NoneBefore (OccursAt text crlf) 0 (length text + 1) (feed - 1) × OccursAt text crlf (feed - 1)
at_first_feed text feed l p n s r =
    let f : slice_index text feed ≡ 10 = eqb-true (slice_index text feed) 10 p in (
      record {
        low = omega arith;
        high = omega (arith, l);
        before = λ j m o q. n (j + 1) (omega arith) (omega (arith, o)) (ap (λ x. x == 10) (q.reads 1 (omega arith)));
      },
      record { fits = omega (arith, l, s); reads = λ j m. read_feed text feed j s (eqb-true (slice_index text (feed - 1)) 13 r) f m },
    )
