use Rattle.std.proofs.Common.{◌≡◌, ℕ, zero, suc, ◌+◌, ◌≤◌, Bool, true, false, List, [], ◌∷◌, ◌++◌, length, take, drop, ap, sym, subst, ◌∙◌, arith, refl, inl, inr, append_assoc}
use Rattle.std.proofs.lemmas.Bool.{cases_Bool, or_parts}
use Rattle.std.proofs.lemmas.List.{drop-drop, length-drop, length-append}
use Rattle.std.specs.List.{concat, list_any}
use Rattle.mail_text.proofs.LineLemmas.{lines-joined}
use Rattle.mail_text.specs.TextLines.{header_lines, is_empty_line, lines_of}
use Rattle.mail_parts.specs.Cuttings.{is_whole_header}
use Rattle.mail_parts.specs.Delimiters.{IsEnd, Lines, is_delimiter}
use Rattle.mail_parts.specs.PartTrees.{size_of}
use Rattle.mail_parts.specs.Reading.{IsHeaderPassed, IsHeaderSize, IsPassed}

pub any-append : (test : List ℕ → Bool) (xs ys : Lines) → list_any test xs ≡ false → list_any test ys ≡ false → list_any test (xs ++ ys) ≡ false
any-append test [] ys h k = k
any-append test (x ∷ xs) ys h k = let p = or_parts (test x) (list_any test xs) h in rw p.0 (any-append test xs ys p.1 k)

any-one : (test : List ℕ → Bool) (x : List ℕ) → test x ≡ false → list_any test (x ∷ []) ≡ false
any-one test x h = rw h refl

pub drop_nil : (text : List ℕ) (k : ℕ) → length text ≤ k → drop k text ≡ []
drop_nil [] zero l = refl
drop_nil [] (suc k) l = refl
drop_nil (x ∷ text) zero l = absurd (omega arith)
drop_nil (x ∷ text) (suc k) l = drop_nil text k (omega arith)

pub empty_nil : (rest : List ℕ) → length rest ≡ 0 → rest ≡ []
empty_nil [] l = refl
empty_nil (x ∷ rest) l = absurd (omega arith)

-- nothing was passed
pub passed_none : (boundaries : List (List ℕ)) (text : List ℕ) → IsPassed boundaries text 0
passed_none boundaries text = record { front = []; lines = refl; has_no_delimiter = refl; within = omega arith }

-- one more line
pub passed_line : (boundaries : List (List ℕ)) (text rest line : List ℕ) (size n : ℕ) → IsPassed boundaries text size → rest ≡ drop size text → line ≡ take n rest → n ≤ length rest
    → lines_of rest ≡ take n rest ∷ lines_of (drop n rest) → is_delimiter boundaries line ≡ false → IsPassed boundaries text (size + n)
passed_line boundaries text rest line size n p r t w e f =
    let w1 = p.within in
    let l : length rest ≡ length (drop size text) = ap length r in
    let d : drop n rest ≡ drop (size + n) text = ap (drop n) r ∙ drop-drop n size text in
    record {
      front = p.front ++ line ∷ [];
      lines = p.lines ∙ ap (λ xs. p.front ++ lines_of xs) (sym r) ∙ ap (λ ls. p.front ++ ls) (e ∙ (λ i. sym t i ∷ lines_of (d i))) ∙ sym (append_assoc p.front (line ∷ []) (lines_of (drop (size + n) text)));
      has_no_delimiter = any-append (is_delimiter boundaries) p.front (line ∷ []) p.has_no_delimiter (any-one (is_delimiter boundaries) line f);
      within = omega (arith, length-drop size text);
    }

-- the text ends, or a delimiter line follows
pub end_empty : (boundaries : List (List ℕ)) (text rest : List ℕ) (size : ℕ) → rest ≡ drop size text → length rest ≡ 0 → IsEnd boundaries (lines_of (drop size text))
end_empty boundaries text rest size r l = subst (λ (xs : List ℕ). IsEnd boundaries (lines_of xs)) (sym (empty_nil rest l) ∙ r) tt

pub end_text : (boundaries : List (List ℕ)) (text : List ℕ) (size : ℕ) → length text ≤ size → IsEnd boundaries (lines_of (drop size text))
end_text boundaries text size l = subst (λ (xs : List ℕ). IsEnd boundaries (lines_of xs)) (sym (drop_nil text size l)) tt

pub end_line : (boundaries : List (List ℕ)) (text rest line : List ℕ) (size n : ℕ) → rest ≡ drop size text → line ≡ take n rest → lines_of rest ≡ take n rest ∷ lines_of (drop n rest) → is_delimiter boundaries line ≡ true
    → IsEnd boundaries (lines_of (drop size text))
end_line boundaries text rest line size n r t e d =
    subst (λ (ls : Lines). IsEnd boundaries ls) (sym e ∙ ap lines_of r) (ap (is_delimiter boundaries) (sym t) ∙ d)

-- headers
pub header_none : (boundaries : List (List ℕ)) (text : List ℕ) → IsHeaderPassed boundaries text 0
unfolding passed_none
header_none boundaries text = record { passed = passed_none boundaries text; has_no_empty_line = refl }

pub header_line : (boundaries : List (List ℕ)) (text rest line : List ℕ) (size n : ℕ) → IsHeaderPassed boundaries text size → rest ≡ drop size text → line ≡ take n rest → n ≤ length rest
    → lines_of rest ≡ take n rest ∷ lines_of (drop n rest) → is_delimiter boundaries line ≡ false → is_empty_line line ≡ false → IsHeaderPassed boundaries text (size + n)
unfolding passed_line
header_line boundaries text rest line size n p r t w e f g =
    record {
      passed = passed_line boundaries text rest line size n p.passed r t w e f;
      has_no_empty_line = any-append is_empty_line p.passed.front (line ∷ []) p.has_no_empty_line (any-one is_empty_line line g);
    }

whole_front : (front : Lines) (line : List ℕ) (body : Lines) → is_whole_header front ≡ false → is_empty_line line ≡ true → header_lines ((front ++ line ∷ []) ++ body) ≡ front ++ line ∷ []
whole_front [] line body h t = rw t refl
whole_front (x ∷ front) line body h t =
    let p = or_parts (is_empty_line x) (list_any is_empty_line front) h in rw p.0 (ap (λ ls. x ∷ ls) (whole_front front line body p.1 t))

any_last : (front : Lines) (line : List ℕ) → is_empty_line line ≡ true → is_whole_header (front ++ line ∷ []) ≡ true
any_last [] line t = rw t refl
any_last (x ∷ front) line t =
    elim (cases_Bool (is_empty_line x)) [
      | inl y ↦ rw y refl
      | inr n ↦ rw n (any_last front line t)
    ]

alone_front : (front : Lines) → is_whole_header front ≡ false → header_lines front ≡ front
alone_front [] h = refl
alone_front (x ∷ front) h =
    let p = or_parts (is_empty_line x) (list_any is_empty_line front) h in rw p.0 (ap (λ ls. x ∷ ls) (alone_front front p.1))

pub header_whole : (boundaries : List (List ℕ)) (text rest line : List ℕ) (size n : ℕ) → IsHeaderPassed boundaries text size → rest ≡ drop size text → line ≡ take n rest → n ≤ length rest
    → lines_of rest ≡ take n rest ∷ lines_of (drop n rest) → is_delimiter boundaries line ≡ false → is_empty_line line ≡ true → IsHeaderSize boundaries text (size + n) true
unfolding passed_line
header_whole boundaries text rest line size n p r t w e f g =
    record {
      passed = passed_line boundaries text rest line size n p.passed r t w e f;
      is_whole_is = any_last p.passed.front line g;
      whole = λ body is. whole_front p.passed.front line body p.has_no_empty_line g;
      alone = λ not. absurd (let k : true ≡ false = not in cc);
      is_end = λ not. absurd (let k : true ≡ false = not in cc);
    }

pub header_cut : (boundaries : List (List ℕ)) (text : List ℕ) (size is_size : ℕ) (is_whole : Bool) → IsHeaderPassed boundaries text size → IsEnd boundaries (lines_of (drop size text)) → is_size ≡ size → is_whole ≡ false
    → IsHeaderSize boundaries text is_size is_whole
header_cut boundaries text size is_size is_whole p e s w =
    subst (λ (n : ℕ). IsHeaderSize boundaries text n is_whole) (sym s) (subst (λ (b : Bool). IsHeaderSize boundaries text size b) (sym w) (record {
      passed = p.passed;
      is_whole_is = p.has_no_empty_line;
      whole = λ body is. absurd (let k : false ≡ true = is in cc);
      alone = λ not. alone_front p.passed.front p.has_no_empty_line;
      is_end = λ not. e;
    }))

-- the size of lines
pub concat-append : (xs ys : Lines) → concat (xs ++ ys) ≡ concat xs ++ concat ys
concat-append [] ys = refl
concat-append (x ∷ xs) ys = ap (λ zs. x ++ zs) (concat-append xs ys) ∙ sym (append_assoc x (concat xs) (concat ys))

pub size_is : (text : List ℕ) (front : Lines) (size : ℕ) → lines_of text ≡ front ++ lines_of (drop size text) → size ≤ length text → size ≡ size_of front
size_is text front size e w =
    let c : text ≡ concat front ++ drop size text = sym (lines-joined text) ∙ ap concat e ∙ concat-append front (lines_of (drop size text)) ∙ ap (λ xs. concat front ++ xs) (lines-joined (drop size text)) in
    let l : length text ≡ length (concat front ++ drop size text) = ap length c in
    omega (arith, length-append (concat front) (drop size text), length-drop size text)
