-- Items and numbers that are appended one after another.
use Rattle.std.proofs.Common.{◌≡◌, ℕ, zero, suc, ◌+◌, ◌-◌, ◌<◌, ◌≤◌, Bool, true, false, cond, not, ◌||◌, List, [], ◌∷◌, ◌++◌, codes, decimal, length, take, drop, get_or, map, flat_map, refl, sym, ap, ◌∙◌, append_assoc, append-nil, add-one, arith, Option, None, Result, Ok, Err}
use Rattle.std.proofs.lemmas.Fmt.{decimal_digit}
use Rattle.std.proofs.lemmas.Grind.{flat_map-append}
use Rattle.std.proofs.lemmas.List.{length-append, map-append, take-append-le, take_all}
use Rattle.std.proofs.Math.Seq.{take-append_seam, take-suc}
use Rattle.std.specs.Prelude.{OnOk}
use Rattle.imap_types.specs.declared.section.Section.{Section}
use Rattle.imap_syntax.specs.declared.fetch.Partial.{Partial}
use Rattle.imap_answers.specs.AnswerText.{fetch_texts, line_of_answer, origin_text, section_text, text_of_answer}
use Rattle.imap_answers.specs.Strings.{literal_text, separated_by}
use Rattle.imap_answers.specs.declared.answer.Answer.TheVariants as answers
use Rattle.imap_answers.specs.declared.fetch_items.FetchItems.{FetchItems}
use Rattle.imap_print.specs.Appending.{has_none}
use Rattle.rev1_fetch.specs.ShownItems.{in_range, items_text, path_text, selected, without_sections}

-- a list up to one more element
pub taken_more : {X : Type 0} (xs : List X) (i : ℕ) (x : X) → i < length xs → x ≡ get_or xs i x → take (i + 1) xs ≡ take i xs ++ x ∷ []
taken_more xs i x l e = ap (λ n. take n xs) (add-one i) ∙ take-suc xs i x l ∙ ap (λ z. take i xs ++ z ∷ []) (sym e)

-- whether there are none
abbrev pub is_none : {X : Type 0} → List X → Bool
is_none [] = true
is_none (x ∷ xs) = false

or_true : (b : Bool) → (b || true) ≡ true
or_true true = refl
or_true false = refl

some_last : {X : Type 0} (xs : List X) (x : X) → is_none (xs ++ x ∷ []) ≡ false
some_last [] x = refl
some_last (y ∷ xs) x = refl

module _ {X : Type 0} (f : X → List ℕ) where
  items_last : (b : Bool) (xs : List X) (x : X) → items_text b (map f (xs ++ x ∷ [])) ≡ items_text b (map f xs) ++ (cond (b || not (is_none xs)) (codes " ") [] ++ f x)
  items_last true xs x =
      let g : List ℕ → List ℕ = λ next. 32 ∷ next in
      ap (flat_map g) (map-append f xs (x ∷ [])) ∙ flat_map-append g (map f xs) (f x ∷ []) ∙ ap (λ t. flat_map g (map f xs) ++ t) (append-nil (32 ∷ f x))
  items_last false [] x = append-nil (f x)
  items_last false (y ∷ ys) x =
      let g : List ℕ → List ℕ = λ next. 32 ∷ next in
      ap (λ t. f y ++ flat_map g t) (map-append f ys (x ∷ [])) ∙ ap (λ t. f y ++ t) (flat_map-append g (map f ys) (f x ∷ []) ∙ ap (λ t. flat_map g (map f ys) ++ t) (append-nil (32 ∷ f x)))
      ∙ sym (append_assoc (f y) (flat_map g (map f ys)) (32 ∷ f x))

  module _ (b : Bool) (plan : List X) (i : ℕ) (x : X) (l : i < length plan) (e : x ≡ get_or plan i x) where
    pub later_next : true ≡ (b || not (is_none (take (i + 1) plan)))
    later_next = sym (ap (λ xs. b || not (is_none xs)) (taken_more plan i x l e) ∙ ap (λ c. b || not c) (some_last (take i plan) x) ∙ or_true b)

    pub items_next : (later : Bool) (before line space new : List ℕ) → later ≡ (b || not (is_none (take i plan))) → line ≡ before ++ items_text b (map f (take i plan)) → space ≡ line ++ cond later (codes " ") [] → new ≡ space ++ f x
        → new ≡ before ++ items_text b (map f (take (i + 1) plan))
    items_next later before line space new a t s n =
        n ∙ ap (λ xs. xs ++ f x) (s ∙ ap (λ c. line ++ cond c (codes " ") []) a ∙ ap (λ xs. xs ++ cond (b || not (is_none (take i plan))) (codes " ") []) t)
        ∙ append_assoc (before ++ items_text b (map f (take i plan))) (cond (b || not (is_none (take i plan))) (codes " ") []) (f x)
        ∙ append_assoc before (items_text b (map f (take i plan))) (cond (b || not (is_none (take i plan))) (codes " ") [] ++ f x)
        ∙ ap (λ xs. before ++ xs) (sym (ap (λ xs. items_text b (map f xs)) (taken_more plan i x l e) ∙ items_last b (take i plan) x))

  pub items_all : (b : Bool) (plan : List X) (i : ℕ) (before line : List ℕ) → length plan ≤ i → line ≡ before ++ items_text b (map f (take i plan)) → line ≡ before ++ items_text b (map f plan)
  items_all b plan i before line l t = t ∙ ap (λ xs. before ++ items_text b (map f xs)) (take_all i plan l)

-- numbers with points between them
path_last : (xs : List ℕ) (x : ℕ) → path_text (xs ++ x ∷ []) ≡ path_text xs ++ (cond (not (is_none xs)) (codes ".") [] ++ decimal x)
path_last [] x = append-nil (decimal x)
path_last (y ∷ ys) x =
    let g : List ℕ → List ℕ = λ next. 46 ∷ next in
    ap (λ t. decimal y ++ flat_map g t) (map-append decimal ys (x ∷ [])) ∙ ap (λ t. decimal y ++ t) (flat_map-append g (map decimal ys) (decimal x ∷ []) ∙ ap (λ t. flat_map g (map decimal ys) ++ t) (append-nil (46 ∷ decimal x)))
    ∙ sym (append_assoc (decimal y) (flat_map g (map decimal ys)) (46 ∷ decimal x))

module _ (path : List ℕ) (i x : ℕ) (l : i < length path) (e : x ≡ get_or path i x) where
  pub point_next : true ≡ not (is_none (take (i + 1) path))
  point_next = sym (ap (λ xs. not (is_none xs)) (taken_more path i x l e) ∙ ap not (some_last (take i path) x))

  pub path_next : (later : Bool) (before line point new : List ℕ) → later ≡ not (is_none (take i path)) → line ≡ before ++ path_text (take i path) → point ≡ line ++ cond later (codes ".") [] → new ≡ point ++ decimal x
      → new ≡ before ++ path_text (take (i + 1) path)
  path_next later before line point new a t s n =
      n ∙ ap (λ xs. xs ++ decimal x) (s ∙ ap (λ c. line ++ cond c (codes ".") []) a ∙ ap (λ xs. xs ++ cond (not (is_none (take i path))) (codes ".") []) t)
      ∙ append_assoc (before ++ path_text (take i path)) (cond (not (is_none (take i path))) (codes ".") []) (decimal x)
      ∙ append_assoc before (path_text (take i path)) (cond (not (is_none (take i path))) (codes ".") [] ++ decimal x)
      ∙ ap (λ xs. before ++ xs) (sym (ap path_text (taken_more path i x l e) ∙ path_last (take i path) x))

pub path_all : (path : List ℕ) (i : ℕ) (before line : List ℕ) → length path ≤ i → line ≡ before ++ path_text (take i path) → line ≡ before ++ path_text path
path_all path i before line l t = t ∙ ap (λ xs. before ++ path_text xs) (take_all i path l)

-- before the first item
pub later_begun : (b : Bool) → b ≡ (b || false)
later_begun true = refl
later_begun false = refl

pub items_begun : (b : Bool) (before : List ℕ) → before ≡ before ++ items_text b []
items_begun true before = sym (append-nil before)
items_begun false before = sym (append-nil before)

-- items, and others after them
separated_both : (xs ys : List (List ℕ)) → separated_by 32 (xs ++ ys) ≡ separated_by 32 xs ++ items_text (not (has_none xs)) ys
separated_both [] ys = refl
separated_both (x ∷ xs) ys =
    let g : List ℕ → List ℕ = λ next. 32 ∷ next in
    ap (λ t. x ++ t) (flat_map-append g xs ys) ∙ sym (append_assoc x (flat_map g xs) (flat_map g ys))

pub planned_joined : (front line pushed new : List ℕ) (xs ys : List (List ℕ)) (b : Bool) → line ≡ front ++ separated_by 32 xs → b ≡ not (has_none xs) → pushed ≡ line ++ items_text b ys → new ≡ pushed ++ codes ")\r\n"
    → new ≡ front ++ separated_by 32 (xs ++ ys) ++ codes ")" ++ codes "\r\n"
planned_joined front line pushed new xs ys b l e p n =
    let all : pushed ≡ front ++ separated_by 32 (xs ++ ys) =
    p ∙ ap (λ c. line ++ items_text c ys) e ∙ ap (λ t. t ++ items_text (not (has_none xs)) ys) l ∙ append_assoc front (separated_by 32 xs) (items_text (not (has_none xs)) ys) ∙ ap (λ t. front ++ t) (sym (separated_both xs ys)) in
    n ∙ ap (λ t. t ++ codes ")\r\n") all ∙ sym (append_assoc (front ++ separated_by 32 (xs ++ ys)) (codes ")") (codes "\r\n"))

-- a line without its last three octets
pub without_end : (line front : List ℕ) (n : ℕ) → line ≡ front ++ 41 ∷ 13 ∷ 10 ∷ [] → n ≡ length line - 3 → take n line ≡ front
without_end line front n e m =
    let len : length line ≡ length front + 3 = ap length e ∙ length-append front (41 ∷ 13 ∷ 10 ∷ []) in
    let is : n ≡ length front = m ∙ ap (λ k. k - 3) len ∙ omega arith in
    ap (λ k. take k line) is ∙ ap (take (length front)) e ∙ take-append-le (length front) front (41 ∷ 13 ∷ 10 ∷ []) (omega arith) ∙ take_all (length front) front (omega arith)

-- an element is that at its place
pub same_at : {X : Type 0} (xs : List X) (i : ℕ) (d : X) → i < length xs → get_or xs i d ≡ get_or xs i (get_or xs i d)
same_at [] i d l = absurd (omega arith)
same_at (x ∷ xs) zero d l = refl
same_at (x ∷ xs) (suc i) d l = same_at xs i d (omega arith)

-- FETCH without sections
pub fetch_printed : (number : ℕ) (given items : FetchItems) (line : List ℕ) → items ≡ without_sections given → line ≡ text_of_answer (answers.Fetch number items)
    → line ≡ (codes "* " ++ decimal number ++ codes " FETCH (" ++ separated_by 32 (fetch_texts (without_sections given))) ++ 41 ∷ 13 ∷ 10 ∷ []
unfolding line_of_answer
fetch_printed number given items line e h =
    h ∙ ap (λ (i : FetchItems). text_of_answer (answers.Fetch number i)) e ∙ append_assoc (codes "* " ++ decimal number ++ codes " FETCH (" ++ separated_by 32 (fetch_texts (without_sections given))) (codes ")") (codes "\r\n")

-- what a range selects of the fields of a section
pub fields_shown : {T E : Type 0} (r : Result T E) (range : Option Partial) (section is : Section) (region octets selection : List ℕ) (old new : List ℕ) → section ≡ is → octets ≡ in_range range selection → selection ≡ selected is region
    → OnOk r (new ≡ old ++ (codes " " ++ literal_text octets)) → OnOk r (new ≡ old ++ (codes " " ++ literal_text (in_range range (selected section region))))
fields_shown (Err x) range section is region octets selection old new e a b h = h
fields_shown (Ok x) range section is region octets selection old new e a b h =
    h ∙ ap (λ o. old ++ (codes " " ++ literal_text o)) (a ∙ ap (in_range range) (b ∙ sym (ap (λ (s : Section). selected s region) e)))

-- the name of a section in an answer to FETCH
pub name_is : (section : Section) (origin : Option ℕ) (octets line : List ℕ) (given : FetchItems) → octets ≡ []
    → given ≡ record { uid = None; flags = None; date = None; size = None; modseq = None; sections = record { section = section; origin = origin; octets = octets } ∷ [] }
    → line ≡ text_of_answer (answers.Fetch 1 given) → take (length line - 9 - 16) (drop 16 line) ≡ section_text section ++ (codes "]" ++ origin_text origin)
unfolding line_of_answer
name_is section origin octets line given none e h =
    let name : List ℕ = section_text section ++ (codes "]" ++ origin_text origin) in
    let tail : List ℕ = codes " {0}\r\n)\r\n" in
    let literal : List ℕ = codes "{0}\r\n" in
    let asked : given ≡ record { uid = None; flags = None; date = None; size = None; modseq = None; sections = record { section = section; origin = origin; octets = [] } ∷ [] } =
    e ∙ (λ i. record { uid = None; flags = None; date = None; size = None; modseq = None; sections = record { section = section; origin = origin; octets = none i } ∷ [] }) in
    let joined : (((((section_text section ++ codes "]") ++ origin_text origin) ++ codes " ") ++ literal) ++ []) ++ codes ")" ++ codes "\r\n" ≡ name ++ tail =
    ap (λ a. ((((a ++ codes " ") ++ literal) ++ []) ++ codes ")") ++ codes "\r\n") (append_assoc (section_text section) (codes "]") (origin_text origin))
    ∙ ap (λ a. (a ++ codes ")") ++ codes "\r\n") (append-nil ((name ++ codes " ") ++ literal))
    ∙ ap (λ a. a ++ codes "\r\n") (append_assoc (name ++ codes " ") literal (codes ")"))
    ∙ append_assoc (name ++ codes " ") (literal ++ codes ")") (codes "\r\n")
    ∙ append_assoc name (codes " ") ((literal ++ codes ")") ++ codes "\r\n") in
    let written : List ℕ → List ℕ → List ℕ =
    λ one none. codes "* " ++ one ++ codes " FETCH (" ++ separated_by 32 ((codes "BODY[" ++ section_text section ++ codes "]" ++ origin_text origin ++ codes " " ++ (codes "{" ++ none ++ codes "}\r\n" ++ [])) ∷ []) ++ codes ")" ++ codes "\r\n" in
    let printed : text_of_answer (answers.Fetch 1 given) ≡ written (decimal 1) (decimal 0) = ap (λ (g : FetchItems). text_of_answer (answers.Fetch 1 g)) asked in
    let digits : written (decimal 1) (decimal 0) ≡ written (codes "1") (codes "0") =
    ap (λ one. written one (decimal 0)) (decimal_digit 1 (omega arith)) ∙ ap (written (codes "1")) (decimal_digit 0 (omega arith)) in
    let whole : line ≡ codes "* 1 FETCH (BODY[" ++ (name ++ tail) = h ∙ printed ∙ digits ∙ ap (λ t. codes "* 1 FETCH (BODY[" ++ t) joined in
    let size : length (name ++ tail) ≡ length name + 9 = length-append name tail in
    let all : length line ≡ 16 + length (name ++ tail) = ap length whole ∙ length-append (codes "* 1 FETCH (BODY[") (name ++ tail) in
    let n : length line - 9 - 16 ≡ length name = omega arith in
    ap (λ k. take k (drop 16 line)) n ∙ ap (λ (l : List ℕ). take (length name) (drop 16 l)) whole ∙ take-append_seam name tail
