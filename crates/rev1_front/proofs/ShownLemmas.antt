use Rattle.std.proofs.Common.{◌≡◌, ℕ, zero, suc, ◌-◌, ◌+◌, ◌<◌, ◌≤◌, max, Bool, true, false, cond, flat_map, codes, Result, Ok, Err, List, [], ◌∷◌, ◌++◌, length, take, drop, get_or, refl, sym, ap, ◌∙◌, subst, append_assoc, append-nil, arith}
use Rattle.std.proofs.lemmas.List.{length-append, take-append-drop, take-append-le, take_all}
use Rattle.std.specs.Prelude.{OnOk}
use Rattle.std.specs.List.{range_with_len}
use Rattle.std.proofs.lemmas.Grind.{flat_map-append}
use Rattle.imap_types.specs.Numbers.{numbers_of}
use Rattle.imap_types.specs.declared.number_set.Run.{Run}
use Rattle.imap_answers.specs.AnswerText.{line_of_answer, status_texts, text_of_answer}
use Rattle.imap_answers.specs.Strings.{name_text, separated_by}
use Rattle.imap_answers.specs.declared.answer.Answer.{Answer}
use Rattle.imap_answers.specs.declared.answer.Answer.TheVariants as answers
use Rattle.imap_answers.specs.declared.mailbox.StatusItems.{StatusItems}
use Rattle.imap_print.specs.Appending.{has_none}
use Rattle.rev1_front.specs.Names.{IsOuter}
use Rattle.rev1_front.specs.Showing.{EachIsShown, IsFrontOf, IsShown, items_with_recent, recent_status_line, spaced_number, status_front}
use Rattle.rev1_front.specs.declared.form.Form.{Form}
use Rattle.rev1_front.specs.declared.session.Mode.{Mode}
use Rattle.rev1_front.proofs.LsubLemmas.{taken_more}

module _ (mode : Mode) (form : Form) where
  -- one answer after others
  pub each_append : (answers : List Answer) (answer : Answer) (before given : List ℕ) → EachIsShown mode form answers before → IsShown mode form answer given
      → EachIsShown mode form (answers ++ answer ∷ []) (before ++ given)
  each_append [] answer before given e s = (given, [], s, refl, ap (λ xs. xs ++ given) e ∙ sym (append-nil given))
  each_append (first ∷ answers) answer before given e s =
      (e.0, e.1 ++ given, e.2, each_append answers answer e.1 given e.3 s, ap (λ xs. xs ++ given) e.4 ∙ append_assoc e.0 e.1 given)

-- a line without its last three octets
pub without_end : (line front : List ℕ) (n : ℕ) → line ≡ front ++ 41 ∷ 13 ∷ 10 ∷ [] → n ≡ length line - 3 → take n line ≡ front
without_end line front n e m =
    let len : length line ≡ length front + 3 = ap length e ∙ length-append front (41 ∷ 13 ∷ 10 ∷ []) in
    let is : n ≡ length front = m ∙ ap (λ k. k - 3) len ∙ omega arith in
    ap (λ k. take k line) is ∙ ap (take (length front)) e ∙ take-append-le (length front) front (41 ∷ 13 ∷ 10 ∷ []) (omega arith) ∙ take_all (length front) front (omega arith)

-- the answers up to a place were shown
module _ (mode : Mode) (form : Form) (answers : List Answer) (initial : List ℕ) where
  abbrev pub EachUpTo : ℕ → List ℕ → Type 0
  EachUpTo i text = (given : List ℕ) × EachIsShown mode form (take i answers) given × (text ≡ initial ++ given)

  pub each_begun : EachUpTo 0 initial
  each_begun = ([], refl, sym (append-nil initial))

  pub each_next : (i : ℕ) (answer : Answer) (text new : List ℕ) → i < length answers → answer ≡ get_or answers i answer → EachUpTo i text
      → (given : List ℕ) × IsShown mode form answer given × (new ≡ text ++ given) → EachUpTo (i + 1) new
  each_next i answer text new l e inv s = (
    inv.0 ++ s.0,
    subst (λ (these : List Answer). EachIsShown mode form these (inv.0 ++ s.0)) (sym (taken_more answers i answer l e)) (each_append mode form (take i answers) answer inv.0 s.0 inv.1 s.1),
    s.2 ∙ ap (λ t. t ++ s.0) inv.2 ∙ append_assoc initial inv.0 s.0,
  )

  pub each_all : (i : ℕ) (text : List ℕ) → length answers ≤ i → EachUpTo i text → (given : List ℕ) × EachIsShown mode form answers given × (text ≡ initial ++ given)
  each_all i text l inv = (inv.0, subst (λ (these : List Answer). EachIsShown mode form these inv.0) (take_all i answers l) inv.1, inv.2)

  pub each_part : (i : ℕ) (text new : List ℕ) → new ≡ text → EachUpTo i text
      → (front : List Answer) × (given : List ℕ) × IsFrontOf front answers × EachIsShown mode form front given × (new ≡ initial ++ given)
  each_part i text new e inv = (take i answers, inv.0, (drop i answers, sym (take-append-drop i answers)), inv.1, e ∙ inv.2)

-- the numbers of a run, one after another
range_suc : (a n : ℕ) → range_with_len a (suc n) ≡ range_with_len a n ++ (a + n) ∷ []
range_suc a zero = let e : a ≡ a + 0 = omega arith in ap (λ (x : ℕ). x ∷ []) e
range_suc a (suc n) =
    let e : a + 1 + n ≡ a + suc n = omega arith in
    ap (λ (xs : List ℕ). a ∷ xs) (range_suc (a + 1) n ∙ ap (λ (x : ℕ). range_with_len (a + 1) n ++ x ∷ []) e)

pub numbers_next : (first number : ℕ) (before line new : List ℕ) → first ≤ number → line ≡ before ++ flat_map spaced_number (range_with_len first (number - first)) → new ≡ line ++ spaced_number number
    → new ≡ before ++ flat_map spaced_number (range_with_len first (number + 1 - first))
numbers_next first number before line new l t n =
    let more : number + 1 - first ≡ suc (number - first) = omega arith in
    let at : first + (number - first) ≡ number = omega arith in
    n ∙ ap (λ xs. xs ++ spaced_number number) t ∙ append_assoc before (flat_map spaced_number (range_with_len first (number - first))) (spaced_number number)
    ∙ ap (λ xs. before ++ xs) (sym (
    ap (λ k. flat_map spaced_number (range_with_len first k)) more ∙ ap (flat_map spaced_number) (range_suc first (number - first))
    ∙ flat_map-append spaced_number (range_with_len first (number - first)) ((first + (number - first)) ∷ [])
    ∙ ap (λ xs. flat_map spaced_number (range_with_len first (number - first)) ++ xs) (append-nil (spaced_number (first + (number - first))))
    ∙ ap (λ k. flat_map spaced_number (range_with_len first (number - first)) ++ spaced_number k) at
    ))

pub numbers_all : (run : Run) (number : ℕ) (before line : List ℕ) → number ≡ max run.first run.last + 1 → line ≡ before ++ flat_map spaced_number (range_with_len run.first (number - run.first)) → line ≡ before ++ flat_map spaced_number (numbers_of run)
numbers_all run number before line e t =
    let n : number - run.first ≡ suc (run.last - run.first) = omega arith in
    t ∙ ap (λ k. before ++ flat_map spaced_number (range_with_len run.first k)) n

-- STATUS with RECENT
pub status_printed : (outer line old : List ℕ) (items : StatusItems) → old ≡ [] → line ≡ old ++ text_of_answer (answers.Status outer items) → line ≡ status_front outer items ++ 41 ∷ 13 ∷ 10 ∷ []
unfolding line_of_answer
status_printed outer line old items e h = h ∙ ap (λ o. o ++ text_of_answer (answers.Status outer items)) e ∙ append_assoc (status_front outer items) (codes ")") (codes "\r\n")

texts_last : (texts : List (List ℕ)) (w : List ℕ) → separated_by 32 (texts ++ w ∷ []) ≡ separated_by 32 texts ++ (cond (has_none texts) [] (32 ∷ []) ++ w)
texts_last [] w = append-nil w
texts_last (x ∷ xs) w =
    let f : List ℕ → List ℕ = λ next. 32 ∷ next in
    ap (λ t. x ++ t) (flat_map-append f xs (w ∷ []) ∙ ap (λ t. flat_map f xs ++ t) (append-nil (32 ∷ w))) ∙ sym (append_assoc x (flat_map f xs) (32 ∷ w))

recent_texts : (only : Bool) (items : StatusItems) (texts : List (List ℕ)) → texts ≡ cond only [] (status_texts items) → items_with_recent only items ≡ texts ++ codes "RECENT 0" ∷ []
recent_texts true items texts e = ap (λ t. t ++ codes "RECENT 0" ∷ []) (sym e)
recent_texts false items texts e = ap (λ t. t ++ codes "RECENT 0" ∷ []) (sym e)

last_text : (only : Bool) → cond only (codes "RECENT 0)") (codes " RECENT 0)") ≡ (cond only [] (32 ∷ []) ++ codes "RECENT 0") ++ codes ")"
last_text true = refl
last_text false = refl

pub recent_line_is : (only : Bool) (name front end : List ℕ) (items others : StatusItems) (none : Bool) → status_texts others ≡ cond only [] (status_texts items) → front ≡ status_front name others → none ≡ has_none (status_texts others)
    → end ≡ cond none (codes "RECENT 0)") (codes " RECENT 0)") → front ++ (end ++ codes "\r\n") ≡ recent_status_line only name items
recent_line_is only name front end items others none e f n k =
    let begin : List ℕ = codes "* STATUS " ++ name_text name ++ codes " (" in
    let texts : List (List ℕ) = status_texts others in
    let tail : end ≡ (cond (has_none texts) [] (32 ∷ []) ++ codes "RECENT 0") ++ codes ")" = k ∙ ap (λ b. cond b (codes "RECENT 0)") (codes " RECENT 0)")) n ∙ last_text (has_none texts) in
    let items_text : separated_by 32 (items_with_recent only items) ≡ separated_by 32 texts ++ (cond (has_none texts) [] (32 ∷ []) ++ codes "RECENT 0") = ap (separated_by 32) (recent_texts only items texts e) ∙ texts_last texts (codes "RECENT 0") in
    ap (λ x. x ++ (end ++ codes "\r\n")) f ∙ ap (λ x. (begin ++ separated_by 32 texts) ++ (x ++ codes "\r\n")) tail
    ∙ sym (append_assoc (begin ++ separated_by 32 texts) ((cond (has_none texts) [] (32 ∷ []) ++ codes "RECENT 0") ++ codes ")") (codes "\r\n"))
    ∙ ap (λ x. x ++ codes "\r\n") (sym (append_assoc (begin ++ separated_by 32 texts) (cond (has_none texts) [] (32 ∷ []) ++ codes "RECENT 0") (codes ")")))
    ∙ ap (λ x. (x ++ codes ")") ++ codes "\r\n") (append_assoc begin (separated_by 32 texts) (cond (has_none texts) [] (32 ∷ []) ++ codes "RECENT 0") ∙ ap (λ x. begin ++ x) (sym items_text))

pub recent_by : {T E : Type 0} (r : Result T E) (mode : Mode) (only : Bool) (name outer line : List ℕ) (items : StatusItems) (old new : List ℕ) → IsOuter mode name outer → line ≡ recent_status_line only outer items → OnOk r (new ≡ old ++ line)
    → OnOk r ((shown : List ℕ) × IsOuter mode name shown × (new ≡ old ++ recent_status_line only shown items))
recent_by (Ok x) mode only name outer line items old new o e h = (outer, o, h ∙ ap (λ t. old ++ t) e)
recent_by (Err x) mode only name outer line items old new o e h = h
