-- STATUS with RECENT: the last parenthesis, and the words after it.
use Rattle.std.proofs.Common.{◌≡◌, ℕ, ◌+◌, ◌<◌, ◌≤◌, ◌-◌, suc, Bool, true, false, not, cond, ◌||◌, List, [], ◌∷◌, ◌++◌, codes, length, take, drop, get_or, refl, sym, ap, ◌∙◌, append_assoc, append-nil, arith, eqb, drop-cons, add-one, flat_map, length-drop, Option, Some, None, Result, Ok, Err, subst}
use Rattle.std.specs.Prelude.{◌==◌, IfOk, MatchOption}
use Rattle.std.specs.List.{list_any, onto_first}
use Rattle.std.proofs.lemmas.Bool.{ne_eqb, or_parts}
use Rattle.std.proofs.lemmas.Grind.{flat_map-append}
use Rattle.std.proofs.lemmas.List.{append_cancel_right, drop-drop, get_or-drop, take-append-drop, take_all}
use Rattle.std.proofs.lemmas.List.Elements.{filter-append}
use Rattle.std.proofs.lemmas.List.Folds.{list_any-append}
use Rattle.std.proofs.lemmas.List.Splits.{slice_split-cons_no}
use Rattle.std.proofs.Math.Seq.{take-suc}
use Rattle.imap_answers.specs.Strings.{separated_by}
use Rattle.rev1_front.specs.StatusForms.{AreOthers, HasRecent, asked_words, has_no_words, has_parenthesis, is_recent, other_words, with_items, words_of}
use Rattle.rev1_front.specs.declared.status_frame.OtherItems.{OtherItems}

or_true : (b : Bool) → (b || true) ≡ true
or_true true = refl
or_true false = refl

-- a text with a parenthesis in the middle
has_middle : (xs ys : List ℕ) → has_parenthesis (xs ++ 40 ∷ ys) ≡ true
has_middle [] ys = refl
has_middle (x ∷ xs) ys = ap (λ b. eqb x 40 || b) (has_middle xs ys) ∙ or_true (eqb x 40)

-- there is one last parenthesis
pub cut_same : (f i g j : List ℕ) → has_parenthesis i ≡ false → has_parenthesis j ≡ false → f ++ 40 ∷ i ≡ g ++ 40 ∷ j → (f ≡ g) × (i ≡ j)
cut_same [] i [] j n m e = (refl, cc)
cut_same [] i (y ∷ g) j n m e =
    let tails : i ≡ g ++ 40 ∷ j = cc in
    let k : false ≡ true = sym n ∙ ap has_parenthesis tails ∙ has_middle g j in
    absurd (let z : false ≡ true = k in cc)
cut_same (x ∷ f) i [] j n m e =
    let tails : f ++ 40 ∷ i ≡ j = cc in
    let k : true ≡ false = sym (has_middle f i) ∙ ap has_parenthesis tails ∙ m in
    absurd (let z : true ≡ false = k in cc)
cut_same (x ∷ f) i (y ∷ g) j n m e =
    let head : x ≡ y = cc in
    let tails : f ++ 40 ∷ i ≡ g ++ 40 ∷ j = cc in
    let rest = cut_same f i g j n m tails in
    (ap (λ o. o ∷ f) head ∙ ap (λ os. y ∷ os) rest.0, rest.1)

-- arguments have one text after the last parenthesis
pub items_same : (f i g j : List ℕ) → has_parenthesis i ≡ false → has_parenthesis j ≡ false → with_items f i ≡ with_items g j → (f ≡ g) × (i ≡ j)
items_same f i g j n m e =
    let end : List ℕ = codes ")\r\n" in
    let clean : (k : List ℕ) → has_parenthesis k ≡ false → has_parenthesis (k ++ codes ")\r\n") ≡ false = λ k h. list_any-append (λ o. eqb o 40) k (codes ")\r\n") ∙ ap (λ b. b || false) h in
    let r = cut_same f (i ++ codes ")\r\n") g (j ++ codes ")\r\n") (clean i n) (clean j m) e in
    (r.0, append_cancel_right i j (codes ")\r\n") r.1)

-- one reading
pub one_recent : (rest i j : List ℕ) (b c : Bool) → HasRecent rest i b → HasRecent rest j c → (i ≡ j) × (b ≡ c)
one_recent rest i j b c h k =
    let r = items_same h.front h.items k.front k.items h.is_last k.is_last (sym h.written ∙ k.written) in (
      h.asked ∙ ap (λ f. with_items f (separated_by 32 (asked_words (other_words (words_of h.items))))) r.0 ∙ ap (λ x. with_items k.front (separated_by 32 (asked_words (other_words (words_of x))))) r.1 ∙ sym k.asked,
      h.only ∙ ap (λ x. has_no_words (other_words (words_of x))) r.1 ∙ sym k.only,
    )

-- without RECENT there is no reading
pub no_recent : (rest front items : List ℕ) → rest ≡ with_items front items → has_parenthesis items ≡ false → list_any is_recent (words_of items) ≡ false → (i : List ℕ) (b : Bool) → HasRecent rest i b → ⊥
no_recent rest front items e n none i b h =
    let r = items_same front items h.front h.items n h.is_last (sym e ∙ h.written) in
    let k : false ≡ true = sym none ∙ ap (λ x. list_any is_recent (words_of x)) r.1 ∙ h.has_recent in
    (let z : false ≡ true = k in cc)

-- one more word
filter_last : (ws : List (List ℕ)) (w : List ℕ) (b : Bool) → is_recent w ≡ b → other_words (ws ++ w ∷ []) ≡ other_words ws ++ cond (not b) (w ∷ []) []
filter_last ws w b h = filter-append (λ v. not (is_recent v)) ws (w ∷ []) ∙ ap (λ c. other_words ws ++ cond (not c) (w ∷ []) []) h

or_false : (b : Bool) → (b || false) ≡ b
or_false true = refl
or_false false = refl

any_last : (ws : List (List ℕ)) (w : List ℕ) (b : Bool) → is_recent w ≡ b → list_any is_recent (ws ++ w ∷ []) ≡ (list_any is_recent ws || b)
any_last ws w b h = list_any-append is_recent ws (w ∷ []) ∙ ap (λ c. list_any is_recent ws || (c || false)) h ∙ ap (λ c. list_any is_recent ws || c) (or_false b)

pub recent_added : (words : List (List ℕ)) (w t : List ℕ) (r e : Bool) → AreOthers words t r e → is_recent w ≡ true → AreOthers (words ++ w ∷ []) t true e
recent_added words w t r e h k =
    let same : other_words (words ++ w ∷ []) ≡ other_words words = filter_last words w true k ∙ append-nil (other_words words) in
    record {
      text = h.text ∙ sym (ap (separated_by 32) same);
      recent = sym (any_last words w true k ∙ or_true (list_any is_recent words));
      none = h.none ∙ sym (ap has_no_words same);
    }

sep_last : (os : List (List ℕ)) (w : List ℕ) → separated_by 32 (os ++ w ∷ []) ≡ (separated_by 32 os ++ cond (has_no_words os) [] (32 ∷ [])) ++ w
sep_last [] w = append-nil w
sep_last (o ∷ os) w =
    let f : List ℕ → List ℕ = λ next. 32 ∷ next in
    ap (λ x. o ++ x) (flat_map-append f os (w ∷ [])) ∙ ap (λ x. o ++ (flat_map f os ++ x)) (append-nil (32 ∷ w))
    ∙ sym (append_assoc o (flat_map f os) (32 ∷ w)) ∙ sym (append_assoc (o ++ flat_map f os) (32 ∷ []) w)

some_last : (os : List (List ℕ)) (w : List ℕ) → has_no_words (os ++ w ∷ []) ≡ false
some_last [] w = refl
some_last (o ∷ os) w = refl

pub other_added : (words : List (List ℕ)) (w t : List ℕ) (r e : Bool) → AreOthers words t r e → is_recent w ≡ false → AreOthers (words ++ w ∷ []) ((t ++ cond e [] (32 ∷ [])) ++ w) r false
other_added words w t r e h k =
    let more : other_words (words ++ w ∷ []) ≡ other_words words ++ w ∷ [] = filter_last words w false k in
    record {
      text =
          ap (λ x. (x ++ cond e [] (32 ∷ [])) ++ w) h.text ∙ ap (λ b. (separated_by 32 (other_words words) ++ cond b [] (32 ∷ [])) ++ w) h.none
          ∙ sym (sep_last (other_words words) w) ∙ sym (ap (separated_by 32) more);
      recent = h.recent ∙ sym (any_last words w false k ∙ or_false (list_any is_recent words));
      none = sym (ap has_no_words more ∙ some_last (other_words words) w);
    }

-- the items that are asked for
asked_by : (os : List (List ℕ)) (t : List ℕ) (e : Bool) → t ≡ separated_by 32 os → e ≡ has_no_words os → cond e (codes "MESSAGES") t ≡ separated_by 32 (asked_words os)
asked_by [] t e h k = ap (λ b. cond b (codes "MESSAGES") t) k
asked_by (o ∷ os) t e h k = ap (λ b. cond b (codes "MESSAGES") t) k ∙ h

pub asked_is : (ws : List (List ℕ)) (t : List ℕ) (r e : Bool) → AreOthers ws t r e → cond e (codes "MESSAGES") t ≡ separated_by 32 (asked_words (other_words ws))
asked_is ws t r e h = asked_by (other_words ws) t e h.text h.none

-- words end at spaces
abbrev pub is_space : ℕ → Bool
is_space octet = eqb octet 32

pub split_at : (xs ys : List ℕ) → list_any is_space xs ≡ false → words_of (xs ++ 32 ∷ ys) ≡ xs ∷ words_of ys
split_at [] ys h = refl
split_at (x ∷ xs) ys h =
    let p = or_parts (eqb x 32) (list_any is_space xs) h in
    slice_split-cons_no is_space x (xs ++ 32 ∷ ys) p.0 ∙ ap (onto_first x) (split_at xs ys p.1)

pub split_none : (xs : List ℕ) → list_any is_space xs ≡ false → words_of xs ≡ xs ∷ []
split_none [] h = refl
split_none (x ∷ xs) h =
    let p = or_parts (eqb x 32) (list_any is_space xs) h in
    slice_split-cons_no is_space x xs p.0 ∙ ap (onto_first x) (split_none xs p.1)

-- the octets from a place on, up to another and after it
pub part_at : (text : List ℕ) (start place : ℕ) → start ≤ place → place < length text → drop start text ≡ take (place - start) (drop start text) ++ get_or text place 0 ∷ drop (place + 1) text
part_at text start place from l =
    let sum : start + (place - start) ≡ place = omega arith in
    sym (take-append-drop (place - start) (drop start text))
    ∙ ap (λ t. take (place - start) (drop start text) ++ t)
    (drop-drop (place - start) start text ∙ ap (λ n. drop n text) sum ∙ drop-cons text place 0 l ∙ ap (λ n. get_or text place 0 ∷ drop n text) (sym (add-one place)))

-- one more octet that is no space
pub longer_part : (text : List ℕ) (start place : ℕ) → start ≤ place → place < length text → list_any is_space (take (place - start) (drop start text)) ≡ false → (get_or text place 0 == 32) ≡ false
    → list_any is_space (take (place + 1 - start) (drop start text)) ≡ false
longer_part text start place from l none other =
    let room : place - start < length (drop start text) = omega (arith, length-drop start text) in
    let sum : start + (place - start) ≡ place = omega arith in
    let more : place + 1 - start ≡ suc (place - start) = omega arith in
    let at : get_or (drop start text) (place - start) 0 ≡ get_or text place 0 = get_or-drop start text (place - start) 0 ∙ ap (λ n. get_or text n 0) sum in
    ap (λ n. list_any is_space (take n (drop start text))) more
    ∙ ap (list_any is_space) (take-suc (drop start text) (place - start) 0 room)
    ∙ list_any-append is_space (take (place - start) (drop start text)) (get_or (drop start text) (place - start) 0 ∷ [])
    ∙ ap (λ b. b || (is_space (get_or (drop start text) (place - start) 0) || false)) none
    ∙ ap (λ o. is_space o || false) at ∙ ap (λ b. b || false) other

-- the words so far and one more
pub word_added : (text : List ℕ) (start place : ℕ) (ws : List (List ℕ)) → start ≤ place → place < length text → words_of text ≡ ws ++ words_of (drop start text)
    → list_any is_space (take (place - start) (drop start text)) ≡ false → get_or text place 0 ≡ 32
    → words_of text ≡ (ws ++ take (place - start) (drop start text) ∷ []) ++ words_of (drop (place + 1) text)
word_added text start place ws from l all none is =
    let w : List ℕ = take (place - start) (drop start text) in
    all ∙ ap (λ t. ws ++ words_of t) (part_at text start place from l ∙ ap (λ o. take (place - start) (drop start text) ++ o ∷ drop (place + 1) text) is)
    ∙ ap (λ t. ws ++ t) (split_at (take (place - start) (drop start text)) (drop (place + 1) text) none)
    ∙ sym (append_assoc ws (take (place - start) (drop start text) ∷ []) (words_of (drop (place + 1) text)))

-- the last word
pub last_added : (text : List ℕ) (start place : ℕ) (ws : List (List ℕ)) → place ≡ length text → words_of text ≡ ws ++ words_of (drop start text)
    → list_any is_space (take (place - start) (drop start text)) ≡ false
    → words_of text ≡ ws ++ drop start text ∷ []
last_added text start place ws end all none =
    let whole : take (place - start) (drop start text) ≡ drop start text = take_all (place - start) (drop start text) (omega (arith, length-drop start text)) in
    all ∙ ap (λ t. ws ++ t) (split_none (drop start text) (ap (list_any is_space) (sym whole) ∙ none))

-- the text before the end, cut at its last parenthesis
pub no_end : (rest : List ℕ) → ((front : List ℕ) → rest ≡ front ++ codes ")\r\n" → ⊥) → (front items : List ℕ) → rest ≡ with_items front items → has_parenthesis items ≡ false → ⊥
no_end rest none front items e n = none (front ++ 40 ∷ items) (e ∙ sym (append_assoc front (40 ∷ items) (codes ")\r\n")))

pub split_cut : {X : Type 0} (a b : X → List ℕ) (rest text : List ℕ) → rest ≡ text ++ codes ")\r\n" → (r : Option X)
    → MatchOption r (has_parenthesis text ≡ false) (λ x. (text ≡ a x ++ 40 ∷ b x) × (has_parenthesis (b x) ≡ false))
    → MatchOption r ((front items : List ℕ) → rest ≡ with_items front items → has_parenthesis items ≡ false → ⊥) (λ x. (rest ≡ with_items (a x) (b x)) × (has_parenthesis (b x) ≡ false))
split_cut a b rest text e None f = λ front items k n.
    let whole : text ++ codes ")\r\n" ≡ (front ++ 40 ∷ items) ++ codes ")\r\n" = sym e ∙ k ∙ sym (append_assoc front (40 ∷ items) (codes ")\r\n")) in
    let same : text ≡ front ++ 40 ∷ items = append_cancel_right text (front ++ 40 ∷ items) (codes ")\r\n") whole in
    let z : false ≡ true = sym f ∙ ap has_parenthesis same ∙ has_middle front items in
    cc
split_cut a b rest text e (Some x) f = (e ∙ ap (λ t. t ++ codes ")\r\n") f.0 ∙ append_assoc (a x) (40 ∷ b x) (codes ")\r\n"), f.1)

-- one more octet, from the end
pub paren_next : (text : List ℕ) (place d : ℕ) → place < length text → has_parenthesis (drop (suc place) text) ≡ false → (get_or text place d == 40) ≡ false → has_parenthesis (drop place text) ≡ false
paren_next text place d l none other =
    ap has_parenthesis (drop-cons text place d l) ∙ ap (λ b. b || has_parenthesis (drop (suc place) text)) other ∙ none

pub paren_parts : (text : List ℕ) (place d : ℕ) → place < length text → get_or text place d ≡ 40 → text ≡ take place text ++ 40 ∷ drop (place + 1) text
paren_parts text place d l e =
    sym (take-append-drop place text) ∙ ap (λ t. take place text ++ t) (drop-cons text place d l)
    ∙ ap (λ o. take place text ++ o ∷ drop (suc place) text) e ∙ ap (λ n. take place text ++ 40 ∷ drop n text) (sym (add-one place))

-- the items without RECENT
pub recent_found : (front items rest t : List ℕ) (r e : Bool) → has_parenthesis items ≡ false → AreOthers (words_of items) t r e → r ≡ true → rest ≡ with_items front (cond e (codes "MESSAGES") t)
    → HasRecent (with_items front items) rest e
recent_found front items rest t r e n h k is = record {
  front = front;
  items = items;
  written = refl;
  is_last = n;
  has_recent = sym h.recent ∙ k;
  asked = is ∙ ap (with_items front) (asked_is (words_of items) t r e h);
  only = h.none;
}

pub no_recent_item : (front items t : List ℕ) (r e : Bool) → has_parenthesis items ≡ false → AreOthers (words_of items) t r e → r ≡ false → (i : List ℕ) (b : Bool) → HasRecent (with_items front items) i b → ⊥
no_recent_item front items t r e n h k = no_recent (with_items front items) front items refl n (sym h.recent ∙ k)

-- no words yet
pub no_others : AreOthers [] [] false true
no_others = record { text = refl; recent = refl; none = refl }

-- one more word that isn't RECENT, as it is added
pub other_by : (words : List (List ℕ)) (w t s u : List ℕ) (r e : Bool) → s ≡ t ++ cond e [] (32 ∷ []) → u ≡ s ++ w → AreOthers words t r e → is_recent w ≡ false → AreOthers (words ++ w ∷ []) u r false
other_by words w t s u r e a b h k = subst (λ (x : List ℕ). AreOthers (words ++ w ∷ []) x r false) (sym (b ∙ ap (λ x. x ++ w) a)) (other_added words w t r e h k)

-- the words of a text up to a place
module _ (text : List ℕ) where
  abbrev pub WordsUpTo : ℕ → ℕ → List ℕ → Bool → Bool → Type 0
  WordsUpTo start place joined recent empty =
      (words : List (List ℕ)) × AreOthers words joined recent empty
      × (words_of text ≡ words ++ words_of (drop start text))
      × (start ≤ place)
      × (list_any is_space (take (place - start) (drop start text)) ≡ false)

  -- a word is added
  abbrev pub AddsWord : List ℕ → List ℕ → Bool → Bool → List ℕ → Bool → Bool → Type 0
  AddsWord w joined recent empty after recent_after empty_after =
      (words : List (List ℕ)) → AreOthers words joined recent empty → AreOthers (words ++ w ∷ []) after recent_after empty_after

  pub words_begun : (joined : List ℕ) → joined ≡ [] → WordsUpTo 0 0 joined false true
  words_begun joined e = ([], subst (λ (j : List ℕ). AreOthers [] j false true) (sym e) no_others, refl, omega arith, refl)

  pub words_next : (start place : ℕ) (w joined after : List ℕ) (r e r' e' : Bool) → place < length text → get_or text place 0 ≡ 32 → w ≡ take (place - start) (drop start text) → WordsUpTo start place joined r e
      → AddsWord w joined r e after r' e' → WordsUpTo (place + 1) (place + 1) after r' e'
  words_next start place w joined after r e r' e' l is same inv add =
      let none : take (place + 1 - (place + 1)) (drop (place + 1) text) ≡ [] = ap (λ n. take n (drop (place + 1) text)) (zero_is place) in (
        inv.0 ++ take (place - start) (drop start text) ∷ [],
        subst (λ (x : List ℕ). AreOthers (inv.0 ++ x ∷ []) after r' e') same (add inv.0 inv.1),
        word_added text start place inv.0 inv.3 l inv.2 inv.4 is,
        omega arith,
        ap (list_any is_space) none,
      )
    where
      zero_is : (n : ℕ) → n + 1 - (n + 1) ≡ 0
      zero_is n = omega arith

  pub words_same : (start place : ℕ) (joined : List ℕ) (r e : Bool) → place < length text → (get_or text place 0 ≡ 32 → ⊥) → WordsUpTo start place joined r e → WordsUpTo start (place + 1) joined r e
  words_same start place joined r e l other inv = (inv.0, inv.1, inv.2, omega (arith, inv.3), longer_part text start place inv.3 l inv.4 (ne_eqb (get_or text place 0) 32 other))

  pub words_last : (start place : ℕ) (w joined after : List ℕ) (r e r' e' : Bool) → place ≡ length text → w ≡ drop start text → WordsUpTo start place joined r e → AddsWord w joined r e after r' e' → AreOthers (words_of text) after r' e'
  words_last start place w joined after r e r' e' end same inv add =
      subst (λ ws. AreOthers ws after r' e') (sym (last_added text start place inv.0 end inv.2 inv.4 ∙ ap (λ x. inv.0 ++ x ∷ []) (sym same))) (add inv.0 inv.1)

-- the other items of the same arguments
pub recent_along : {E : Type 0} (r : Result (Option OtherItems) E) (given rest : List ℕ) → rest ≡ given
    → IfOk r (λ others. MatchOption others ((inner : List ℕ) (only : Bool) → HasRecent given inner only → ⊥) (λ o. HasRecent given o.rest.items o.only_recent))
    → IfOk r (λ others. MatchOption others ((inner : List ℕ) (only : Bool) → HasRecent rest inner only → ⊥) (λ o. HasRecent rest o.rest.items o.only_recent))
recent_along (Err e) given rest same h = h
recent_along (Ok None) given rest same h = λ inner only k. h inner only (subst (λ (x : List ℕ). HasRecent x inner only) same k)
recent_along (Ok (Some o)) given rest same h = subst (λ (x : List ℕ). HasRecent x o.rest.items o.only_recent) (sym same) h
