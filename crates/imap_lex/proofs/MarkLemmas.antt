use Rattle.std.proofs.Common.{◌≡◌, ℕ, suc, ◌+◌, ◌-◌, ◌*◌, ◌<◌, ◌≤◌, ◌^◌, Bool, true, false, ◌||◌, eqb, leb, List, [], ◌∷◌, ◌++◌, length, take, drop, get_or, Option, Some, None, inl, inr, refl, sym, ap, ◌∙◌, arith}
use Rattle.std.specs.Char.{is_ascii_digit}
use Rattle.std.specs.Str.{bytes_eq}
use Rattle.std.proofs.lemmas.Bool.{cases_Bool, and_parts, and_from, eqb-true, eqb-false, ne_eqb, leb-true, le-leb}
use Rattle.std.proofs.lemmas.List.{at_drop_more, take-append-drop, take_at, drop_at}
use Rattle.std.proofs.lemmas.Slice.Eq.{bytes_eq-Decides}
use Rattle.imap_lex.specs.Marks.{AreDigits, IsNumber, IsMarked, IsUnmarked, closing, value_of}
use Rattle.imap_lex.specs.MarkReading.{closing_at, digits_at, line_mark, brace_mark, mark_of_number, or_else}

-- Further digits make a number no smaller.
pub grows : (n : ℕ) (ds : List ℕ) → n ≤ value_of n ds
grows n [] = omega arith
grows n (d ∷ ds) = omega (arith, grows (n * 10 + (d - 48)) ds)

-- If the number of the first digits doesn't fit in 64 bits, that of all digits doesn't either.
pub too_large : (n i v : ℕ) (ds : List ℕ) → i < length ds → (n * 10 + (get_or ds i 0 - 48) < 2 ^ 64 → ⊥) → value_of n (drop i ds) ≡ v → v < 2 ^ 64 → ⊥
too_large n i v ds h wide e small =
    let step : value_of n (drop i ds) ≡ value_of (n * 10 + (get_or ds i 0 - 48)) (drop (i + 1) ds) = at_drop_more (value_of n) ds i 0 h in
    wide (omega (arith, grows (n * 10 + (get_or ds i 0 - 48)) (drop (i + 1) ds)))

-- The digits at the beginning of a text.
digits_taken : (text : List ℕ) → AreDigits (take (digits_at text) text)
digits_taken [] = tt
digits_taken (b ∷ bs) =
    elim (cases_Bool (is_ascii_digit b)) [
      | inl t ↦
          let p = and_parts (leb 48 b) (leb b 57) t in
          let k : digits_at (b ∷ bs) ≡ suc (digits_at bs) = rw t (omega arith) in
          rw k (leb-true 48 b p.0, leb-true b 57 p.1, digits_taken bs)
      | inr f ↦ let k : digits_at (b ∷ bs) ≡ 0 = rw f refl in rw k tt
    ]

digits_before_closing : (digits : List ℕ) (plus : Bool) → AreDigits digits → digits_at (digits ++ closing plus) ≡ length digits
digits_before_closing [] true h = refl
digits_before_closing [] false h = refl
digits_before_closing (d ∷ ds) plus h =
    let t : is_ascii_digit d ≡ true = and_from (leb 48 d) (leb d 57) (le-leb 48 d h.0) (le-leb d 57 h.1) in
    let k : digits_at (ds ++ closing plus) ≡ length ds = digits_before_closing ds plus h.2 in
    rw t (omega arith)

-- How a mark is closed.
closing_is : (text : List ℕ) (plus : Bool) → closing_at text ≡ Some plus → text ≡ closing plus
closing_is text plus h =
    elim (cases_Bool (bytes_eq text (125 ∷ 13 ∷ 10 ∷ []))) [
      | inl t ↦
          let e : text ≡ closing false = (bytes_eq-Decides text (125 ∷ 13 ∷ 10 ∷ [])).0 t in
          let k : Some false ≡ Some plus = rw t at h in
          let p : false ≡ plus = cc in
          e ∙ ap closing p
      | inr f ↦ elim (cases_Bool (bytes_eq text (43 ∷ 125 ∷ 13 ∷ 10 ∷ []))) [
        | inl t ↦
            let e : text ≡ closing true = (bytes_eq-Decides text (43 ∷ 125 ∷ 13 ∷ 10 ∷ [])).0 t in
            let k : Some true ≡ Some plus = rw (f, t) at h in
            let p : true ≡ plus = cc in
            e ∙ ap closing p
        | inr g ↦ let k : ◌≡◌ {A = Option Bool} None (Some plus) = rw (f, g) at h in absurd cc
      ]
    ]

closing_at_closing : (plus : Bool) → closing_at (closing plus) ≡ Some plus
closing_at_closing true = refl
closing_at_closing false = refl

numbered_is : (v n : ℕ) (plus : Bool) (o : Option Bool) → mark_of_number v o ≡ Some (n, plus) → (v ≡ n) × (o ≡ Some plus)
numbered_is v n plus None h = absurd cc
numbered_is v n plus (Some q) h = let e : ◌≡◌ {A = ℕ × Bool} (v, q) (n, plus) = cc in (ap (λ m. m.0) e, ap (λ m. Some m.1) e)

-- The mark after a brace.
brace_mark_is : (text : List ℕ) (n : ℕ) (plus : Bool) → brace_mark text ≡ Some (n, plus) → (digits : List ℕ) × IsNumber n digits × (text ≡ digits ++ closing plus)
brace_mark_is text n plus h =
    elim (cases_Bool (eqb (digits_at text) 0)) [
      | inl t ↦ let k : ◌≡◌ {A = Option (ℕ × Bool)} None (Some (n, plus)) = rw t at h in absurd cc
      | inr f ↦
          let k : mark_of_number (value_of 0 (take (digits_at text) text)) (closing_at (drop (digits_at text) text)) ≡ Some (n, plus) = rw f at h in
          let p = numbered_is (value_of 0 (take (digits_at text) text)) n plus (closing_at (drop (digits_at text) text)) k in
          let c : drop (digits_at text) text ≡ closing plus = closing_is (drop (digits_at text) text) plus p.1 in
          let whole : take (digits_at text) text ++ drop (digits_at text) text ≡ text = take-append-drop (digits_at text) text in (
            take (digits_at text) text,
            record {
              not_empty = λ e. some_digits text (eqb-false (digits_at text) 0 f) e;
              are_digits = digits_taken text;
              value = p.0;
            },
            sym whole ∙ ap (λ t. take (digits_at text) text ++ t) c,
          )
    ] where
      some_digits : (text : List ℕ) → (digits_at text ≡ 0 → ⊥) → take (digits_at text) text ≡ [] → ⊥
      some_digits [] h e = h refl
      some_digits (b ∷ bs) h e =
          elim (cases_Bool (is_ascii_digit b)) [
            | inl t ↦
                let k : digits_at (b ∷ bs) ≡ suc (digits_at bs) = rw t (omega arith) in
                let z : ◌≡◌ {A = List ℕ} (b ∷ take (digits_at bs) bs) [] = rw k at e in
                absurd cc
            | inr f ↦ h (rw f refl)
          ]

brace_mark_of : (text digits : List ℕ) (n : ℕ) (plus : Bool) → text ≡ digits ++ closing plus → digits_at text ≡ length digits → eqb (length digits) 0 ≡ false → value_of 0 digits ≡ n → brace_mark text ≡ Some (n, plus)
brace_mark_of text digits n plus e k z v =
    let t : take (length digits) text ≡ digits = ap (take (length digits)) e ∙ take_at digits (closing plus) (length digits) refl in
    let r : drop (length digits) text ≡ closing plus = ap (drop (length digits)) e ∙ drop_at digits (closing plus) (length digits) refl in
    rw (k, z, t, r, closing_at_closing plus, v) refl

brace_mark_digits : (digits : List ℕ) (n : ℕ) (plus : Bool) → IsNumber n digits → brace_mark (digits ++ closing plus) ≡ Some (n, plus)
brace_mark_digits [] n plus h = absurd (h.not_empty refl)
brace_mark_digits (d ∷ ds) n plus h =
    brace_mark_of (d ∷ ds ++ closing plus) (d ∷ ds) n plus refl (digits_before_closing (d ∷ ds) plus h.are_digits) (ne_eqb (length (d ∷ ds)) 0 (λ e. omega arith)) h.value

-- No brace follows the brace of a mark.
has_brace : List ℕ → Bool
has_brace [] = false
has_brace (b ∷ bs) = eqb b 123 || has_brace bs

brace_in : (front back : List ℕ) → has_brace (front ++ 123 ∷ back) ≡ true
unfolding has_brace
brace_in [] back = refl
brace_in (b ∷ front) back = elim (cases_Bool (eqb b 123)) [ inl t ↦ rw t refl | inr f ↦ rw f (brace_in front back) ]

no_brace : (digits : List ℕ) (plus : Bool) → AreDigits digits → has_brace (digits ++ closing plus) ≡ false
unfolding has_brace
no_brace [] true h = refl
no_brace [] false h = refl
no_brace (d ∷ ds) plus h = rw (ne_eqb d 123 (λ e. omega arith)) (no_brace ds plus h.2)

none_before_brace : (front back : List ℕ) → brace_mark (front ++ 123 ∷ back) ≡ None
none_before_brace front back = by_cases (brace_mark (front ++ 123 ∷ back)) refl where
  by_cases : (o : Option (ℕ × Bool)) → brace_mark (front ++ 123 ∷ back) ≡ o → brace_mark (front ++ 123 ∷ back) ≡ None
  by_cases None e = e
  by_cases (Some m) e =
      let p = brace_mark_is (front ++ 123 ∷ back) m.0 m.1 e in
      let a : has_brace (front ++ 123 ∷ back) ≡ true = brace_in front back in
      let b : has_brace (p.0 ++ closing m.1) ≡ false = no_brace p.0 m.1 p.1.are_digits in
      let c : has_brace (front ++ 123 ∷ back) ≡ has_brace (p.0 ++ closing m.1) = ap has_brace p.2 in
      absurd cc

-- The mark that is read is the line's.
marked_further : (b : ℕ) (bs : List ℕ) (n : ℕ) (plus : Bool) → IsMarked n plus bs → IsMarked n plus (b ∷ bs)
marked_further b bs n plus m = record { before = b ∷ m.before; digits = m.digits; number = m.number; line_is = ap (λ t. b ∷ t) m.line_is }

marked_here : (b : ℕ) (bs : List ℕ) (n : ℕ) (plus : Bool) (o : Option (ℕ × Bool)) → b ≡ 123 → brace_mark bs ≡ o → (line_mark bs ≡ Some (n, plus) → IsMarked n plus bs) → or_else o (line_mark bs) ≡ Some (n, plus) → IsMarked n plus (b ∷ bs)
marked_here b bs n plus None e k further g = marked_further b bs n plus (further g)
marked_here b bs n plus (Some m) e k further g =
    let p = brace_mark_is bs n plus (k ∙ g) in
    record { before = []; digits = p.0; number = p.1; line_is = λ j. e j ∷ p.2 j }

pub mark_is : (line : List ℕ) (n : ℕ) (plus : Bool) → line_mark line ≡ Some (n, plus) → IsMarked n plus line
mark_is [] n plus h = absurd cc
mark_is (b ∷ bs) n plus h =
    elim (cases_Bool (eqb b 123)) [
      | inl t ↦ marked_here b bs n plus (brace_mark bs) (eqb-true b 123 t) refl (mark_is bs n plus) (rw t at h)
      | inr f ↦ marked_further b bs n plus (mark_is bs n plus (rw f at h))
    ]

-- The mark of a line is read.
line_mark_split : (before digits : List ℕ) (n : ℕ) (plus : Bool) → IsNumber n digits → line_mark (before ++ 123 ∷ (digits ++ closing plus)) ≡ Some (n, plus)
line_mark_split [] digits n plus h = rw (brace_mark_digits digits n plus h) refl
line_mark_split (b ∷ before) digits n plus h =
    elim (cases_Bool (eqb b 123)) [
      | inl t ↦ rw (t, none_before_brace before (digits ++ closing plus)) (line_mark_split before digits n plus h)
      | inr f ↦ rw f (line_mark_split before digits n plus h)
    ]

pub line_mark_marked : (line : List ℕ) (n : ℕ) (plus : Bool) → IsMarked n plus line → line_mark line ≡ Some (n, plus)
line_mark_marked line n plus m = ap line_mark m.line_is ∙ line_mark_split m.before m.digits n plus m.number

pub unmarked_is : (line : List ℕ) → line_mark line ≡ None → IsUnmarked line
unmarked_is line h n plus m = let k = line_mark_marked line n plus m in absurd cc

pub line_mark_unmarked : (line : List ℕ) → IsUnmarked line → line_mark line ≡ None
line_mark_unmarked line h = by_cases (line_mark line) refl where
  by_cases : (o : Option (ℕ × Bool)) → line_mark line ≡ o → line_mark line ≡ None
  by_cases None e = e
  by_cases (Some m) e = absurd (h m.0 m.1 (mark_is line m.0 m.1 e))
