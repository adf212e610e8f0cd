use Rattle.std.proofs.Common.{◌≡◌, ℕ, zero, suc, ◌+◌, ◌<◌, ◌≤◌, ◌++◌, ◌&&◌, ◌||◌, Bool, true, false, List, [], ◌∷◌, length, take, drop, ◌-◌, ◌==◌, ap, sym, ◌∙◌, arith, refl, append_assoc, inl, inr}
use Rattle.std.proofs.lemmas.Bool.{cases_Bool, eqb-true}
use Rattle.std.proofs.lemmas.List.{length-append}
use Rattle.std.specs.List.{concat, list_any}
use Rattle.memchr.specs.Find.{Nowhere, Passes, is_byte}
use Rattle.mail_text.specs.Cuts.{IsInContinuation, IsAfterContinuation, IsFirstField, continuation_lines, after_continuations}
use Rattle.mail_text.specs.HeaderFields.{field_lines, fields_in, is_continuation, is_blank, has_requested_name}
use Rattle.mail_text.specs.TextLines.{in_first, is_crlf, is_empty_line, lines_of}
use Rattle.mail_text.specs.TextSearch.{any_field_holds, after_colon, field_holds, occurs_in}

-- the first line begins as the text does
record StartsWith (octet : ℕ) (lines : List (List ℕ)) : Type 0 where
  more : List ℕ
  others : List (List ℕ)
  are : lines ≡ (octet ∷ more) ∷ others

joined_start : (a : ℕ) (lines : List (List ℕ)) → StartsWith a (in_first a lines)
joined_start a [] = record { more = []; others = []; are = refl }
joined_start a (line ∷ lines) = record { more = line; others = lines; are = refl }

starts_with : (a : ℕ) (rest : List ℕ) → StartsWith a (lines_of (a ∷ rest))
starts_with a [] = record { more = []; others = []; are = refl }
starts_with a (b ∷ rest) =
    elim (cases_Bool (is_crlf a b)) [
      | inl t ↦ record { more = b ∷ []; others = lines_of rest; are = rw t refl }
      | inr f ↦ let s = joined_start a (lines_of (b ∷ rest)) in record { more = s.more; others = s.others; are = rw f s.are }
    ]

-- a line that begins with a blank isn't empty
blank_line : (octet : ℕ) (more : List ℕ) → is_blank octet ≡ true → is_empty_line (octet ∷ more) ≡ false
blank_line octet more h =
    elim (cases_Bool (octet == 32)) [
      | inl t ↦ rw (eqb-true octet 32 t) refl
      | inr f ↦ let t : (octet == 9) ≡ true = (λ i. sym f i || (octet == 9)) ∙ h in rw (eqb-true octet 9 t) refl
    ]

first_or : List ℕ → List (List ℕ) → List ℕ
first_or other [] = other
first_or other (line ∷ lines) = line

append_nil : (xs : List ℕ) → xs ++ [] ≡ xs
append_nil [] = refl
append_nil (x ∷ xs) = ap (λ ys. x ∷ ys) (append_nil xs)

pub in_continuation : (text : List ℕ) → IsInContinuation text text
in_continuation text = record { front = []; split = refl; lines = refl; others = refl }

-- a line that continues the field
pub continuation_tail : (text rest line tail : List ℕ) → IsInContinuation text rest → lines_of rest ≡ line ∷ lines_of tail → line ++ tail ≡ rest → is_continuation rest ≡ true → IsInContinuation text tail
unfolding first_or
continuation_tail text [] line tail g e p h = absurd cc
continuation_tail text (a ∷ rest) line tail g e p h =
    let s = starts_with a rest in
    let l : line ≡ a ∷ s.more = ap (first_or []) (sym e ∙ s.are) in
    let n : is_empty_line line ≡ false = ap is_empty_line l ∙ blank_line a s.more h in
    let o : is_continuation line ≡ true = ap is_continuation l ∙ h in
    let f : field_lines (lines_of (a ∷ rest)) ≡ line ∷ field_lines (lines_of tail) = ap field_lines e ∙ rw n refl in
    let c : concat (continuation_lines (field_lines (lines_of (a ∷ rest)))) ≡ line ++ concat (continuation_lines (field_lines (lines_of tail))) = ap (λ ls. concat (continuation_lines ls)) f ∙ rw o refl in
    let k : after_continuations (field_lines (lines_of (a ∷ rest))) ≡ after_continuations (field_lines (lines_of tail)) = ap after_continuations f ∙ rw o refl in
    record {
      front = g.front ++ line;
      split = g.split ∙ ap (λ xs. g.front ++ xs) (sym p) ∙ sym (append_assoc g.front line tail);
      lines = g.lines ∙ ap (λ xs. g.front ++ xs) c ∙ sym (append_assoc g.front line (concat (continuation_lines (field_lines (lines_of tail)))));
      others = g.others ∙ k;
    }

-- a line that doesn't continue the field
record HasNoContinuation (rest : List ℕ) : Type 0 where
  no_lines : continuation_lines (field_lines (lines_of rest)) ≡ []
  all_after : after_continuations (field_lines (lines_of rest)) ≡ field_lines (lines_of rest)

has_no_continuation : (rest : List ℕ) → is_continuation rest ≡ false → HasNoContinuation rest
has_no_continuation [] h = record { no_lines = refl; all_after = refl }
has_no_continuation (a ∷ rest) h =
    let s = starts_with a rest in
    elim (cases_Bool (is_empty_line (a ∷ s.more))) [
      | inl t ↦
          let f : field_lines (lines_of (a ∷ rest)) ≡ [] = ap field_lines s.are ∙ rw t refl in
          record { no_lines = ap continuation_lines f; all_after = ap after_continuations f ∙ sym f }
      | inr u ↦
          let f : field_lines (lines_of (a ∷ rest)) ≡ (a ∷ s.more) ∷ field_lines s.others = ap field_lines s.are ∙ rw u refl in
          record { no_lines = ap continuation_lines f ∙ rw h refl; all_after = ap after_continuations f ∙ rw h refl ∙ sym f }
    ]

pub after_continuation : (text rest : List ℕ) → IsInContinuation text rest → is_continuation rest ≡ false → IsAfterContinuation text rest
after_continuation text rest g h =
    let n = has_no_continuation rest h in
    record {
      split = g.split ∙ ap (λ xs. xs ++ rest) (sym (g.lines ∙ ap (λ ls. g.front ++ concat ls) n.no_lines ∙ append_nil g.front));
      others = g.others ∙ n.all_after;
    }

pub continuation_at_end : (text rest : List ℕ) → IsInContinuation text rest → length rest < 1 → IsAfterContinuation text rest
continuation_at_end text [] g l = after_continuation text [] g refl
continuation_at_end text (x ∷ rest) g l = absurd (omega arith)

-- the first field is a line and those that continue it
split_fields : (line : List ℕ) (lines : List (List ℕ)) → fields_in (line ∷ lines) ≡ (line ∷ continuation_lines lines) ∷ fields_in (after_continuations lines)
split_fields line [] = refl
split_fields line (next ∷ lines) =
    elim (cases_Bool (is_continuation next)) [
      | inl t ↦ rw t (ap (in_first line) (split_fields next lines))
      | inr f ↦ rw f refl
    ]

take_front : (xs ys : List ℕ) → take (length (xs ++ ys) - length ys) (xs ++ ys) ≡ xs
take_front [] [] = refl
take_front [] (y ∷ ys) = let e : suc (length ys) - suc (length ys) ≡ 0 = omega arith in rw e refl
take_front (x ∷ xs) ys =
    let l = length-append xs ys in
    let e : suc (length (xs ++ ys)) - length ys ≡ suc (length (xs ++ ys) - length ys) = omega (arith, l) in
    rw e (ap (λ zs. x ∷ zs) (take_front xs ys))

cut_front : (xs ys text field : List ℕ) → text ≡ xs ++ ys → field ≡ take (length text - length ys) text → xs ≡ field
cut_front xs ys text field e f = sym (f ∙ ap (λ zs. take (length zs - length ys) zs) e ∙ take_front xs ys)

pub is_first : (text line tail field rest : List ℕ) → lines_of text ≡ line ∷ lines_of tail → line ++ tail ≡ text → length tail < length text → is_empty_line line ≡ false
    → IsAfterContinuation tail rest → length rest ≤ length tail → field ≡ take (length text - length rest) text → IsFirstField text line field rest
is_first text line tail field rest e p s f g w t =
    let more = continuation_lines (field_lines (lines_of tail)) in
    record {
      more = more;
      fields = ap (λ ls. fields_in (field_lines ls)) e ∙ rw f (split_fields line (field_lines (lines_of tail)) ∙ ap (λ ls. (line ∷ more) ∷ fields_in ls) g.others);
      joined = cut_front (line ++ concat more) rest text field (sym p ∙ ap (λ xs. line ++ xs) g.split ∙ sym (append_assoc line (concat more) rest)) t;
      shorter = omega arith;
    }

pub no_field : (text line tail : List ℕ) → lines_of text ≡ line ∷ lines_of tail → is_empty_line line ≡ true → fields_in (field_lines (lines_of text)) ≡ []
no_field text line tail e t = ap (λ ls. fields_in (field_lines ls)) e ∙ rw t refl

pub no_text : (text : List ℕ) → length text ≡ 0 → fields_in (field_lines (lines_of text)) ≡ []
no_text [] l = refl
no_text (x ∷ text) l = absurd (omega arith)

-- one further field
pub passes : (name word text line octets rest : List ℕ) (is : Bool) → IsFirstField text line octets rest → is ≡ (has_requested_name (name ∷ []) line && occurs_in word (after_colon octets))
    → any_field_holds name word text ≡ (is || any_field_holds name word rest)
passes name word text line octets rest is f e =
    ap (list_any (field_holds name word)) f.fields
    ∙ (λ i. (has_requested_name (name ∷ []) line && occurs_in word (after_colon (f.joined i))) || any_field_holds name word rest)
    ∙ ap (λ b. b || any_field_holds name word rest) (sym e)

pub none_holds : (name word text : List ℕ) → fields_in (field_lines (lines_of text)) ≡ [] → any_field_holds name word text ≡ false
none_holds name word text e = ap (list_any (field_holds name word)) e

pub no_more : (name word text : List ℕ) → length text < 1 → any_field_holds name word text ≡ false
no_more name word [] l = refl
no_more name word (x ∷ text) l = absurd (omega arith)

-- the octets after the first colon
pub after_colon_at : (octets : List ℕ) (k : ℕ) → k < length octets → Passes (is_byte 58) octets k → Nowhere (Passes (is_byte 58) octets) 0 k → after_colon octets ≡ drop (k + 1) octets
after_colon_at [] k l p n = absurd (omega arith)
after_colon_at (a ∷ octets) zero l p n = rw p refl
after_colon_at (a ∷ octets) (suc k) l p n =
    elim (cases_Bool (is_byte 58 a)) [
      | inl t ↦ absurd (n 0 (omega arith) (omega arith) t)
      | inr f ↦
          let e : suc k + 1 ≡ suc (k + 1) = omega arith in
          rw (f, e) (after_colon_at octets k (omega arith) p (λ j m o q. n (suc j) (omega arith) (omega arith) q))
    ]

pub after_colon_none : (octets : List ℕ) → Nowhere (Passes (is_byte 58) octets) 0 (length octets) → after_colon octets ≡ []
after_colon_none [] n = refl
after_colon_none (a ∷ octets) n =
    elim (cases_Bool (is_byte 58 a)) [
      | inl t ↦ absurd (n 0 (omega arith) (omega arith) t)
      | inr f ↦ rw f (after_colon_none octets (λ j m o q. n (suc j) (omega arith) (omega arith) q))
    ]

pub drop_all : (xs : List ℕ) → drop (length xs) xs ≡ []
drop_all [] = refl
drop_all (x ∷ xs) = drop_all xs
