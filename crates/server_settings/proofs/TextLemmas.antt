use Rattle.std.proofs.Common.{◌≡◌, ◌≢◌, inl, inr, Bor, eqb-true, nat_eq, ◌+◌, ◌-◌, ◌^◌, ◌<◌, ◌≤◌, ℕ, zero, suc, true, false, List, [], ◌∷◌, ◌++◌, Option, Some, None, Result, Ok, Err, refl, sym, ap, ◌∙◌, subst, arith, rules, length, get_or, take, drop}
use Rattle.std.proofs.lemmas.Bool.{and_parts, cases_order, false≢true}
use Rattle.std.proofs.lemmas.Fmt.{decimal-digits_value, digits_decimal, first_decimal, parse-decimal}
use Rattle.std.proofs.lemmas.List.{get_or-append-add, get_or-drop, length-append, length-drop, take-append-drop, take_at}
use Rattle.std.proofs.lemmas.Str.{len_utf8_ascii}
use Rattle.std.proofs.lemmas.Str.Pattern.{IsSplitOnceResult, NoCharPasses-char, drop_at_char, split_after}
use Rattle.std.proofs.lemmas.Str.Parse.{IsNumeralModel, numerals_by_value, parse_digits}
use Rattle.std.specs.Char.{is_ascii_digit}
use Rattle.std.specs.Fmt.{decimal}
use Rattle.std.specs.List.{list_all}
use Rattle.std.proofs.Math.Seq.{drop-append-add, get_or-append_seam}
use Rattle.std.specs.Option.{MatchOption}
use Rattle.std.specs.Str.{NoCharPasses}
use Rattle.std.specs.Str.Parse.{ParsesUnsigned, digits_value}
use Rattle.std.specs.Str.Pattern.{HasCharAt, RFindsChar}
use Rattle.server_settings.specs.Links.{IsHostPort}
use Rattle.server_settings.specs.Settings.{IsJoinText, IsNameText, IsPlaceText}
use Rattle.server_settings.specs.declared.settings.Join.{Join}
use Rattle.server_settings.specs.declared.settings.Place.{Place}

-- ---- names

digits_model : IsNumeralModel (λ ds. list_all is_ascii_digit ds ≡ true) (digits_value 10)
digits_model = numerals_by_value (λ ds. list_all is_ascii_digit ds ≡ true) (search rules)

module _ (text : List ℕ) where
  -- the number that digits spell if the first is no zero
  pub name_read : {E : Type 0} (r : Result ℕ E) (n : ℕ) → ParsesUnsigned 16 10 text r → list_all is_ascii_digit text ≡ true → get_or text 0 0 ≢ 48 → r ≡ Ok n → n ≢ 0 → IsNameText text n
  name_read (Err e) n h d s is z = absurd cc
  name_read {E} (Ok m) n h d s is z =
      let p : ((0 < length text) × (digits_value 10 text < 2 ^ 16)) × (m ≡ digits_value 10 text) = parse_digits digits_model {E = E} 16 text (Ok m) h d in
      let low : digits_value 10 text < 65536 = p.0.1 in
      let value : digits_value 10 text ≡ m = sym p.1 in
      let same : m ≡ n = cc in
      let whole = decimal-digits_value digits_model text d p.0.0 (λ e. absurd (s e)) (omega arith) in
      (omega arith, omega arith, sym whole ∙ ap decimal (value ∙ same))

  module _ (name : ℕ) (is : IsNameText text name) where
    -- the number that a name's text spells
    pub parsed_name : {E : Type 0} (r : Result ℕ E) → ParsesUnsigned 16 10 text r → r ≡ Ok name
    parsed_name r h = parse-decimal 16 name text r (omega (arith, is.1)) (omega (arith, is.1)) is.2 h

    pub name_digits : list_all is_ascii_digit text ≡ true
    name_digits = subst (λ (ds : List ℕ). list_all is_ascii_digit ds ≡ true) (sym is.2) (digits_decimal digits_model name (omega (arith, is.1)))

    pub name_start : get_or text 0 0 ≢ 48
    name_start e =
        let f = first_decimal name is.0 (omega (arith, is.1)) in
        let g : get_or (decimal name) 0 0 ≡ 48 = ap (λ (ds : List ℕ). get_or ds 0 0) (sym is.2) ∙ e in
        omega arith

-- a text of digits has no other character
pub digits_lack : (c : ℕ) → is_ascii_digit c ≡ false → (ds : List ℕ) → list_all is_ascii_digit ds ≡ true → (i : ℕ) → i < length ds → get_or ds i 0 ≢ c
digits_lack c n [] h i l e = omega arith
digits_lack c n (d ∷ ds) h zero l e =
    let p = and_parts (is_ascii_digit d) (list_all is_ascii_digit ds) h in
    false≢true (sym n ∙ ap is_ascii_digit (sym e) ∙ p.0)
digits_lack c n (d ∷ ds) h (suc i) l e =
    let p = and_parts (is_ascii_digit d) (list_all is_ascii_digit ds) h in
    digits_lack c n ds p.1 i (omega arith) e

-- ---- a text that is split

-- the clause of `rsplit_once` at a character
abbrev pub IsRsplitOnceResult : ℕ → List ℕ → Option (Bor (List ℕ) × Bor (List ℕ)) → Type 0
IsRsplitOnceResult c bs r = MatchOption r (RFindsChar c bs None) (λ x. (i : ℕ) × (j : ℕ) × RFindsChar c bs (Some (i, j)) × (x.0.now ≡ take i bs) × (x.1.now ≡ drop j bs) × (i ≤ j) × (length x.0.now ≡ i) × (length x.1.now + j ≡ length bs))

-- if bs is xs, c and ys, and ys doesn't contain c, then bs is split at that c
pub rsplit_after : (c : ℕ) (bs xs ys : List ℕ) (r : Option (Bor (List ℕ) × Bor (List ℕ))) → IsRsplitOnceResult c bs r → c < 128 → bs ≡ xs ++ (c ∷ ys) → ((i : ℕ) → i < length ys → get_or ys i 0 ≢ c)
    → MatchOption r ⊥ (λ x. (x.0.now ≡ xs) × (x.1.now ≡ ys))
rsplit_after c bs xs ys None h low e free =
    NoCharPasses-char c bs (length xs) h low (omega (arith, ap length e, length-append xs (c ∷ ys))) (ap (λ (l : List ℕ). get_or l (length xs) 0) e ∙ get_or-append_seam xs c ys 0)
rsplit_after c bs xs ys (Some x) h low e free =
    let i = h.0 in
    let j = h.1 in
    let no_char : NoCharPasses (λ d. nat_eq d c) (drop j bs) = h.2.0 in
    let at : HasCharAt c bs i j = h.2.1 in
    let n : length bs ≡ length xs + suc (length ys) = ap length e ∙ length-append xs (c ∷ ys) in
    let next : j ≡ i + 1 = omega (arith, at.ends, len_utf8_ascii c low) in
    let not_before : i < length xs → ⊥ = λ l.
    let k : length xs ≡ j + (length xs - j) = omega arith in
    NoCharPasses-char c (drop j bs) (length xs - j) no_char low (omega (arith, length-drop j bs))
    (get_or-drop j bs (length xs - j) 0 ∙ ap (λ (m : ℕ). get_or bs m 0) (sym k) ∙ ap (λ (l : List ℕ). get_or l (length xs) 0) e ∙ get_or-append_seam xs c ys 0) in
    let inside : i < length bs = omega (arith, h.5, h.6, h.7) in
    let not_after : length xs < i → ⊥ = λ l.
    let k : i ≡ length xs + suc (i - suc (length xs)) = omega arith in
    free (i - suc (length xs)) (omega arith)
    (sym (get_or-append-add xs (c ∷ ys) (suc (i - suc (length xs))) 0) ∙ ap (λ (m : ℕ). get_or (xs ++ (c ∷ ys)) m 0) (sym k) ∙ ap (λ (l : List ℕ). get_or l i 0) (sym e) ∙ at.byte low) in
    let here : length xs ≡ i = elim (cases_order (length xs) i) [ inl k ↦ k | inr (inl l) ↦ absurd (not_after l) | inr (inr l) ↦ absurd (not_before l) ] in
    let past : length xs + 1 ≡ j = omega arith in
    (h.3 ∙ ap (take i) e ∙ take_at xs (c ∷ ys) i here, h.4 ∙ ap (λ (k : ℕ). drop k bs) (sym past) ∙ ap (drop (length xs + 1)) e ∙ drop-append-add xs (c ∷ ys) 1)

-- the split of a replica's text, and that of a joining replica's text
pub place_split : (text : List ℕ) (r : Option (Bor (List ℕ) × Bor (List ℕ))) (place : Place) → IsSplitOnceResult 61 text r → (is : IsPlaceText text place) → MatchOption r ⊥ (λ x. (x.0.now ≡ is.0) × (x.1.now ≡ place.address.now))
place_split text r place h is = split_after 61 text is.0 place.address.now r h (omega arith) is.3 (digits_lack 61 refl is.0 (name_digits is.0 place.replica is.1))

pub join_split : (text : List ℕ) (r : Option (Bor (List ℕ) × Bor (List ℕ))) (join : Join) → IsRsplitOnceResult 47 text r → (is : IsJoinText text join) → MatchOption r ⊥ (λ x. (x.0.now ≡ is.0) × (x.1.now ≡ is.1))
join_split text r join h is = rsplit_after 47 text is.0 is.1 r h (omega arith) is.4 (digits_lack 47 refl is.1 (name_digits is.1 join.peer is.3))

pub no_octet : (octets : List ℕ) → true ≡ nat_eq (length octets) 0 → octets ≡ []
no_octet [] h = refl
no_octet (o ∷ os) h = absurd (let z : length (o ∷ os) ≡ 0 = eqb-true _ _ (sym h) in omega arith)

-- a text of digits followed by `=` is split in one way
rest_after : (xs ys xs' ys' : List ℕ) → list_all is_ascii_digit xs ≡ true → list_all is_ascii_digit xs' ≡ true → xs ++ 61 ∷ ys ≡ xs' ++ 61 ∷ ys' → ys ≡ ys'
rest_after [] ys [] ys' d d' e = ap (drop 1) e
rest_after [] ys (x ∷ xs') ys' d d' e =
    let h : 61 ≡ x = ap (λ (l : List ℕ). get_or l 0 0) e in
    absurd (false≢true (ap is_ascii_digit h ∙ (and_parts (is_ascii_digit x) (list_all is_ascii_digit xs') d').0))
rest_after (x ∷ xs) ys [] ys' d d' e =
    let h : x ≡ 61 = ap (λ (l : List ℕ). get_or l 0 0) e in
    absurd (false≢true (ap is_ascii_digit (sym h) ∙ (and_parts (is_ascii_digit x) (list_all is_ascii_digit xs) d).0))
rest_after (x ∷ xs) ys (x' ∷ xs') ys' d d' e =
    rest_after xs ys xs' ys' (and_parts (is_ascii_digit x) (list_all is_ascii_digit xs) d).1 (and_parts (is_ascii_digit x') (list_all is_ascii_digit xs') d').1 (ap (drop 1) e)

-- two replicas that a text names have one address
pub one_address : (text : List ℕ) (first second : Place) → IsPlaceText text first → IsPlaceText text second → first.address.now ≡ second.address.now
one_address text first second a b =
    rest_after a.0 first.address.now b.0 second.address.now (name_digits a.0 first.replica a.1) (name_digits b.0 second.replica b.1) (sym a.3 ∙ b.3)

-- a text that was split at its last `c` is both parts around it
pub rsplit_is : (c : ℕ) (bs : List ℕ) (x : Bor (List ℕ) × Bor (List ℕ)) → IsRsplitOnceResult c bs (Some x) → c < 128 → bs ≡ x.0.now ++ c ∷ x.1.now
rsplit_is c bs x h low =
    sym (take-append-drop h.0 bs) ∙ ap (λ (l : List ℕ). take h.0 bs ++ l) (drop_at_char c bs h.0 h.1 h.2.1 low) ∙ ap (λ (l : List ℕ). l ++ c ∷ drop h.1 bs) (sym h.3) ∙ ap (λ (l : List ℕ). x.0.now ++ c ∷ l) (sym h.4)

-- the split of an address
pub port_split : (text : List ℕ) (r : Option (Bor (List ℕ) × Bor (List ℕ))) → IsRsplitOnceResult 58 text r → (is : IsHostPort text) → MatchOption r ⊥ (λ x. (x.0.now ≡ is.0) × (x.1.now ≡ is.1))
port_split text r h is = rsplit_after 58 text is.0 is.1 r h (omega arith) is.5 (digits_lack 58 refl is.1 (name_digits is.1 is.2 is.4))
