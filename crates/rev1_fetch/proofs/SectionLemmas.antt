-- Sections of parts, and the numbers before them.
use Rattle.std.proofs.Common.{◌≡◌, ◌⊎◌, inl, inr, ℕ, suc, ◌+◌, ◌-◌, ◌<◌, ◌≤◌, Bool, true, false, not, cond, eqb, List, [], ◌∷◌, ◌++◌, codes, length, take, drop, Option, Some, None, Result, Ok, Err, refl, sym, ap, ◌∙◌, subst, arith}
use Rattle.std.specs.Prelude.{◌==◌}
use Rattle.std.specs.Option.{option_map}
use Rattle.std.proofs.lemmas.Bool.{cases_Bool, eqb-true}
use Rattle.std.proofs.lemmas.List.{take_all}
use Rattle.imap_types.specs.declared.section.Section.{Section}
use Rattle.imap_syntax.specs.Commands.{IsSpelled}
use Rattle.imap_syntax.specs.declared.command.Tagged.{Tagged}
use Rattle.imap_syntax.specs.declared.fetch.Partial.{Partial}
use Rattle.imap_grammar.specs.declared.fault.ParseFault.{ParseFault}
use Rattle.imap_grammar.specs.declared.fault.ParseFault.TheVariants as parsed
use Rattle.imap_grammar.specs.Reading.{span}
use Rattle.imap_grammar.proofs.FrameLaws.{one_reading}
use Rattle.rev1_fetch.specs.PartNumbers.{FoundNumber, IsFaultRead, IsReadAs, NumberParts, after_numbers, leading_number, number_parts, numbers_from, part_number, with_number}
use Rattle.rev1_fetch.specs.ReadItems.{IsBracketed, IsNumbered, IsOfNumber, IsProfileSection, IsSectionItem}
use Rattle.rev1_fetch.specs.ReadSteps.{IsReadSection, IsSectionOfCommand, ReadSection, item_fault}
use Rattle.rev1_fetch.specs.declared.item_fault.ItemFault.{ItemFault}
use Rattle.rev1_fetch.specs.declared.item_fault.ItemFault.TheVariants.{NoMemory, PartZero, Unknown}
use Rattle.rev1_fetch.specs.declared.text_item.PartSection.{PartSection}

-- the section of a command that was read
module _ (item frame : List ℕ) (e : frame ≡ codes "a FETCH 1 " ++ (item ++ codes "\r\n")) where
  pub section_read : (tagged : Tagged) → IsSpelled tagged frame → (r : ReadSection) → IsSectionOfCommand tagged.command r → IsReadSection item r
  section_read tagged s (Ok read) h = (tagged, h.0, subst (λ (x : List ℕ). IsSpelled tagged x) e s, h.1, h.2)
  section_read tagged s (Err NoMemory) h = tt
  section_read tagged s (Err PartZero) h = h
  section_read tagged s (Err Unknown) h = λ section partial peek k.
      h section partial peek (k.1, ap (λ (t : Tagged). t.command) (one_reading tagged k.0 frame s (subst (λ (x : List ℕ). IsSpelled k.0 x) (sym e) k.2)) ∙ k.3, k.4)

  -- no command was read
  module _ (p : Result Tagged ParseFault) (only : (tagged : Tagged) → IsSpelled tagged frame → (p ≡ Ok tagged) ⊎ (p ≡ Err parsed.NoMemory)) where
    none_spelled : (why : ParseFault) → p ≡ Err why → (◌≡◌ {A = Result Tagged ParseFault} (Err why) (Err parsed.NoMemory) → ⊥) → (section : Section) (partial : Option Partial) (peek : Bool) → IsProfileSection item section partial peek → ⊥
    none_spelled why is other section partial peek k = elim (only k.0 (subst (λ (x : List ℕ). IsSpelled k.0 x) (sym e) k.2)) [
      | inl j ↦ let z : ◌≡◌ {A = Result Tagged ParseFault} (Err why) (Ok k.0) = sym is ∙ j in cc
      | inr j ↦ other (sym is ∙ j)
    ]

    unread : (why : ParseFault) → p ≡ Err why → IsReadSection item (Err (item_fault why))
    unread parsed.NoMemory is = tt
    unread parsed.BadSyntax is = none_spelled parsed.BadSyntax is (λ z. cc)
    unread parsed.NotInProfile is = none_spelled parsed.NotInProfile is (λ z. cc)
    unread parsed.NoTag is = none_spelled parsed.NoTag is (λ z. cc)
    unread parsed.UnknownCommand is = none_spelled parsed.UnknownCommand is (λ z. cc)

    pub section_unread : (why : ParseFault) → p ≡ Err why → (fault : ItemFault) → fault ≡ item_fault why → IsReadSection item (Err fault)
    section_unread why is fault f = subst (λ (x : ItemFault). IsReadSection item (Err x)) (sym f) (unread why is)

-- why the section of a part isn't read
pub number_unread : (front rest item : List ℕ) (path : List ℕ) (is_mime : Bool) → item ≡ front ++ rest → (fault : ItemFault) → IsReadSection item (Err fault) → IsOfNumber front (number_parts path is_mime rest) (Err fault)
number_unread front rest item path is_mime e NoMemory h = tt
number_unread front rest item path is_mime e PartZero h = h
number_unread front rest item path is_mime e Unknown h = λ section partial peek k. h section partial peek (subst (λ (x : List ℕ). IsProfileSection x section partial peek) (sym e) k)

-- the number of a part, number by number
module _ (section path rest : List ℕ) (turn : ℕ) (l : turn < length section) (inv : numbers_from (length section - turn) path rest ≡ part_number section) where
  step : part_number section ≡ with_number (numbers_from (length section - (turn + 1))) path rest (leading_number rest)
  step =
      let left : length section - turn ≡ suc (length section - (turn + 1)) = omega arith in
      sym inv ∙ ap (λ n. numbers_from n path rest) left

  pub number_fault : (fault : ItemFault) → IsFaultRead fault (leading_number rest) → IsFaultRead fault (part_number section)
  number_fault NoMemory h = tt
  number_fault PartZero h = step ∙ ap (with_number (numbers_from (length section - (turn + 1))) path rest) h
  number_fault Unknown h = step ∙ ap (with_number (numbers_from (length section - (turn + 1))) path rest) h

  pub number_none : leading_number rest ≡ Ok None → after_numbers path rest ≡ part_number section
  number_none h = sym (step ∙ ap (with_number (numbers_from (length section - (turn + 1))) path rest) h)

-- the same reading
pub read_along : {X : Type 0} (r : Result X ItemFault) (view : X → NumberParts) (a b : Result NumberParts ItemFault) → a ≡ b → IsReadAs view r a → IsReadAs view r b
read_along r view a b e h = subst (λ x. IsReadAs view r x) e h

-- a number that was found, or none
pub found_none : {X : Type 0} (o : Option X) (view : X → FoundNumber) (r : Result (Option FoundNumber) ItemFault) → r ≡ Ok (option_map view o) → o ≡ None → r ≡ Ok None
found_none o view r h e = h ∙ ap (λ x. Ok (option_map view x)) e

pub found_some : {X : Type 0} (o : Option X) (view : X → FoundNumber) (r : Result (Option FoundNumber) ItemFault) (x : X) → r ≡ Ok (option_map view o) → o ≡ Some x → r ≡ Ok (Some (view x))
found_some o view r x h e = h ∙ ap (λ y. Ok (option_map view y)) e

module _ (section path rest : List ℕ) (turn : ℕ) (l : turn < length section) (inv : numbers_from (length section - turn) path rest ≡ part_number section) (found : FoundNumber) (h : leading_number rest ≡ Ok (Some found)) where
  found_step : part_number section ≡ cond found.is_last (Ok (number_parts (path ++ found.number ∷ []) false found.rest)) (numbers_from (length section - (turn + 1)) (path ++ found.number ∷ []) found.rest)
  found_step = step section path rest turn l inv ∙ ap (with_number (numbers_from (length section - (turn + 1))) path rest) h

  pub number_last : found.is_last ≡ true → (after : List ℕ) → after ≡ path ++ found.number ∷ [] → part_number section ≡ Ok (number_parts after false found.rest)
  number_last t after e =
      found_step ∙ ap (λ b. cond b (Ok (number_parts (path ++ found.number ∷ []) false found.rest)) (numbers_from (length section - (turn + 1)) (path ++ found.number ∷ []) found.rest)) t
      ∙ ap (λ (p : List ℕ). Ok (number_parts p false found.rest)) (sym e)

  pub number_more : found.is_last ≡ false → (after : List ℕ) → after ≡ path ++ found.number ∷ [] → numbers_from (length section - (turn + 1)) after found.rest ≡ part_number section
  number_more f after e =
      ap (λ (p : List ℕ). numbers_from (length section - (turn + 1)) p found.rest) e
      ∙ sym (found_step ∙ ap (λ b. cond b (Ok (number_parts (path ++ found.number ∷ []) false found.rest)) (numbers_from (length section - (turn + 1)) (path ++ found.number ∷ []) found.rest)) f)

-- the octet at which a span stops
span_head : (p : ℕ → Bool) (os : List ℕ) (b : ℕ) (rest : List ℕ) → (span p os).1 ≡ b ∷ rest → p b ≡ false
span_head p [] b rest h = cc
span_head p (o ∷ os) b rest h = elim (cases_Bool (p o)) [
  | inl t ↦
      let k : (span p os).1 ≡ b ∷ rest = sym (ap (λ c. (cond {A = List ℕ × List ℕ} c (o ∷ (span p os).0, (span p os).1) ([], o ∷ os)).1) t) ∙ h in
      span_head p os b rest k
  | inr f ↦
      let k : o ∷ os ≡ b ∷ rest = sym (ap (λ c. (cond {A = List ℕ × List ℕ} c (o ∷ (span p os).0, (span p os).1) ([], o ∷ os)).1) f) ∙ h in
      let e : o ≡ b = cc in
      subst (λ (x : ℕ). p x ≡ false) e f
]

not_false : (b : Bool) → not b ≡ false → b ≡ true
not_false true h = refl
not_false false h = sym h

-- an item with brackets, by the number in them
pub section_item : (item front rest : List ℕ) (read : Result (PartSection × Bool) ItemFault) (number : NumberParts) → (front, rest) ≡ span (λ octet. not (octet == 91)) item → 1 ≤ length rest
    → part_number (take (length rest - 1) (drop 1 rest)) ≡ Ok number → IsOfNumber (front ++ 91 ∷ []) number read → IsSectionItem item read
section_item item front [] read number e l n h = absurd (omega arith)
section_item item front (b ∷ rest) read number e l n h =
    let stop : b ≡ 91 = eqb-true b 91 (not_false (eqb b 91) (span_head (λ octet. not (octet == 91)) item b rest (sym (ap (λ (y : List ℕ × List ℕ). y.1) e)))) in
    let whole : take (length (b ∷ rest) - 1) rest ≡ rest = take_all (length (b ∷ rest) - 1) rest (omega arith) in
    let is : part_number rest ≡ Ok number = sym (ap part_number whole) ∙ n in
    subst (λ (y : List ℕ × List ℕ). IsBracketed y.0 y.1 read) e
    (subst (λ m. IsNumbered (front ++ b ∷ []) m read) (sym is) (subst (λ (x : ℕ). IsOfNumber (front ++ x ∷ []) number read) (sym stop) h))
