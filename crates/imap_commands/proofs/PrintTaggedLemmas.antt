use Rattle.std.proofs.Common.{◌≡◌, ap, sym, subst, refl, arith, ℕ, ◌≤◌, ◌<◌, inl, inr, Bool, true, not, ◌&&◌, List, [], ◌∷◌, ◌++◌, ◌==◌, ◌||◌, length, length-append, Option, Some, None, codes}
use Rattle.std.specs.List.{list_all}
use Rattle.std.proofs.Math.Dec.{eqb-suc-zero}
use Rattle.std.proofs.lemmas.Bool.{cases_Bool}
use Rattle.imap_answers.specs.Printable.{AreFieldNames, Each, IsFolded, IsSection, IsSmall, IsTag, IsWide, IfPresent}
use Rattle.imap_syntax.specs.Commands.{IsSpelled, arguments, status_item}
use Rattle.imap_syntax.specs.Items.{fast_items, fetch_item, fetched, field_names, partial, section}
use Rattle.imap_syntax.specs.Languages.{each_after, in_parens, listed, sp}
use Rattle.imap_syntax.specs.Strings.{astring, quoted_escape, literal, mailbox, run, text_of}
use Rattle.imap_syntax.specs.declared.octet_class.OctetClass.{OctetClass}
use Rattle.imap_syntax.specs.declared.octet_class.OctetClass.TheVariants as classes
use Rattle.imap_syntax.specs.declared.command.Command.{Command}
use Rattle.imap_syntax.specs.declared.command.Command.TheVariants as commands
use Rattle.imap_syntax.specs.declared.command.Tagged.{Tagged}
use Rattle.imap_syntax.specs.declared.fetch.FetchItem.{FetchItem}
use Rattle.imap_syntax.specs.declared.fetch.FetchItem.TheVariants as item
use Rattle.imap_syntax.specs.declared.fetch.Partial.{Partial}
use Rattle.imap_types.specs.Keywords.{is_tag_octet}
use Rattle.imap_types.specs.declared.section.Section.{Section}
use Rattle.imap_types.specs.declared.section.Section.TheVariants as sections
use Rattle.imap_commands.specs.Printing.{AreAnswerableItems, IsAnswerable, IsAnswerableItem}
use Rattle.imap_commands.proofs.PrintReportLemmas.{folded_fold_inbox}

-- ---- parts of a text

front_wide : (text front back : List ℕ) → text ≡ front ++ back → IsWide (length text) → IsWide (length front)
front_wide text front back e w = let l = ap length e in let a = length-append front back in omega (arith, w, l, a)

back_wide : (text front back : List ℕ) → text ≡ front ++ back → IsWide (length text) → IsWide (length back)
back_wide text front back e w = let l = ap length e in let a = length-append front back in omega (arith, w, l, a)

-- ---- tags and names

pub tag_is : (tag text : List ℕ) → run classes.Tag tag text → IsTag tag
tag_is [] text h = absurd (h.0 refl)
tag_is (octet ∷ octets) text h = subst (λ (b : Bool). (not b && list_all is_tag_octet (octet ∷ octets)) ≡ true) (sym (eqb-suc-zero (length octets))) h.1

name_folded : (name text : List ℕ) → mailbox name text → IsFolded name
name_folded name text h = subst IsFolded h.2 (folded_fold_inbox h.0)

escaped_longer : (octets : List ℕ) → length octets ≤ length (quoted_escape octets)
escaped_longer [] = omega arith
escaped_longer (octet ∷ octets) =
    let more = escaped_longer octets in
    elim (cases_Bool ((octet == 34) || (octet == 92))) [
      | inl t ↦ rw t (omega (arith, more))
      | inr f ↦ rw f (omega (arith, more))
    ]

-- a string is no longer than its text
string_short : (class : OctetClass) (value text : List ℕ) → text_of class value text → length value ≤ length text
string_short class value text h =
    elim h [
      | inl own ↦ let l = ap length own.2 in omega (arith, l)
      | inr more ↦ elim more [
        | inl quote ↦
            let l = ap length quote.1 in
            let a = length-append (codes "\"") (quoted_escape value ++ codes "\"") in
            let b = length-append (quoted_escape value) (codes "\"") in
            let e = escaped_longer value in
            omega (arith, l, a, b, e)
        | inr lit ↦ literal_short value text lit
      ]
    ]
  where
    literal_short : (value text : List ℕ) → literal value text → length value ≤ length text
    literal_short value text h =
        let a = ap length h.4 in
        let b = length-append h.0 h.1 in
        let c = ap length h.3.4 in
        let d = length-append h.3.0 h.3.1 in
        let e = ap length h.3.3.4 in
        let f = length-append h.3.3.0 h.3.3.1 in
        let g = ap length h.3.3.3.4 in
        let i = length-append h.3.3.3.0 h.3.3.3.1 in
        let j = ap length h.3.3.3.3 in
        omega (arith, a, b, c, d, e, f, g, i, j)

-- ---- lists

name_wide : (name text : List ℕ) → astring name text → IsWide (length text) → IsWide (length name)
name_wide name text h w = let s = string_short classes.Astring name text h in omega (arith, s, w)

names_after : (names : List (List ℕ)) (text : List ℕ) → each_after sp astring names text → IsWide (length text) → Each (λ name. IsWide (length name)) names
names_after [] text h w = tt
names_after (name ∷ names) text h w =
    let a = back_wide text h.0 h.1 h.4 w in
    (name_wide name h.3.0 h.3.2 (front_wide h.1 h.3.0 h.3.1 h.3.4 a), names_after names h.3.1 h.3.3 (back_wide h.1 h.3.0 h.3.1 h.3.4 a))

names_listed : (names : List (List ℕ)) (text : List ℕ) → listed sp astring names text → IsWide (length text) → AreFieldNames names
names_listed [] text h w = absurd h
names_listed (name ∷ names) text h w = (omega arith, (name_wide name h.0 h.2 (front_wide text h.0 h.1 h.4 w), names_after names h.1 h.3 (back_wide text h.0 h.1 h.4 w)))

-- the width of the text between parentheses
inner_wide : (P : List ℕ → Type 0) (text : List ℕ) (h : in_parens P text) → IsWide (length text) → IsWide (length h.3.0)
inner_wide P text h w = front_wide h.1 h.3.0 h.3.1 h.3.4 (back_wide text h.0 h.1 h.4 w)

fields_named : (names : List (List ℕ)) (text : List ℕ) → field_names names text → IsWide (length text) → AreFieldNames names
fields_named names text h w = names_listed names h.3.3.0 h.3.3.2 (inner_wide (listed sp astring names) h.1 h.3 (back_wide text h.0 h.1 h.4 w))

section_is : (this : Section) (text : List ℕ) → section this text → IsWide (length text) → IsSection this
section_is sections.Whole text h w = tt
section_is sections.Header text h w = tt
section_is sections.Text text h w = tt
section_is (sections.Fields names) text h w = fields_named names h.1 h.3 (back_wide text h.0 h.1 h.4 w)
section_is (sections.FieldsNot names) text h w = fields_named names h.1 h.3 (back_wide text h.0 h.1 h.4 w)

partial_is : (this : Option Partial) (text : List ℕ) → partial this text → IfPresent (λ (cut : Partial). IsSmall cut.start) this
partial_is None text h = tt
partial_is (Some this) text h = let l = h.3.2.1 in omega (arith, l)

-- ---- items

item_is : (one : FetchItem) (text : List ℕ) → fetch_item one text → IsWide (length text) → IsAnswerableItem one
item_is item.Uid text h w = tt
item_is item.Flags text h w = tt
item_is item.InternalDate text h w = tt
item_is item.Size text h w = tt
item_is item.ModSeq text h w = tt
item_is (item.Body peek this range) text h w =
    let tail = h.3 in
    let a = back_wide text h.0 h.1 h.4 w in
    let b = front_wide h.1 tail.0 tail.1 tail.4 a in
    let inner = tail.2 in
    let c = back_wide tail.0 inner.0 inner.1 inner.4 b in
    (section_is this inner.3.0 inner.3.2 (front_wide inner.1 inner.3.0 inner.3.1 inner.3.4 c), partial_is range tail.1 tail.3)

items_after : (items : List FetchItem) (text : List ℕ) → each_after sp fetch_item items text → IsWide (length text) → Each IsAnswerableItem items
items_after [] text h w = tt
items_after (one ∷ items) text h w =
    let a = back_wide text h.0 h.1 h.4 w in
    (item_is one h.3.0 h.3.2 (front_wide h.1 h.3.0 h.3.1 h.3.4 a), items_after items h.3.1 h.3.3 (back_wide h.1 h.3.0 h.3.1 h.3.4 a))

items_listed : (items : List FetchItem) (text : List ℕ) → listed sp fetch_item items text → IsWide (length text) → AreAnswerableItems items
items_listed [] text h w = absurd h
items_listed (one ∷ items) text h w =
    record { some = omega arith; each = (item_is one h.0 h.2 (front_wide text h.0 h.1 h.4 w), items_after items h.1 h.3 (back_wide text h.0 h.1 h.4 w)) }

fast : AreAnswerableItems fast_items
fast = record { some = omega arith; each = (tt, (tt, (tt, tt))) }

items_are : (items : List FetchItem) (text : List ℕ) → fetched items text → IsWide (length text) → AreAnswerableItems items
items_are items text h w =
    elim h [
      | inl several ↦ items_listed items several.3.0 several.3.2 (inner_wide (listed sp fetch_item items) text several w)
      | inr other ↦ elim other [
        | inl quick ↦ subst AreAnswerableItems quick.1 fast
        | inr one ↦ subst AreAnswerableItems one.2 (record { some = omega arith; each = (item_is one.0 text one.1 w, tt) })
      ]
    ]

asked_some : {X : Type 0} (separator : List ℕ → Type 0) (form : X → List ℕ → Type 0) (xs : List X) (text : List ℕ) → listed separator form xs text → 0 < length xs
asked_some separator form [] text h = absurd h
asked_some separator form (x ∷ xs) text h = omega arith

-- ---- commands

answerable : (command : Command) (text : List ℕ) → arguments command text → IsWide (length text) → IsAnswerable command
answerable (commands.Select name condstore) text h w = name_folded name h.3.0 h.3.2
answerable (commands.Examine name condstore) text h w = name_folded name h.3.0 h.3.2
answerable (commands.Status name items) text h w = (name_folded name h.3.0 h.3.2, asked_some sp status_item items h.3.3.3.3.0 h.3.3.3.3.2)
answerable (commands.Search request) text h w = tt
answerable (commands.Fetch request) text h w =
    let a = back_wide text h.0 h.1 h.4 w in
    let b = back_wide h.1 h.3.0 h.3.1 h.3.4 a in
    let c = back_wide h.3.1 h.3.3.0 h.3.3.1 h.3.3.4 b in
    let d = back_wide h.3.3.1 h.3.3.3.0 h.3.3.3.1 h.3.3.3.4 c in
    items_are request.items h.3.3.3.3.0 h.3.3.3.3.2 (front_wide h.3.3.3.1 h.3.3.3.3.0 h.3.3.3.3.1 h.3.3.3.3.4 d)
answerable _ text h w = tt

pub spelled_answerable : (tagged : Tagged) (octets : List ℕ) → IsSpelled tagged octets → IsWide (length octets) → IsTag tagged.tag × IsAnswerable tagged.command
spelled_answerable tagged octets s w =
    let a = back_wide octets s.0 s.1 s.4 w in
    let b = back_wide s.1 s.3.0 s.3.1 s.3.4 a in
    let c = front_wide s.3.1 s.3.3.0 s.3.3.1 s.3.3.4 b in
    let whole = s.3.3.2 in
    (tag_is tagged.tag s.0 s.2, answerable tagged.command whole.1 whole.3 (back_wide s.3.3.0 whole.0 whole.1 whole.4 c))
