-- The words of an address: phrases, local parts and domains (RFC 5322, sections 3.2.5, 3.4 and
-- 4.4).

use Rattle.std.specs.Prelude.{ℕ, ◌+◌, ◌-◌, Bool, true, false, not, ◌||◌, ◌==◌, List, [], ◌∷◌}
use Rattle.std.specs.Prelude.{◌++◌, codes, drop, length, take, if◌then◌else◌}
use Rattle.std.specs.List.{list_any}
use Rattle.std.specs.List.{prefix_len, suffix_len}
use Rattle.std.specs.Char.{is_ascii_whitespace}
use Rattle.mail_fields.specs.declared.address_words.Before.{Before}
use Rattle.mail_fields.specs.declared.address_words.Before.TheVariants.{Blanks, Nothing, Word}
use Rattle.mail_fields.specs.declared.elements.Element.{Element}
use Rattle.mail_fields.specs.declared.elements.Element.TheVariants.{Blank, Comment, Octet, Quoted}

-- Whether an element is one of these octets, outside quoted strings and comments.
abbrev pub is_among : List ℕ → Element → Bool
is_among sought Blank = false
is_among sought (Comment text) = false
is_among sought (Octet octet) = list_any (λ one. one == octet) sought
is_among sought (Quoted text) = false

-- The number of elements before the first of these octets, or of all.
abbrev pub count_before : List ℕ → List Element → ℕ
count_before sought [] = 0
count_before sought (element ∷ elements) =
    if is_among sought element then 0 else 1 + count_before sought elements

-- The elements before the first of these octets, and those after it.
abbrev pub before : List ℕ → List Element → List Element
before sought elements = take (count_before sought elements) elements

abbrev pub after : List ℕ → List Element → List Element
after sought elements = drop 1 (drop (count_before sought elements) elements)

-- What an element is in a text: blanks and comments are nothing.
abbrev pub octets_of : Element → List ℕ
octets_of Blank = []
octets_of (Comment text) = []
octets_of (Octet octet) = octet ∷ []
octets_of (Quoted text) = text

-- The text of elements without blanks and comments.
abbrev pub joined_text : List Element → List ℕ
joined_text [] = []
joined_text (element ∷ elements) = octets_of element ++ joined_text elements

-- What comes before a place, after blanks or a comment.
abbrev pub after_blank : Before → Before
after_blank Nothing = Nothing
after_blank Word = Blanks
after_blank Blanks = Blanks

-- A phrase: the text of elements, with a blank for the blanks and comments between two words (RFC
-- 5322, section 3.2.5). Words are those that aren't empty.
abbrev pub blank_after : Before → List ℕ
blank_after Nothing = []
blank_after Word = []
blank_after Blanks = 32 ∷ []

abbrev pub phrase_after : Before → List Element → List ℕ
phrase_after before [] = []
phrase_after before (Blank ∷ elements) = phrase_after (after_blank before) elements
phrase_after before (Comment text ∷ elements) = phrase_after (after_blank before) elements
phrase_after before (Octet octet ∷ elements) =
    blank_after before ++ octet ∷ phrase_after Word elements
phrase_after before (Quoted text ∷ elements) =
    if length text == 0 then phrase_after before elements
    else blank_after before ++ (text ++ phrase_after Word elements)

abbrev pub phrase_of : List Element → List ℕ
phrase_of elements = phrase_after Nothing elements

-- A run of words: no blanks are between them, or only blanks beside a dot (46), as section 4.4 of
-- RFC 5322 has them in local parts and domains. A dot counts as nothing before what follows it.
abbrev pub begins_run : Before → Element → Bool
begins_run Nothing element = false
begins_run Word element = false
begins_run Blanks Blank = false
begins_run Blanks (Comment text) = false
begins_run Blanks (Octet octet) = not (octet == 46)
begins_run Blanks (Quoted text) = true

abbrev pub after_element : Before → Element → Before
after_element before Blank = after_blank before
after_element before (Comment text) = after_blank before
after_element before (Octet octet) = if octet == 46 then Nothing else Word
after_element before (Quoted text) = Word

-- The place at which the last run of elements begins, the first element having place `place`, if
-- the last run before them begins at `latest`.
abbrev pub run_start_from : ℕ → ℕ → Before → List Element → ℕ
run_start_from place latest before [] = latest
run_start_from place latest before (element ∷ elements) =
    run_start_from (place + 1) (if begins_run before element then place else latest)
    (after_element before element) elements

abbrev pub run_start : List Element → ℕ
run_start elements = run_start_from 0 0 Nothing elements

-- A domain: the first run, up to a quoted string or an octet that is in no domain.
abbrev pub domain_ends : List ℕ
domain_ends = codes "<>,;@)"

abbrev pub ends_domain : Element → Bool
ends_domain Blank = false
ends_domain (Comment text) = false
ends_domain (Octet octet) = list_any (λ one. one == octet) domain_ends
ends_domain (Quoted text) = true

abbrev pub domain_after : Before → List Element → List ℕ
domain_after before [] = []
domain_after before (element ∷ elements) =
    if begins_run before element || ends_domain element then []
    else octets_of element ++ domain_after (after_element before element) elements

abbrev pub domain_of : List Element → List ℕ
domain_of elements = domain_after Nothing elements

-- A text without white space at its ends.
abbrev pub trim_start : List ℕ → List ℕ
trim_start text = drop (prefix_len is_ascii_whitespace text) text

abbrev pub trim_end : List ℕ → List ℕ
trim_end text = take (length text - suffix_len is_ascii_whitespace text) text

abbrev pub trimmed : List ℕ → List ℕ
trimmed text = trim_end (trim_start text)

-- The last comment after all words, without white space at its ends; an empty text if there is
-- none. `latest` is the one before these elements.
abbrev pub comment_after : List ℕ → List Element → List ℕ
comment_after latest [] = latest
comment_after latest (Blank ∷ elements) = comment_after latest elements
comment_after latest (Comment text ∷ elements) = comment_after (trimmed text) elements
comment_after latest (Octet octet ∷ elements) = comment_after [] elements
comment_after latest (Quoted text ∷ elements) = comment_after [] elements

abbrev pub comment_of : List Element → List ℕ
comment_of elements = comment_after [] elements
