-- The arguments of SEARCH (RFC 9051, section 9, search-program; RFC 7162, section 7).

use Rattle.std.specs.Prelude.{◌≡◌, ◌⊎◌, ℕ, zero, suc, List, [], ◌∷◌, ◌++◌, codes}
use Rattle.imap_syntax.specs.Dates.{date}
use Rattle.imap_syntax.specs.KeyWords.{key_word, option_word}
use Rattle.imap_syntax.specs.Languages.{◌⌢◌, nothing, never, sp, word, in_parens, listed}
use Rattle.imap_syntax.specs.Languages.{maybe_listed}
use Rattle.imap_syntax.specs.Sets.{sequence_set}
use Rattle.imap_syntax.specs.Strings.{run, astring, number_to}
use Rattle.imap_syntax.specs.declared.octet_class.OctetClass.TheVariants.{Atom}
use Rattle.imap_syntax.specs.declared.search.SearchKeyWord.TheVariants as key
use Rattle.imap_syntax.specs.declared.search.SearchOption.{SearchOption}
use Rattle.imap_syntax.specs.declared.search.SearchStep.{SearchStep}
use Rattle.imap_syntax.specs.declared.search.SearchStep.TheVariants.{Test, Not, Or, And}
use Rattle.imap_syntax.specs.declared.search.SearchTest.{SearchTest}
use Rattle.imap_syntax.specs.declared.search.SearchTest.TheVariants as tests

-- The greatest number of octets and the greatest mod-sequence: 2^63 - 1.
abbrev pub greatest : ℕ
greatest = 9223372036854775807

-- A key that is a single test (RFC 9051, section 9, search-key; RFC 7162, section 7, for MODSEQ).
abbrev pub test : SearchTest → List ℕ → Type 0
test tests.All = word (key_word key.All)
test (tests.System flag is_set) = word (key_word (key.System flag is_set))
test (tests.Keyword keyword is_set) = word (key_word (key.Keyword is_set)) ⌢ sp ⌢ run Atom keyword
test (tests.Holds place text) = word (key_word (key.Place place)) ⌢ sp ⌢ astring text
test (tests.Header name text) = word (key_word key.Header) ⌢ sp ⌢ astring name ⌢ sp ⌢ astring text
test (tests.Dated order day) = word (key_word (key.Dated order)) ⌢ sp ⌢ date day
test (tests.Larger octets) = word (key_word key.Larger) ⌢ sp ⌢ number_to greatest octets
test (tests.Smaller octets) = word (key_word key.Smaller) ⌢ sp ⌢ number_to greatest octets
test (tests.ModSeq value) = word (key_word key.ModSeq) ⌢ sp ⌢ number_to greatest value
test (tests.Uids uids) = word (key_word key.Uid) ⌢ sp ⌢ sequence_set uids
test (tests.Numbers numbers) = sequence_set numbers

-- The steps of several keys, which must all match: those of each key, with an And after each but
-- the first.
abbrev pub and_all : List SearchStep → List (List SearchStep) → List SearchStep
and_all steps [] = steps
and_all steps (key ∷ keys) = and_all (steps ++ key ++ And ∷ []) keys

abbrev pub all_of : List (List SearchStep) → List SearchStep
all_of [] = []
all_of (key ∷ keys) = and_all key keys

-- A key over the language of the keys inside it, with its steps: a test, NOT, OR, or keys between
-- parentheses.
abbrev pub key_over : (List SearchStep → List ℕ → Type 0) → List SearchStep → List ℕ → Type 0
key_over inner steps text =
    ((this : SearchTest) × test this text × (Test this ∷ [] ≡ steps))
    ⊎ (((operand : List SearchStep) × (word (key_word key.Not) ⌢ sp ⌢ inner operand) text
    × (operand ++ Not ∷ [] ≡ steps))
    ⊎ (((this that : List SearchStep)
    × (word (key_word key.Or) ⌢ sp ⌢ inner this ⌢ sp ⌢ inner that) text
    × (this ++ that ++ Or ∷ [] ≡ steps))
    ⊎ ((keys : List (List SearchStep)) × in_parens (listed sp inner keys) text
    × (all_of keys ≡ steps))))

-- A key with at most `levels` levels of NOT, OR and parentheses.
unfoldable pub key_within : ℕ → List SearchStep → List ℕ → Type 0
key_within zero = key_over (λ steps. never)
key_within (suc levels) = key_over (key_within levels)

-- One or more keys, each with at most 64 levels.
abbrev pub search_keys : List SearchStep → List ℕ → Type 0
search_keys steps text =
    (keys : List (List SearchStep)) × listed sp (key_within 64) keys text × (all_of keys ≡ steps)

-- RETURN with its options and a space; without options, nothing (RFC 9051, section 9,
-- search-return-opts).
abbrev pub search_option : SearchOption → List ℕ → Type 0
search_option this = word (option_word this)

abbrev pub return_options : List SearchOption → List ℕ → Type 0
return_options these text =
    (nothing text × ([] ≡ these))
    ⊎ (word (codes "RETURN") ⌢ sp ⌢ in_parens (maybe_listed sp search_option these) ⌢ sp) text

-- CHARSET with UTF-8 or US-ASCII and a space, or nothing (RFC 9051, section 9, search-program).
abbrev pub charset : List ℕ → Type 0
charset text =
    nothing text
    ⊎ ((name : List ℕ) × (word (codes "CHARSET") ⌢ sp ⌢ astring name ⌢ sp) text
    × (word (codes "UTF-8") name ⊎ word (codes "US-ASCII") name))
