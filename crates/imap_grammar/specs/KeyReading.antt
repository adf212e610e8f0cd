-- The parser's steps for SEARCH, as functions with the same results as the code. `search_keys` of
-- `imap_syntax` says which text means which keys (RFC 9051, section 6.4.4).

use Rattle.std.specs.Prelude.{ℕ, zero, suc, Bool, ◌||◌, ◌==◌, List, [], ◌∷◌, ◌++◌, codes, length}
use Rattle.std.specs.Prelude.{Option, Some, None, if◌then◌else◌}
use Rattle.std.specs.Str.{bytes_eq}
use Rattle.imap_types.specs.Keywords.{to_lower_case}
use Rattle.imap_syntax.specs.KeyWords.{key_word, key_words, option_word, search_options}
use Rattle.imap_grammar.specs.Reading.{◌>>=◌, after, before, both, date_at, listed_at, map_read}
use Rattle.imap_grammar.specs.Reading.{named_at, next_at, number_at, parens_at, run_at, set_at}
use Rattle.imap_grammar.specs.Reading.{spaced, span, text_at}
use Rattle.imap_syntax.specs.Strings.{is_in}
use Rattle.imap_syntax.specs.declared.octet_class.OctetClass.TheVariants.{Astring, Atom, Digit}
use Rattle.imap_syntax.specs.declared.octet_class.OctetClass.TheVariants.{Item}
use Rattle.imap_syntax.specs.declared.command.Command.{Command}
use Rattle.imap_syntax.specs.declared.command.Command.TheVariants as commands
use Rattle.imap_syntax.specs.declared.search.SearchKeyWord.{SearchKeyWord}
use Rattle.imap_syntax.specs.declared.search.SearchKeyWord.TheVariants as key
use Rattle.imap_syntax.specs.declared.search.SearchOption.{SearchOption}
use Rattle.imap_syntax.specs.declared.search.SearchStep.{SearchStep}
use Rattle.imap_syntax.specs.declared.search.SearchStep.TheVariants.{Test, Not, Or, And}
use Rattle.imap_syntax.specs.declared.search.SearchTest.{SearchTest}
use Rattle.imap_syntax.specs.declared.search.SearchTest.TheVariants as tests

-- The test of a key that contains no other key, after its word.
abbrev pub leaf_at : SearchKeyWord → List ℕ → Option (SearchTest × List ℕ)
leaf_at key.All octets = Some (tests.All, octets)
leaf_at (key.System flag is_set) octets = Some (tests.System flag is_set, octets)
leaf_at (key.Keyword is_set) octets =
    map_read (λ keyword. tests.Keyword keyword is_set) (spaced (run_at Atom)) octets
leaf_at (key.Place place) octets = map_read (tests.Holds place) (spaced (text_at Astring)) octets
leaf_at key.Header octets =
    map_read (λ parts. tests.Header parts.0 parts.1)
    (spaced (both (text_at Astring) (spaced (text_at Astring)))) octets
leaf_at (key.Dated order) octets = map_read (tests.Dated order) (spaced date_at) octets
leaf_at key.Larger octets = map_read tests.Larger (spaced (number_at 9223372036854775807)) octets
leaf_at key.Smaller octets = map_read tests.Smaller (spaced (number_at 9223372036854775807)) octets
leaf_at key.ModSeq octets = map_read tests.ModSeq (spaced (number_at 9223372036854775807)) octets
leaf_at key.Uid octets = map_read tests.Uids (spaced set_at) octets
leaf_at key.Not octets = None
leaf_at key.Or octets = None

-- The steps of a list of keys, extended by the next key if there is one.
abbrev pub or_more : (List SearchStep → List ℕ → Option (List SearchStep × List ℕ))
    → List SearchStep → List ℕ → Option (List SearchStep × List ℕ)
    → Option (List SearchStep × List ℕ)
or_more more steps octets None = Some (steps, octets)
or_more more steps octets (Some x) = more (steps ++ x.0 ++ And ∷ []) x.1

-- The steps of a list of keys, extended by at most n further keys.
abbrev pub more_keys_at : ℕ → (List ℕ → Option (List SearchStep × List ℕ)) → List SearchStep
    → List ℕ → Option (List SearchStep × List ℕ)
more_keys_at zero inner steps octets = Some (steps, octets)
more_keys_at (suc n) inner steps octets =
    next_at 32 inner octets >>= λ next. or_more (more_keys_at n inner) steps octets next

-- One or more keys separated by spaces, joined by AND.
abbrev pub keys_at : (List ℕ → Option (List SearchStep × List ℕ)) → List ℕ
    → Option (List SearchStep × List ℕ)
keys_at inner octets = inner octets >>= λ first. more_keys_at (length octets) inner first.0 first.1

-- The steps of a key, after its word.
abbrev pub worded_at : (List ℕ → Option (List SearchStep × List ℕ)) → SearchKeyWord → List ℕ
    → Option (List SearchStep × List ℕ)
worded_at inner key.Not octets = map_read (λ steps. steps ++ Not ∷ []) (spaced inner) octets
worded_at inner key.Or octets =
    map_read (λ parts. parts.0 ++ parts.1 ++ Or ∷ []) (spaced (both inner (spaced inner))) octets
worded_at inner other octets = map_read (λ test. Test test ∷ []) (leaf_at other) octets

-- A sequence set as a key.
abbrev pub numbers_at : List ℕ → Option (List SearchStep × List ℕ)
numbers_at = map_read (λ numbers. Test (tests.Numbers numbers) ∷ []) set_at

-- A key whose inner keys are read by `inner`.
abbrev pub level_at : (List ℕ → Option (List SearchStep × List ℕ)) → List ℕ
    → Option (List SearchStep × List ℕ)
level_at inner [] = None
level_at inner (octet ∷ octets) =
    if octet == 40 then before (keys_at inner) (after (41 ∷ [])) octets
    else (if is_in Digit octet || (octet == 42) then numbers_at (octet ∷ octets)
    else
    (named_at key_word key_words (octet ∷ octets) >>= λ parsed. worded_at inner parsed.0 parsed.1))

-- A key that nests at most this number of levels, itself included.
unfoldable pub below_at : ℕ → List ℕ → Option (List SearchStep × List ℕ)
below_at zero octets = None
below_at (suc levels) octets = level_at (below_at levels) octets

-- ---- The command.

-- Zero or more return options up to the closing parenthesis.
abbrev pub maybe_options_at : List ℕ → Option (List SearchOption × List ℕ)
maybe_options_at [] = None
maybe_options_at (octet ∷ octets) =
    if octet == 41 then Some ([], octet ∷ octets)
    else listed_at 32 (named_at option_word search_options) (octet ∷ octets)

-- The return options in parentheses, and a space.
abbrev pub returned_group_at : List ℕ → Option (List SearchOption × List ℕ)
returned_group_at = before (spaced (parens_at maybe_options_at)) (after (32 ∷ []))

-- RETURN with its options and a space, or nothing.
abbrev pub returned_at : List ℕ → Option (List SearchOption × List ℕ)
returned_at octets =
    if bytes_eq (to_lower_case (span (is_in Item) octets).0) (to_lower_case (codes "RETURN"))
    then returned_group_at (span (is_in Item) octets).1
    else Some ([], octets)

-- Whether a charset is supported.
abbrev pub is_charset : List ℕ → Bool
is_charset name =
    bytes_eq (to_lower_case name) (to_lower_case (codes "UTF-8"))
    || bytes_eq (to_lower_case name) (to_lower_case (codes "US-ASCII"))

-- The octets after a supported charset's name and a space.
abbrev pub charset_name_at : List ℕ → Option (List ℕ)
charset_name_at octets =
    spaced (text_at Astring) octets
    >>= λ name. if is_charset name.0 then after (32 ∷ []) name.1 else None

-- The octets after CHARSET, its name and a space, or all octets if they don't begin with CHARSET.
abbrev pub charset_at : List ℕ → Option (List ℕ)
charset_at octets =
    if bytes_eq (to_lower_case (span (is_in Item) octets).0) (to_lower_case (codes "CHARSET"))
    then charset_name_at (span (is_in Item) octets).1
    else Some octets

-- SEARCH: return options, a charset and keys; the charset isn't stored.
abbrev pub search_parts_at : List ℕ → Option ((List SearchOption × List SearchStep) × List ℕ)
search_parts_at = spaced (both returned_at (λ octets. charset_at octets >>= keys_at (below_at 65)))

abbrev pub search_of : Bool → List SearchOption × List SearchStep → Command
search_of by_uid parts =
    commands.Search (record { by_uid = by_uid; options = parts.0; steps = parts.1 })

abbrev pub search_at : Bool → List ℕ → Option (Command × List ℕ)
search_at by_uid = map_read (search_of by_uid) search_parts_at
