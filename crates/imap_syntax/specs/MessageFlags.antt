-- Flags as they are written, and the set of flags that they name (RFC 9051, sections 2.3.2 and 9,
-- flag).

use Rattle.std.specs.Prelude.{codes, ◌≡◌, ◌⊎◌, ℕ, Bool, true, false, List, [], Option}
use Rattle.std.specs.List.{list_any}
use Rattle.std.specs.Option.{unwrap_or}
use Rattle.std.specs.Str.{bytes_eq}
use Rattle.imap_types.specs.Keywords.{AreKeywords, to_lower_case}
use Rattle.imap_types.specs.declared.flags.Flags.{Flags}
use Rattle.imap_syntax.specs.Languages.{◌⌢◌, exactly, sp, word, in_parens, listed, maybe_listed}
use Rattle.imap_syntax.specs.Languages.{optional}
use Rattle.imap_syntax.specs.Strings.{run}
use Rattle.imap_syntax.specs.Words.{system_word}
use Rattle.imap_syntax.specs.declared.octet_class.OctetClass.TheVariants.{Atom}
use Rattle.imap_syntax.specs.declared.flags.Flag.{Flag}
use Rattle.imap_syntax.specs.declared.flags.Flag.TheVariants.{System, Keyword}
use Rattle.imap_syntax.specs.declared.flags.SystemFlag.{SystemFlag}
use Rattle.imap_syntax.specs.declared.flags.SystemFlag.TheVariants.{Answered, Flagged, Deleted}
use Rattle.imap_syntax.specs.declared.flags.SystemFlag.TheVariants.{Seen, Draft}

-- A flag: `\` and the word of a system flag, or a keyword (RFC 9051, section 9, flag).
abbrev pub flag : Flag → List ℕ → Type 0
flag (System known) = exactly (codes "\\") ⌢ word (system_word known)
flag (Keyword keyword) = run Atom keyword

-- Whether a written flag is this system flag.
abbrev pub is_system : SystemFlag → Flag → Bool
is_system Answered (System Answered) = true
is_system Flagged (System Flagged) = true
is_system Deleted (System Deleted) = true
is_system Seen (System Seen) = true
is_system Draft (System Draft) = true
is_system _ _ = false

-- Whether a written flag is this keyword, in any letter case.
abbrev pub is_keyword : List ℕ → Flag → Bool
is_keyword word (System known) = false
is_keyword word (Keyword keyword) = bytes_eq word (to_lower_case keyword)

-- The set of the written flags: each system flag among them, and each keyword among them once, in
-- lower case (RFC 9051, section 2.3.2). There is exactly one such set.
pub record AreWritten (written : List Flag) (flags : Flags) : Type 0 where
  pub answered : flags.answered ≡ list_any (is_system Answered) written
  pub flagged : flags.flagged ≡ list_any (is_system Flagged) written
  pub deleted : flags.deleted ≡ list_any (is_system Deleted) written
  pub seen : flags.seen ≡ list_any (is_system Seen) written
  pub draft : flags.draft ≡ list_any (is_system Draft) written
  pub set : AreKeywords flags.keywords
  pub keywords : (word : List ℕ)
      → list_any (bytes_eq word) flags.keywords ≡ list_any (is_keyword word) written

-- Any number of flags between parentheses (RFC 9051, section 9, flag-list).
abbrev pub flag_group : List Flag → List ℕ → Type 0
flag_group written = in_parens (maybe_listed sp flag written)

-- The flags of STORE: a group, or one or more flags without parentheses (RFC 9051, section 9,
-- store-att-flags).
abbrev pub stored_texts : List Flag → List ℕ → Type 0
stored_texts written text = flag_group written text ⊎ listed sp flag written text

abbrev pub stored : Flags → List ℕ → Type 0
stored flags text = (written : List Flag) × stored_texts written text × AreWritten written flags

-- The flags of APPEND: a group after a space, or nothing if there are no flags (RFC 9051, section
-- 9, append).
abbrev pub append_flags : Flags → List ℕ → Type 0
append_flags flags text =
    (given : Option (List Flag))
    × optional flag_group given text
    × AreWritten (unwrap_or given []) flags
