-- The union of flags (RFC 9051, section 2.3.2).

use Rattle.std.specs.Prelude.{◌≡◌, List, ℕ}
use Rattle.std.specs.List.{list_any}
use Rattle.imap_types.specs.Ascending.{AreAscending}
use Rattle.imap_types.specs.declared.flags.Flags.{Flags}
use Rattle.imap_types.specs.Members.{has_word}

-- Flags are the union of these parts (RFC 9051, section 2.3.2): they have each system flag that a
-- part has, and no other; a word is one of their keywords, by octets, exactly when it is a keyword
-- of a part; and their keywords ascend, so that they are distinct.
pub record IsUnion (parts : List Flags) (union : Flags) : Type 0 where
  pub answered : union.answered ≡ list_any (λ f. f.answered) parts
  pub flagged : union.flagged ≡ list_any (λ f. f.flagged) parts
  pub deleted : union.deleted ≡ list_any (λ f. f.deleted) parts
  pub seen : union.seen ≡ list_any (λ f. f.seen) parts
  pub draft : union.draft ≡ list_any (λ f. f.draft) parts
  pub words : (word : List ℕ)
      → has_word union.keywords word ≡ list_any (λ f. has_word f.keywords word) parts
  pub ascending : AreAscending union.keywords
