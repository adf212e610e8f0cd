-- A message's flags after STORE (RFC 9051, section 6.4.6).

use Rattle.std.specs.Prelude.{ℕ, not, ◌&&◌, List}
use Rattle.std.specs.List.{filter}
use Rattle.imap_syntax.specs.declared.store.StoreMode.{StoreMode}
use Rattle.imap_syntax.specs.declared.store.StoreMode.TheVariants.{Replace, Add, Remove}
use Rattle.imap_types.specs.Keywords.{has_keyword}
use Rattle.imap_types.specs.declared.flags.Flags.{Flags}
use Rattle.imap_types.specs.Unions.{with_flags}

-- These keywords without the given ones.
abbrev pub remaining_keywords : List (List ℕ) → List (List ℕ) → List (List ℕ)
remaining_keywords given keywords = filter (λ keyword. not (has_keyword keyword given)) keywords

-- The old flags without the given ones.
abbrev pub removed_flags : Flags → Flags → Flags
removed_flags old given = record {
  answered = old.answered && not given.answered;
  flagged = old.flagged && not given.flagged;
  deleted = old.deleted && not given.deleted;
  seen = old.seen && not given.seen;
  draft = old.draft && not given.draft;
  keywords = remaining_keywords given.keywords old.keywords;
}

-- A message's flags after STORE, from its old flags and those given (RFC 9051, section 6.4.6). The
-- laws `added_flags_are_the_union` and `removed_flags_are_the_difference` say which flags these
-- are, each keyword once.
unfoldable pub changed_flags : StoreMode → Flags → Flags → Flags
changed_flags Replace old given = given
changed_flags Add old given = with_flags old given
changed_flags Remove old given = removed_flags old given
