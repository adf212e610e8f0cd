-- Limits of one operation: keywords and versions of a message. The bounds are this project's own.

use Rattle.std.specs.Prelude.{nat_lt, Bool, false, List, length, Result, Ok, Err, if◌then◌else◌}
use Rattle.std.specs.List.{list_any}
use Rattle.crdt_ops.specs.declared.kind.Kind.{Kind}
use Rattle.crdt_ops.specs.declared.kind.Kind.TheVariants.{Create, Delete, Append, Expunge, Store}
use Rattle.crdt_ops.specs.declared.kind.Kind.TheVariants.{Subscribe, Unsubscribe}
use Rattle.imap_answers.specs.declared.fixed_words.Refusal.{Refusal}
use Rattle.imap_answers.specs.declared.fixed_words.Refusal.TheVariants.{TooManyKeywords}
use Rattle.imap_answers.specs.declared.fixed_words.Refusal.TheVariants.{TooManyVersions}

-- Whether an operation gives a message more than 32 keywords, which no operation may. A message's
-- versions together may have more.
abbrev pub has_many_keywords : Kind → Bool
has_many_keywords (Create folder) = false
has_many_keywords (Delete folder seen) = false
has_many_keywords (Append folder flags date text) = nat_lt 32 (length flags.keywords)
has_many_keywords (Expunge folder old_ids) = false
has_many_keywords (Store folder flags old_ids origin) = nat_lt 32 (length flags.keywords)
has_many_keywords (Subscribe name) = false
has_many_keywords (Unsubscribe name seen) = false

-- Whether an operation names more than 64 versions of a message, which no operation may. A message
-- may have more.
abbrev pub has_many_versions : Kind → Bool
has_many_versions (Create folder) = false
has_many_versions (Delete folder seen) = false
has_many_versions (Append folder flags date text) = false
has_many_versions (Expunge folder old_ids) = nat_lt 64 (length old_ids)
has_many_versions (Store folder flags old_ids origin) = nat_lt 64 (length old_ids)
has_many_versions (Subscribe name) = false
has_many_versions (Unsubscribe name seen) = false

-- The intent of a command that changes messages: all these operations, unless one gives too many
-- keywords or, otherwise, one names too many versions.
abbrev pub within_limits : List Kind → Result (List Kind) Refusal
within_limits kinds =
    if list_any has_many_keywords kinds then Err TooManyKeywords
    else (if list_any has_many_versions kinds then Err TooManyVersions
    else Ok kinds)
