-- How many octets the lines of operations have at most.

use Rattle.std.specs.Prelude.{ℕ, ◌+◌, ◌*◌, List, length}
use Rattle.std.specs.List.{sum_by}
use Rattle.imap_types.specs.declared.flags.Flags.{Flags}
use Rattle.crdt_ops.specs.Tags.{name_of, removed_ids}
use Rattle.crdt_ops.specs.declared.kind.Kind.{Kind}
use Rattle.crdt_ops.specs.declared.kind.Kind.TheVariants.{Append, Store}
use Rattle.crdt_ops.specs.declared.op.Op.{Op}

-- The octets of a message's keywords in an operation's text, with the spaces between them, at most.
abbrev pub keywords_bound : Flags → ℕ
keywords_bound flags = sum_by (λ keyword. 1 + length keyword) flags.keywords

-- The octets of a message's keywords and text in an operation's text, at most: the escape takes at
-- most three octets for one.
abbrev pub content_bound : Kind → ℕ
content_bound (Append folder flags date text) = keywords_bound flags + 3 * length text
content_bound (Store folder flags old_ids origin) = keywords_bound flags
content_bound _ = 0

-- The octets of an operation's line, at most. An id, or an entry of a clock, has at most 16 and a
-- comma; a name's octets at most three each; all that has a fixed length has less than 128.
abbrev pub line_bound : Op → ℕ
line_bound op =
    128 + 17 * (length op.clock + length (removed_ids op.kind)) + 3 * length (name_of op.kind)
    + content_bound op.kind

-- The octets of the lines of operations, at most.
abbrev pub lines_bound : List Op → ℕ
lines_bound ops = sum_by line_bound ops
