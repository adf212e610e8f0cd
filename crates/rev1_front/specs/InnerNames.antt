-- The names in commands of IMAP4rev1 clients (RFC 3501, sections 5.1.3 and 9, mailbox).

use Rattle.std.specs.Prelude.{◌≡◌, ◌⊎◌, ℕ, List, Option, Some, None, option_map}
use Rattle.imap_syntax.specs.declared.arguments.ListNames.{ListNames}
use Rattle.imap_syntax.specs.declared.command.Command.{Command}
use Rattle.imap_syntax.specs.declared.command.Command.TheVariants as commands
use Rattle.rev1_front.specs.Names.{IsInner}

-- A command whose one name is `name`, rebuilt with the name that this is in the profile; none if
-- it is no modified UTF-7.
abbrev pub HasInnerName : List ℕ → (List ℕ → Command) → Option Command → Type 0
HasInnerName name with_name inner =
    (decoded : Option (List ℕ)) × IsInner name decoded × (inner ≡ option_map with_name decoded)

-- LIST with its reference and its pattern as the profile has them; none if one of them is no
-- modified UTF-7.
abbrev pub IsInnerList : ListNames → Option Command → Type 0
IsInnerList asked (Some inner) =
    (reference pattern : List ℕ)
    × IsInner asked.reference (Some reference)
    × IsInner asked.pattern (Some pattern)
    × (inner ≡ commands.ListNames (record asked { reference = reference; pattern = pattern }))
IsInnerList asked None = IsInner asked.reference None ⊎ IsInner asked.pattern None

-- A command with its names as the profile has them; none if one of them is no modified UTF-7. A
-- reference and a pattern are read each for itself.
abbrev pub HasInnerNames : Command → Option Command → Type 0
HasInnerNames (commands.Select name condstore) inner =
    HasInnerName name (λ n. commands.Select n condstore) inner
HasInnerNames (commands.Examine name condstore) inner =
    HasInnerName name (λ n. commands.Examine n condstore) inner
HasInnerNames (commands.Create name) inner = HasInnerName name commands.Create inner
HasInnerNames (commands.Delete name) inner = HasInnerName name commands.Delete inner
HasInnerNames (commands.Subscribe name) inner = HasInnerName name commands.Subscribe inner
HasInnerNames (commands.Unsubscribe name) inner = HasInnerName name commands.Unsubscribe inner
HasInnerNames (commands.Status name items) inner =
    HasInnerName name (λ n. commands.Status n items) inner
HasInnerNames (commands.Append asked) inner =
    HasInnerName asked.name (λ n. commands.Append (record asked { name = n })) inner
HasInnerNames (commands.Copy asked) inner =
    HasInnerName asked.name (λ n. commands.Copy (record asked { name = n })) inner
HasInnerNames (commands.Move asked) inner =
    HasInnerName asked.name (λ n. commands.Move (record asked { name = n })) inner
HasInnerNames (commands.ListNames asked) inner = IsInnerList asked inner
HasInnerNames command inner = inner ≡ Some command
