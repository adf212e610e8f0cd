-- What the code that reads items of FETCH keeps.

use Rattle.std.specs.Prelude.{◌≡◌, ℕ, Bool, List, [], ◌∷◌, Option, Result, Ok, Err}
use Rattle.imap_types.specs.declared.section.Section.{Section}
use Rattle.imap_syntax.specs.declared.arguments.Fetch.{Fetch}
use Rattle.imap_syntax.specs.declared.command.Command.{Command}
use Rattle.imap_syntax.specs.declared.command.Command.TheVariants as commands
use Rattle.imap_syntax.specs.declared.fetch.FetchItem.{FetchItem}
use Rattle.imap_syntax.specs.declared.fetch.FetchItem.TheVariants as items
use Rattle.imap_syntax.specs.declared.fetch.Partial.{Partial}
use Rattle.imap_grammar.specs.declared.fault.ParseFault.{ParseFault}
use Rattle.imap_grammar.specs.declared.fault.ParseFault.TheVariants as parsed
use Rattle.rev1_fetch.specs.ReadItems.{Asked, IsProfileSection, IsSectionItem}
use Rattle.rev1_fetch.specs.declared.item_fault.ItemFault.{ItemFault}
use Rattle.rev1_fetch.specs.declared.item_fault.ItemFault.TheVariants.{NoMemory, PartZero, Unknown}
use Rattle.rev1_fetch.specs.declared.plan.ReadItems.{ReadItems}

-- What was asked for so far.
abbrev pub items_in : ReadItems → Asked
items_in read =
    record { plain = read.plain.items; items = read.items.items; sets_seen = read.sets_seen }

-- A section, its range and whether it leaves `\Seen`.
abbrev pub ReadSection : Type 0
ReadSection = Result (Section × Option Partial × Bool) ItemFault

-- A section of an item, or none; or memory runs out.
abbrev pub IsFound : (Section → Option Partial → Bool → Type 0) → ReadSection → Type 0
IsFound holds (Ok read) = holds read.0 read.1 read.2
IsFound holds (Err NoMemory) = Unit {0}
IsFound holds (Err PartZero) = ⊥
IsFound holds (Err Unknown) =
    (section : Section) (partial : Option Partial) (peek : Bool) → holds section partial peek → ⊥

-- The section of an item of the profile.
abbrev pub IsReadSection : List ℕ → ReadSection → Type 0
IsReadSection item read = IsFound (IsProfileSection item) read

-- The section that a command asks for, if it asks for one alone.
abbrev pub IsSectionOfCommand : Command → ReadSection → Type 0
IsSectionOfCommand command read = IsFound (λ section partial peek.
    (asked : Fetch) × (command ≡ commands.Fetch asked)
    × (asked.items ≡ items.Body peek section partial ∷ [])) read

abbrev pub IsSectionOfItems : List FetchItem → ReadSection → Type 0
IsSectionOfItems these read =
    IsFound (λ section partial peek. these ≡ items.Body peek section partial ∷ []) read

abbrev pub IsSectionOfItem : FetchItem → ReadSection → Type 0
IsSectionOfItem item read =
    IsFound (λ section partial peek. item ≡ items.Body peek section partial) read

-- Why a section isn't read.
abbrev pub IsUnreadSection : List ℕ → ItemFault → Type 0
IsUnreadSection item NoMemory = Unit {0}
IsUnreadSection item fault = IsSectionItem item (Err fault)

-- What a fault of the profile's grammar says of an item.
abbrev pub item_fault : ParseFault → ItemFault
item_fault parsed.NoMemory = NoMemory
item_fault parsed.BadSyntax = Unknown
item_fault parsed.NotInProfile = Unknown
item_fault parsed.NoTag = Unknown
item_fault parsed.UnknownCommand = Unknown
