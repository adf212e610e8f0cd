-- Operations that only their kind makes lawful, whatever the replica contains.

use Rattle.std.specs.Prelude.{List, [], ◌∷◌}
use Rattle.crdt_ops.specs.declared.kind.Kind.{Kind}
use Rattle.crdt_ops.specs.Sound.{HasLawfulCount, HasLawfulFlags, IsDeleteOfInbox}
use Rattle.crdt_ops.specs.Tags.{name_of}
use Rattle.imap_types.specs.Names.{IsLawfulName}

-- The part of an operation's lawfulness that its kind decides: its name and flags are lawful, it
-- doesn't delete INBOX, and it names no more ids than it may.
pub record IsLawfulKind (kind : Kind) : Type 0 where
  pub name : IsLawfulName (name_of kind)
  pub flags : HasLawfulFlags kind
  pub inbox_stays : ¬ IsDeleteOfInbox kind
  pub count : HasLawfulCount kind

-- Each of these kinds is lawful.
abbrev pub AreLawfulKinds : List Kind → Type 0
AreLawfulKinds [] = Unit {0}
AreLawfulKinds (kind ∷ kinds) = IsLawfulKind kind × AreLawfulKinds kinds
