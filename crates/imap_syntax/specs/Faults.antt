-- The conditions on which a frame's fault depends: whether it has a tag, and whether it names a
-- command (RFC 9051, section 9, command).

use Rattle.std.specs.Prelude.{◌≡◌, ℕ, Bool, false, List, [], ◌∷◌, ◌++◌, IsTrue}
use Rattle.std.specs.List.{list_all}
use Rattle.imap_syntax.specs.Languages.{word}
use Rattle.imap_syntax.specs.Strings.{is_in, run}
use Rattle.imap_syntax.specs.Words.{command_word}
use Rattle.imap_syntax.specs.declared.octet_class.OctetClass.{OctetClass}
use Rattle.imap_syntax.specs.declared.octet_class.OctetClass.TheVariants.{Tag, Atom}
use Rattle.imap_syntax.specs.declared.word.CommandWord.{CommandWord}

-- A frame is this tag, a space and this rest.
abbrev pub IsTagged : List ℕ → List ℕ → List ℕ → Type 0
IsTagged frame tag rest = run Tag tag tag × (frame ≡ tag ++ 32 ∷ rest)

-- A frame begins with a tag and a space.
abbrev pub HasTag : List ℕ → Type 0
HasTag frame = (tag rest : List ℕ) × IsTagged frame tag rest

-- Whether a text begins with an octet of a class.
abbrev pub begins_with_class : OctetClass → List ℕ → Bool
begins_with_class class [] = false
begins_with_class class (octet ∷ octets) = is_in class octet

-- The atom octets after the tag are the word of a command in any letter case: one of this grammar,
-- or one that it leaves out.
abbrev pub NamesCommand : List ℕ → Type 0
NamesCommand frame =
    (tag letters rest : List ℕ) × (named : CommandWord) × IsTagged frame tag (letters ++ rest)
    × IsTrue (list_all (is_in Atom) letters)
    × (begins_with_class Atom rest ≡ false)
    × word (command_word named) letters
