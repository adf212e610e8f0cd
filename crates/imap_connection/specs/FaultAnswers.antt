-- The answers to frames that spell no command, and to command beginnings refused for their literals
-- (RFC 9051, sections 4.3 and 7.1).

use Rattle.std.specs.Prelude.{◌≡◌, ◌⊎◌, ℕ, List}
use Rattle.imap_syntax.specs.Commands.{IsSpelled}
use Rattle.imap_syntax.specs.Faults.{HasTag, IsTagged, NamesCommand}
use Rattle.imap_syntax.specs.declared.command.Tagged.{Tagged}
use Rattle.imap_answers.specs.declared.answer.Answer.{Answer}
use Rattle.imap_answers.specs.declared.answer.Answer.TheVariants as answers
use Rattle.imap_answers.specs.declared.fixed_words.Refusal.{Refusal}
use Rattle.imap_answers.specs.declared.fixed_words.Refusal.TheVariants.{UnknownCommand, BadSyntax}
use Rattle.imap_answers.specs.declared.fixed_words.Refusal.TheVariants.{NotInProfile, NoMemory}
use Rattle.imap_answers.specs.declared.fixed_words.Refusal.TheVariants.{LiteralTooLong}

-- The frame spells no command.
abbrev pub IsUnspelled : List ℕ → Type 0
IsUnspelled frame = (tagged : Tagged) → IsSpelled tagged frame → ⊥

-- The frame has a tag, and the word after it is no command's.
abbrev pub HasUnknownWord : List ℕ → Type 0
HasUnknownWord frame = HasTag frame × (NamesCommand frame → ⊥)

-- The reason to refuse a frame with a tag: a word that is no command's; else, if no command is
-- spelled, bad syntax or a form that this profile leaves out; or memory ran out, which never hides
-- an unknown word.
abbrev pub IsReason : List ℕ → Refusal → Type 0
IsReason frame UnknownCommand = HasUnknownWord frame
IsReason frame BadSyntax = IsUnspelled frame × (HasUnknownWord frame → ⊥)
IsReason frame NotInProfile = IsUnspelled frame × (HasUnknownWord frame → ⊥)
IsReason frame NoMemory = HasUnknownWord frame → ⊥
IsReason frame _ = ⊥

-- The one answer to a frame whose command is not carried out: untagged if the frame has no tag (RFC
-- 9051, section 7.1).
abbrev pub IsFaultAnswer : List ℕ → Answer → Type 0
IsFaultAnswer frame answer =
    ((HasTag frame → ⊥) × (answer ≡ answers.NoTag))
    ⊎ ((tag : List ℕ) × (rest : List ℕ) × (reason : Refusal) × IsTagged frame tag rest
    × IsReason frame reason × (answer ≡ answers.Refused tag reason))

-- The one answer to the beginning of a command that was refused for its literal (RFC 9051, section
-- 4.3).
abbrev pub IsLiteralAnswer : List ℕ → Answer → Type 0
IsLiteralAnswer front answer =
    ((HasTag front → ⊥) × (answer ≡ answers.LiteralTooLong))
    ⊎ ((tag : List ℕ) × (rest : List ℕ) × IsTagged front tag rest
    × (answer ≡ answers.Refused tag LiteralTooLong))
