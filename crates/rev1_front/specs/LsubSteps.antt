-- What LSUB keeps between the answers to LIST (RFC 3501, section 6.3.9).

use Rattle.std.specs.Prelude.{◌≡◌, ◌⊎◌, ℕ, true, List, [], ◌∷◌, ◌++◌}
use Rattle.imap_answers.specs.AnswerText.{text_of_answer}
use Rattle.imap_answers.specs.declared.answer.Answer.{Answer}
use Rattle.imap_answers.specs.declared.answer.Answer.TheVariants as answers
use Rattle.imap_query.specs.Patterns.{IsIn, IsNameMatch}
use Rattle.rev1_front.specs.LsubLines.{IsLevelFor, IsListed, IsLsubLine, IsShownBefore, lsub_line}
use Rattle.rev1_front.specs.declared.lsub.LsubEntry.{LsubEntry}
use Rattle.rev1_front.specs.declared.lsub.LsubEntry.TheVariants.{Own, Level, Nothing}
use Rattle.rev1_front.specs.declared.session.Mode.{Mode}

-- What is shown of a subscribed name, but for what was shown before.
abbrev pub IsEntry : List ℕ → List ℕ → LsubEntry → Type 0
IsEntry pattern name Own = IsNameMatch pattern name
IsEntry pattern name (Level level) = IsLevelFor pattern name level
IsEntry pattern name Nothing =
    (IsNameMatch pattern name → ⊥) × ((level : List ℕ) → IsLevelFor pattern name level → ⊥)

-- The levels that were shown for the earlier names.
pub record AreLevels (pattern : List ℕ) (listed earlier : List Answer) (levels : List (List ℕ))
    : Type 0 where
  pub shown : (level : List ℕ) → IsIn level levels → IsShownBefore pattern level earlier
  pub all : (level : List ℕ)
      → IsShownBefore pattern level earlier
      → (IsListed level listed → ⊥)
      → IsIn level levels

-- A level is shown and joins the levels, unless LIST shows it or it is one of them.
abbrev pub IsLevelStep : Mode → List ℕ → List Answer → List (List ℕ) → List (List ℕ) → List ℕ
    → List ℕ → Type 0
IsLevelStep mode level listed old_levels new_levels old_text new_text =
    ((IsListed level listed ⊎ IsIn level old_levels)
    × (new_levels ≡ old_levels) × (new_text ≡ old_text))
    ⊎ ((IsListed level listed ⊎ IsIn level old_levels → ⊥)
    × (new_levels ≡ old_levels ++ level ∷ [])
    × ((line : List ℕ) × IsLsubLine mode level true line × (new_text ≡ old_text ++ line)))

-- What is shown of an answer that lists no name.
abbrev pub IsOtherText : Answer → List ℕ → Type 0
IsOtherText (answers.Completed tag code command) text = text ≡ lsub_line tag
IsOtherText answer text = text ≡ text_of_answer answer
