-- The answers to LSUB (RFC 3501, section 6.3.9), made of those to LIST of all subscribed names.

use Rattle.std.specs.Prelude.{◌≡◌, ◌≤◌, ◌⊎◌, ℕ, Bool, true, false, List, [], ◌∷◌, ◌++◌, codes}
use Rattle.std.specs.Prelude.{length}
use Rattle.imap_answers.specs.AnswerText.{text_of_answer}
use Rattle.imap_answers.specs.Strings.{crlf, name_text}
use Rattle.imap_answers.specs.declared.answer.Answer.{Answer}
use Rattle.imap_answers.specs.declared.answer.Answer.TheVariants as answers
use Rattle.imap_answers.specs.declared.mailbox.MailboxState.{MailboxState}
use Rattle.imap_answers.specs.declared.mailbox.MailboxState.TheVariants as states
use Rattle.imap_query.specs.Patterns.{IsIn, IsNameMatch}
use Rattle.rev1_front.specs.Names.{IsOuter}
use Rattle.rev1_front.specs.declared.session.Mode.{Mode}

-- Whether there is no mailbox of this name, so that it can't be selected.
abbrev pub is_absent : MailboxState → Bool
is_absent states.Selectable = false
is_absent states.NoSelect = true
is_absent states.NonExistent = true

-- The attributes of a name (RFC 3501, section 7.2.3).
abbrev pub lsub_attributes : Bool → List ℕ
lsub_attributes true = codes "(\\Noselect)"
lsub_attributes false = codes "()"

-- A line of LSUB (RFC 3501, section 7.2.3).
abbrev pub IsLsubLine : Mode → List ℕ → Bool → List ℕ → Type 0
IsLsubLine mode name absent line =
    (outer : List ℕ) × IsOuter mode name outer
    × (line ≡ codes "* LSUB " ++ lsub_attributes absent ++ codes " \"/\" " ++ name_text outer
    ++ crlf)

-- A level above a name: what is before one of its separators `/` (47).
abbrev pub IsLevelOf : List ℕ → List ℕ → Type 0
IsLevelOf level name = (rest : List ℕ) × (name ≡ level ++ 47 ∷ rest)

-- The longest level above a name that a pattern matches.
pub record IsMatchedLevel (pattern name level : List ℕ) : Type 0 where
  pub above : IsLevelOf level name
  pub matched : IsNameMatch pattern level
  pub longest : (other : List ℕ)
      → IsLevelOf other name
      → IsNameMatch pattern other
      → length other ≤ length level

-- The level for a name: the pattern ends in `%` (37) and doesn't match the name (RFC
-- 3501, section 6.3.9: if foo/bar is subscribed, `%` shows foo).
abbrev pub IsLevelFor : List ℕ → List ℕ → List ℕ → Type 0
IsLevelFor pattern name level =
    ((front : List ℕ) × (pattern ≡ front ++ 37 ∷ []))
    × (IsNameMatch pattern name → ⊥)
    × IsMatchedLevel pattern name level

-- A name is among those that LIST shows.
abbrev pub IsListed : List ℕ → List Answer → Type 0
IsListed name listed =
    (state : MailboxState) × (subscribed : Bool) × IsIn (answers.List name state subscribed) listed

-- A level was shown for an earlier name.
abbrev pub IsShownBefore : List ℕ → List ℕ → List Answer → Type 0
IsShownBefore pattern level earlier =
    (name : List ℕ) × IsListed name earlier × IsLevelFor pattern name level

-- A level is shown for a name: it isn't subscribed itself, and wasn't shown before.
abbrev pub ShowsLevel : List ℕ → List Answer → List Answer → List ℕ → List ℕ → Type 0
ShowsLevel pattern listed earlier name level =
    IsLevelFor pattern name level
    × (IsListed level listed → ⊥)
    × (IsShownBefore pattern level earlier → ⊥)

-- What is shown of one subscribed name, after the earlier ones: the name if the pattern matches it;
-- else the level for it, if any; else nothing.
abbrev pub IsShownOfName : Mode → List ℕ → List Answer → List Answer → List ℕ → MailboxState
    → List ℕ → Type 0
IsShownOfName mode pattern listed earlier name state text =
    (IsNameMatch pattern name × IsLsubLine mode name (is_absent state) text)
    ⊎ (((level : List ℕ) × ShowsLevel pattern listed earlier name level
    × IsLsubLine mode level true text)
    ⊎ ((IsNameMatch pattern name → ⊥)
    × ((level : List ℕ) → ShowsLevel pattern listed earlier name level → ⊥)
    × (text ≡ [])))

-- The tagged line (RFC 3501, section 6.3.9).
abbrev pub lsub_line : List ℕ → List ℕ
lsub_line tag = tag ++ (codes " OK LSUB completed" ++ crlf)

-- What is shown of one answer to LIST of all subscribed names.
abbrev pub IsLsubText : Mode → List ℕ → List Answer → List Answer → Answer → List ℕ → Type 0
IsLsubText mode pattern listed earlier (answers.List name state subscribed) text =
    IsShownOfName mode pattern listed earlier name state text
IsLsubText mode pattern listed earlier (answers.Completed tag code command) text =
    text ≡ lsub_line tag
IsLsubText mode pattern listed earlier answer text = text ≡ text_of_answer answer

-- What is shown of answers after the earlier ones, all of which are `listed`.
abbrev pub AreLsubLines : Mode → List ℕ → List Answer → List Answer → List Answer → List ℕ
    → Type 0
AreLsubLines mode pattern listed earlier [] text = text ≡ []
AreLsubLines mode pattern listed earlier (answer ∷ answers) text =
    (first rest : List ℕ)
    × IsLsubText mode pattern listed earlier answer first
    × AreLsubLines mode pattern listed (earlier ++ answer ∷ []) answers rest
    × (text ≡ first ++ rest)
