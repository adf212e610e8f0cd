-- The replay of a whole script: its output, and the meaning of each end.

use Rattle.std.specs.Prelude.{◌≡◌, ℕ, ◌+◌, ◌≤◌, ◌++◌, List, [], ◌∷◌, Option, Some, None, length}
use Rattle.std.specs.Io.KnownBytes.{Appends}
use Rattle.mail_script.specs.Lines.{lines_of}
use Rattle.mail_script.specs.Reading.{cut_at}
use Rattle.mail_script.specs.Script.{Means}
use Rattle.mail_script.specs.declared.script.ScriptLine.{ScriptLine}
use Rattle.mail_replay.specs.Lines.{IsBad, ServesLine, ServesInPart}
use Rattle.mail_replay.specs.ScriptState.{ScriptContents}
use Rattle.mail_replay.specs.declared.replay_end.ReplayEnd.{ReplayEnd}
use Rattle.mail_replay.specs.declared.replay_end.ReplayEnd.TheVariants.{Done, BadScript, ReadFailed}
use Rattle.mail_replay.specs.declared.replay_end.ReplayEnd.TheVariants.{WriteFailed, NoMemory}

-- Before the first line nothing is declared, and the clock shows 0.
abbrev pub empty_script_contents : ScriptContents
empty_script_contents = record { moment = 0; replicas = []; sessions = [] }

-- Lines are served in order, and this is their output as a whole.
abbrev pub ServesAll : ScriptContents → List (List ℕ) → List ℕ → ScriptContents → Type 0
ServesAll old [] out new = (out ≡ []) × (new ≡ old)
ServesAll old (line ∷ lines) out new =
    (meaning : ScriptLine)
    × (first : List ℕ)
    × (mid : ScriptContents)
    × (rest : List ℕ)
    × Means line meaning
    × ServesLine old meaning first mid
    × (out ≡ first ++ rest) × ServesAll mid lines rest new

-- A text consists of these whole lines and a part of the next line, whatever follows.
abbrev pub IsWholeLines : List ℕ → List (List ℕ) → List ℕ → Type 0
IsWholeLines text lines partial =
    (cut_at 10 partial ≡ None)
    × ((more : List ℕ) → lines_of (text ++ more) ≡ lines ++ lines_of (partial ++ more))

-- The output of the first of these lines, for which memory runs out.
abbrev pub FirstInPart : ScriptContents → List (List ℕ) → List ℕ → Type 0
FirstInPart setup [] more = more ≡ []
FirstInPart setup (line ∷ lines) more = ServesInPart setup line more

-- The result of a replay, whose reader then has `left` still to read, and whose writer had written
-- `held` before and `held'` after it.
abbrev pub Replays : List ℕ → ReplayEnd → Option (List ℕ) → Option (List ℕ) → Option (List ℕ)
    → Type 0
-- every line was served, and what was written is their output
Replays script Done left held held' =
    (out : List ℕ)
    × (setup : ScriptContents)
    × ServesAll empty_script_contents (lines_of script) out setup
    × Appends held held' out
-- the first line that can't be served has this number; the lines before it were served
Replays script (BadScript number) left held held' =
    (front back : List (List ℕ))
    × (line : List ℕ)
    × (out : List ℕ)
    × (setup : ScriptContents)
    × (lines_of script ≡ front ++ line ∷ back)
    × (number ≡ length front + 1)
    × ServesAll empty_script_contents front out setup
    × IsBad setup line
    × Appends held held' out
-- the lines that were read whole were served
Replays script ReadFailed left held held' =
    (read rest partial : List ℕ)
    × (front : List (List ℕ))
    × (out : List ℕ)
    × (setup : ScriptContents)
    × (script ≡ read ++ rest)
    × (left ≡ Some rest)
    × IsWholeLines read front partial
    × ServesAll empty_script_contents front out setup
    × Appends held held' out
-- nothing is known of what a failed writer wrote
Replays script WriteFailed left held held' = Unit {0}
-- some lines were served and their output was written, and perhaps a part of the next line's
Replays script NoMemory left held held' =
    (front back : List (List ℕ))
    × (out more : List ℕ)
    × (setup : ScriptContents)
    × (lines_of script ≡ front ++ back)
    × ServesAll empty_script_contents front out setup
    × FirstInPart setup back more
    × Appends held held' (out ++ more)

-- A part of a replay that reads nothing ends it early: at a bad line, and then `HasBadLine` is
-- true; for lack of memory, and then `HasLineWithoutMemory` is true; or because the writer failed.
abbrev pub EndsEarly : (ℕ → Type 0) → Type 0 → ReplayEnd → Type 0
EndsEarly HasBadLine HasLineWithoutMemory Done = ⊥
EndsEarly HasBadLine HasLineWithoutMemory (BadScript number) = HasBadLine number
EndsEarly HasBadLine HasLineWithoutMemory ReadFailed = ⊥
EndsEarly HasBadLine HasLineWithoutMemory WriteFailed = Unit {0}
EndsEarly HasBadLine HasLineWithoutMemory NoMemory = HasLineWithoutMemory

-- Some of a text's first lines were served, and another text is left.
pub record HasServedLines (held : Option (List ℕ)) (setup : ScriptContents) (served : ℕ)
    (text : List ℕ) (held' : Option (List ℕ)) (setup' : ScriptContents) (served' : ℕ)
    (text' : List ℕ) : Type 0 where
  pub front : List (List ℕ)
  pub out : List ℕ
  pub lines : (more : List ℕ) → lines_of (text ++ more) ≡ front ++ lines_of (text' ++ more)
  pub count : served' ≡ served + length front
  pub serves : ServesAll setup front out setup'
  pub writes : Appends held held' out
  pub fits : served' + length text' ≤ served + length text

-- Some of a text's first lines were served, and the next, which has this number, can't be served.
pub record HasBadLine (held : Option (List ℕ)) (setup : ScriptContents) (served : ℕ) (text : List ℕ)
    (held' : Option (List ℕ)) (number : ℕ) : Type 0 where
  pub front : List (List ℕ)
  pub line : List ℕ
  pub after : List ℕ
  pub out : List ℕ
  pub setup' : ScriptContents
  pub lines : (more : List ℕ) → lines_of (text ++ more) ≡ front ++ line ∷ lines_of (after ++ more)
  pub count : number ≡ served + length front + 1
  pub serves : ServesAll setup front out setup'
  pub bad : IsBad setup' line
  pub writes : Appends held held' out

-- Some of a text's first lines were served, and memory runs out for the next, whatever follows the
-- text.
pub record HasLineWithoutMemory (held : Option (List ℕ)) (setup : ScriptContents) (text : List ℕ)
    (held' : Option (List ℕ)) : Type 0 where
  pub front : List (List ℕ)
  pub back : List ℕ → List (List ℕ)
  pub out : List ℕ
  pub part : List ℕ
  pub setup' : ScriptContents
  pub lines : (more : List ℕ) → lines_of (text ++ more) ≡ front ++ back more
  pub serves : ServesAll setup front out setup'
  pub first : (more : List ℕ) → FirstInPart setup' (back more) part
  pub writes : Appends held held' (out ++ part)
