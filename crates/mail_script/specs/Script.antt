-- The lines of a replay script.

use Rattle.std.specs.Prelude.{◌≡◌, ℕ, ◌⊎◌, ◌++◌, List, [], ◌∷◌, IsTrue, codes}
use Rattle.std.specs.Fmt.{decimal}
use Rattle.imap_types.specs.Escape.{AreOctets, escape_text}
use Rattle.imap_types.specs.declared.escape.Escape.TheVariants.{Text}
use Rattle.mail_script.specs.Fields.{IsFirstK, IsFirstUid, IsMoment, IsNumber, IsReplica, id_text}
use Rattle.mail_script.specs.Fields.{is_session_name}
use Rattle.mail_script.specs.declared.script.ScriptLine.{ScriptLine}
use Rattle.mail_script.specs.declared.script.ScriptLine.TheVariants.{Blank, Node, Now, Open, Line}
use Rattle.mail_script.specs.declared.script.ScriptLine.TheVariants.{Send, Poll, Close, Show}
use Rattle.mail_script.specs.declared.script.ScriptLine.TheVariants.{Deliver, Forge, Drain, Settle}
use Rattle.mail_script.specs.declared.script.ScriptLine.TheVariants.{Agree, Join, Restart}

-- The first numbers of a replica's counters, which follow the replica's own number.
abbrev pub first_numbers_text : ℕ → ℕ → List ℕ
first_numbers_text uid k = codes " uid " ++ (decimal uid ++ (codes " k " ++ decimal k))

-- The meaning of a script line: a word and its fields, with one space (32) between them. A `#` (35)
-- begins a comment. A replica whose first numbers are left out begins with 1 and 1. A TEXT is the
-- rest of the line, escaped so that spaces stay as they are.
abbrev pub Means : List ℕ → ScriptLine → Type 0
Means line Blank = (line ≡ []) ⊎ ((comment : List ℕ) × (line ≡ 35 ∷ comment))
Means line (Node replica uid k) =
    IsReplica replica
    × IsFirstUid uid
    × IsFirstK k
    × ((line ≡ codes "node " ++ (decimal replica ++ first_numbers_text uid k))
    ⊎ ((line ≡ codes "node " ++ decimal replica) × (uid ≡ 1) × (k ≡ 1)))
Means line (Now moment) = IsMoment moment × (line ≡ codes "now " ++ decimal moment)
Means line (Open replica session) =
    IsReplica replica
    × IsTrue (is_session_name session)
    × (line ≡ codes "open " ++ (decimal replica ++ 32 ∷ session))
Means line (Line session text) =
    IsTrue (is_session_name session)
    × AreOctets text
    × (line ≡ codes "line " ++ (session ++ 32 ∷ escape_text Text text))
Means line (Send session text) =
    IsTrue (is_session_name session)
    × AreOctets text
    × (line ≡ codes "send " ++ (session ++ 32 ∷ escape_text Text text))
Means line (Poll session) = IsTrue (is_session_name session) × (line ≡ codes "poll " ++ session)
Means line (Close session) = IsTrue (is_session_name session) × (line ≡ codes "close " ++ session)
Means line (Show replica) = IsReplica replica × (line ≡ codes "show " ++ decimal replica)
Means line (Deliver id replica) =
    IsReplica id.replica
    × IsNumber id.number
    × IsReplica replica
    × (line ≡ codes "deliver " ++ (id_text id ++ 32 ∷ decimal replica))
Means line (Forge replica operation) =
    IsReplica replica × (line ≡ codes "forge " ++ (decimal replica ++ 32 ∷ operation))
Means line (Drain replica) = IsReplica replica × (line ≡ codes "drain " ++ decimal replica)
Means line Settle = line ≡ codes "settle"
Means line (Agree first second) =
    IsReplica first
    × IsReplica second
    × (line ≡ codes "agree " ++ (decimal first ++ 32 ∷ decimal second))
Means line (Join replica peer) =
    IsReplica replica
    × IsReplica peer
    × (line ≡ codes "join " ++ (decimal replica ++ 32 ∷ decimal peer))
Means line (Restart replica) = IsReplica replica × (line ≡ codes "restart " ++ decimal replica)
