-- The transcript lines of a conversation's turns.

use Rattle.std.specs.Prelude.{ℕ, List}
use Rattle.std.specs.List.{flat_map}
use Rattle.mail_script.specs.Transcript.{transcript_line}
use Rattle.mail_script.specs.declared.transcript.Speaker.TheVariants.{Client, Server}
use Rattle.imap_connection.specs.declared.turn.Turn.{Turn}
use Rattle.imap_connection.specs.declared.turn.Turn.TheVariants.{Got, Sent}

-- The transcript line of a turn: a command comes from the client, an answer from the server.
abbrev pub turn_line : List ℕ → Turn → List ℕ
turn_line session (Got octets) = transcript_line session Client octets
turn_line session (Sent octets) = transcript_line session Server octets

-- The transcript of some turns, one line for each.
abbrev pub transcript : List ℕ → List Turn → List ℕ
transcript session turns = flat_map (turn_line session) turns
