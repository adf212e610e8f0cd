-- The lines of a transcript, which shows what the client and the server sent in a session.

use Rattle.std.specs.Prelude.{ℕ, ◌-◌, List, [], ◌∷◌, ◌++◌, length, take, drop, codes, if◌then◌else◌}
use Rattle.std.specs.Str.{bytes_eq}
use Rattle.imap_types.specs.Escape.{escape_text}
use Rattle.imap_types.specs.declared.escape.Escape.TheVariants.{Text}
use Rattle.mail_script.specs.declared.transcript.Speaker.{Speaker}
use Rattle.mail_script.specs.declared.transcript.Speaker.TheVariants.{Client, Server}

-- The mark between a session's name and the octets that were sent.
abbrev pub mark_of : Speaker → List ℕ
mark_of Client = codes " C: "
mark_of Server = codes " S: "

-- Octets without the CRLF (13, 10) that closes them.
abbrev pub without_line_end : List ℕ → List ℕ
without_line_end octets =
    if bytes_eq (drop (length octets - 2) octets) (13 ∷ 10 ∷ [])
    then take (length octets - 2) octets
    else octets

-- A line of a transcript: the session, who sent the frame or answer, and the octets without their
-- closing CRLF, escaped so that spaces stay as they are, then LF (10).
abbrev pub transcript_line : List ℕ → Speaker → List ℕ → List ℕ
transcript_line session speaker octets =
    session ++ (mark_of speaker ++ (escape_text Text (without_line_end octets) ++ 10 ∷ []))
