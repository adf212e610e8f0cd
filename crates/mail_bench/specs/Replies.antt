-- How a server's octets make up answers: lines with literals in them (RFC 9051, sections 2.2.2 and
-- 4.3).

use Rattle.std.specs.Prelude.{◌≡◌, ◌≤◌, ◌<◌, ℕ, ◌+◌, ◌-◌, ◌*◌, ◌==◌, Bool, true, false, not, nat_lt}
use Rattle.std.specs.Prelude.{min, length, List, [], ◌∷◌, ◌++◌, Option, Some, None, if◌then◌else◌}
use Rattle.std.specs.Char.{is_ascii_digit}
use Rattle.std.specs.Fmt.{decimal}
use Rattle.std.specs.List.{list_all}
use Rattle.mail_bench.specs.declared.replies.ReplyFault.{ReplyFault}
use Rattle.mail_bench.specs.declared.replies.ReplyFault.TheVariants.{LongLine, LongLiteral}
use Rattle.mail_bench.specs.declared.replies.ReplyStage.{ReplyStage}
use Rattle.mail_bench.specs.declared.replies.ReplyStage.TheVariants.{Announced, Closed, Count}
use Rattle.mail_bench.specs.declared.replies.ReplyStage.TheVariants.{Ended, Line, Literal, Open}

-- The numbers of octets in the longest line and in the longest literal that are read.
abbrev pub longest_line : ℕ
longest_line = 4194304

abbrev pub longest_literal : ℕ
longest_literal = 1073741824

-- The stage after an octet that continues no announcement: `{` (123) may begin one, and LF (10)
-- ends the answer.
abbrev pub line_stage_after : ℕ → ReplyStage
line_stage_after octet = if octet == 123 then Open else if octet == 10 then Ended else Line

-- The count with one further digit. A count that is too large stays so.
abbrev pub count_more : ℕ → ℕ → ℕ
count_more octets digit = min (octets * 10 + (digit - 48)) (longest_literal + 1)

-- The stage after the announcement of a literal of this number of octets.
abbrev pub at_literal : ℕ → ReplyStage
at_literal octets = if octets == 0 then Line else Literal octets

-- The stage after an octet: RFC 9051, section 9, `literal = "{" number64 "}" CRLF *CHAR8`, at the
-- end of a line.
abbrev pub stage_after : ReplyStage → ℕ → ReplyStage
stage_after Line octet = line_stage_after octet
stage_after Open octet =
    if is_ascii_digit octet then Count (count_more 0 octet) else line_stage_after octet
stage_after (Count octets) octet =
    if is_ascii_digit octet then Count (count_more octets octet)
    else if octet == 125 then Closed octets else line_stage_after octet
stage_after (Closed octets) octet = if octet == 13 then Announced octets else line_stage_after octet
stage_after (Announced octets) octet =
    if octet == 10 then at_literal octets else line_stage_after octet
stage_after (Literal left) octet = at_literal (left - 1)
stage_after Ended octet = Ended

-- Whether the octet at this stage is part of the line.
abbrev pub is_text : ReplyStage → Bool
is_text (Literal left) = false
is_text Ended = false
is_text stage = true

-- The line after one further octet: the octets of literals aren't stored.
abbrev pub line_after : ReplyStage → List ℕ → ℕ → List ℕ
line_after stage line octet = if is_text stage then line ++ octet ∷ [] else line

abbrev pub is_ended : ReplyStage → Bool
is_ended Ended = true
is_ended stage = false

-- The result of reading octets: the stage, the line, and the octets after the answer's end.
abbrev pub scan : ReplyStage → List ℕ → List ℕ → ReplyStage × List ℕ × List ℕ
scan stage line [] = (stage, line, [])
scan stage line (octet ∷ octets) =
    if is_ended stage then (stage, line, octet ∷ octets)
    else scan (stage_after stage octet) (line_after stage line octet) octets

-- Why an answer can't be read further at this stage, with a line of this length.
abbrev pub refusal_at : ReplyStage → Option ReplyFault
refusal_at (Literal left) = if nat_lt longest_literal left then Some LongLiteral else None
refusal_at stage = None

abbrev pub refusal : ReplyStage → ℕ → Option ReplyFault
refusal stage length = if nat_lt longest_line length then Some LongLine else refusal_at stage

-- The announcement of a literal: `{` (123), its length in decimal digits, `}` (125), CR (13) and LF
-- (10).
abbrev pub announced : List ℕ → List ℕ
announced literal = 123 ∷ (decimal (length literal) ++ 125 ∷ 13 ∷ 10 ∷ [])

-- Whatever octets a literal has, none of them is read as part of the line: after the line so far, a
-- text without LF, and the announcement, the line continues with the octets after the literal.
abbrev pub LiteralsArePassed : Type 0
LiteralsArePassed =
    (before text literal rest : List ℕ) → 0 < length literal
    → length literal ≤ longest_literal
    → list_all (λ octet. not (octet == 10)) text ≡ true
    → scan Line before (text ++ (announced literal ++ (literal ++ rest)))
    ≡ scan Line ((before ++ text) ++ announced literal) rest
