-- Header, body and partial texts, as FETCH names them (RFC 9051, section 6.4.5).

use Rattle.std.specs.Prelude.{ℕ, List, take, drop}
use Rattle.std.specs.List.{concat}
use Rattle.mail_text.specs.TextLines.{body_lines, header_lines, lines_of}

-- The header: the lines up to and including the first empty one (RFC 5322, section 2.1; RFC 9051,
-- section 6.4.5.1, HEADER).
abbrev pub header_of : List ℕ → List ℕ
header_of text = concat (header_lines (lines_of text))

-- What follows the header (RFC 9051, section 6.4.5.1, TEXT).
abbrev pub body_of : List ℕ → List ℕ
body_of text = concat (body_lines (lines_of text))

-- At most `count` octets from place `start` (RFC 9051, section 6.4.5, partial).
abbrev pub partial_of : ℕ → ℕ → List ℕ → List ℕ
partial_of start count octets = take count (drop start octets)
