-- The commands of a stream, and the octet that makes a fault (RFC 9051, sections 2.2 and 4.3).

use Rattle.std.specs.Prelude.{◌≡◌, ◌≢◌, ℕ, ◌+◌, ◌<◌, ◌≤◌, Bool, true, false, List, [], ◌∷◌, ◌++◌}
use Rattle.std.specs.Prelude.{◌⊎◌, length, sum_by}
use Rattle.std.specs.List.{flat_map}
use Rattle.imap_lex.specs.declared.fault.FrameFaultKind.{FrameFaultKind}
use Rattle.imap_lex.specs.declared.fault.FrameFaultKind.TheVariants.{LineTooLong, LiteralTooLong}
use Rattle.imap_lex.specs.declared.fault.FrameFaultKind.TheVariants.{NulByte, NoMemory, Failed}
use Rattle.imap_lex.specs.declared.item.Item.{Item}
use Rattle.imap_lex.specs.declared.item.Item.TheVariants.{Ready, Frame, Refused}
use Rattle.imap_lex.specs.declared.limits.Limits.{Limits}
use Rattle.imap_lex.specs.Marks.{crlf, IsMarked, IsUnmarked}

-- The text has no CRLF.
abbrev pub HasNoCrlf : List ℕ → Type 0
HasNoCrlf text = (front back : List ℕ) → text ≢ front ++ 13 ∷ 10 ∷ back

-- A line: it ends with CRLF, and has no CRLF before its end. It is thus the shortest prefix of a
-- text that ends with CRLF.
pub record IsLine (text : List ℕ) : Type 0 where
  pub inside : List ℕ
  pub ends : text ≡ inside ++ crlf
  pub shortest : (front back : List ℕ) → text ≡ front ++ 13 ∷ 10 ∷ back → back ≡ []

-- No octet of the text is NUL.
abbrev pub HasNoNul : List ℕ → Type 0
HasNoNul [] = Unit {0}
HasNoNul (octet ∷ octets) = (octet ≢ 0) × HasNoNul octets

-- A line that ends with a mark, and the literal that the mark announces (RFC 9051, section 4.3).
pub record Part : Type 0 where
  pub line : List ℕ
  pub plus : Bool
  pub literal : List ℕ

-- The part's line ends with the mark of its literal.
pub record IsPart (part : Part) : Type 0 where
  pub line : IsLine part.line
  pub mark : IsMarked (length part.literal) part.plus part.line

-- All of these are parts.
abbrev pub ArePartsOfCommand : List Part → Type 0
ArePartsOfCommand [] = Unit {0}
ArePartsOfCommand (part ∷ parts) = IsPart part × ArePartsOfCommand parts

-- The octets of parts, one part after another.
abbrev pub octets_of : List Part → List ℕ
octets_of parts = flat_map (λ part. part.line ++ part.literal) parts

-- How many of these octets are outside literals.
abbrev pub octets_outside : List Part → ℕ
octets_outside parts = sum_by (λ part. length part.line) parts

-- How many of these octets are in literals.
abbrev pub announced_octets : List Part → ℕ
announced_octets parts = sum_by (λ part. length part.literal) parts

-- After a mark `{n}` the client waits until the server is ready; after `{n+}` it doesn't (RFC 9051,
-- section 4.3).
abbrev pub ready : Bool → List Item
ready true = []
ready false = Ready ∷ []

-- The items of these parts.
abbrev pub readies : List Part → List Item
readies parts = flat_map (λ part. ready part.plus) parts

-- Parts and a line after them, within the limits and without NUL.
pub record AreWithinLimits (limits : Limits) (parts : List Part) (line : List ℕ) : Type 0 where
  pub are_parts : ArePartsOfCommand parts
  pub outside : octets_outside parts + length line ≤ limits.line
  pub announced : announced_octets parts ≤ limits.literals
  pub no_nul : HasNoNul (octets_of parts ++ line)

-- A whole command: parts, and a line that ends with no mark (RFC 9051, section 2.2.2).
pub record IsFrame (limits : Limits) (text : List ℕ) (items : List Item) : Type 0 where
  pub parts : List Part
  pub line : List ℕ
  pub taken : AreWithinLimits limits parts line
  pub ends : IsLine line
  pub unmarked : IsUnmarked line
  pub text_is : text ≡ octets_of parts ++ line
  pub items_are : items ≡ readies parts ++ Frame text ∷ []

-- A refused prefix of a command: its last mark `{n}` announces more than the limit leaves.
pub record IsRefusedFront (limits : Limits) (text : List ℕ) (items : List Item) : Type 0 where
  pub parts : List Part
  pub line : List ℕ
  pub n : ℕ
  pub taken : AreWithinLimits limits parts line
  pub ends : IsLine line
  pub mark : IsMarked n false line
  pub too_long : limits.literals < announced_octets parts + n
  pub text_is : text ≡ octets_of parts ++ line
  pub items_are : items ≡ readies parts ++ Refused text ∷ []

-- Less than a command: parts, and a line that hasn't ended.
pub record IsOpenLine (limits : Limits) (text : List ℕ) (items : List Item) : Type 0 where
  pub parts : List Part
  pub line : List ℕ
  pub taken : AreWithinLimits limits parts line
  pub open_line : HasNoCrlf line
  pub text_is : text ≡ octets_of parts ++ line
  pub items_are : items ≡ readies parts

-- Less than a command: parts, a line with a mark, and fewer octets than the mark announces.
pub record IsOpenLiteral (limits : Limits) (text : List ℕ) (items : List Item) : Type 0 where
  pub parts : List Part
  pub line : List ℕ
  pub n : ℕ
  pub plus : Bool
  pub literal : List ℕ
  pub taken : AreWithinLimits limits parts line
  pub ends : IsLine line
  pub mark : IsMarked n plus line
  pub fits : announced_octets parts + n ≤ limits.literals
  pub short : length literal < n
  pub no_nul : HasNoNul literal
  pub text_is : text ≡ octets_of parts ++ (line ++ literal)
  pub items_are : items ≡ readies parts ++ ready plus

-- The rest of a stream after its last whole command, and the items that this rest gives so far.
abbrev pub IsRest : Limits → List ℕ → List Item → Type 0
IsRest limits text items = IsOpenLine limits text items ⊎ IsOpenLiteral limits text items

-- Commands and refused prefixes of commands, each with the items that it gives.
abbrev pub AreCommands : Limits → List (List ℕ × List Item) → Type 0
AreCommands limits [] = Unit {0}
AreCommands limits (c ∷ cs) =
    (IsFrame limits c.0 c.1 ⊎ IsRefusedFront limits c.0 c.1) × AreCommands limits cs

-- The stream is made of commands and refused prefixes, one after another, and a rest that is less
-- than a command; these are the items that they give.
pub record AreFrames (limits : Limits) (stream : List ℕ) (items : List Item) (rest : List ℕ) :
    Type 0 where
  pub commands : List (List ℕ × List Item)
  pub last : List Item
  pub are_commands : AreCommands limits commands
  pub is_rest : IsRest limits rest last
  pub stream_is : stream ≡ flat_map (λ c. c.0) commands ++ rest
  pub items_are : items ≡ flat_map (λ c. c.1) commands ++ last

-- After this rest, the next octet is one more than the limit outside literals.
pub record IsFullLine (limits : Limits) (rest : List ℕ) : Type 0 where
  pub parts : List Part
  pub line : List ℕ
  pub taken : AreWithinLimits limits parts line
  pub open_line : HasNoCrlf line
  pub full : octets_outside parts + length line ≡ limits.line
  pub rest_is : rest ≡ octets_of parts ++ line

-- After this rest, LF ends a line with a mark `{n+}` that announces more than the limit leaves.
pub record IsTooLongAtLf (limits : Limits) (rest : List ℕ) : Type 0 where
  pub parts : List Part
  pub line : List ℕ
  pub n : ℕ
  pub taken : AreWithinLimits limits parts (line ++ 10 ∷ [])
  pub ends : IsLine (line ++ 10 ∷ [])
  pub mark : IsMarked n true (line ++ 10 ∷ [])
  pub too_long : limits.literals < announced_octets parts + n
  pub rest_is : rest ≡ octets_of parts ++ line

-- The octet makes this fault after this rest.
abbrev pub MakesFault : Limits → List ℕ → ℕ → FrameFaultKind → Type 0
MakesFault limits rest octet NulByte = octet ≡ 0
MakesFault limits rest octet LineTooLong = (octet ≢ 0) × IsFullLine limits rest
MakesFault limits rest octet LiteralTooLong = (octet ≡ 10) × IsTooLongAtLf limits rest
MakesFault limits rest octet NoMemory = ⊥
MakesFault limits rest octet Failed = ⊥

-- The first octet of the stream that makes a fault makes this one; the items are those before it.
pub record FailsAt (limits : Limits) (stream : List ℕ) (items : List Item) (why : FrameFaultKind) :
    Type 0 where
  pub front : List ℕ
  pub octet : ℕ
  pub after : List ℕ
  pub rest : List ℕ
  pub stream_is : stream ≡ front ++ octet ∷ after
  pub before : AreFrames limits front items rest
  pub fault : MakesFault limits rest octet why
