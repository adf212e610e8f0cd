-- How a stream is read octet by octet: what the framer computes. Frames says what it means (RFC
-- 9051, sections 2.2 and 4.3).

use Rattle.std.specs.Prelude.{◌≡◌, ℕ, ◌+◌, ◌-◌, Bool, true, false, not, ◌&&◌, ◌==◌, nat_lt, nat_le}
use Rattle.std.specs.Prelude.{List, [], ◌∷◌, ◌++◌, length, slice_index, Option, Some, None, Result}
use Rattle.std.specs.Prelude.{Ok, Err, IsOk, IsErr, if◌then◌else◌, option_to_list}
use Rattle.std.specs.List.{list_any}
use Rattle.imap_lex.specs.declared.fault.FrameFaultKind.{FrameFaultKind}
use Rattle.imap_lex.specs.declared.fault.FrameFaultKind.TheVariants.{LineTooLong, LiteralTooLong}
use Rattle.imap_lex.specs.declared.fault.FrameFaultKind.TheVariants.{NulByte, NoMemory, Failed}
use Rattle.imap_lex.specs.declared.item.Item.{Item}
use Rattle.imap_lex.specs.declared.item.Item.TheVariants.{Ready, Frame, Refused}
use Rattle.imap_lex.specs.declared.limits.Limits.{Limits}
use Rattle.imap_lex.specs.declared.literal_mark.LineEffect.{LineEffect}
use Rattle.imap_lex.specs.declared.literal_mark.LineEffect.TheVariants.{Whole, Literal, TooLong}
use Rattle.imap_lex.specs.MarkReading.{line_effect_of}

-- What was read of the next command: its parts, the octets after them, how many of all these are
-- outside literals, how many octets were announced, and how many of those haven't been read.
pub record FrameProgress : Type 0 where
  pub front : List ℕ
  pub line : List ℕ
  pub outside : ℕ
  pub announced : ℕ
  pub awaited : ℕ

-- Nothing was read.
abbrev pub start : FrameProgress
start = record { front = []; line = []; outside = 0; announced = 0; awaited = 0 }

-- The item after a mark: Ready, but none after `{n+}` (RFC 9051, section 4.3).
abbrev pub ready_item : Bool → Option Item
ready_item true = None
ready_item false = Some Ready

-- The result of an octet: an item or none, and the progress after it; or a fault.
abbrev pub Outcome : Type 0
Outcome = Result (Option Item × FrameProgress) FrameFaultKind

-- The result of the end of a line.
abbrev pub after_line_end : FrameProgress → LineEffect → Outcome
after_line_end p Whole = Ok (Some (Frame (p.front ++ p.line)), start)
after_line_end p (Literal n plus) =
    Ok (
      ready_item plus,
      record {
        front = p.front ++ p.line;
        line = [];
        outside = p.outside;
        announced = p.announced + n;
        awaited = n;
      },
    )
after_line_end p (TooLong true) = Err LiteralTooLong
after_line_end p (TooLong false) = Ok (Some (Refused (p.front ++ p.line)), start)

-- Whether this octet ends this line.
abbrev pub is_end : List ℕ → ℕ → Bool
is_end line octet = (octet == 10) && (slice_index line (length line - 1) == 13)

-- The progress with one further octet outside literals.
abbrev pub with_octet : FrameProgress → ℕ → FrameProgress
with_octet p octet = record p { line = p.line ++ octet ∷ []; outside = p.outside + 1 }

-- The result of an octet outside literals, which is a fault if the limit is reached.
abbrev pub after_line_octet : Limits → FrameProgress → ℕ → Outcome
after_line_octet limits p octet =
    if nat_le limits.line p.outside then Err LineTooLong
    else (if is_end p.line octet then after_line_end (with_octet p octet)
    (line_effect_of (p.line ++ octet ∷ []) (limits.literals - p.announced))
    else Ok (None, with_octet p octet))

-- The result of any octet: NUL is a fault, and an announced octet belongs to its literal whatever
-- it is.
abbrev pub after_octet : Limits → FrameProgress → ℕ → Outcome
after_octet limits p octet =
    if octet == 0 then Err NulByte
    else (if nat_lt 0 p.awaited then Ok
    (None, record p { front = p.front ++ octet ∷ []; awaited = p.awaited - 1 })
    else after_line_octet limits p octet)

-- Whether an octet is NUL.
abbrev pub has_nul : List ℕ → Bool
has_nul octets = list_any (λ octet. octet == 0) octets

-- Whether an octet of a line can neither end it nor make a fault by itself.
abbrev pub is_inside : ℕ → Bool
is_inside octet = not (octet == 10) && not (octet == 0)

-- The progress after octets inside a line.
abbrev pub with_octets : FrameProgress → List ℕ → FrameProgress
with_octets p octets = record p { line = p.line ++ octets; outside = p.outside + length octets }

-- The progress after octets of a literal.
abbrev pub after_literal : FrameProgress → List ℕ → FrameProgress
after_literal p octets = record p { front = p.front ++ octets; awaited = p.awaited - length octets }

-- The items of some octets of the stream, and the progress of the next command after them, or the
-- fault.
abbrev pub Cut : Type 0
Cut = List Item × Result FrameProgress FrameFaultKind

-- The cut with these items before its own.
abbrev pub with_items : List Item → Cut → Cut
with_items items cut = (items ++ cut.0, cut.1)

-- The result of an octet as the cut of that octet.
abbrev pub cut_of_stream : Outcome → Cut
cut_of_stream (Ok both) = (option_to_list both.0, Ok both.1)
cut_of_stream (Err why) = ([], Err why)

-- The cut of one further octet; nothing follows a fault.
abbrev pub after_octet_of : Limits → Result FrameProgress FrameFaultKind → ℕ → Cut
after_octet_of limits (Ok p) octet = cut_of_stream (after_octet limits p octet)
after_octet_of limits (Err why) octet = ([], Err why)

-- The cut of these octets, from this progress or fault.
abbrev pub cut_from : Limits → Result FrameProgress FrameFaultKind → List ℕ → Cut
cut_from limits state [] = ([], state)
cut_from limits state (octet ∷ octets) =
    with_items (after_octet_of limits state octet).0
    (cut_from limits (after_octet_of limits state octet).1 octets)

-- A framer between two pieces of input.
pub record FramerState : Type 0 where
  pub limits : Limits
  pub state : Result FrameProgress FrameFaultKind

-- The fault if the framer has failed, else the progress.
abbrev pub state_of : Option FrameFaultKind → FrameProgress → Result FrameProgress FrameFaultKind
state_of None p = Ok p
state_of (Some why) p = Err why

-- One list begins with the other.
abbrev pub IsPrefix : List Item → List Item → Type 0
IsPrefix front items = (back : List Item) × (items ≡ front ++ back)

-- A fault of this cut follows these items; if memory runs out, these are the first items of the
-- cut.
abbrev pub Faults : FrameFaultKind → List Item → Cut → Type 0
Faults NoMemory items cut = IsPrefix items cut.0
Faults LineTooLong items cut = cut ≡ (items, Err LineTooLong)
Faults LiteralTooLong items cut = cut ≡ (items, Err LiteralTooLong)
Faults NulByte items cut = cut ≡ (items, Err NulByte)
Faults Failed items cut = ⊥

-- The state after a failed feed: `Failed` exactly when it had failed before, which changes nothing;
-- else the new fault, for good.
abbrev pub FaultsNow : FrameFaultKind → List Item → Result FrameProgress FrameFaultKind
    → Result FrameProgress FrameFaultKind → Cut → Type 0
FaultsNow Failed items old new cut = IsErr old × (items ≡ []) × (new ≡ old)
FaultsNow NoMemory items old new cut = IsOk old × (new ≡ Err NoMemory) × Faults NoMemory items cut
FaultsNow LineTooLong items old new cut =
    IsOk old × (new ≡ Err LineTooLong) × Faults LineTooLong items cut
FaultsNow LiteralTooLong items old new cut =
    IsOk old × (new ≡ Err LiteralTooLong) × Faults LiteralTooLong items cut
FaultsNow NulByte items old new cut = IsOk old × (new ≡ Err NulByte) × Faults NulByte items cut

-- The cut of pieces, one after another.
abbrev pub cut_of_pieces : Limits → Result FrameProgress FrameFaultKind → List (List ℕ) → Cut
cut_of_pieces limits state [] = ([], state)
cut_of_pieces limits state (piece ∷ pieces) =
    with_items (cut_from limits state piece).0
    (cut_of_pieces limits (cut_from limits state piece).1 pieces)

-- The octets that were read of the next command.
abbrev pub octets_so_far : FrameProgress → List ℕ
octets_so_far p = p.front ++ p.line

-- The pieces, one after another.
abbrev pub concat_pieces : List (List ℕ) → List ℕ
concat_pieces [] = []
concat_pieces (piece ∷ pieces) = piece ++ concat_pieces pieces
