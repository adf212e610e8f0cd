-- How a text is cut into parts by the delimiter lines of all boundaries in force (RFC 2046, section
-- 5.1).

use Rattle.std.specs.Prelude.{◌≡◌, ℕ, ◌+◌, Bool, true, false, not, ◌&&◌, List, [], ◌∷◌, ◌++◌}
use Rattle.std.specs.Prelude.{if◌then◌else◌, nat_lt}
use Rattle.std.specs.List.{concat, list_any}
use Rattle.mail_text.specs.TextLines.{header_lines, is_empty_line, lines_of}
use Rattle.mail_parts.specs.ContentTypes.{content_of}
use Rattle.mail_parts.specs.Delimiters.{HasNoDelimiter, IsEnd, Line, Lines, is_closing}
use Rattle.mail_parts.specs.Delimiters.{is_own_delimiter}
use Rattle.mail_parts.specs.PartTrees.{BodyTree, PartTree, PartTrees, count_of_tree, lines_of_body}
use Rattle.mail_parts.specs.PartTrees.{lines_of_tree, lines_of_trees}
use Rattle.mail_parts.specs.PartTrees.BodyTree.{MessageBody, MultipartBody, SingleBody}
use Rattle.mail_parts.specs.PartTrees.PartTree.{PartOf}
use Rattle.mail_parts.specs.PartTrees.PartTrees.{NoParts, PartsFrom}
use Rattle.mail_parts.specs.declared.content.Content.{Content}
use Rattle.mail_parts.specs.declared.content.Content.TheVariants.{Single, Message, Multipart}
use Rattle.mail_parts.specs.declared.content.Content.TheVariants.{Opaque}

-- The deepest level, whose parts are opaque, and the number of parts after which no multipart has
-- a further one.
abbrev pub last_depth : ℕ
last_depth = 99

abbrev pub most_parts : ℕ
most_parts = 10000

-- What a part of a level contains: at the deepest one no further parts.
abbrev pub content_within : ℕ → Content → Content
content_within depth Single = Single
content_within depth Opaque = Opaque
content_within depth Message = if nat_lt depth last_depth then Message else Opaque
content_within depth (Multipart boundary is_digest) =
    if nat_lt depth last_depth then Multipart boundary is_digest else Opaque

-- What a part with this header contains. In a digest a part without a type is a message.
abbrev pub content_at : ℕ → Bool → Lines → Content
content_at depth in_digest header = content_within depth (content_of in_digest (concat header))

-- Whether a header has its empty line; if not, a delimiter line or the text's end cuts it off.
abbrev pub is_whole_header : Lines → Bool
is_whole_header header = list_any is_empty_line header

-- Whether a part has no parts by its content: a multipart whose header is cut off has none.
abbrev pub is_single : Content → Bool → Bool
is_single Single is_whole = true
is_single Opaque is_whole = true
is_single Message is_whole = false
is_single (Multipart boundary is_digest) is_whole = not is_whole

-- Whether a line begins a part of a multipart, after this number of the text's parts.
abbrev pub begins_part : List (List ℕ) → List ℕ → ℕ → Line → Bool
begins_part boundaries own used line =
    is_own_delimiter boundaries own line && not (is_closing own line) && nat_lt used most_parts

-- No part begins with the following lines.
abbrev pub BeginsNoPart : List (List ℕ) → List ℕ → ℕ → Lines → Type 0
BeginsNoPart boundaries own used [] = Unit {0}
BeginsNoPart boundaries own used (line ∷ lines) = begins_part boundaries own used line ≡ false

-- The header of lines: those up to and including the first empty one, or all, as `mail_text` has
-- it, and without a delimiter line.
pub record IsHeader (boundaries : List (List ℕ)) (header body : Lines) : Type 0 where
  pub lines : header_lines (header ++ body) ≡ header
  pub has_no_delimiter : HasNoDelimiter boundaries header

-- The lines after a multipart's parts: none, if a delimiter line of an outer boundary or the text's
-- end follows; or a delimiter line of its own, and all lines up to those.
abbrev pub IsClose : List (List ℕ) → List ℕ → Lines → Lines → Type 0
IsClose outer own [] [] = Unit {0}
IsClose outer own [] (line ∷ rest) = is_own_delimiter (outer ++ own ∷ []) own line ≡ false
IsClose outer own (line ∷ epilogue) rest =
    (is_own_delimiter (outer ++ own ∷ []) own line ≡ true) × HasNoDelimiter outer epilogue

-- A part: `boundaries` are in force around it, outermost first; `used` parts of the text come
-- before it; `rest` are the lines after it, which begin with a delimiter line or are none.
abbrev mutual
  pub IsTree : List (List ℕ) → Bool → ℕ → ℕ → PartTree → Lines → Type 0
  IsTree boundaries in_digest depth used (PartOf header body) rest =
      IsEnd boundaries rest × IsHeader boundaries header (lines_of_body body)
      × IsBody boundaries (content_at depth in_digest header) (is_whole_header header) depth
      (used + 1) body rest

  -- The body of a part of this level with this content.
  pub IsBody : List (List ℕ) → Content → Bool → ℕ → ℕ → BodyTree → Lines → Type 0
  IsBody boundaries content is_whole depth used (SingleBody lines) rest =
      (is_single content is_whole ≡ true) × HasNoDelimiter boundaries lines
  IsBody boundaries content is_whole depth used (MessageBody message) rest =
      (content ≡ Message) × IsTree boundaries false (depth + 1) used message rest
  IsBody boundaries content is_whole depth used (MultipartBody preamble trees close) rest =
      (is_whole ≡ true)
      × ((own : List ℕ) × (is_digest : Bool) × (content ≡ Multipart own is_digest)
      × HasNoDelimiter (boundaries ++ own ∷ []) preamble
      × AreTrees (boundaries ++ own ∷ []) own is_digest (depth + 1) used trees (close ++ rest)
      × IsClose boundaries own close rest)

  -- The parts of a multipart with this boundary, the last of those in force.
  pub AreTrees : List (List ℕ) → List ℕ → Bool → ℕ → ℕ → PartTrees → Lines → Type 0
  AreTrees boundaries own in_digest depth used NoParts rest = BeginsNoPart boundaries own used rest
  AreTrees boundaries own in_digest depth used (PartsFrom line tree trees) rest =
      (begins_part boundaries own used line ≡ true)
      × IsTree boundaries in_digest depth used tree (lines_of_trees trees ++ rest)
      × AreTrees boundaries own in_digest depth (used + count_of_tree tree) trees rest

-- The parts of a whole text.
pub record IsCutting (text : List ℕ) (tree : PartTree) : Type 0 where
  pub lines : lines_of_tree tree ≡ lines_of text
  pub is_tree : IsTree [] false 0 0 tree []
