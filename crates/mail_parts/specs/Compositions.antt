-- Texts that are composed of parts, with boundaries that occur nowhere in them (RFC 2046, section
-- 5.1.1).

use Rattle.std.specs.Prelude.{◌≡◌, ℕ, ◌+◌, ◌≤◌, Bool, true, false, List, [], ◌∷◌, ◌++◌, codes}
use Rattle.std.specs.Prelude.{length}
use Rattle.mail_text.specs.HeaderAndBody.{header_of}
use Rattle.mail_text.specs.TextLines.{header_lines, lines_of}
use Rattle.mail_parts.specs.Cuttings.{content_at, is_single, is_whole_header, most_parts}
use Rattle.mail_parts.specs.Delimiters.{HasNoDelimiter, Line, Lines, is_delimiter}
use Rattle.mail_parts.specs.PartTrees.{BodyTree, PartTree, PartTrees, count_of_tree, lines_of_tree}
use Rattle.mail_parts.specs.PartTrees.BodyTree.{MessageBody, MultipartBody, SingleBody}
use Rattle.mail_parts.specs.PartTrees.PartTree.{PartOf}
use Rattle.mail_parts.specs.PartTrees.PartTrees.{NoParts, PartsFrom}
use Rattle.mail_parts.specs.declared.content.Content.{Content}
use Rattle.mail_parts.specs.declared.content.Content.TheVariants.{Message, Multipart}
use Rattle.mail_parts.specs.declared.part.Part.{Part}

-- The delimiter line before a part, and the one after the last part.
abbrev pub delimiter_line : List ℕ → Line
delimiter_line boundary = codes "--" ++ (boundary ++ codes "\r\n")

abbrev pub closing_line : List ℕ → Line
closing_line boundary = codes "--" ++ (boundary ++ codes "--\r\n")

-- No outer boundary begins a delimiter line of this one.
abbrev pub IsApart : List (List ℕ) → List ℕ → Type 0
IsApart boundaries own =
    (is_delimiter boundaries (delimiter_line own) ≡ false)
    × (is_delimiter boundaries (closing_line own) ≡ false)

-- A multipart's end: its closing delimiter line, and lines after it.
abbrev pub IsWrittenClose : List (List ℕ) → List ℕ → Lines → Type 0
IsWrittenClose boundaries own [] = ⊥
IsWrittenClose boundaries own (line ∷ epilogue) =
    (line ≡ closing_line own) × HasNoDelimiter boundaries epilogue

-- A part composed within these boundaries: a header that ends with its only empty line, and a body
-- as its type says; no line of either begins with a boundary in force.
abbrev mutual
  pub IsComposed : List (List ℕ) → Bool → ℕ → PartTree → Type 0
  IsComposed boundaries in_digest depth (PartOf header body) =
      (header_lines header ≡ header) × (is_whole_header header ≡ true)
      × HasNoDelimiter boundaries header
      × IsComposedBody boundaries (content_at depth in_digest header) depth body

  pub IsComposedBody : List (List ℕ) → Content → ℕ → BodyTree → Type 0
  IsComposedBody boundaries content depth (SingleBody lines) =
      (is_single content true ≡ true) × HasNoDelimiter boundaries lines
  IsComposedBody boundaries content depth (MessageBody message) =
      (content ≡ Message) × IsComposed boundaries false (depth + 1) message
  IsComposedBody boundaries content depth (MultipartBody preamble trees close) =
      (own : List ℕ) × (is_digest : Bool) × (content ≡ Multipart own is_digest)
      × IsApart boundaries own
      × HasNoDelimiter (boundaries ++ own ∷ []) preamble
      × AreComposed boundaries own is_digest (depth + 1) trees
      × IsWrittenClose boundaries own close

  -- The parts of a multipart with this boundary within outer ones.
  pub AreComposed : List (List ℕ) → List ℕ → Bool → ℕ → PartTrees → Type 0
  AreComposed outer own in_digest depth NoParts = Unit {0}
  AreComposed outer own in_digest depth (PartsFrom line tree trees) =
      (line ≡ delimiter_line own) × IsComposed (outer ++ own ∷ []) in_digest depth tree
      × AreComposed outer own in_digest depth trees

-- A text is composed of a tree of parts.
pub record IsComposition (text : List ℕ) (tree : PartTree) : Type 0 where
  pub lines : lines_of_tree tree ≡ lines_of text
  pub composed : IsComposed [] false 0 tree
  pub count : count_of_tree tree ≤ most_parts

-- The first part is the whole text: its header and body are those of the text, as `mail_text` has
-- them.
abbrev pub BeginsWithWhole : List ℕ → List Part → Type 0
BeginsWithWhole text [] = ⊥
BeginsWithWhole text (part ∷ parts) =
    (part.depth ≡ 0) × (part.start ≡ 0) × (part.body ≡ length (header_of text))
    × (part.end ≡ length text)
