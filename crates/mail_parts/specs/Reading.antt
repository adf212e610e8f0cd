-- What the code reads of a text, each time from a place on: the lines that it passes, and the text
-- after them.

use Rattle.std.specs.Prelude.{◌≡◌, ℕ, ◌+◌, ◌<◌, ◌≤◌, Bool, true, false, List, [], ◌∷◌}
use Rattle.std.specs.Prelude.{◌++◌, length, take, drop, min}
use Rattle.mail_text.specs.TextLines.{header_lines, lines_of}
use Rattle.mail_parts.specs.Cuttings.{AreTrees, BeginsNoPart, IsBody, IsTree}
use Rattle.mail_parts.specs.Cuttings.{begins_part, is_whole_header, last_depth}
use Rattle.mail_parts.specs.Delimiters.{HasNoDelimiter, IsEnd, Lines, is_own_delimiter}
use Rattle.mail_parts.specs.Entries.{entries_of_body, entries_of_tree, entries_of_trees}
use Rattle.mail_parts.specs.Entries.{kind_of}
use Rattle.mail_parts.specs.PartTrees.{BodyTree, PartTree, PartTrees, lines_of_body, lines_of_tree}
use Rattle.mail_parts.specs.PartTrees.{lines_of_trees, size_of}
use Rattle.mail_parts.specs.declared.content.Content.{Content}
use Rattle.mail_parts.specs.declared.content.Content.TheVariants.{Single, Message, Multipart}
use Rattle.mail_parts.specs.declared.content.Content.TheVariants.{Opaque}
use Rattle.mail_parts.specs.declared.part.Part.{Part}

-- Lines without a delimiter line, of this size.
pub record IsPassed (boundaries : List (List ℕ)) (text : List ℕ) (size : ℕ) : Type 0 where
  pub front : Lines
  pub lines : lines_of text ≡ front ++ lines_of (drop size text)
  pub has_no_delimiter : HasNoDelimiter boundaries front
  pub within : size ≤ length text

-- All lines before the next delimiter line.
pub record IsBodySize (boundaries : List (List ℕ)) (text : List ℕ) (size : ℕ) : Type 0 where
  pub passed : IsPassed boundaries text size
  pub is_end : IsEnd boundaries (lines_of (drop size text))

-- Lines of a header without an empty line.
pub record IsHeaderPassed (boundaries : List (List ℕ)) (text : List ℕ) (size : ℕ) : Type 0 where
  pub passed : IsPassed boundaries text size
  pub has_no_empty_line : is_whole_header passed.front ≡ false

-- A header's size, and whether it has its empty line.
pub record IsHeaderSize (boundaries : List (List ℕ)) (text : List ℕ) (size : ℕ) (is_whole : Bool)
    : Type 0 where
  pub passed : IsPassed boundaries text size
  pub is_whole_is : is_whole_header passed.front ≡ is_whole
  pub whole : (body : Lines) → is_whole ≡ true → header_lines (passed.front ++ body) ≡ passed.front
  pub alone : is_whole ≡ false → header_lines passed.front ≡ passed.front
  pub is_end : is_whole ≡ false → IsEnd boundaries (lines_of (drop size text))

-- A part was read.
pub record IsTreeRead (boundaries : List (List ℕ)) (place depth : ℕ) (in_digest : Bool)
    (text : List ℕ) (size : ℕ) (old new : List Part) : Type 0 where
  pub tree : PartTree
  pub lines : lines_of text ≡ lines_of_tree tree ++ lines_of (drop size text)
  pub is_tree : IsTree boundaries in_digest depth (length old) tree (lines_of (drop size text))
  pub entries : new
      ≡ old ++ entries_of_tree place depth in_digest tree (lines_of (drop size text))
  pub within : size ≤ length text

-- A part's body was read.
pub record IsBodyRead (boundaries : List (List ℕ)) (place depth : ℕ) (content : Content)
    (is_whole : Bool) (text : List ℕ) (size : ℕ) (old new : List Part) : Type 0 where
  pub body : BodyTree
  pub lines : lines_of text ≡ lines_of_body body ++ lines_of (drop size text)
  pub is_body : IsBody boundaries content is_whole depth (length old) body
      (lines_of (drop size text))
  pub entries : new ≡ old ++ entries_of_body place depth content body (lines_of (drop size text))
  pub is_end : IsEnd boundaries (lines_of (drop size text))
  pub within : size ≤ length text

-- The lines before a multipart's parts, and its parts, were read.
pub record AreTreesRead (boundaries : List (List ℕ)) (own : List ℕ) (place depth : ℕ)
    (in_digest : Bool) (text : List ℕ) (size : ℕ) (old new : List Part) : Type 0 where
  pub preamble : Lines
  pub trees : PartTrees
  pub lines : lines_of text ≡ preamble ++ (lines_of_trees trees ++ lines_of (drop size text))
  pub has_no_delimiter : HasNoDelimiter boundaries preamble
  pub are_trees : AreTrees boundaries own in_digest depth (length old) trees
      (lines_of (drop size text))
  pub entries : new ≡ old ++ entries_of_trees (place + size_of preamble) depth in_digest trees
      (lines_of (drop size text))
  pub is_end : IsEnd boundaries (lines_of (drop size text))
  pub within : size ≤ length text

-- Some parts were read: whatever the following ones are, they complete these.
pub record AreCompleted (boundaries : List (List ℕ)) (own : List ℕ) (place depth : ℕ)
    (in_digest : Bool) (text : List ℕ) (start size : ℕ) (old now : List Part) (more : PartTrees)
    (rest : Lines) : Type 0 where
  pub trees : PartTrees
  pub lines : lines_of (drop start text) ≡ lines_of_trees trees ++ rest
  pub are_trees : AreTrees boundaries own in_digest depth (length old) trees rest
  pub entries : old ++ entries_of_trees (place + start) depth in_digest trees rest
      ≡ now ++ entries_of_trees (place + size) depth in_digest more rest

pub record AreUnderway (boundaries : List (List ℕ)) (own : List ℕ) (place depth : ℕ)
    (in_digest : Bool) (text : List ℕ) (start size : ℕ) (old now : List Part) : Type 0 where
  pub within : size ≤ length text
  pub is_end : IsEnd boundaries (lines_of (drop size text))
  pub completed : (more : PartTrees) (rest : Lines)
      → AreTrees boundaries own in_digest depth (length now) more rest
      → lines_of (drop size text) ≡ lines_of_trees more ++ rest
      → AreCompleted boundaries own place depth in_digest text start size old now more rest

-- The first line is the innermost multipart's delimiter line, and has this size, or the size is 0.
abbrev pub BeginsNoOwn : List (List ℕ) → List ℕ → Lines → Type 0
BeginsNoOwn boundaries own [] = Unit {0}
BeginsNoOwn boundaries own (line ∷ lines) = is_own_delimiter boundaries own line ≡ false

pub record IsOwnLineSize (boundaries : List (List ℕ)) (own text : List ℕ) (size : ℕ) : Type 0 where
  pub none : size ≡ 0 → BeginsNoOwn boundaries own (lines_of text)
  pub some : 0 < size → is_own_delimiter boundaries own (take size text) ≡ true
  pub lines : 0 < size → lines_of text ≡ take size text ∷ lines_of (drop size text)
  pub within : size ≤ length text

-- A part begins with the first line, which has this size, or the size is 0.
pub record IsPartLineSize (boundaries : List (List ℕ)) (own : List ℕ) (used : ℕ) (text : List ℕ)
    (size : ℕ) : Type 0 where
  pub none : size ≡ 0 → BeginsNoPart boundaries own used (lines_of text)
  pub some : 0 < size → begins_part boundaries own used (take size text) ≡ true
  pub lines : 0 < size → lines_of text ≡ take size text ∷ lines_of (drop size text)
  pub within : size ≤ length text

-- A level at which a part with this content can be.
abbrev pub IsWithinDepth : ℕ → Content → Type 0
IsWithinDepth depth Single = Unit {0}
IsWithinDepth depth Opaque = Unit {0}
IsWithinDepth depth Message = depth < last_depth
IsWithinDepth depth (Multipart boundary is_digest) = depth < last_depth

-- The entry of a part whose end isn't known yet, and the entry with its end.
abbrev pub begun_part : ℕ → ℕ → Bool → Content → ℕ → Part
begun_part place depth in_digest content header = record {
  depth = depth;
  in_digest = in_digest;
  kind = kind_of content;
  start = place;
  body = place + header;
  end = place + header;
}

abbrev pub ended_part : Part → ℕ → Part
ended_part part end =
    record part { start = min part.start end; body = min part.body end; end = end }
