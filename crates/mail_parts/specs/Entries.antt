-- The parts of a text as a list, each with its places in the text.

use Rattle.std.specs.Prelude.{◌≡◌, ℕ, ◌+◌, ◌-◌, Bool, false, List, [], ◌∷◌, ◌++◌, length, min}
use Rattle.mail_parts.specs.Cuttings.{IsCutting, content_at}
use Rattle.mail_parts.specs.Delimiters.{Lines}
use Rattle.mail_parts.specs.PartTrees.{BodyTree, PartTree, PartTrees, lines_of_body, lines_of_tree}
use Rattle.mail_parts.specs.PartTrees.{lines_of_trees, size_of}
use Rattle.mail_parts.specs.PartTrees.BodyTree.{MessageBody, MultipartBody, SingleBody}
use Rattle.mail_parts.specs.PartTrees.PartTree.{PartOf}
use Rattle.mail_parts.specs.PartTrees.PartTrees.{NoParts, PartsFrom}
use Rattle.mail_parts.specs.declared.content.Content.{Content}
use Rattle.mail_parts.specs.declared.content.Content.TheVariants.{Single, Message, Multipart}
use Rattle.mail_parts.specs.declared.content.Content.TheVariants.{Opaque}
use Rattle.mail_parts.specs.declared.part.Part.{Part}
use Rattle.mail_parts.specs.declared.part.PartKind.{PartKind}
use Rattle.mail_parts.specs.declared.part.PartKind.TheVariants.{Single as SinglePart}
use Rattle.mail_parts.specs.declared.part.PartKind.TheVariants.{Message as MessagePart}
use Rattle.mail_parts.specs.declared.part.PartKind.TheVariants.{Multipart as MultipartPart}
use Rattle.mail_parts.specs.declared.part.PartKind.TheVariants.{Opaque as OpaquePart}

-- The kind of a part with this content.
abbrev pub kind_of : Content → PartKind
kind_of Single = SinglePart
kind_of Message = MessagePart
kind_of (Multipart boundary is_digest) = MultipartPart
kind_of Opaque = OpaquePart

-- Whether parts of a part with this content are messages if they have no type.
abbrev pub has_digest : Content → Bool
has_digest Single = false
has_digest Message = false
has_digest (Multipart boundary is_digest) = is_digest
has_digest Opaque = false

-- The end of lines that begin at a place: the CRLF before a delimiter line is the delimiter's (RFC
-- 2046, section 5.1.1), so a part that others follow ends before it.
abbrev pub end_at : ℕ → Lines → ℕ
end_at place [] = place
end_at place (line ∷ rest) = place - 2

-- The entry of a part that begins at a place, with the size of its header and of all its lines.
abbrev pub entry_at : ℕ → ℕ → Bool → Content → ℕ → ℕ → Lines → Part
entry_at place depth in_digest content header size rest = record {
  depth = depth;
  in_digest = in_digest;
  kind = kind_of content;
  start = min place (end_at (place + size) rest);
  body = min (place + header) (end_at (place + size) rest);
  end = end_at (place + size) rest;
}

-- The entry of a part, and then those of its parts in their order; and those of a body, of parts.
abbrev mutual
  pub entries_of_tree : ℕ → ℕ → Bool → PartTree → Lines → List Part
  entries_of_tree place depth in_digest (PartOf header body) rest =
      entry_at place depth in_digest (content_at depth in_digest header) (size_of header)
      (size_of header + size_of (lines_of_body body)) rest
      ∷ entries_of_body (place + size_of header) depth (content_at depth in_digest header) body rest

  pub entries_of_body : ℕ → ℕ → Content → BodyTree → Lines → List Part
  entries_of_body place depth content (SingleBody lines) rest = []
  entries_of_body place depth content (MessageBody message) rest =
      entries_of_tree place (depth + 1) false message rest
  entries_of_body place depth content (MultipartBody preamble trees close) rest =
      entries_of_trees (place + size_of preamble) (depth + 1) (has_digest content) trees
      (close ++ rest)

  pub entries_of_trees : ℕ → ℕ → Bool → PartTrees → Lines → List Part
  entries_of_trees place depth in_digest NoParts rest = []
  entries_of_trees place depth in_digest (PartsFrom line tree trees) rest =
      entries_of_tree (place + length line) depth in_digest tree (lines_of_trees trees ++ rest)
      ++ entries_of_trees (place + length line + size_of (lines_of_tree tree)) depth in_digest trees
      rest

-- These are the entries of a text's parts.
pub record AreEntries (text : List ℕ) (entries : List Part) : Type 0 where
  pub tree : PartTree
  pub is_cutting : IsCutting text tree
  pub entries_are : entries ≡ entries_of_tree 0 0 false tree []
