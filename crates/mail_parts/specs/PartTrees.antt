-- The parts of a text, as RFC 2046, section 5.1, composes them, with all lines that they have.

use Rattle.std.specs.Prelude.{ℕ, ◌+◌, [], ◌∷◌, ◌++◌, length}
use Rattle.std.specs.List.{concat}
use Rattle.mail_parts.specs.Delimiters.{Line, Lines}

mutual
  -- A part: its header, with the empty line if there is one, and its body.
  pub data PartTree : Type 0 where
    PartOf : Lines → BodyTree → PartTree

  -- A body: its lines; or the message that it is; or the lines before its first delimiter line, its
  -- parts, and its closing delimiter line, if there is one, with the lines after it.
  pub data BodyTree : Type 0 where
    SingleBody : Lines → BodyTree
    MessageBody : PartTree → BodyTree
    MultipartBody : Lines → PartTrees → Lines → BodyTree

  -- The parts of a multipart, each after its delimiter line.
  pub data PartTrees : Type 0 where
    NoParts : PartTrees
    PartsFrom : Line → PartTree → PartTrees → PartTrees

-- The lines of a part, of a body, of parts with their delimiter lines.
abbrev mutual
  pub lines_of_tree : PartTree → Lines
  lines_of_tree (PartOf header body) = header ++ lines_of_body body

  pub lines_of_body : BodyTree → Lines
  lines_of_body (SingleBody lines) = lines
  lines_of_body (MessageBody message) = lines_of_tree message
  lines_of_body (MultipartBody preamble trees close) =
      preamble ++ (lines_of_trees trees ++ close)

  pub lines_of_trees : PartTrees → Lines
  lines_of_trees NoParts = []
  lines_of_trees (PartsFrom line tree trees) = line ∷ (lines_of_tree tree ++ lines_of_trees trees)

-- The number of parts, those within parts included.
abbrev mutual
  pub count_of_tree : PartTree → ℕ
  count_of_tree (PartOf header body) = 1 + count_of_body body

  pub count_of_body : BodyTree → ℕ
  count_of_body (SingleBody lines) = 0
  count_of_body (MessageBody message) = count_of_tree message
  count_of_body (MultipartBody preamble trees close) = count_of_trees trees

  pub count_of_trees : PartTrees → ℕ
  count_of_trees NoParts = 0
  count_of_trees (PartsFrom line tree trees) = count_of_tree tree + count_of_trees trees

-- The number of octets of lines.
abbrev pub size_of : Lines → ℕ
size_of lines = length (concat lines)
