-- The parts of a text with the parts that each contains.

use Rattle.std.specs.Prelude.{ℕ, List, [], ◌∷◌, nat_lt, if◌then◌else◌}
use Rattle.mail_parts.specs.declared.part.Part.{Part}

mutual
  -- A part, and the parts in it.
  pub data PartNode : Type 0 where
    NodeOf : Part → PartNodes → PartNode

  pub data PartNodes : Type 0 where
    NoNodes : PartNodes
    NodesFrom : PartNode → PartNodes → PartNodes

-- The nodes at the beginning that are deeper than this, and those after them.
abbrev pub nodes_below : ℕ → PartNodes → PartNodes
nodes_below depth NoNodes = NoNodes
nodes_below depth (NodesFrom (NodeOf part inner) nodes) =
    if nat_lt depth part.depth then NodesFrom (NodeOf part inner) (nodes_below depth nodes)
    else NoNodes

abbrev pub nodes_after : ℕ → PartNodes → PartNodes
nodes_after depth NoNodes = NoNodes
nodes_after depth (NodesFrom (NodeOf part inner) nodes) =
    if nat_lt depth part.depth then nodes_after depth nodes
    else NodesFrom (NodeOf part inner) nodes

-- A part before nodes: it contains those at their beginning that are deeper.
abbrev pub with_part : Part → PartNodes → PartNodes
with_part part nodes =
    NodesFrom (NodeOf part (nodes_below part.depth nodes)) (nodes_after part.depth nodes)

-- Parts in the order of the text, each before those that it contains, as nodes.
abbrev pub nodes_of : List Part → PartNodes
nodes_of [] = NoNodes
nodes_of (part ∷ parts) = with_part part (nodes_of parts)
