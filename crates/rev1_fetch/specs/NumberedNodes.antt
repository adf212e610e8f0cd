-- The parts that have numbers (RFC 3501, section 6.4.5), in the tree of parts that BODY and
-- BODYSTRUCTURE describe.

use Rattle.std.specs.Prelude.{ℕ, ◌-◌, ◌==◌, nat_le, List, [], ◌∷◌, Option, Some, None}
use Rattle.std.specs.Prelude.{if◌then◌else◌}
use Rattle.mail_parts.specs.declared.part.Part.{Part}
use Rattle.mail_parts.specs.declared.part.PartKind.{PartKind}
use Rattle.mail_parts.specs.declared.part.PartKind.TheVariants as kinds
use Rattle.body_print.specs.PartNodes.{PartNode, PartNodes, nodes_below, nodes_of}
use Rattle.body_print.specs.PartNodes.PartNode.{NodeOf}
use Rattle.body_print.specs.PartNodes.PartNodes.{NoNodes, NodesFrom}

-- The n-th of these parts.
abbrev pub nth_node : ℕ → PartNodes → Option PartNode
nth_node n NoNodes = None
nth_node n (NodesFrom node nodes) = if nat_le n 1 then Some node else nth_node (n - 1) nodes

-- The part with a number in a message: the parts of a multipart are numbered; what is none is
-- part 1.
abbrev pub node_by_kind : PartKind → ℕ → PartNode → PartNodes → Option PartNode
node_by_kind kinds.Multipart n node inner = nth_node n inner
node_by_kind kind n node inner = if n == 1 then Some node else None

abbrev pub node_in_message : ℕ → Option PartNode → Option PartNode
node_in_message n None = None
node_in_message n (Some (NodeOf part inner)) = node_by_kind part.kind n (NodeOf part inner) inner

-- The part with a number in a part: one of a multipart, or one in the message that it is.
abbrev pub node_in_kind : PartKind → ℕ → PartNodes → Option PartNode
node_in_kind kinds.Multipart n inner = nth_node n inner
node_in_kind kinds.Message n inner = node_in_message n (nth_node 1 inner)
node_in_kind kind n inner = None

abbrev pub node_in_part : ℕ → PartNode → Option PartNode
node_in_part n (NodeOf part inner) = node_in_kind part.kind n inner

-- The part that further numbers name in this one.
abbrev pub node_on_path : List ℕ → Option PartNode → Option PartNode
node_on_path [] node = node
node_on_path (n ∷ path) None = None
node_on_path (n ∷ path) (Some node) = node_on_path path (node_in_part n node)

-- The part that a part's number names in a message; the message itself if there is no number.
abbrev pub numbered_node : List ℕ → PartNode → Option PartNode
numbered_node [] node = Some node
numbered_node (n ∷ path) node = node_on_path path (node_in_message n (Some node))

-- The first of these parts, with those in it; the others follow it in the order of the text.
abbrev pub node_for : List Part → Option PartNode
node_for [] = None
node_for (part ∷ parts) = Some (NodeOf part (nodes_below part.depth (nodes_of parts)))

abbrev pub node_of : Option (List Part) → Option PartNode
node_of None = None
node_of (Some parts) = node_for parts
