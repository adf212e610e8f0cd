-- The part that a number finds is the one in the tree of parts.
use Rattle.std.proofs.Common.{◌≡◌, ℕ, suc, ◌+◌, ◌-◌, ◌<◌, ◌≤◌, Bool, true, false, cond, nat_lt, List, [], ◌∷◌, ◌++◌, length, Option, Some, None, inl, inr, refl, sym, ap, ◌∙◌, subst, append_assoc, append-nil, arith}
use Rattle.std.specs.Prelude.{◌==◌, nat_le}
use Rattle.std.proofs.lemmas.Bool.{cases_Bool, eqb-true, le-ltb, lt-ltb, ltb-true}
use Rattle.std.proofs.lemmas.Bool.Decides.{nat_tests}
use Rattle.mail_parts.specs.Cuttings.{content_at}
use Rattle.mail_parts.specs.Delimiters.{Lines}
use Rattle.mail_parts.specs.Entries.{AreEntries, entries_of_body, entries_of_tree, entries_of_trees, has_digest}
use Rattle.mail_parts.specs.PartTrees.{BodyTree, PartTree, PartTrees, lines_of_tree, lines_of_trees, size_of}
use Rattle.mail_parts.specs.PartTrees.BodyTree.{MessageBody, MultipartBody, SingleBody}
use Rattle.mail_parts.specs.PartTrees.PartTree.{PartOf}
use Rattle.mail_parts.specs.PartTrees.PartTrees.{NoParts, PartsFrom}
use Rattle.mail_parts.specs.declared.content.Content.{Content}
use Rattle.mail_parts.specs.declared.part.Part.{Part}
use Rattle.mail_parts.specs.declared.part.PartKind.{PartKind}
use Rattle.mail_parts.specs.declared.part.PartKind.TheVariants as kinds
use Rattle.body_print.specs.PartNodes.{PartNode, PartNodes, nodes_after, nodes_below, nodes_of}
use Rattle.body_print.specs.PartNodes.PartNode.{NodeOf}
use Rattle.body_print.specs.PartNodes.PartNodes.{NoNodes, NodesFrom}
use Rattle.rev1_fetch.specs.NumberedNodes.{node_by_kind, node_for, node_in_kind, node_in_message, node_of, node_on_path, nth_node, numbered_node}
use Rattle.rev1_fetch.specs.PartPlaces.{child_at, numbered_by, part_at, part_at_from, part_of_message, part_of_multipart}

-- ---- Lists of parts in which each is at most one level below the one before it.

abbrev pub HeadAtMost : ℕ → List Part → Type 0
HeadAtMost depth [] = Unit {0}
HeadAtMost depth (part ∷ parts) = part.depth ≤ depth

abbrev pub AreStepped : List Part → Type 0
AreStepped [] = Unit {0}
AreStepped (part ∷ parts) = HeadAtMost (suc part.depth) parts × AreStepped parts

abbrev pub IsStepped : Option (List Part) → Type 0
IsStepped None = Unit {0}
IsStepped (Some parts) = AreStepped parts

head_weaker : (a b : ℕ) → a ≤ b → (parts : List Part) → HeadAtMost a parts → HeadAtMost b parts
head_weaker a b l [] h = tt
head_weaker a b l (part ∷ parts) h = let k : part.depth ≤ a = h in omega arith

-- ---- Nodes that are deeper.

after_after : (k m : ℕ) → k < m → (nodes : PartNodes) → nodes_after k (nodes_after m nodes) ≡ nodes_after k nodes
after_after k m l NoNodes = refl
after_after k m l (NodesFrom (NodeOf part inner) nodes) = elim (cases_Bool (nat_lt m part.depth)) [
  | inl t ↦
      let d : m < part.depth = ltb-true m part.depth t in
      let u : nat_lt k part.depth ≡ true = lt-ltb k part.depth (omega arith) in
      ap (λ b. nodes_after k (cond b (nodes_after m nodes) (NodesFrom (NodeOf part inner) nodes))) t ∙ after_after k m l nodes ∙ sym (ap (λ b. cond b (nodes_after k nodes) (NodesFrom (NodeOf part inner) nodes)) u)
  | inr f ↦ ap (λ b. nodes_after k (cond b (nodes_after m nodes) (NodesFrom (NodeOf part inner) nodes))) f
]

abbrev pub AllAbove : ℕ → List Part → Type 0
AllAbove depth [] = Unit {0}
AllAbove depth (part ∷ parts) = (depth < part.depth) × AllAbove depth parts

abbrev pub NodesAbove : ℕ → PartNodes → Type 0
NodesAbove depth NoNodes = Unit {0}
NodesAbove depth (NodesFrom (NodeOf part inner) nodes) = (nat_lt depth part.depth ≡ true) × NodesAbove depth nodes

after_above : (depth k : ℕ) (nodes : PartNodes) → NodesAbove depth nodes → NodesAbove depth (nodes_after k nodes)
after_above depth k NoNodes h = tt
after_above depth k (NodesFrom (NodeOf part inner) nodes) h = elim (cases_Bool (nat_lt k part.depth)) [
  | inl t ↦ subst (λ b. NodesAbove depth (cond b (nodes_after k nodes) (NodesFrom (NodeOf part inner) nodes))) (sym t) (after_above depth k nodes h.1)
  | inr f ↦ subst (λ b. NodesAbove depth (cond b (nodes_after k nodes) (NodesFrom (NodeOf part inner) nodes))) (sym f) h
]

parts_above : (depth : ℕ) (parts : List Part) → AllAbove depth parts → NodesAbove depth (nodes_of parts)
parts_above depth [] h = tt
parts_above depth (part ∷ parts) h = (lt-ltb depth part.depth h.0, after_above depth part.depth (nodes_of parts) (parts_above depth parts h.1))

below_same : (depth : ℕ) (nodes : PartNodes) → NodesAbove depth nodes → nodes_below depth nodes ≡ nodes
below_same depth NoNodes h = refl
below_same depth (NodesFrom (NodeOf part inner) nodes) h =
    ap (λ b. cond b (NodesFrom (NodeOf part inner) (nodes_below depth nodes)) NoNodes) h.0 ∙ ap (λ ns. NodesFrom (NodeOf part inner) ns) (below_same depth nodes h.1)

-- ---- The parts of one at a level.

module _ (depth : ℕ) where
  abbrev tried : Part → List Part → ℕ → Bool → Bool → Bool → Option (List Part)
  tried part parts n shallow child first = cond shallow None (cond child (cond first (Some (part ∷ parts)) (child_at depth (n - 1) parts)) (child_at depth n parts))

  abbrev after_by : Part → List Part → Bool → PartNodes
  after_by part parts deeper = cond deeper (nodes_after (suc depth) (nodes_after part.depth (nodes_of parts))) (nodes_of (part ∷ parts))

  abbrev below_by : Part → List Part → Bool → PartNodes
  below_by part parts deeper = cond deeper (NodesFrom (NodeOf part (nodes_below part.depth (nodes_of parts))) (nodes_below depth (nodes_after part.depth (nodes_of parts)))) NoNodes

  -- a part that isn't deeper ends them
  shallow_node : (part : Part) (parts : List Part) (n : ℕ) → nat_le part.depth depth ≡ true → node_of (child_at depth n (part ∷ parts)) ≡ nth_node n (nodes_below depth (nodes_after (suc depth) (nodes_of (part ∷ parts))))
  shallow_node part parts n t =
      let a : nat_lt (suc depth) part.depth ≡ false = grind (arith, nat_tests) in
      let b : nat_lt depth part.depth ≡ false = grind (arith, nat_tests) in
      ap (λ x. node_of (tried part parts n x (part.depth == suc depth) (nat_le n 1))) t ∙ sym (ap (λ x. nth_node n (nodes_below depth (after_by part parts x))) a ∙ ap (λ x. nth_node n (below_by part parts x)) b)

  -- one of them
  child_node : (part : Part) (parts : List Part) (n : ℕ) → nat_le part.depth depth ≡ false → (part.depth == suc depth) ≡ true
      → node_of (child_at depth (n - 1) parts) ≡ nth_node (n - 1) (nodes_below depth (nodes_after (suc depth) (nodes_of parts)))
      → node_of (child_at depth n (part ∷ parts)) ≡ nth_node n (nodes_below depth (nodes_after (suc depth) (nodes_of (part ∷ parts))))
  child_node part parts n t e more =
      let is : part.depth ≡ suc depth = eqb-true part.depth (suc depth) e in
      let a : nat_lt (suc depth) part.depth ≡ false = le-ltb (suc depth) part.depth (omega arith) in
      let b : nat_lt depth part.depth ≡ true = lt-ltb depth part.depth (omega arith) in
      let node : PartNode = NodeOf part (nodes_below part.depth (nodes_of parts)) in
      let left : node_of (child_at depth n (part ∷ parts)) ≡ node_of (cond (nat_le n 1) (Some (part ∷ parts)) (child_at depth (n - 1) parts)) =
      ap (λ x. node_of (tried part parts n x (part.depth == suc depth) (nat_le n 1))) t ∙ ap (λ x. node_of (tried part parts n false x (nat_le n 1))) e in
      let right : nth_node n (nodes_below depth (nodes_after (suc depth) (nodes_of (part ∷ parts)))) ≡ cond (nat_le n 1) (Some node) (nth_node (n - 1) (nodes_below depth (nodes_after (suc depth) (nodes_of parts)))) =
      ap (λ x. nth_node n (nodes_below depth (after_by part parts x))) a ∙ ap (λ x. nth_node n (below_by part parts x)) b
      ∙ ap (λ k. cond (nat_le n 1) (Some node) (nth_node (n - 1) (nodes_below depth (nodes_after k (nodes_of parts))))) is in
      let same : (first : Bool) → node_of (cond first (Some (part ∷ parts)) (child_at depth (n - 1) parts)) ≡ cond first (Some node) (nth_node (n - 1) (nodes_below depth (nodes_after (suc depth) (nodes_of parts)))) = by_first in
      left ∙ same (nat_le n 1) ∙ sym right
    where
      by_first : (first : Bool) → node_of (cond first (Some (part ∷ parts)) (child_at depth (n - 1) parts)) ≡ cond first (Some (NodeOf part (nodes_below part.depth (nodes_of parts)))) (nth_node (n - 1) (nodes_below depth (nodes_after (suc depth) (nodes_of parts))))
      by_first true = refl
      by_first false = more

  -- one that is deeper is passed
  deeper_node : (part : Part) (parts : List Part) (n : ℕ) → nat_le part.depth depth ≡ false → (part.depth == suc depth) ≡ false
      → node_of (child_at depth n parts) ≡ nth_node n (nodes_below depth (nodes_after (suc depth) (nodes_of parts)))
      → node_of (child_at depth n (part ∷ parts)) ≡ nth_node n (nodes_below depth (nodes_after (suc depth) (nodes_of (part ∷ parts))))
  deeper_node part parts n t e more =
      let a : nat_lt (suc depth) part.depth ≡ true = grind (arith, nat_tests) in
      let l : suc depth < part.depth = ltb-true (suc depth) part.depth a in
      let left : node_of (child_at depth n (part ∷ parts)) ≡ node_of (child_at depth n parts) =
      ap (λ x. node_of (tried part parts n x (part.depth == suc depth) (nat_le n 1))) t ∙ ap (λ x. node_of (tried part parts n false x (nat_le n 1))) e in
      let right : nth_node n (nodes_below depth (nodes_after (suc depth) (nodes_of (part ∷ parts)))) ≡ nth_node n (nodes_below depth (nodes_after (suc depth) (nodes_of parts))) =
      ap (λ x. nth_node n (nodes_below depth (after_by part parts x))) a ∙ ap (λ ns. nth_node n (nodes_below depth ns)) (after_after (suc depth) part.depth l (nodes_of parts)) in
      left ∙ more ∙ sym right

  found_node : (parts : List Part) (n : ℕ) → node_of (child_at depth n parts) ≡ nth_node n (nodes_below depth (nodes_after (suc depth) (nodes_of parts)))
  found_node [] n = refl
  found_node (part ∷ parts) n = elim (cases_Bool (nat_le part.depth depth)) [
    | inl t ↦ shallow_node part parts n t
    | inr f ↦ elim (cases_Bool (part.depth == suc depth)) [
      | inl e ↦ child_node part parts n f e (found_node parts (n - 1))
      | inr e ↦ deeper_node part parts n f e (found_node parts n)
    ]
  ]

  head_same : (parts : List Part) → HeadAtMost (suc depth) parts → nodes_after (suc depth) (nodes_of parts) ≡ nodes_of parts
  head_same [] h = refl
  head_same (part ∷ parts) h = ap (after_by part parts) (le-ltb (suc depth) part.depth h)

  counted_node : (parts : List Part) (n : ℕ) → HeadAtMost (suc depth) parts → node_of (child_at depth n parts) ≡ nth_node n (nodes_below depth (nodes_of parts))
  counted_node parts n h = found_node parts n ∙ ap (λ ns. nth_node n (nodes_below depth ns)) (head_same parts h)

  -- what is found goes on in steps
  tried_stepped : (part : Part) (parts : List Part) (n : ℕ) (shallow child first : Bool) → AreStepped (part ∷ parts) → IsStepped (child_at depth (n - 1) parts) → IsStepped (child_at depth n parts) → IsStepped (tried part parts n shallow child first)
  tried_stepped part parts n true child first h less same = tt
  tried_stepped part parts n false true true h less same = h
  tried_stepped part parts n false true false h less same = less
  tried_stepped part parts n false false first h less same = same

  child_stepped : (parts : List Part) (n : ℕ) → AreStepped parts → IsStepped (child_at depth n parts)
  child_stepped [] n h = tt
  child_stepped (part ∷ parts) n h = tried_stepped part parts n (nat_le part.depth depth) (part.depth == suc depth) (nat_le n 1) h (child_stepped parts (n - 1) h.1) (child_stepped parts n h.1)

-- ---- Numbers, one after another.

only_node : (parts : List Part) (node : PartNode) (b : Bool) → node_for parts ≡ Some node → node_of (cond b (Some parts) None) ≡ cond b (Some node) None
only_node parts node true e = e
only_node parts node false e = refl

message_kind : (kind : PartKind) (n : ℕ) (part : Part) (parts : List Part) → AreStepped (part ∷ parts)
    → node_of (part_of_multipart kind part.depth n (part ∷ parts) parts) ≡ node_by_kind kind n (NodeOf part (nodes_below part.depth (nodes_of parts))) (nodes_below part.depth (nodes_of parts))
message_kind kinds.Multipart n part parts h = counted_node part.depth parts n h.0
message_kind kinds.Message n part parts h = only_node (part ∷ parts) (NodeOf part (nodes_below part.depth (nodes_of parts))) (n == 1) refl
message_kind kinds.Single n part parts h = only_node (part ∷ parts) (NodeOf part (nodes_below part.depth (nodes_of parts))) (n == 1) refl
message_kind kinds.Opaque n part parts h = only_node (part ∷ parts) (NodeOf part (nodes_below part.depth (nodes_of parts))) (n == 1) refl

in_message : (n : ℕ) (parts : Option (List Part)) → IsStepped parts → node_of (part_of_message n parts) ≡ node_in_message n (node_of parts)
in_message n None h = refl
in_message n (Some []) h = refl
in_message n (Some (part ∷ parts)) h = message_kind part.kind n part parts h

in_kind : (kind : PartKind) (n : ℕ) (part : Part) (parts : List Part) → AreStepped (part ∷ parts) → node_of (numbered_by kind false part.depth n (part ∷ parts) parts) ≡ node_in_kind kind n (nodes_below part.depth (nodes_of parts))
in_kind kinds.Multipart n part parts h = counted_node part.depth parts n h.0
in_kind kinds.Message n part parts h = in_message n (child_at part.depth 1 parts) (child_stepped part.depth parts 1 h.1) ∙ ap (node_in_message n) (counted_node part.depth parts 1 h.0)
in_kind kinds.Single n part parts h = refl
in_kind kinds.Opaque n part parts h = refl

only_stepped : (parts : List Part) (b : Bool) → AreStepped parts → IsStepped (cond b (Some parts) None)
only_stepped parts true h = h
only_stepped parts false h = tt

message_stepped : (n : ℕ) (parts : Option (List Part)) → IsStepped parts → IsStepped (part_of_message n parts)
message_stepped n None h = tt
message_stepped n (Some []) h = tt
message_stepped n (Some (part ∷ parts)) h = by_kind part.kind
  where
    by_kind : (kind : PartKind) → IsStepped (part_of_multipart kind part.depth n (part ∷ parts) parts)
    by_kind kinds.Multipart = child_stepped part.depth parts n h.1
    by_kind kinds.Message = only_stepped (part ∷ parts) (n == 1) h
    by_kind kinds.Single = only_stepped (part ∷ parts) (n == 1) h
    by_kind kinds.Opaque = only_stepped (part ∷ parts) (n == 1) h

kind_stepped : (kind : PartKind) (n : ℕ) (part : Part) (parts : List Part) → AreStepped (part ∷ parts) → IsStepped (numbered_by kind false part.depth n (part ∷ parts) parts)
kind_stepped kinds.Multipart n part parts h = child_stepped part.depth parts n h.1
kind_stepped kinds.Message n part parts h = message_stepped n (child_at part.depth 1 parts) (child_stepped part.depth parts 1 h.1)
kind_stepped kinds.Single n part parts h = tt
kind_stepped kinds.Opaque n part parts h = tt

none_on_path : (path : List ℕ) → node_on_path path None ≡ None
none_on_path [] = refl
none_on_path (n ∷ path) = refl

none_from : (path : List ℕ) → part_at_from false path None ≡ None
none_from [] = refl
none_from (n ∷ path) = refl

on_path : (path : List ℕ) (parts : Option (List Part)) → IsStepped parts → node_of (part_at_from false path parts) ≡ node_on_path path (node_of parts)
on_path path None h = ap node_of (none_from path) ∙ sym (none_on_path path)
on_path [] (Some parts) h = refl
on_path (n ∷ path) (Some []) h = ap node_of (none_from path)
on_path (n ∷ path) (Some (part ∷ parts)) h =
    on_path path (numbered_by part.kind false part.depth n (part ∷ parts) parts) (kind_stepped part.kind n part parts h) ∙ ap (node_on_path path) (in_kind part.kind n part parts h)

first_kind : (kind : PartKind) (n : ℕ) (part : Part) (parts : List Part) → numbered_by kind true part.depth n (part ∷ parts) parts ≡ part_of_multipart kind part.depth n (part ∷ parts) parts
first_kind kinds.Multipart n part parts = refl
first_kind kinds.Message n part parts = refl
first_kind kinds.Single n part parts = refl
first_kind kinds.Opaque n part parts = refl

path_node : (path : List ℕ) (part : Part) (parts : List Part) → AreStepped (part ∷ parts) → node_of (part_at path (part ∷ parts)) ≡ numbered_node path (NodeOf part (nodes_below part.depth (nodes_of parts)))
path_node [] part parts h = refl
path_node (n ∷ path) part parts h =
    ap (λ o. node_of (part_at_from false path o)) (first_kind part.kind n part parts) ∙ on_path path (part_of_message n (Some (part ∷ parts))) (message_stepped n (Some (part ∷ parts)) h)
    ∙ ap (node_on_path path) (in_message n (Some (part ∷ parts)) h)

-- ---- The entries of a text's parts.

mutual
  tree_stepped : (place depth : ℕ) (g : Bool) (tree : PartTree) (rest : Lines) (more : List Part) → HeadAtMost depth more → AreStepped more → AreStepped (entries_of_tree place depth g tree rest ++ more)
  tree_stepped place depth g (PartOf header body) rest more h s = body_stepped (place + size_of header) depth (content_at depth g header) body rest more h s

  body_stepped : (place depth : ℕ) (content : Content) (body : BodyTree) (rest : Lines) (more : List Part) → HeadAtMost depth more → AreStepped more
      → HeadAtMost (suc depth) (entries_of_body place depth content body rest ++ more) × AreStepped (entries_of_body place depth content body rest ++ more)
  body_stepped place depth content (SingleBody lines) rest more h s = (head_weaker depth (suc depth) (omega arith) more h, s)
  body_stepped place depth content (MessageBody (PartOf header body)) rest more h s = (omega arith, tree_stepped place (depth + 1) false (PartOf header body) rest more (head_weaker depth (depth + 1) (omega arith) more h) s)
  body_stepped place depth content (MultipartBody preamble trees close) rest more h s =
      let k = trees_stepped (place + size_of preamble) (depth + 1) (has_digest content) trees (close ++ rest) more (head_weaker depth (depth + 1) (omega arith) more h) s in
      (head_weaker (depth + 1) (suc depth) (omega arith) _ k.0, k.1)

  trees_stepped : (place depth : ℕ) (g : Bool) (trees : PartTrees) (rest : Lines) (more : List Part) → HeadAtMost depth more → AreStepped more
      → HeadAtMost depth (entries_of_trees place depth g trees rest ++ more) × AreStepped (entries_of_trees place depth g trees rest ++ more)
  trees_stepped place depth g NoParts rest more h s = (h, s)
  trees_stepped place depth g (PartsFrom line (PartOf header body) trees) rest more h s =
      let k = trees_stepped (place + length line + size_of (lines_of_tree (PartOf header body))) depth g trees rest more h s in
      let first : List Part = entries_of_tree (place + length line) depth g (PartOf header body) (lines_of_trees trees ++ rest) in
      let others : List Part = entries_of_trees (place + length line + size_of (lines_of_tree (PartOf header body))) depth g trees rest in
      (omega arith, subst (λ (ps : List Part). AreStepped ps) (sym (append_assoc first others more)) (tree_stepped (place + length line) depth g (PartOf header body) (lines_of_trees trees ++ rest) (others ++ more) k.0 k.1))

above_both : (depth : ℕ) (parts more : List Part) → AllAbove depth parts → AllAbove depth more → AllAbove depth (parts ++ more)
above_both depth [] more h k = k
above_both depth (part ∷ parts) more h k = (h.0, above_both depth parts more h.1 k)

mutual
  tree_above : (level place depth : ℕ) (g : Bool) (tree : PartTree) (rest : Lines) → level < depth → AllAbove level (entries_of_tree place depth g tree rest)
  tree_above level place depth g (PartOf header body) rest l = (l, body_above level (place + size_of header) depth (content_at depth g header) body rest (omega arith))

  body_above : (level place depth : ℕ) (content : Content) (body : BodyTree) (rest : Lines) → level ≤ depth → AllAbove level (entries_of_body place depth content body rest)
  body_above level place depth content (SingleBody lines) rest l = tt
  body_above level place depth content (MessageBody message) rest l = tree_above level place (depth + 1) false message rest (omega arith)
  body_above level place depth content (MultipartBody preamble trees close) rest l = trees_above level (place + size_of preamble) (depth + 1) (has_digest content) trees (close ++ rest) (omega arith)

  trees_above : (level place depth : ℕ) (g : Bool) (trees : PartTrees) (rest : Lines) → level < depth → AllAbove level (entries_of_trees place depth g trees rest)
  trees_above level place depth g NoParts rest l = tt
  trees_above level place depth g (PartsFrom line tree trees) rest l =
      above_both level (entries_of_tree (place + length line) depth g tree (lines_of_trees trees ++ rest)) (entries_of_trees (place + length line + size_of (lines_of_tree tree)) depth g trees rest)
      (tree_above level (place + length line) depth g tree (lines_of_trees trees ++ rest) l) (trees_above level (place + length line + size_of (lines_of_tree tree)) depth g trees rest l)

abbrev head_depth : List Part → ℕ
head_depth [] = 0
head_depth (p ∷ ps) = p.depth

abbrev tail_of : List Part → List Part
tail_of [] = []
tail_of (p ∷ ps) = ps

tree_node : (tree : PartTree) (path : List ℕ) (part : Part) (parts : List Part) → part ∷ parts ≡ entries_of_tree 0 0 false tree [] → node_of (part_at path (part ∷ parts)) ≡ numbered_node path (NodeOf part (nodes_of parts))
tree_node (PartOf header body) path part parts e =
    let inner : List Part = entries_of_body (0 + size_of header) 0 (content_at 0 false header) body [] in
    let top : part.depth ≡ 0 = ap (λ (ps : List Part). head_depth ps) e in
    let rest : parts ≡ inner = ap (λ (ps : List Part). tail_of ps) e in
    let stepped : AreStepped (part ∷ parts) = subst (λ (ps : List Part). AreStepped ps) (append-nil (entries_of_tree 0 0 false (PartOf header body) []) ∙ sym e) (tree_stepped 0 0 false (PartOf header body) [] [] tt tt) in
    let above : AllAbove 0 parts = subst (λ (ps : List Part). AllAbove 0 ps) (sym rest) (body_above 0 (0 + size_of header) 0 (content_at 0 false header) body [] (omega arith)) in
    let whole : nodes_below part.depth (nodes_of parts) ≡ nodes_of parts = ap (λ k. nodes_below k (nodes_of parts)) top ∙ below_same 0 (nodes_of parts) (parts_above 0 parts above) in
    path_node path part parts stepped ∙ ap (λ ns. numbered_node path (NodeOf part ns)) whole

pub numbers_node : (message path : List ℕ) (part : Part) (parts : List Part) → AreEntries message (part ∷ parts) → node_of (part_at path (part ∷ parts)) ≡ numbered_node path (NodeOf part (nodes_of parts))
numbers_node message path part parts h = tree_node h.tree path part parts h.entries_are
