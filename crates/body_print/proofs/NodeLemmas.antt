use Rattle.std.proofs.Common.{◌≡◌, ℕ, ◌<◌, ◌≤◌, Bool, true, false, List, [], ◌∷◌, ◌++◌, length, take, drop, ap, sym, arith, ◌∙◌, refl, append_assoc, inl, inr, nat_lt}
use Rattle.std.proofs.lemmas.Bool.{cases_Bool, le-ltb, lt-ltb, ltb-false, ltb-true}
use Rattle.mail_parts.specs.Nesting.{parts_after, parts_below}
use Rattle.mail_parts.specs.declared.part.Part.{Part}
use Rattle.body_print.specs.Bodies.{bodies_of, bodies_of_nodes, body_of_node, or_empty}
use Rattle.body_print.specs.PartNodes.{PartNode, PartNodes, nodes_after, nodes_below, nodes_of, with_part}
use Rattle.body_print.specs.PartNodes.PartNode.{NodeOf}
use Rattle.body_print.specs.PartNodes.PartNodes.{NoNodes, NodesFrom}
use Rattle.body_print.specs.Values.{joined_text, text_of}

-- nodes that are deeper than one number among those that are deeper than a smaller one
below-below : (d e : ℕ) (nodes : PartNodes) → d < e → nodes_below e (nodes_below d nodes) ≡ nodes_below e nodes
below-below d e NoNodes l = refl
below-below d e (NodesFrom (NodeOf p inner) nodes) l = elim (cases_Bool (nat_lt d p.depth)) [
  | inl t ↦ elim (cases_Bool (nat_lt e p.depth)) [
    | inl u ↦ rw (t, u) (ap (NodesFrom (NodeOf p inner)) (below-below d e nodes l))
    | inr v ↦ rw (t, v) refl
  ]
  | inr f ↦ let g = le-ltb e p.depth (let k = ltb-false d p.depth f in omega (arith, k, l)) in rw (f, g) refl
]

after-below : (d e : ℕ) (nodes : PartNodes) → d < e → nodes_after e (nodes_below d nodes) ≡ nodes_below d (nodes_after e nodes)
after-below d e NoNodes l = refl
after-below d e (NodesFrom (NodeOf p inner) nodes) l = elim (cases_Bool (nat_lt e p.depth)) [
  | inl u ↦ let t = lt-ltb d p.depth (let k = ltb-true e p.depth u in omega (arith, k, l)) in rw (t, u) (after-below d e nodes l)
  | inr v ↦ elim (cases_Bool (nat_lt d p.depth)) [
    | inl t ↦ rw (v, t, v) refl
    | inr f ↦ rw (v, f) refl
  ]
]

after-after : (d e : ℕ) (nodes : PartNodes) → d < e → nodes_after d (nodes_after e nodes) ≡ nodes_after d nodes
after-after d e NoNodes l = refl
after-after d e (NodesFrom (NodeOf p inner) nodes) l = elim (cases_Bool (nat_lt e p.depth)) [
  | inl u ↦ let t = lt-ltb d p.depth (let k = ltb-true e p.depth u in omega (arith, k, l)) in rw (u, t) (after-after d e nodes l)
  | inr v ↦ rw v refl
]

-- the nodes of parts that are deeper than a number
nodes_below-of : (d : ℕ) (parts : List Part) → nodes_below d (nodes_of parts) ≡ nodes_of (parts_below d parts)
nodes_below-of d [] = refl
nodes_below-of d (p ∷ parts) = elim (cases_Bool (nat_lt d p.depth)) [
  | inl t ↦
      let l = ltb-true d p.depth t in
      rw t (
      (λ i. NodesFrom (NodeOf p (sym (below-below d p.depth (nodes_of parts) l) i)) (sym (after-below d p.depth (nodes_of parts) l) i))
      ∙ ap (with_part p) (nodes_below-of d parts)
      )
  | inr f ↦ rw f refl
]

nodes_after-of : (d : ℕ) (parts : List Part) → nodes_after d (nodes_of parts) ≡ nodes_of (parts_after d parts)
nodes_after-of d [] = refl
nodes_after-of d (p ∷ parts) = elim (cases_Bool (nat_lt d p.depth)) [
  | inl t ↦ rw t (after-after d p.depth (nodes_of parts) (ltb-true d p.depth t) ∙ nodes_after-of d parts)
  | inr f ↦ rw f refl
]

-- the bodies of parts: that of the first with the parts in it, and those after them
pub bodies-first : (extended : Bool) (text : List ℕ) (p : Part) (tail inner after : List Part) → inner ≡ parts_below p.depth tail → after ≡ parts_after p.depth tail
    → joined_text (bodies_of extended text (p ∷ tail)) ≡ text_of (body_of_node extended text (NodeOf p (nodes_of inner))) ++ joined_text (bodies_of extended text after)
bodies-first extended text p tail inner after b a =
    (λ i. text_of (body_of_node extended text (NodeOf p (nodes_below-of p.depth tail i))) ++ joined_text (bodies_of_nodes extended text (nodes_after-of p.depth tail i)))
    ∙ (λ i. text_of (body_of_node extended text (NodeOf p (nodes_of (sym b i)))) ++ joined_text (bodies_of extended text (sym a i)))

-- a first body was appended, and those after it are left
pub first_appended : (extended : Bool) (text : List ℕ) (p : Part) (tail inner : List Part) (count : ℕ) (old new : List ℕ) → inner ≡ take count tail → take count tail ≡ parts_below p.depth tail → drop count tail ≡ parts_after p.depth tail
    → new ≡ old ++ text_of (body_of_node extended text (NodeOf p (nodes_of inner))) → new ++ joined_text (bodies_of extended text (drop count tail)) ≡ old ++ joined_text (bodies_of extended text (p ∷ tail))
first_appended extended text p tail inner count old new i b a n =
    ap (λ x. x ++ joined_text (bodies_of extended text (drop count tail))) n
    ∙ append_assoc old (text_of (body_of_node extended text (NodeOf p (nodes_of inner)))) (joined_text (bodies_of extended text (drop count tail)))
    ∙ ap (λ x. old ++ x) (sym (bodies-first extended text p tail inner (drop count tail) (i ∙ b) a))

-- some parts have some bodies
pub some_bodies : (extended : Bool) (text : List ℕ) (parts : List Part) → 1 ≤ length parts → or_empty extended (bodies_of extended text parts) ≡ bodies_of extended text parts
some_bodies extended text [] l = absurd (omega (arith, l))
some_bodies extended text (p ∷ parts) l = refl
