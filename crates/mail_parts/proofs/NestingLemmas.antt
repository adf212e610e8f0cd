use Rattle.std.proofs.Common.{◌≡◌, ℕ, ◌+◌, ◌-◌, ◌≤◌, Bool, true, false, ◌==◌, ltb, List, [], ◌∷◌, ◌++◌, length, min, ap, sym, subst, ◌∙◌, arith, refl, inl, inr}
use Rattle.std.proofs.lemmas.Bool.{and_parts, cases_Bool, lt-ltb, le-ltb}
use Rattle.std.proofs.lemmas.List.{length-append}
use Rattle.std.specs.List.{concat}
use Rattle.mail_parts.specs.Cuttings.{AreTrees, IsBody, IsTree, begins_part, content_at}
use Rattle.mail_parts.specs.Delimiters.{Line, Lines, has_boundary, is_own_delimiter}
use Rattle.mail_parts.specs.Entries.{AreEntries, end_at, entries_of_body, entries_of_tree, entries_of_trees, entry_at, has_digest}
use Rattle.mail_parts.specs.Nesting.{AreNested, EachPart, HasPlaces, IsInside, parts_after, parts_below}
use Rattle.mail_parts.specs.PartTrees.{BodyTree, PartTree, PartTrees, lines_of_body, lines_of_tree, lines_of_trees, size_of}
use Rattle.mail_parts.specs.PartTrees.BodyTree.{MessageBody, MultipartBody, SingleBody}
use Rattle.mail_parts.specs.PartTrees.PartTree.{PartOf}
use Rattle.mail_parts.specs.PartTrees.PartTrees.{NoParts, PartsFrom}
use Rattle.mail_parts.specs.declared.content.Content.{Content}
use Rattle.mail_parts.specs.declared.part.Part.{Part}
use Rattle.mail_text.proofs.LineLemmas.{lines-joined}
use Rattle.mail_parts.proofs.LineLemmas.{concat-append}

size_of-append : (xs ys : Lines) → size_of (xs ++ ys) ≡ size_of xs + size_of ys
size_of-append xs ys = ap length (concat-append xs ys) ∙ length-append (concat xs) (concat ys)

size_of-cons : (x : Line) (xs : Lines) → size_of (x ∷ xs) ≡ length x + size_of xs
size_of-cons x xs = length-append x (concat xs)

-- a delimiter line has at least two octets
delimiter_long : (boundary line : List ℕ) → has_boundary boundary line ≡ true → 2 ≤ length line
delimiter_long boundary [] h = absurd cc
delimiter_long boundary (x ∷ []) h = absurd (let k : false ≡ true = (and_parts (45 == x) false h).1 in cc)
delimiter_long boundary (x ∷ y ∷ line) h = omega arith

own_long : (boundaries : List (List ℕ)) (own line : List ℕ) → is_own_delimiter boundaries own line ≡ true → 2 ≤ length line
own_long boundaries own line h = delimiter_long own line ((and_parts _ _ h).0)

part_long : (boundaries : List (List ℕ)) (own : List ℕ) (used : ℕ) (line : List ℕ) → begins_part boundaries own used line ≡ true → 2 ≤ length line
part_long boundaries own used line h = own_long boundaries own line ((and_parts _ _ ((and_parts _ _ h).0)).0)

-- each part
each-append : (P : Part → Type 0) (xs ys : List Part) → EachPart P xs → EachPart P ys → EachPart P (xs ++ ys)
each-append P [] ys h k = k
each-append P (x ∷ xs) ys h k = (h.0, each-append P xs ys h.1 k)

each-weaker : (P Q : Part → Type 0) (xs : List Part) → ((x : Part) → P x → Q x) → EachPart P xs → EachPart Q xs
each-weaker P Q [] f h = tt
each-weaker P Q (x ∷ xs) f h = (f x h.0, each-weaker P Q xs f h.1)

-- parts of a level and below, within places
pub record IsAmid (depth low high : ℕ) (part : Part) : Type 0 where
  pub level : depth ≤ part.depth
  pub begins : low ≤ part.start
  pub header : part.start ≤ part.body
  pub body : part.body ≤ part.end
  pub ends : part.end ≤ high

wider : (depth low high depth' low' high' : ℕ) → depth' ≤ depth → low' ≤ low → high ≤ high' → (part : Part) → IsAmid depth low high part → IsAmid depth' low' high' part
wider depth low high depth' low' high' d l h part a =
    let a0 = a.level in let a1 = a.begins in let a4 = a.ends in
    record { level = omega arith; begins = omega arith; header = a.header; body = a.body; ends = omega arith }

-- parts with others after them
IsFlat : ℕ → List Part → Type 0
IsFlat depth [] = Unit {0}
IsFlat depth (part ∷ parts) = part.depth ≤ depth

flat_none : (depth : ℕ) → IsFlat depth []
unfolding IsFlat
flat_none depth = tt

below-append : (depth : ℕ) (xs ys : List Part) → IsFlat depth ys → parts_below depth (xs ++ ys) ≡ parts_below depth xs
unfolding IsFlat
below-append depth [] [] f = refl
below-append depth [] (y ∷ ys) f = rw (le-ltb depth y.depth f) refl
below-append depth (x ∷ xs) ys f = elim (cases_Bool (ltb depth x.depth)) [
  | inl t ↦ rw t (ap (λ ps. x ∷ ps) (below-append depth xs ys f))
  | inr n ↦ rw n refl
]

after-append : (depth : ℕ) (xs ys : List Part) → IsFlat depth ys → parts_after depth (xs ++ ys) ≡ parts_after depth xs ++ ys
unfolding IsFlat
after-append depth [] [] f = refl
after-append depth [] (y ∷ ys) f = rw (le-ltb depth y.depth f) refl
after-append depth (x ∷ xs) ys f = elim (cases_Bool (ltb depth x.depth)) [
  | inl t ↦ rw t (after-append depth xs ys f)
  | inr n ↦ rw n refl
]

flat_higher : (depth more : ℕ) (ys : List Part) → depth ≤ more → IsFlat depth ys → IsFlat more ys
unfolding IsFlat
flat_higher depth more [] l f = tt
flat_higher depth more (y ∷ ys) l f = omega arith

nested-append : (depth low high low' high' : ℕ) (xs ys : List Part) → high ≤ low' → EachPart (IsAmid depth low high) xs → EachPart (IsAmid depth low' high') ys → IsFlat depth ys → AreNested xs → AreNested ys → AreNested (xs ++ ys)
nested-append depth low high low' high' [] ys l a b f h k = k
nested-append depth low high low' high' (x ∷ xs) ys l a b f h k =
    let g = flat_higher depth x.depth ys a.0.level f in
    let e = a.0.ends in (
      subst (λ (ps : List Part). EachPart (IsInside x) ps) (sym (below-append x.depth xs ys g)) h.0,
      subst (λ (ps : List Part). EachPart (λ next. x.end ≤ next.start) ps) (sym (after-append x.depth xs ys g))
          (each-append (λ next. x.end ≤ next.start) (parts_after x.depth xs) ys h.1 (each-weaker (IsAmid depth low' high') (λ next. x.end ≤ next.start) ys (λ next n. let m = n.begins in omega arith) b)),
      nested-append depth low high low' high' xs ys l a.1 b f h.2 k,
    )

-- a part and those within it
below_all : (depth low high : ℕ) (xs : List Part) → EachPart (IsAmid (depth + 1) low high) xs → parts_below depth xs ≡ xs
below_all depth low high [] a = refl
below_all depth low high (x ∷ xs) a = let d = a.0.level in rw (lt-ltb depth x.depth (omega arith)) (ap (λ ps. x ∷ ps) (below_all depth low high xs a.1))

after_none : (depth low high : ℕ) (xs : List Part) → EachPart (IsAmid (depth + 1) low high) xs → parts_after depth xs ≡ []
after_none depth low high [] a = refl
after_none depth low high (x ∷ xs) a = let d = a.0.level in rw (lt-ltb depth x.depth (omega arith)) (after_none depth low high xs a.1)

nested-cons : (p : Part) (low high : ℕ) (xs : List Part) → p.body ≤ low → high ≤ p.end → EachPart (IsAmid (p.depth + 1) low high) xs → AreNested xs → AreNested (p ∷ xs)
nested-cons p low high xs l h a n = (
  subst (λ (ps : List Part). EachPart (IsInside p) ps) (sym (below_all p.depth low high xs a))
      (each-weaker (IsAmid (p.depth + 1) low high) (IsInside p) xs (λ x m. let b = m.begins in let e = m.ends in record { begins = omega arith; ends = omega arith }) a),
  subst (λ (ps : List Part). EachPart (λ next. p.end ≤ next.start) ps) (sym (after_none p.depth low high xs a)) tt,
  n,
)

-- where parts end
end_low : (place : ℕ) (rest : Lines) → place - 2 ≤ end_at place rest
end_low place [] = omega arith
end_low place (line ∷ rest) = omega arith

end_high : (place : ℕ) (rest : Lines) → end_at place rest ≤ place
end_high place [] = omega arith
end_high place (line ∷ rest) = omega arith

flat_tree : (place depth : ℕ) (g : Bool) (tree : PartTree) (rest : Lines) (ys : List Part) → IsFlat depth (entries_of_tree place depth g tree rest ++ ys)
unfolding IsFlat
flat_tree place depth g (PartOf header body) rest ys = omega arith

abbrev FitAmid : ℕ → ℕ → ℕ → List Part → Type 0
FitAmid depth low high parts = EachPart (IsAmid depth low high) parts × AreNested parts

widened : (depth low high depth' low' high' : ℕ) (parts : List Part) → depth' ≤ depth → low' ≤ low → high ≤ high' → FitAmid depth low high parts → FitAmid depth' low' high' parts
widened depth low high depth' low' high' parts d l h f = (each-weaker (IsAmid depth low high) (IsAmid depth' low' high') parts (wider depth low high depth' low' high' d l h) f.0, f.1)

-- the end of a multipart's parts and its own
parts_end : (place : ℕ) (trees close rest : Lines) (high end : ℕ) → high ≡ end_at (place + size_of trees) (close ++ rest) → end ≡ end_at (place + size_of (trees ++ close)) rest → high ≤ end
parts_end place trees [] rest high end h e =
    let p : place + size_of (trees ++ []) ≡ place + size_of trees = omega (arith, size_of-append trees []) in
    let q : end ≡ end_at (place + size_of trees) rest = e ∙ ap (λ n. end_at n rest) p in omega arith
parts_end place trees (line ∷ close) rest high end h e =
    let l = end_low (place + size_of (trees ++ line ∷ close)) rest in omega (arith, size_of-append trees (line ∷ close))

-- the end of the first part and of all
first_end : (place size : ℕ) (trees rest : Lines) (one all : ℕ) → one ≡ end_at (place + size) (trees ++ rest) → all ≡ end_at (place + size + size_of trees) rest → one ≤ all
first_end place size [] rest one all o a =
    let p : place + size + size_of [] ≡ place + size = omega arith in
    let q : all ≡ end_at (place + size) rest = a ∙ ap (λ n. end_at n rest) p in omega arith
first_end place size (line ∷ trees) rest one all o a = let l = end_low (place + size + size_of (line ∷ trees)) rest in omega arith

mutual
  tree_fits : (boundaries : List (List ℕ)) (used place depth : ℕ) (g : Bool) (tree : PartTree) (rest : Lines) (end : ℕ) → IsTree boundaries g depth used tree rest → end ≡ end_at (place + size_of (lines_of_tree tree)) rest
      → FitAmid depth (min place end) end (entries_of_tree place depth g tree rest)
  tree_fits boundaries used place depth g (PartOf header body) rest end t e =
      let s = size_of-append header (lines_of_body body) in
      let p : place + size_of (header ++ lines_of_body body) ≡ place + (size_of header + size_of (lines_of_body body)) = omega arith in
      let q : place + size_of (header ++ lines_of_body body) ≡ place + size_of header + size_of (lines_of_body body) = omega arith in
      let e1 : end ≡ end_at (place + (size_of header + size_of (lines_of_body body))) rest = e ∙ ap (λ n. end_at n rest) p in
      let e2 : end ≡ end_at (place + size_of header + size_of (lines_of_body body)) rest = e ∙ ap (λ n. end_at n rest) q in
      let b = body_fits boundaries (used + 1) (place + size_of header) depth (content_at depth g header) _ body rest end t.2 e2 in
      let entry = entry_at place depth g (content_at depth g header) (size_of header) (size_of header + size_of (lines_of_body body)) rest in
      let amid : IsAmid depth (min place end) end entry = record { level = omega arith; begins = omega arith; header = omega arith; body = omega arith; ends = omega arith } in (
        (amid, each-weaker (IsAmid (depth + 1) (min (place + size_of header) end) end) (IsAmid depth (min place end) end) _ (wider (depth + 1) (min (place + size_of header) end) end depth (min place end) end (omega arith) (omega arith) (omega arith)) b.0),
        nested-cons entry (min (place + size_of header) end) end _ (omega arith) (omega arith) b.0 b.1,
      )

  body_fits : (boundaries : List (List ℕ)) (used place depth : ℕ) (content : Content) (is_whole : Bool) (body : BodyTree) (rest : Lines) (end : ℕ) → IsBody boundaries content is_whole depth used body rest
      → end ≡ end_at (place + size_of (lines_of_body body)) rest → FitAmid (depth + 1) (min place end) end (entries_of_body place depth content body rest)
  body_fits boundaries used place depth content is_whole (SingleBody lines) rest end b e = (tt, tt)
  body_fits boundaries used place depth content is_whole (MessageBody tree) rest end b e = tree_fits boundaries used place (depth + 1) false tree rest end b.1 e
  body_fits boundaries used place depth content is_whole (MultipartBody preamble trees close) rest end b e =
      let own : List ℕ = b.1.0 in
      let d : has_digest content ≡ b.1.1 = ap has_digest b.1.2 in
      let at : ℕ = place + size_of preamble in
      let high : ℕ = end_at (at + size_of (lines_of_trees trees)) (close ++ rest) in
      let f = trees_fit (boundaries ++ own ∷ []) own used at (depth + 1) b.1.1 trees (close ++ rest) high b.1.4 refl in
      let g : FitAmid (depth + 1) at high (entries_of_trees at (depth + 1) (has_digest content) trees (close ++ rest)) =
      subst (λ (x : Bool). FitAmid (depth + 1) at high (entries_of_trees at (depth + 1) x trees (close ++ rest))) (sym d) (f.0, f.1) in
      let p : place + size_of (preamble ++ (lines_of_trees trees ++ close)) ≡ at + size_of (lines_of_trees trees ++ close) = omega (arith, size_of-append preamble (lines_of_trees trees ++ close)) in
      let l = parts_end at (lines_of_trees trees) close rest high end refl (e ∙ ap (λ n. end_at n rest) p) in
      widened (depth + 1) at high (depth + 1) (min place end) end _ (omega arith) (omega arith) l g

  trees_fit : (boundaries : List (List ℕ)) (own : List ℕ) (used place depth : ℕ) (g : Bool) (trees : PartTrees) (rest : Lines) (high : ℕ) → AreTrees boundaries own g depth used trees rest
      → high ≡ end_at (place + size_of (lines_of_trees trees)) rest
      → EachPart (IsAmid depth place high) (entries_of_trees place depth g trees rest) × AreNested (entries_of_trees place depth g trees rest) × IsFlat depth (entries_of_trees place depth g trees rest)
  trees_fit boundaries own used place depth g NoParts rest high a e = (tt, tt, flat_none depth)
  trees_fit boundaries own used place depth g (PartsFrom line tree trees) rest high a e =
      let long = part_long boundaries own used line a.0 in
      let s1 : ℕ = place + length line in
      let t : ℕ = size_of (lines_of_tree tree) in
      let rest1 : Lines = lines_of_trees trees ++ rest in
      let one : ℕ = end_at (s1 + t) rest1 in
      let low = end_low (s1 + t) rest1 in
      let up = end_high (s1 + t) rest1 in
      let sizes = size_of-cons line (lines_of_tree tree ++ lines_of_trees trees) in
      let more = size_of-append (lines_of_tree tree) (lines_of_trees trees) in
      let p : place + size_of (line ∷ (lines_of_tree tree ++ lines_of_trees trees)) ≡ s1 + t + size_of (lines_of_trees trees) = omega arith in
      let e1 : high ≡ end_at (s1 + t + size_of (lines_of_trees trees)) rest = e ∙ ap (λ n. end_at n rest) p in
      let below : one ≤ high = first_end s1 t (lines_of_trees trees) rest one high refl e1 in
      let first = tree_fits boundaries used s1 depth g tree rest1 one a.1 refl in
      let next = trees_fit boundaries own _ (s1 + t) depth g trees rest high a.2 e1 in
      let narrow = widened depth (min s1 one) one depth place one _ (omega arith) (omega arith) (omega arith) first in
      let wide = widened depth (min s1 one) one depth place high _ (omega arith) (omega arith) below first in (
        each-append (IsAmid depth place high) (entries_of_tree s1 depth g tree rest1) (entries_of_trees (s1 + t) depth g trees rest) wide.0
            (each-weaker (IsAmid depth (s1 + t) high) (IsAmid depth place high) _ (wider depth (s1 + t) high depth place high (omega arith) (omega arith) (omega arith)) next.0),
        nested-append depth place one (s1 + t) high (entries_of_tree s1 depth g tree rest1) (entries_of_trees (s1 + t) depth g trees rest) (omega arith) narrow.0 next.0 next.2 first.1 next.1,
        flat_tree s1 depth g tree rest1 (entries_of_trees (s1 + t) depth g trees rest),
      )

-- the parts of a whole text
pub all_nested : (text : List ℕ) (parts : List Part) → AreEntries text parts → AreNested parts
all_nested text parts a = subst AreNested (sym a.entries_are) ((tree_fits [] 0 0 0 false a.tree [] (end_at (0 + size_of (lines_of_tree a.tree)) []) a.is_cutting.is_tree refl).1)

pub all_placed : (text : List ℕ) (parts : List Part) → AreEntries text parts → EachPart (HasPlaces (length text)) parts
all_placed text parts a =
    let size : size_of (lines_of_tree a.tree) ≡ length text = ap size_of a.is_cutting.lines ∙ ap length (lines-joined text) in
    let high : ℕ = end_at (0 + size_of (lines_of_tree a.tree)) [] in
    let f = tree_fits [] 0 0 0 false a.tree [] high a.is_cutting.is_tree refl in
    subst (λ (ps : List Part). EachPart (HasPlaces (length text)) ps) (sym a.entries_are)
    (each-weaker (IsAmid 0 (min 0 high) high) (HasPlaces (length text)) _ (λ part m. let e = m.ends in record { header = m.header; body = m.body; text = omega arith }) f.0)
