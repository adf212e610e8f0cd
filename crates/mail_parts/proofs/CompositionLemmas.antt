use Rattle.std.proofs.Common.{◌≡◌, ℕ, ◌+◌, ◌<◌, ◌≤◌, Bool, true, false, not, ◌&&◌, ◌||◌, List, [], ◌∷◌, ◌++◌, length, take, drop, codes, ap, sym, subst, ◌∙◌, arith, refl, inl, inr, lt-ltb, le-ltb, ltb}
use Rattle.std.proofs.lemmas.Bool.{and_parts, cases_Bool, or_parts}
use Rattle.std.proofs.lemmas.List.{length-append}
use Rattle.std.proofs.lemmas.Slice.Eq.{bytes_eq-Decides}
use Rattle.std.specs.List.{concat, list_any}
use Rattle.mail_text.proofs.LineLemmas.{lines-joined}
use Rattle.mail_text.specs.HeaderAndBody.{header_of}
use Rattle.mail_text.specs.TextLines.{body_lines, header_lines, is_empty_line, lines_of}
use Rattle.mail_parts.specs.Compositions.{AreComposed, BeginsWithWhole, IsApart, IsComposed, IsComposedBody, IsComposition, IsWrittenClose, closing_line, delimiter_line}
use Rattle.mail_parts.specs.Cuttings.{AreTrees, BeginsNoPart, IsBody, IsClose, IsCutting, IsTree, begins_part, content_at, is_single, is_whole_header, most_parts}
use Rattle.mail_parts.specs.Delimiters.{HasNoDelimiter, IsEnd, Lines, begins_with, has_boundary, has_longer_boundary, is_closing, is_delimiter, is_longer_boundary, is_own_delimiter}
use Rattle.mail_parts.specs.Entries.{AreEntries, entries_of_tree}
use Rattle.mail_parts.specs.PartTrees.{BodyTree, PartTree, PartTrees, count_of_body, count_of_tree, count_of_trees, lines_of_body, lines_of_trees, size_of}
use Rattle.mail_parts.specs.PartTrees.BodyTree.{MessageBody, MultipartBody, SingleBody}
use Rattle.mail_parts.specs.PartTrees.PartTree.{PartOf}
use Rattle.mail_parts.specs.PartTrees.PartTrees.{NoParts, PartsFrom}
use Rattle.mail_parts.specs.declared.content.Content.{Content}
use Rattle.mail_parts.specs.declared.content.Content.TheVariants.{Single}
use Rattle.mail_parts.specs.declared.part.Part.{Part}
use Rattle.mail_parts.proofs.DelimiterLemmas.{begins_with-append}
use Rattle.mail_parts.proofs.LineLemmas.{concat-append}

-- a text begins with its front
begins_front : (xs ys : List ℕ) → begins_with xs (xs ++ ys) ≡ true
begins_front xs ys = (bytes_eq-Decides xs (take (length xs) (xs ++ ys))).1 (front_of xs ys) where
  front_of : (xs ys : List ℕ) → xs ≡ take (length xs) (xs ++ ys)
  front_of [] ys = refl
  front_of (x ∷ xs) ys = ap (λ zs. x ∷ zs) (front_of xs ys)

drop_front : (xs ys : List ℕ) → drop (length xs) (xs ++ ys) ≡ ys
drop_front [] ys = refl
drop_front (x ∷ xs) ys = drop_front xs ys

-- delimiter lines as they are written
has_own : (own more : List ℕ) → has_boundary own (codes "--" ++ (own ++ more)) ≡ true
has_own own more = begins_front own more

closes : (own more : List ℕ) → is_closing own (codes "--" ++ (own ++ more)) ≡ begins_with (codes "--") more
closes own more =
    begins_with-append own (codes "--") (own ++ more)
    ∙ ap (λ b. b && begins_with (codes "--") (drop (length own) (own ++ more))) (begins_front own more)
    ∙ ap (begins_with (codes "--")) (drop_front own more)

any-append : (test : List ℕ → Bool) (xs ys : Lines) → list_any test (xs ++ ys) ≡ (list_any test xs || list_any test ys)
any-append test [] ys = refl
any-append test (x ∷ xs) ys = elim (cases_Bool (test x)) [ inl t ↦ rw t refl | inr f ↦ rw f (any-append test xs ys) ]

none_longer : (boundaries : List (List ℕ)) (own line : List ℕ) → is_delimiter boundaries line ≡ false → has_longer_boundary boundaries own line ≡ false
none_longer [] own line h = refl
none_longer (b ∷ boundaries) own line h =
    let p = or_parts (has_boundary b line) (is_delimiter boundaries line) h in
    elim (cases_Bool (is_longer_boundary own line b)) [
      | inl t ↦ absurd (let k : true ≡ false = sym ((and_parts _ _ t).1) ∙ p.0 in cc)
      | inr f ↦ rw f (none_longer boundaries own line p.1)
    ]

not_longer : (own line : List ℕ) → is_longer_boundary own line own ≡ false
not_longer own line = rw (le-ltb (length own) (length own) (omega arith)) refl

own_line : (boundaries : List (List ℕ)) (own line : List ℕ) → is_delimiter boundaries line ≡ false → has_boundary own line ≡ true → is_own_delimiter (boundaries ++ own ∷ []) own line ≡ true
own_line boundaries own line a h =
    let n : has_longer_boundary (boundaries ++ own ∷ []) own line ≡ false =
    any-append (is_longer_boundary own line) boundaries (own ∷ []) ∙ (λ i. none_longer boundaries own line a i || (not_longer own line i || false)) in
    (λ i. h i && not (n i))

own_ends : (boundaries : List (List ℕ)) (own line : List ℕ) → has_boundary own line ≡ true → is_delimiter (boundaries ++ own ∷ []) line ≡ true
own_ends boundaries own line h =
    any-append (λ boundary. has_boundary boundary line) boundaries (own ∷ []) ∙ (λ i. is_delimiter boundaries line || (h i || false)) ∙ or_true (is_delimiter boundaries line) where
      or_true : (b : Bool) → (b || true) ≡ true
      or_true true = refl
      or_true false = refl

part_line : (boundaries : List (List ℕ)) (own : List ℕ) (used : ℕ) (line : List ℕ) → IsApart boundaries own → line ≡ delimiter_line own → used < most_parts → begins_part (boundaries ++ own ∷ []) own used line ≡ true
part_line boundaries own used line a e u =
    let o : is_own_delimiter (boundaries ++ own ∷ []) own (delimiter_line own) ≡ true = own_line boundaries own (delimiter_line own) a.0 (has_own own (codes "\r\n")) in
    ap (begins_part (boundaries ++ own ∷ []) own used) e ∙ (λ i. (o i && not (closes own (codes "\r\n") i)) && lt-ltb used most_parts u i)

no_part_line : (boundaries : List (List ℕ)) (own : List ℕ) (used : ℕ) (line : List ℕ) → line ≡ closing_line own → begins_part (boundaries ++ own ∷ []) own used line ≡ false
no_part_line boundaries own used line e =
    ap (begins_part (boundaries ++ own ∷ []) own used) e
    ∙ (λ i. (is_own_delimiter (boundaries ++ own ∷ []) own (closing_line own) && not (closes own (codes "--\r\n") i)) && ltb used most_parts)
    ∙ none_of (is_own_delimiter (boundaries ++ own ∷ []) own (closing_line own)) (ltb used most_parts)
  where
    none_of : (a b : Bool) → ((a && false) && b) ≡ false
    none_of true b = refl
    none_of false b = refl

-- a header with its empty line
header_kept : (h xs : Lines) → header_lines h ≡ h → is_whole_header h ≡ true → header_lines (h ++ xs) ≡ h
header_kept [] xs e w = absurd (let k : false ≡ true = w in cc)
header_kept (x ∷ h) xs e w =
    elim (cases_Bool (is_empty_line x)) [
      | inl t ↦ let k : x ∷ [] ≡ x ∷ h = rw t at e in rw t k
      | inr f ↦
          let k : x ∷ header_lines h ≡ x ∷ h = rw f at e in
          let i : header_lines h ≡ h = cc in
          let v : is_whole_header h ≡ true = rw f at w in
          rw f (ap (λ ls. x ∷ ls) (header_kept h xs i v))
    ]

-- what follows a part of a multipart
after_part : (boundaries : List (List ℕ)) (own : List ℕ) (g : Bool) (depth : ℕ) (trees : PartTrees) (close rest : Lines) → AreComposed boundaries own g depth trees → IsWrittenClose boundaries own close
    → IsEnd (boundaries ++ own ∷ []) (lines_of_trees trees ++ (close ++ rest))
after_part boundaries own g depth NoParts [] rest a c = absurd c
after_part boundaries own g depth NoParts (line ∷ close) rest a c = own_ends boundaries own line (ap (has_boundary own) c.0 ∙ has_own own (codes "--\r\n"))
after_part boundaries own g depth (PartsFrom line tree trees) close rest a c = own_ends boundaries own line (ap (has_boundary own) a.0 ∙ has_own own (codes "\r\n"))

no_more_parts : (boundaries : List (List ℕ)) (own : List ℕ) (used : ℕ) (close rest : Lines) → IsWrittenClose boundaries own close → BeginsNoPart (boundaries ++ own ∷ []) own used (close ++ rest)
no_more_parts boundaries own used [] rest c = absurd c
no_more_parts boundaries own used (line ∷ close) rest c = no_part_line boundaries own used line c.0

close_is : (boundaries : List (List ℕ)) (own : List ℕ) (close rest : Lines) → IsApart boundaries own → IsWrittenClose boundaries own close → IsClose boundaries own close rest
close_is boundaries own [] rest a c = absurd c
close_is boundaries own (line ∷ close) rest a c =
    (ap (is_own_delimiter (boundaries ++ own ∷ []) own) c.0 ∙ own_line boundaries own (closing_line own) a.1 (has_own own (codes "--\r\n")), c.1)

some_part : (tree : PartTree) → 1 ≤ count_of_tree tree
some_part (PartOf header body) = omega arith

mutual
  tree_composed : (boundaries : List (List ℕ)) (g : Bool) (depth used : ℕ) (tree : PartTree) (rest : Lines) → IsComposed boundaries g depth tree → used + count_of_tree tree ≤ most_parts → IsEnd boundaries rest
      → IsTree boundaries g depth used tree rest
  tree_composed boundaries g depth used (PartOf header body) rest t n e = (
    e,
    record { lines = header_kept header (lines_of_body body) t.0 t.1; has_no_delimiter = t.2 },
    subst (λ (w : Bool). IsBody boundaries (content_at depth g header) w depth (used + 1) body rest) (sym t.1) (body_composed boundaries (content_at depth g header) depth (used + 1) body rest t.3 (omega arith) e),
  )

  body_composed : (boundaries : List (List ℕ)) (content : Content) (depth used : ℕ) (body : BodyTree) (rest : Lines) → IsComposedBody boundaries content depth body → used + count_of_body body ≤ most_parts → IsEnd boundaries rest
      → IsBody boundaries content true depth used body rest
  body_composed boundaries content depth used (SingleBody lines) rest b n e = b
  body_composed boundaries content depth used (MessageBody message) rest b n e = (b.0, tree_composed boundaries false (depth + 1) used message rest b.1 n e)
  body_composed boundaries content depth used (MultipartBody preamble trees close) rest b n e =
      (refl, (b.0, b.1, b.2, b.4, trees_composed boundaries b.0 b.1 (depth + 1) used trees close rest b.3 b.5 b.6 n, close_is boundaries b.0 close rest b.3 b.6))

  trees_composed : (boundaries : List (List ℕ)) (own : List ℕ) (g : Bool) (depth used : ℕ) (trees : PartTrees) (close rest : Lines) → IsApart boundaries own → AreComposed boundaries own g depth trees
      → IsWrittenClose boundaries own close → used + count_of_trees trees ≤ most_parts → AreTrees (boundaries ++ own ∷ []) own g depth used trees (close ++ rest)
  trees_composed boundaries own g depth used NoParts close rest a t c n = no_more_parts boundaries own used close rest c
  trees_composed boundaries own g depth used (PartsFrom line tree trees) close rest a t c n =
      let k = some_part tree in (
        part_line boundaries own used line a t.0 (omega arith),
        tree_composed (boundaries ++ own ∷ []) g depth used tree (lines_of_trees trees ++ (close ++ rest)) t.1 (omega arith) (after_part boundaries own g depth trees close rest t.2 c),
        trees_composed boundaries own g depth (used + count_of_tree tree) trees close rest a t.2 c (omega arith),
      )

pub composed_is_cut : (text : List ℕ) (tree : PartTree) → IsComposition text tree → IsCutting text tree
composed_is_cut text tree c = record { lines = c.lines; is_tree = tree_composed [] false 0 0 tree [] c.composed (let n = c.count in omega arith) tt }

-- a text without parts
none_in_force : (lines : Lines) → HasNoDelimiter [] lines
none_in_force [] = refl
none_in_force (line ∷ lines) = none_in_force lines

header_and_body : (lines : Lines) → header_lines lines ++ body_lines lines ≡ lines
header_and_body [] = refl
header_and_body (line ∷ lines) = elim (cases_Bool (is_empty_line line)) [
  | inl t ↦ rw t refl
  | inr f ↦ rw f (ap (λ ls. line ∷ ls) (header_and_body lines))
]

pub single_is_text : (text : List ℕ) → content_at 0 false (header_lines (lines_of text)) ≡ Single → IsCutting text (PartOf (header_lines (lines_of text)) (SingleBody (body_lines (lines_of text))))
single_is_text text s =
    let h : header_lines (header_lines (lines_of text) ++ body_lines (lines_of text)) ≡ header_lines (lines_of text) = ap header_lines (header_and_body (lines_of text)) in
    record {
      lines = header_and_body (lines_of text);
      is_tree = (tt, record { lines = h; has_no_delimiter = none_in_force (header_lines (lines_of text)) }, (ap (λ c. is_single c (is_whole_header (header_lines (lines_of text)))) s, none_in_force (body_lines (lines_of text))));
    }

-- the first part is the whole text
whole_tree : (text : List ℕ) (tree : PartTree) → IsCutting text tree → BeginsWithWhole text (entries_of_tree 0 0 false tree [])
whole_tree text (PartOf header body) c =
    let lines : header ++ lines_of_body body ≡ lines_of text = c.lines in
    let sizes : size_of (header ++ lines_of_body body) ≡ length text = ap size_of lines ∙ ap length (lines-joined text) in
    let both : size_of (header ++ lines_of_body body) ≡ size_of header + size_of (lines_of_body body) =
    ap length (concat-append header (lines_of_body body)) ∙ length-append (concat header) (concat (lines_of_body body)) in
    let h : header_lines (lines_of text) ≡ header = ap header_lines (sym lines) ∙ c.is_tree.1.lines in
    let l : length (header_of text) ≡ size_of header = ap size_of h in
    (refl, omega arith, omega arith, omega arith)

pub begins_whole : (text : List ℕ) (parts : List Part) → AreEntries text parts → BeginsWithWhole text parts
begins_whole text parts a = subst (BeginsWithWhole text) (sym a.entries_are) (whole_tree text a.tree a.is_cutting)
