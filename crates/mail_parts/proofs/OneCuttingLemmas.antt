use Rattle.std.proofs.Common.{◌≡◌, ℕ, ◌+◌, Bool, true, false, List, [], ◌∷◌, ◌++◌, ap, sym, subst, ◌∙◌, refl, inl, inr, append_assoc}
use Rattle.std.proofs.lemmas.Bool.{and_parts, cases_Bool, or_parts}
use Rattle.std.specs.List.{list_any}
use Rattle.mail_text.specs.TextLines.{header_lines, is_empty_line}
use Rattle.mail_parts.specs.Cuttings.{AreTrees, BeginsNoPart, IsBody, IsClose, IsCutting, IsTree, begins_part, content_at, is_single, is_whole_header}
use Rattle.mail_parts.specs.Delimiters.{HasNoDelimiter, IsEnd, Line, Lines, has_boundary, is_delimiter, is_own_delimiter}
use Rattle.mail_parts.specs.PartTrees.{BodyTree, PartTree, PartTrees, count_of_tree, lines_of_body, lines_of_tree, lines_of_trees}
use Rattle.mail_parts.specs.PartTrees.BodyTree.{MessageBody, MultipartBody, SingleBody}
use Rattle.mail_parts.specs.PartTrees.PartTree.{PartOf}
use Rattle.mail_parts.specs.PartTrees.PartTrees.{NoParts, PartsFrom}
use Rattle.mail_parts.specs.declared.content.Content.{Content}
use Rattle.mail_parts.specs.declared.content.Content.TheVariants.{Message, Multipart}

contrary : {A : Type 0} (b : Bool) → b ≡ true → b ≡ false → A
contrary b t f = absurd (let k : true ≡ false = sym t ∙ f in cc)

-- lines up to a delimiter line
until_one : (boundaries : List (List ℕ)) (xs rest ys other : Lines) → HasNoDelimiter boundaries xs → IsEnd boundaries rest → HasNoDelimiter boundaries ys → IsEnd boundaries other → xs ++ rest ≡ ys ++ other
    → (xs ≡ ys) × (rest ≡ other)
until_one boundaries [] rest [] other h e k f s = (refl, s)
until_one boundaries [] [] (y ∷ ys) other h e k f s = absurd cc
until_one boundaries [] (r ∷ rest) (y ∷ ys) other h e k f s =
    let q : r ≡ y = cc in contrary (is_delimiter boundaries y) (ap (is_delimiter boundaries) (sym q) ∙ e) ((or_parts (is_delimiter boundaries y) _ k).0)
until_one boundaries (x ∷ xs) rest [] [] h e k f s = absurd cc
until_one boundaries (x ∷ xs) rest [] (o ∷ other) h e k f s =
    let q : x ≡ o = cc in contrary (is_delimiter boundaries x) (ap (is_delimiter boundaries) q ∙ f) ((or_parts (is_delimiter boundaries x) _ h).0)
until_one boundaries (x ∷ xs) rest (y ∷ ys) other h e k f s =
    let q : x ≡ y = cc in
    let t : xs ++ rest ≡ ys ++ other = cc in
    let r = until_one boundaries xs rest ys other ((or_parts (is_delimiter boundaries x) _ h).1) e ((or_parts (is_delimiter boundaries y) _ k).1) f t in
    (λ i. q i ∷ r.0 i, r.1)

-- a header without lines has no body
no_lines : (body : Lines) → header_lines body ≡ [] → body ≡ []
no_lines [] h = refl
no_lines (x ∷ body) h = elim (cases_Bool (is_empty_line x)) [
  | inl t ↦ absurd (let k : x ∷ [] ≡ [] = rw t at h in cc)
  | inr f ↦ absurd (let k : x ∷ header_lines body ≡ [] = rw f at h in cc)
]

-- one header
header_one : (boundaries : List (List ℕ)) (h b rest k c other : Lines) → header_lines (h ++ b) ≡ h → HasNoDelimiter boundaries h → header_lines (k ++ c) ≡ k → HasNoDelimiter boundaries k → IsEnd boundaries rest
    → IsEnd boundaries other → h ++ (b ++ rest) ≡ k ++ (c ++ other) → (h ≡ k) × (b ++ rest ≡ c ++ other)
header_one boundaries [] b rest [] c other hh hn kh kn e f s = (refl, s)
header_one boundaries [] b rest (y ∷ k) c other hh hn kh kn e f s =
    let n = no_lines b hh in
    let t : rest ≡ y ∷ (k ++ (c ++ other)) = ap (λ ls. ls ++ rest) (sym n) ∙ s in
    let d : is_delimiter boundaries y ≡ true = subst (λ (ls : Lines). IsEnd boundaries ls) t e in
    contrary (is_delimiter boundaries y) d ((or_parts (is_delimiter boundaries y) _ kn).0)
header_one boundaries (x ∷ h) b rest [] c other hh hn kh kn e f s =
    let n = no_lines c kh in
    let t : other ≡ x ∷ (h ++ (b ++ rest)) = ap (λ ls. ls ++ other) (sym n) ∙ sym s in
    let d : is_delimiter boundaries x ≡ true = subst (λ (ls : Lines). IsEnd boundaries ls) t f in
    contrary (is_delimiter boundaries x) d ((or_parts (is_delimiter boundaries x) _ hn).0)
header_one boundaries (x ∷ h) b rest (y ∷ k) c other hh hn kh kn e f s =
    let q : x ≡ y = cc in
    let t : h ++ (b ++ rest) ≡ k ++ (c ++ other) = cc in
    elim (cases_Bool (is_empty_line x)) [
      | inl w ↦
          let v : is_empty_line y ≡ true = ap is_empty_line (sym q) ∙ w in
          let hs : x ∷ [] ≡ x ∷ h = rw w at hh in
          let ks : y ∷ [] ≡ y ∷ k = rw v at kh in
          let hn : [] ≡ h = cc in
          let kn : [] ≡ k = cc in
          (λ i. q i ∷ (sym hn ∙ kn) i, (λ i. hn i ++ (b ++ rest)) ∙ t ∙ (λ i. sym kn i ++ (c ++ other)))
      | inr w ↦
          let v : is_empty_line y ≡ false = ap is_empty_line (sym q) ∙ w in
          let hs : x ∷ header_lines (h ++ b) ≡ x ∷ h = rw w at hh in
          let ks : y ∷ header_lines (k ++ c) ≡ y ∷ k = rw v at kh in
          let hi : header_lines (h ++ b) ≡ h = cc in
          let ki : header_lines (k ++ c) ≡ k = cc in
          let r = header_one boundaries h b rest k c other hi ((or_parts (is_delimiter boundaries x) _ hn).1) ki ((or_parts (is_delimiter boundaries y) _ kn).1) e f t in
          (λ i. q i ∷ r.0 i, r.1)
    ]

-- more boundaries have more delimiter lines
any-append : (test : List ℕ → Bool) (xs ys : Lines) → list_any test xs ≡ true → list_any test (xs ++ ys) ≡ true
any-append test [] ys h = absurd (let k : false ≡ true = h in cc)
any-append test (x ∷ xs) ys h = elim (cases_Bool (test x)) [ inl t ↦ rw t refl | inr f ↦ rw f (any-append test xs ys (rw f at h)) ]

last_any : (test : List ℕ → Bool) (xs : Lines) (y : List ℕ) → test y ≡ true → list_any test (xs ++ y ∷ []) ≡ true
last_any test [] y h = rw h refl
last_any test (x ∷ xs) y h = elim (cases_Bool (test x)) [ inl t ↦ rw t refl | inr f ↦ rw f (last_any test xs y h) ]

own_is_delimiter : (outer : List (List ℕ)) (own line : List ℕ) → is_own_delimiter (outer ++ own ∷ []) own line ≡ true → is_delimiter (outer ++ own ∷ []) line ≡ true
own_is_delimiter outer own line h = last_any (λ boundary. has_boundary boundary line) outer own ((and_parts _ _ h).0)

-- what follows the lines before the first part
parts_end : (outer : List (List ℕ)) (own : List ℕ) (g : Bool) (depth used : ℕ) (trees : PartTrees) (close rest : Lines) → AreTrees (outer ++ own ∷ []) own g depth used trees (close ++ rest) → IsClose outer own close rest
    → IsEnd outer rest → IsEnd (outer ++ own ∷ []) (lines_of_trees trees ++ (close ++ rest))
parts_end outer own g depth used NoParts [] [] a c e = tt
parts_end outer own g depth used NoParts [] (line ∷ rest) a c e = any-append (λ boundary. has_boundary boundary line) outer (own ∷ []) e
parts_end outer own g depth used NoParts (line ∷ close) rest a c e = own_is_delimiter outer own line c.0
parts_end outer own g depth used (PartsFrom line tree trees) close rest a c e = own_is_delimiter outer own line ((and_parts _ _ ((and_parts _ _ a.0).0)).0)

-- one end of a multipart
close_one : (outer : List (List ℕ)) (own : List ℕ) (close rest other after : Lines) → IsClose outer own close rest → IsClose outer own other after → IsEnd outer rest → IsEnd outer after → close ++ rest ≡ other ++ after
    → (close ≡ other) × (rest ≡ after)
close_one outer own [] rest [] after c d e f s = (refl, s)
close_one outer own [] [] (o ∷ other) after c d e f s = absurd cc
close_one outer own [] (r ∷ rest) (o ∷ other) after c d e f s =
    let q : r ≡ o = cc in contrary (is_own_delimiter (outer ++ own ∷ []) own o) d.0 (ap (is_own_delimiter (outer ++ own ∷ []) own) (sym q) ∙ c)
close_one outer own (x ∷ close) rest [] [] c d e f s = absurd cc
close_one outer own (x ∷ close) rest [] (a ∷ after) c d e f s =
    let q : x ≡ a = cc in contrary (is_own_delimiter (outer ++ own ∷ []) own x) c.0 (ap (is_own_delimiter (outer ++ own ∷ []) own) q ∙ d)
close_one outer own (x ∷ close) rest (o ∷ other) after c d e f s =
    let q : x ≡ o = cc in
    let t : close ++ rest ≡ other ++ after = cc in
    let r = until_one outer close rest other after c.1 e d.1 f t in
    (λ i. q i ∷ r.0 i, r.1)

-- a line begins no part and begins one
begun : {A : Type 0} (boundaries : List (List ℕ)) (own : List ℕ) (used : ℕ) (rest : Lines) (line : Line) (more : Lines) → BeginsNoPart boundaries own used rest → begins_part boundaries own used line ≡ true → rest ≡ line ∷ more → A
begun boundaries own used [] line more n b s = absurd cc
begun boundaries own used (r ∷ rest) line more n b s =
    let q : r ≡ line = cc in contrary (begins_part boundaries own used line) b (ap (begins_part boundaries own used) (sym q) ∙ n)

mutual
  one_tree : (boundaries : List (List ℕ)) (g : Bool) (depth used : ℕ) (one : PartTree) (rest : Lines) (two : PartTree) (other : Lines) → IsTree boundaries g depth used one rest → IsTree boundaries g depth used two other
      → lines_of_tree one ++ rest ≡ lines_of_tree two ++ other → (one ≡ two) × (rest ≡ other)
  one_tree boundaries g depth used (PartOf h b) rest (PartOf k c) other t u s =
      let e : h ++ (lines_of_body b ++ rest) ≡ k ++ (lines_of_body c ++ other) = sym (append_assoc h (lines_of_body b) rest) ∙ s ∙ append_assoc k (lines_of_body c) other in
      let r = header_one boundaries h (lines_of_body b) rest k (lines_of_body c) other t.1.lines t.1.has_no_delimiter u.1.lines u.1.has_no_delimiter t.0 u.0 e in
      let v : IsBody boundaries (content_at depth g h) (is_whole_header h) depth (used + 1) c other = subst (λ (x : Lines). IsBody boundaries (content_at depth g x) (is_whole_header x) depth (used + 1) c other) (sym r.0) u.2 in
      let w = one_body boundaries (content_at depth g h) (is_whole_header h) depth (used + 1) b rest c other t.2 v t.0 u.0 r.1 in
      (λ i. PartOf (r.0 i) (w.0 i), w.1)

  one_body : (boundaries : List (List ℕ)) (content : Content) (is_whole : Bool) (depth used : ℕ) (one : BodyTree) (rest : Lines) (two : BodyTree) (other : Lines) → IsBody boundaries content is_whole depth used one rest
      → IsBody boundaries content is_whole depth used two other → IsEnd boundaries rest → IsEnd boundaries other → lines_of_body one ++ rest ≡ lines_of_body two ++ other → (one ≡ two) × (rest ≡ other)
  one_body boundaries content is_whole depth used (SingleBody xs) rest (SingleBody ys) other t u e f s =
      let r = until_one boundaries xs rest ys other t.1 e u.1 f s in (λ i. SingleBody (r.0 i), r.1)
  one_body boundaries content is_whole depth used (SingleBody xs) rest (MessageBody two) other t u e f s =
      absurd (let k : true ≡ false = sym t.0 ∙ ap (λ c. is_single c is_whole) u.0 in cc)
  one_body boundaries content is_whole depth used (SingleBody xs) rest (MultipartBody preamble trees close) other t u e f s =
      absurd (let k : true ≡ false = sym t.0 ∙ (λ i. is_single (u.1.2 i) (u.0 i)) in cc)
  one_body boundaries content is_whole depth used (MessageBody one) rest (SingleBody ys) other t u e f s =
      absurd (let k : true ≡ false = sym u.0 ∙ ap (λ c. is_single c is_whole) t.0 in cc)
  one_body boundaries content is_whole depth used (MessageBody one) rest (MessageBody two) other t u e f s =
      let r = one_tree boundaries false (depth + 1) used one rest two other t.1 u.1 s in (λ i. MessageBody (r.0 i), r.1)
  one_body boundaries content is_whole depth used (MessageBody one) rest (MultipartBody preamble trees close) other t u e f s =
      absurd (let k : ◌≡◌ {A = Content} Message (Multipart u.1.0 u.1.1) = sym t.0 ∙ u.1.2 in cc)
  one_body boundaries content is_whole depth used (MultipartBody preamble trees close) rest (SingleBody ys) other t u e f s =
      absurd (let k : true ≡ false = sym u.0 ∙ (λ i. is_single (t.1.2 i) (t.0 i)) in cc)
  one_body boundaries content is_whole depth used (MultipartBody preamble trees close) rest (MessageBody two) other t u e f s =
      absurd (let k : ◌≡◌ {A = Content} Message (Multipart t.1.0 t.1.1) = sym u.0 ∙ t.1.2 in cc)
  one_body boundaries content is_whole depth used (MultipartBody preamble trees close) rest (MultipartBody pre more end) other t u e f s =
      let own : List ℕ = t.1.0 in
      let k : ◌≡◌ {A = Content} (Multipart own t.1.1) (Multipart u.1.0 u.1.1) = sym t.1.2 ∙ u.1.2 in
      let o : u.1.0 ≡ own = cc in
      let g : u.1.1 ≡ t.1.1 = cc in
      let un : HasNoDelimiter (boundaries ++ own ∷ []) pre = subst (λ (x : List ℕ). HasNoDelimiter (boundaries ++ x ∷ []) pre) o u.1.3 in
      let ut : AreTrees (boundaries ++ own ∷ []) own t.1.1 (depth + 1) used more (end ++ other) =
      subst (λ (x : Bool). AreTrees (boundaries ++ own ∷ []) own x (depth + 1) used more (end ++ other)) g (subst (λ (x : List ℕ). AreTrees (boundaries ++ x ∷ []) x u.1.1 (depth + 1) used more (end ++ other)) o u.1.4) in
      let uc : IsClose boundaries own end other = subst (λ (x : List ℕ). IsClose boundaries x end other) o u.1.5 in
      let a : preamble ++ (lines_of_trees trees ++ (close ++ rest)) ≡ pre ++ (lines_of_trees more ++ (end ++ other)) =
      ap (λ ls. preamble ++ ls) (sym (append_assoc (lines_of_trees trees) close rest)) ∙ sym (append_assoc preamble (lines_of_trees trees ++ close) rest) ∙ s
      ∙ append_assoc pre (lines_of_trees more ++ end) other ∙ ap (λ ls. pre ++ ls) (append_assoc (lines_of_trees more) end other) in
      let p = until_one (boundaries ++ own ∷ []) preamble (lines_of_trees trees ++ (close ++ rest)) pre (lines_of_trees more ++ (end ++ other)) t.1.3 (parts_end boundaries own t.1.1 (depth + 1) used trees close rest t.1.4 t.1.5 e)
      un (parts_end boundaries own t.1.1 (depth + 1) used more end other ut uc f) a in
      let q = some_trees (boundaries ++ own ∷ []) own t.1.1 (depth + 1) used trees (close ++ rest) more (end ++ other) t.1.4 ut p.1 in
      let r = close_one boundaries own close rest end other t.1.5 uc e f q.1 in
      (λ i. MultipartBody (p.0 i) (q.0 i) (r.0 i), r.1)

  some_trees : (boundaries : List (List ℕ)) (own : List ℕ) (g : Bool) (depth used : ℕ) (one : PartTrees) (rest : Lines) (two : PartTrees) (other : Lines) → AreTrees boundaries own g depth used one rest
      → AreTrees boundaries own g depth used two other → lines_of_trees one ++ rest ≡ lines_of_trees two ++ other → (one ≡ two) × (rest ≡ other)
  some_trees boundaries own g depth used NoParts rest NoParts other t u s = (refl, s)
  some_trees boundaries own g depth used NoParts rest (PartsFrom line tree more) other t u s = begun boundaries own used rest line _ t u.0 s
  some_trees boundaries own g depth used (PartsFrom line tree trees) rest NoParts other t u s = begun boundaries own used other line _ u t.0 (sym s)
  some_trees boundaries own g depth used (PartsFrom line tree trees) rest (PartsFrom next two more) other t u s =
      let q : line ≡ next = cc in
      let a : (lines_of_tree tree ++ lines_of_trees trees) ++ rest ≡ (lines_of_tree two ++ lines_of_trees more) ++ other = cc in
      let b : lines_of_tree tree ++ (lines_of_trees trees ++ rest) ≡ lines_of_tree two ++ (lines_of_trees more ++ other) =
      sym (append_assoc (lines_of_tree tree) (lines_of_trees trees) rest) ∙ a ∙ append_assoc (lines_of_tree two) (lines_of_trees more) other in
      let r = one_tree boundaries g depth used tree (lines_of_trees trees ++ rest) two (lines_of_trees more ++ other) t.1 u.1 b in
      let v : AreTrees boundaries own g depth (used + count_of_tree tree) more other = subst (λ (x : PartTree). AreTrees boundaries own g depth (used + count_of_tree x) more other) (sym r.0) u.2 in
      let w = some_trees boundaries own g depth (used + count_of_tree tree) trees rest more other t.2 v r.1 in
      (λ i. PartsFrom (q i) (r.0 i) (w.0 i), w.1)

-- a text has one cutting
pub one_cutting : (text : List ℕ) (one two : PartTree) → IsCutting text one → IsCutting text two → one ≡ two
one_cutting text one two c d = (one_tree [] false 0 0 one [] two [] c.is_tree d.is_tree (ap (λ ls. ls ++ []) (c.lines ∙ sym d.lines))).0
