use Rattle.std.proofs.Common.{◌≡◌, ◌≢◌, ℕ, ◌+◌, ◌-◌, ◌≤◌, Bool, true, false, not, ◌&&◌, ◌||◌, ◌==◌, List, [], ◌∷◌, ◌++◌, length, take, drop, min, ap, sym, subst, ◌∙◌, arith, refl, inl, inr, append_assoc, cond, le-ltb, Result, Ok, Err, IfOk}
use Rattle.std.proofs.lemmas.Bool.{and_parts, cases_Bool, eqb-false, eqb-true, or_cases, or_parts}
use Rattle.std.proofs.lemmas.List.{append-nil, drop-drop, length-append, length-drop, length-take}
use Rattle.std.specs.List.{concat, list_any}
use Rattle.mail_text.proofs.LineLemmas.{lines-joined}
use Rattle.mail_text.specs.TextLines.{header_lines, in_first, is_crlf, lines_of}
use Rattle.mail_parts.specs.ContentTypes.{content_of}
use Rattle.mail_parts.specs.Cuttings.{AreTrees, BeginsNoPart, IsBody, IsClose, IsTree, begins_part, content_at, content_within, is_single, is_whole_header}
use Rattle.mail_parts.specs.Delimiters.{HasNoDelimiter, IsEnd, Line, Lines, has_boundary, has_longer_boundary, is_delimiter, is_longer_boundary, is_own_delimiter}
use Rattle.mail_parts.specs.Entries.{AreEntries, end_at, entries_of_body, entries_of_tree, entries_of_trees, has_digest}
use Rattle.mail_parts.specs.PartTrees.{BodyTree, PartTree, PartTrees, count_of_body, count_of_tree, count_of_trees, lines_of_body, lines_of_tree, lines_of_trees, size_of}
use Rattle.mail_parts.specs.PartTrees.BodyTree.{MessageBody, MultipartBody, SingleBody}
use Rattle.mail_parts.specs.PartTrees.PartTree.{PartOf}
use Rattle.mail_parts.specs.PartTrees.PartTrees.{NoParts, PartsFrom}
use Rattle.mail_parts.specs.Reading.{AreTreesRead, AreUnderway, BeginsNoOwn, IsBodyRead, IsBodySize, IsHeaderSize, IsOwnLineSize, IsPartLineSize, IsTreeRead, begun_part, ended_part}
use Rattle.mail_parts.specs.declared.content.Content.{Content}
use Rattle.mail_parts.specs.declared.content.Content.TheVariants.{Single, Message, Multipart}
use Rattle.mail_parts.specs.declared.part.Part.{Part}
use Rattle.mail_parts.proofs.LineLemmas.{concat-append, drop_nil, size_is}

pub ended_is : (part : Part) (start body end : ℕ) → start ≡ min part.start end → body ≡ min part.body end → ◌≡◌ {A = Part} (record part { start = start; body = body; end = end }) (ended_part part end)
ended_is part start body end s b = λ i. record part { start = s i; body = b i; end = end }

-- a part ends before a delimiter line
pub tree_end : (boundaries : List (List ℕ)) (in_digest : Bool) (depth used : ℕ) (tree : PartTree) (rest : Lines) → IsTree boundaries in_digest depth used tree rest → IsEnd boundaries rest
tree_end boundaries in_digest depth used (PartOf header body) rest h = h.0

-- the number of entries
mutual
  entries_of_tree-count : (place depth : ℕ) (in_digest : Bool) (tree : PartTree) (rest : Lines) → length (entries_of_tree place depth in_digest tree rest) ≡ count_of_tree tree
  entries_of_tree-count place depth in_digest (PartOf header body) rest =
      let e = entries_of_body-count (place + size_of header) depth (content_at depth in_digest header) body rest in omega arith

  entries_of_body-count : (place depth : ℕ) (content : Content) (body : BodyTree) (rest : Lines) → length (entries_of_body place depth content body rest) ≡ count_of_body body
  entries_of_body-count place depth content (SingleBody lines) rest = refl
  entries_of_body-count place depth content (MessageBody tree) rest = entries_of_tree-count place (depth + 1) false tree rest
  entries_of_body-count place depth content (MultipartBody preamble trees close) rest =
      entries_of_trees-count (place + size_of preamble) (depth + 1) (has_digest content) trees (close ++ rest)

  entries_of_trees-count : (place depth : ℕ) (in_digest : Bool) (trees : PartTrees) (rest : Lines) → length (entries_of_trees place depth in_digest trees rest) ≡ count_of_trees trees
  entries_of_trees-count place depth in_digest NoParts rest = refl
  entries_of_trees-count place depth in_digest (PartsFrom line tree trees) rest =
      let e = entries_of_tree-count (place + length line) depth in_digest tree (lines_of_trees trees ++ rest) in
      let f = entries_of_trees-count (place + length line + size_of (lines_of_tree tree)) depth in_digest trees rest in
      omega (arith, length-append (entries_of_tree (place + length line) depth in_digest tree (lines_of_trees trees ++ rest)) (entries_of_trees (place + length line + size_of (lines_of_tree tree)) depth in_digest trees rest))

-- a body without parts
pub body_single : (boundaries : List (List ℕ)) (place depth : ℕ) (content : Content) (is_whole : Bool) (text : List ℕ) (size : ℕ) (old : List Part) → is_single content is_whole ≡ true → IsBodySize boundaries text size
    → IsBodyRead boundaries place depth content is_whole text size old old
body_single boundaries place depth content is_whole text size old s b =
    record {
      body = SingleBody b.passed.front;
      lines = b.passed.lines;
      is_body = (s, b.passed.has_no_delimiter);
      entries = sym (append-nil old);
      is_end = b.is_end;
      within = b.passed.within;
    }

-- a multipart whose header is cut off
pub body_cut : (boundaries : List (List ℕ)) (place depth : ℕ) (content : Content) (is_whole : Bool) (text own : List ℕ) (is_digest : Bool) (old : List Part) → content ≡ Multipart own is_digest → is_whole ≡ false
    → IsEnd boundaries (lines_of text) → IsBodyRead boundaries place depth content is_whole text 0 old old
body_cut boundaries place depth content is_whole text own is_digest old c w e =
    record {
      body = SingleBody [];
      lines = refl;
      is_body = ((λ i. is_single (c i) (w i)), refl);
      entries = sym (append-nil old);
      is_end = e;
      within = omega arith;
    }

-- a message
pub body_message : (boundaries : List (List ℕ)) (place depth : ℕ) (content : Content) (is_whole : Bool) (text : List ℕ) (size : ℕ) (old new : List Part) → content ≡ Message
    → IsTreeRead boundaries place (depth + 1) false text size old new → IsBodyRead boundaries place depth content is_whole text size old new
body_message boundaries place depth content is_whole text size old new c t =
    record {
      body = MessageBody t.tree;
      lines = t.lines;
      is_body = (c, t.is_tree);
      entries = t.entries;
      is_end = tree_end boundaries false (depth + 1) (length old) t.tree _ t.is_tree;
      within = t.within;
    }

-- a delimiter line that isn't the innermost multipart's is one of an outer multipart
any-append : (test : List ℕ → Bool) (xs ys : Lines) → list_any test (xs ++ ys) ≡ (list_any test xs || list_any test ys)
any-append test [] ys = refl
any-append test (x ∷ xs) ys = elim (cases_Bool (test x)) [ inl t ↦ rw t refl | inr f ↦ rw f (any-append test xs ys) ]

any-weaker : (one other : List ℕ → Bool) (xs : Lines) → ((x : List ℕ) → one x ≡ true → other x ≡ true) → list_any one xs ≡ true → list_any other xs ≡ true
any-weaker one other [] f h = absurd (let k : false ≡ true = h in cc)
any-weaker one other (x ∷ xs) f h = elim (or_cases (one x) (list_any one xs) h) [
  | inl t ↦ rw (f x t) refl
  | inr r ↦ elim (cases_Bool (other x)) [ inl t ↦ rw t refl | inr n ↦ rw n (any-weaker one other xs f r) ]
]

not_longer : (own line : List ℕ) → is_longer_boundary own line own ≡ false
not_longer own line = rw (le-ltb (length own) (length own) (omega arith)) refl

picked : (a b c : Bool) → (a || (b || false)) ≡ true → (b && not c) ≡ false → a ≡ false → c ≡ true
picked true b c d n f = absurd (let k : true ≡ false = f in cc)
picked false false c d n f = absurd (let k : false ≡ true = d in cc)
picked false true true d n f = refl
picked false true false d n f = absurd (let k : true ≡ false = n in cc)

first_picked : (a b : Bool) → (a || (b || false)) ≡ true → b ≡ false → a ≡ true
first_picked true b h f = refl
first_picked false true h f = absurd (let k : true ≡ false = f in cc)
first_picked false false h f = absurd (let k : false ≡ true = h in cc)

outer_delimiter : (outer : List (List ℕ)) (own line : List ℕ) → is_delimiter (outer ++ own ∷ []) line ≡ true → is_own_delimiter (outer ++ own ∷ []) own line ≡ false → is_delimiter outer line ≡ true
outer_delimiter outer own line d n =
    elim (cases_Bool (is_delimiter outer line)) [
      | inl t ↦ t
      | inr f ↦
          let a : (is_delimiter outer line || (has_boundary own line || false)) ≡ true = sym (any-append (λ boundary. has_boundary boundary line) outer (own ∷ [])) ∙ d in
          let l : has_longer_boundary (outer ++ own ∷ []) own line ≡ true = picked (is_delimiter outer line) (has_boundary own line) (has_longer_boundary (outer ++ own ∷ []) own line) a n f in
          let b : (has_longer_boundary outer own line || (is_longer_boundary own line own || false)) ≡ true = sym (any-append (is_longer_boundary own line) outer (own ∷ [])) ∙ l in
          let k : has_longer_boundary outer own line ≡ true = first_picked (has_longer_boundary outer own line) (is_longer_boundary own line own) b (not_longer own line) in
          any-weaker (is_longer_boundary own line) (λ boundary. has_boundary boundary line) outer (λ other h. (and_parts _ _ h).1) k
    ]

pub outer_end : (outer : List (List ℕ)) (own : List ℕ) (lines : Lines) → IsEnd (outer ++ own ∷ []) lines → BeginsNoOwn (outer ++ own ∷ []) own lines → IsEnd outer lines
outer_end outer own [] e n = tt
outer_end outer own (line ∷ lines) e n = outer_delimiter outer own line e n

close_open : (outer : List (List ℕ)) (own : List ℕ) (lines : Lines) → BeginsNoOwn (outer ++ own ∷ []) own lines → IsClose outer own [] lines
close_open outer own [] n = tt
close_open outer own (line ∷ lines) n = n

-- a multipart that isn't closed
pub multipart_open : (boundaries : List (List ℕ)) (own : List ℕ) (place depth : ℕ) (in_digest : Bool) (text : List ℕ) (size : ℕ) (old new : List Part)
    → AreTreesRead (boundaries ++ own ∷ []) own place (depth + 1) in_digest text size old new → BeginsNoOwn (boundaries ++ own ∷ []) own (lines_of (drop size text))
    → IsBodyRead boundaries place depth (Multipart own in_digest) true text size old new
multipart_open boundaries own place depth in_digest text size old new t n =
    record {
      body = MultipartBody t.preamble t.trees [];
      lines = t.lines ∙ sym (append_assoc t.preamble (lines_of_trees t.trees) (lines_of (drop size text))) ∙ ap (λ ls. (t.preamble ++ ls) ++ lines_of (drop size text)) (sym (append-nil (lines_of_trees t.trees)));
      is_body = (refl, (own, in_digest, refl, t.has_no_delimiter, t.are_trees, close_open boundaries own (lines_of (drop size text)) n));
      entries = t.entries;
      is_end = outer_end boundaries own (lines_of (drop size text)) t.is_end n;
      within = t.within;
    }

-- a multipart that is closed
pub multipart_closed : (boundaries : List (List ℕ)) (own : List ℕ) (place depth : ℕ) (in_digest : Bool) (text rest tail : List ℕ) (size n more : ℕ) (old new : List Part)
    → AreTreesRead (boundaries ++ own ∷ []) own place (depth + 1) in_digest text size old new → rest ≡ drop size text → tail ≡ drop n rest → n ≤ length rest
    → is_own_delimiter (boundaries ++ own ∷ []) own (take n rest) ≡ true → lines_of rest ≡ take n rest ∷ lines_of (drop n rest) → IsBodySize boundaries tail more
    → IsBodyRead boundaries place depth (Multipart own in_digest) true text (size + n + more) old new
multipart_closed boundaries own place depth in_digest text rest tail size n more old new t r a w o e b =
    let l : Line = take n rest in
    let epilogue : Lines = b.passed.front in
    let behind : drop more tail ≡ drop (size + n + more) text = ap (drop more) (a ∙ ap (drop n) r ∙ drop-drop n size text) ∙ drop-drop more (size + n) text in
    let after : Lines = lines_of (drop (size + n + more) text) in
    let close : lines_of (drop size text) ≡ (l ∷ epilogue) ++ after =
    ap lines_of (sym r) ∙ e ∙ ap (λ xs. l ∷ lines_of xs) (sym a) ∙ ap (λ ls. l ∷ ls) b.passed.lines ∙ ap (λ xs. l ∷ (epilogue ++ lines_of xs)) behind in
    let w1 = t.within in
    let w2 = b.passed.within in
    let l1 : length rest ≡ length (drop size text) = ap length r in
    let l2 : length tail ≡ length (drop n rest) = ap length a in
    record {
      body = MultipartBody t.preamble t.trees (l ∷ epilogue);
      lines = t.lines ∙ ap (λ ls. t.preamble ++ (lines_of_trees t.trees ++ ls)) close ∙ ap (λ ls. t.preamble ++ ls) (sym (append_assoc (lines_of_trees t.trees) (l ∷ epilogue) after))
          ∙ sym (append_assoc t.preamble (lines_of_trees t.trees ++ l ∷ epilogue) after);
      is_body = (refl, (own, in_digest, refl, t.has_no_delimiter, subst (λ (ls : Lines). AreTrees (boundaries ++ own ∷ []) own in_digest (depth + 1) (length old) t.trees ls) close t.are_trees, (o, b.passed.has_no_delimiter)));
      entries = t.entries ∙ ap (λ ls. old ++ entries_of_trees (place + size_of t.preamble) (depth + 1) in_digest t.trees ls) close;
      is_end = subst (λ (xs : List ℕ). IsEnd boundaries (lines_of xs)) behind b.is_end;
      within = omega (arith, length-drop size text, length-drop n rest);
    }

-- the parts of a multipart
pub parts_begun : (boundaries : List (List ℕ)) (own : List ℕ) (place depth : ℕ) (in_digest : Bool) (text : List ℕ) (size : ℕ) (old : List Part) → IsBodySize boundaries text size
    → AreUnderway boundaries own place depth in_digest text size size old old
parts_begun boundaries own place depth in_digest text size old b =
    record {
      within = b.passed.within;
      is_end = b.is_end;
      completed = λ more rest a e. record { trees = more; lines = e; are_trees = a; entries = refl };
    }

pub one_more_part : (boundaries : List (List ℕ)) (own : List ℕ) (place depth : ℕ) (in_digest : Bool) (text rest tail : List ℕ) (start size n m : ℕ) (old now new : List Part)
    → AreUnderway boundaries own place depth in_digest text start size old now → rest ≡ drop size text → tail ≡ drop n rest → n ≤ length rest
    → begins_part boundaries own (length now) (take n rest) ≡ true → lines_of rest ≡ take n rest ∷ lines_of (drop n rest)
    → IsTreeRead boundaries (place + size + n) depth in_digest tail m now new → AreUnderway boundaries own place depth in_digest text start (size + n + m) old new
one_more_part boundaries own place depth in_digest text rest tail start size n m old now new u r a w o e t =
    let l : Line = take n rest in
    let behind : drop m tail ≡ drop (size + n + m) text = ap (drop m) (a ∙ ap (drop n) r ∙ drop-drop n size text) ∙ drop-drop m (size + n) text in
    let w1 = u.within in
    let w2 = t.within in
    let l1 : length rest ≡ length (drop size text) = ap length r in
    let l2 : length tail ≡ length (drop n rest) = ap length a in
    record {
      within = omega (arith, length-drop size text, length-drop n rest);
      is_end = subst (λ (xs : List ℕ). IsEnd boundaries (lines_of xs)) behind (tree_end boundaries in_digest depth (length now) t.tree _ t.is_tree);
      completed = λ more following trees_are lines_are.
          let after : lines_of (drop m tail) ≡ lines_of_trees more ++ following = ap lines_of behind ∙ lines_are in
          let tree_is : IsTree boundaries in_digest depth (length now) t.tree (lines_of_trees more ++ following) = subst (λ (ls : Lines). IsTree boundaries in_digest depth (length now) t.tree ls) after t.is_tree in
          let long : length new ≡ length (now ++ entries_of_tree (place + size + n) depth in_digest t.tree (lines_of (drop m tail))) = ap length t.entries in
          let counted : length new ≡ length now + count_of_tree t.tree =
          omega (arith, length-append now (entries_of_tree (place + size + n) depth in_digest t.tree (lines_of (drop m tail))), entries_of_tree-count (place + size + n) depth in_digest t.tree (lines_of (drop m tail))) in
          let more_are : AreTrees boundaries own in_digest depth (length now + count_of_tree t.tree) more following = subst (λ (k : ℕ). AreTrees boundaries own in_digest depth k more following) counted trees_are in
          let before : lines_of (drop size text) ≡ l ∷ ((lines_of_tree t.tree ++ lines_of_trees more) ++ following) =
          ap lines_of (sym r) ∙ e ∙ ap (λ xs. l ∷ lines_of xs) (sym a) ∙ ap (λ ls. l ∷ ls) (t.lines ∙ ap (λ ls. lines_of_tree t.tree ++ ls) after ∙ sym (append_assoc (lines_of_tree t.tree) (lines_of_trees more) following)) in
          let c = u.completed (PartsFrom l t.tree more) following (o, tree_is, more_are) before in
          let takes = length-take n rest in
          let s : m ≡ size_of (lines_of_tree t.tree) = size_is tail (lines_of_tree t.tree) m t.lines t.within in
          let p1 : place + size + length l ≡ place + size + n = omega arith in
          let p2 : place + size + length l + size_of (lines_of_tree t.tree) ≡ place + (size + n + m) = omega arith in
          let x = entries_of_trees (place + (size + n + m)) depth in_digest more following in
          record {
            trees = c.trees;
            lines = c.lines;
            are_trees = c.are_trees;
            entries = c.entries
                ∙ (λ i. now ++ (entries_of_tree (p1 i) depth in_digest t.tree (sym after i) ++ entries_of_trees (p2 i) depth in_digest more following))
                ∙ sym (append_assoc now (entries_of_tree (place + size + n) depth in_digest t.tree (lines_of (drop m tail))) x)
                ∙ ap (λ ns. ns ++ x) (sym t.entries);
          };
    }

pub parts_ended : (boundaries : List (List ℕ)) (own : List ℕ) (place depth : ℕ) (in_digest : Bool) (text : List ℕ) (start size : ℕ) (old now : List Part) → IsBodySize boundaries text start
    → AreUnderway boundaries own place depth in_digest text start size old now → BeginsNoPart boundaries own (length now) (lines_of (drop size text))
    → AreTreesRead boundaries own place depth in_digest text size old now
parts_ended boundaries own place depth in_digest text start size old now b u n =
    let c = u.completed NoParts (lines_of (drop size text)) n refl in
    let s : start ≡ size_of b.passed.front = size_is text b.passed.front start b.passed.lines b.passed.within in
    record {
      preamble = b.passed.front;
      trees = c.trees;
      lines = b.passed.lines ∙ ap (λ ls. b.passed.front ++ ls) c.lines;
      has_no_delimiter = b.passed.has_no_delimiter;
      are_trees = c.are_trees;
      entries = sym (append-nil now) ∙ sym c.entries ∙ ap (λ k. old ++ entries_of_trees (place + k) depth in_digest c.trees (lines_of (drop size text))) s;
      is_end = u.is_end;
      within = u.within;
    }

-- nothing precedes a delimiter line
none_before : (boundaries : List (List ℕ)) (lines rest : Lines) → HasNoDelimiter boundaries lines → IsEnd boundaries (lines ++ rest) → lines ≡ []
none_before boundaries [] rest h e = refl
none_before boundaries (line ∷ lines) rest h e = absurd (let p = or_parts (is_delimiter boundaries line) _ h in let k : true ≡ false = sym e ∙ p.0 in cc)

-- a part without a header has no parts
nothing_single : content_of false [] ≡ Single
unfolding content_of
nothing_single = refl

empty_tree : (boundaries : List (List ℕ)) (depth used : ℕ) (body : BodyTree) (rest : Lines) → IsBody boundaries (content_at depth false []) false depth used body rest → IsEnd boundaries (lines_of_body body ++ rest) → lines_of_body body ≡ []
empty_tree boundaries depth used (SingleBody lines) rest h e = none_before boundaries lines rest h.1 e
empty_tree boundaries depth used (MessageBody message) rest h e =
    absurd (let k : ◌≡◌ {A = Content} Single Message = ap (content_within depth) (sym nothing_single) ∙ h.0 in cc)
empty_tree boundaries depth used (MultipartBody preamble trees close) rest h e = absurd (let k : false ≡ true = h.0 in cc)

-- a header that is cut off has no body after it
no_body : (boundaries : List (List ℕ)) (content : Content) (depth used : ℕ) (body : BodyTree) (rest : Lines) → IsBody boundaries content false depth used body rest → IsEnd boundaries (lines_of_body body ++ rest) → lines_of_body body ≡ []
no_body boundaries content depth used (SingleBody lines) rest h e = none_before boundaries lines rest h.1 e
no_body boundaries content depth used (MessageBody (PartOf [] body)) rest h e = empty_tree boundaries (depth + 1) (used + 1) body rest h.1.2 e
no_body boundaries content depth used (MessageBody (PartOf (line ∷ header) body)) rest h e =
    absurd (let p = or_parts (is_delimiter boundaries line) _ h.1.1.has_no_delimiter in let k : true ≡ false = sym e ∙ p.0 in cc)
no_body boundaries content depth used (MultipartBody preamble trees close) rest h e = absurd (let k : false ≡ true = h.0 in cc)

-- a header's octets
header_octets : (text : List ℕ) (front : Lines) (size : ℕ) → lines_of text ≡ front ++ lines_of (drop size text) → size ≤ length text → take size text ≡ concat front
header_octets text front size e w =
    let c : text ≡ concat front ++ drop size text = sym (lines-joined text) ∙ ap concat e ∙ concat-append front (lines_of (drop size text)) ∙ ap (λ xs. concat front ++ xs) (lines-joined (drop size text)) in
    let s = size_is text front size e w in
    ap (λ xs. take size xs) c ∙ taken (concat front) (drop size text) size s
  where
    taken : (xs ys : List ℕ) (k : ℕ) → k ≡ length xs → take k (xs ++ ys) ≡ xs
    taken xs ys k e = ap (λ n. take n (xs ++ ys)) e ∙ all_of xs ys where
      all_of : (xs ys : List ℕ) → take (length xs) (xs ++ ys) ≡ xs
      all_of [] ys = refl
      all_of (x ∷ xs) ys = ap (λ zs. x ∷ zs) (all_of xs ys)

-- where a part ends
some_line : (text : List ℕ) (place : ℕ) → length text ≢ 0 → end_at place (lines_of text) ≡ place - 2
some_line [] place n = absurd (n refl)
some_line (x ∷ []) place n = refl
some_line (x ∷ y ∷ text) place n =
    elim (cases_Bool (is_crlf x y)) [
      | inl t ↦ rw t refl
      | inr f ↦ rw f (first_line x (lines_of (y ∷ text)) place)
    ]
  where
    first_line : (a : ℕ) (lines : Lines) (place : ℕ) → end_at place (in_first a lines) ≡ place - 2
    first_line a [] place = refl
    first_line a (line ∷ lines) place = refl

end_found : (text : List ℕ) (size place : ℕ) (is_last : Bool) → size ≤ length text → is_last ≡ (size == length text) → cond is_last place (place - 2) ≡ end_at place (lines_of (drop size text))
end_found text size place is_last w l =
    elim (cases_Bool (size == length text)) [
      | inl t ↦
          let e = eqb-true size (length text) t in
          rw (l, t) (ap (λ xs. end_at place (lines_of xs)) (sym (drop_nil text size (omega arith))))
      | inr f ↦
          let n = eqb-false size (length text) f in
          rw (l, f) (sym (some_line (drop size text) place (λ z. n (omega (arith, length-drop size text)))))
    ]

body_at : (boundaries : List (List ℕ)) (depth : ℕ) (body : BodyTree) (one other : Content) (is_whole is : Bool) (used k : ℕ) (rest after : Lines) → IsBody boundaries one is_whole depth used body rest
    → one ≡ other → is_whole ≡ is → used ≡ k → rest ≡ after → IsBody boundaries other is depth k body after
body_at boundaries depth body one other is_whole is used k rest after b p q u e =
    subst (λ (ls : Lines). IsBody boundaries other is depth k body ls) e (
    subst (λ (n : ℕ). IsBody boundaries other is depth n body rest) u (
    subst (λ (w : Bool). IsBody boundaries other w depth used body rest) q (subst (λ (c : Content). IsBody boundaries c is_whole depth used body rest) p b)
    )
    )

-- a part
pub tree_read : (boundaries : List (List ℕ)) (place depth : ℕ) (in_digest : Bool) (text octets rest : List ℕ) (header size : ℕ) (is_whole : Bool) (content : Content) (end : ℕ) (is_last : Bool) (old body_parts new : List Part)
    → IsHeaderSize boundaries text header is_whole → octets ≡ take header text → rest ≡ drop header text → content ≡ content_within depth (content_of in_digest octets)
    → IsBodyRead boundaries (place + header) depth content is_whole rest size (old ++ begun_part place depth in_digest content header ∷ []) body_parts
    → is_last ≡ (size == length rest) → end ≡ cond is_last (place + header + size) (place + header + size - 2)
    → ((front back : List Part) (part : Part) → length front ≡ length old → body_parts ≡ front ++ part ∷ back → new ≡ front ++ ended_part part end ∷ back)
    → IsTreeRead boundaries place depth in_digest text (header + size) old new
tree_read boundaries place depth in_digest text octets rest header size is_whole content end is_last old body_parts new h o r c b l n ended =
    let front : Lines = h.passed.front in
    let begun : Part = begun_part place depth in_digest content header in
    let w1 = h.passed.within in
    let w2 = b.within in
    let l1 : length rest ≡ length (drop header text) = ap length r in
    let after : Lines = lines_of (drop (header + size) text) in
    let behind : drop size rest ≡ drop (header + size) text = ap (drop size) r ∙ drop-drop size header text in
    let body_lines : lines_of rest ≡ lines_of_body b.body ++ after = b.lines ∙ ap (λ xs. lines_of_body b.body ++ lines_of xs) behind in
    let lines : lines_of text ≡ (front ++ lines_of_body b.body) ++ after =
    h.passed.lines ∙ ap (λ xs. front ++ lines_of xs) (sym r) ∙ ap (λ ls. front ++ ls) body_lines ∙ sym (append_assoc front (lines_of_body b.body) after) in
    let content_is : content ≡ content_at depth in_digest front = c ∙ ap (λ xs. content_within depth (content_of in_digest xs)) (o ∙ header_octets text front header h.passed.lines w1) in
    let header_is : header ≡ size_of front = size_is text front header h.passed.lines w1 in
    let size_is : size ≡ size_of (lines_of_body b.body) = size_is rest (lines_of_body b.body) size b.lines w2 in
    let body_is : IsBody boundaries (content_at depth in_digest front) (is_whole_header front) depth (length old + 1) b.body after =
    body_at boundaries depth b.body content _ is_whole _ _ _ _ after b.is_body content_is (sym h.is_whole_is) (omega (arith, length-append old (begun ∷ []))) (ap lines_of behind) in
    let header_lines_are : header_lines (front ++ lines_of_body b.body) ≡ front =
    elim (cases_Bool is_whole) [
      | inl t ↦ h.whole (lines_of_body b.body) t
      | inr f ↦
          let is : IsBody boundaries content false depth (length (old ++ begun ∷ [])) b.body (lines_of (drop size rest)) =
          subst (λ (w : Bool). IsBody boundaries content w depth (length (old ++ begun ∷ [])) b.body (lines_of (drop size rest))) f b.is_body in
          let ends : IsEnd boundaries (lines_of_body b.body ++ lines_of (drop size rest)) = subst (λ (ls : Lines). IsEnd boundaries ls) (ap lines_of (sym r) ∙ b.lines) (h.is_end f) in
          let nil : lines_of_body b.body ≡ [] = no_body boundaries content depth (length (old ++ begun ∷ [])) b.body (lines_of (drop size rest)) is ends in
          ap (λ ls. header_lines (front ++ ls)) nil ∙ ap header_lines (append-nil front) ∙ h.alone f
    ] in
    let end_is : end ≡ end_at (place + (size_of front + size_of (lines_of_body b.body))) after =
    let p : place + header + size ≡ place + (size_of front + size_of (lines_of_body b.body)) = omega arith in
    n ∙ end_found rest size (place + header + size) is_last w2 l ∙ (λ i. end_at (p i) (lines_of (behind i))) in
    let back : List Part = entries_of_body (place + header) depth content b.body (lines_of (drop size rest)) in
    let parts_are : body_parts ≡ old ++ begun ∷ back = b.entries ∙ append_assoc old (begun ∷ []) back in
    record {
      tree = PartOf front b.body;
      lines = lines;
      is_tree = (subst (λ (xs : List ℕ). IsEnd boundaries (lines_of xs)) behind b.is_end, record { lines = header_lines_are; has_no_delimiter = h.passed.has_no_delimiter }, body_is);
      entries = ended old back begun refl parts_are
          ∙ (λ i. old ++ ended_part (begun_part place depth in_digest (content_is i) (header_is i)) (end_is i) ∷ entries_of_body (place + header_is i) depth (content_is i) b.body (lines_of (behind i)));
      within = omega (arith, length-drop header text);
    }

-- the parts of a whole text
pub all_read : (text : List ℕ) (size : ℕ) (parts new : List Part) → parts ≡ [] → IsTreeRead [] 0 0 false text size parts new → AreEntries text new
all_read text size parts new p t =
    let r = lines_of (drop size text) in
    let none : r ≡ [] = no_more r (tree_end [] false 0 (length parts) t.tree r t.is_tree) in
    let is : IsTree [] false 0 0 t.tree [] = subst (λ (ls : Lines). IsTree [] false 0 0 t.tree ls) none (subst (λ (ps : List Part). IsTree [] false 0 (length ps) t.tree r) p t.is_tree) in
    record {
      tree = t.tree;
      is_cutting = record { lines = sym (t.lines ∙ ap (λ ls. lines_of_tree t.tree ++ ls) none ∙ append-nil (lines_of_tree t.tree)); is_tree = is };
      entries_are = t.entries ∙ (λ i. p i ++ entries_of_tree 0 0 false t.tree (none i));
    }
  where
    no_more : (lines : Lines) → IsEnd [] lines → lines ≡ []
    no_more [] e = refl
    no_more (line ∷ lines) e = absurd (let k : false ≡ true = e in cc)

-- facts of a call, at equal arguments
pub tree_at : (b b' : List (List ℕ)) (p p' d d' : ℕ) (g g' : Bool) (text : List ℕ) (size : ℕ) (old new : List Part) → IsTreeRead b p d g text size old new → b ≡ b' → p ≡ p' → d ≡ d' → g ≡ g'
    → IsTreeRead b' p' d' g' text size old new
tree_at b b' p p' d d' g g' text size old new t e f h k =
    subst (λ (x : Bool). IsTreeRead b' p' d' x text size old new) k (
    subst (λ (x : ℕ). IsTreeRead b' p' x g text size old new) h (
    subst (λ (x : ℕ). IsTreeRead b' x d g text size old new) f (subst (λ (x : List (List ℕ)). IsTreeRead x p d g text size old new) e t)
    )
    )

pub trees_at : (b b' : List (List ℕ)) (own : List ℕ) (p d d' : ℕ) (g : Bool) (text : List ℕ) (size : ℕ) (old new : List Part) → AreTreesRead b own p d g text size old new → b ≡ b' → d ≡ d'
    → AreTreesRead b' own p d' g text size old new
trees_at b b' own p d d' g text size old new t e f =
    subst (λ (x : ℕ). AreTreesRead b' own p x g text size old new) f (subst (λ (x : List (List ℕ)). AreTreesRead x own p d g text size old new) e t)

pub own_line_at : (b b' : List (List ℕ)) (o o' text : List ℕ) (size : ℕ) → IsOwnLineSize b o text size → b ≡ b' → o ≡ o' → IsOwnLineSize b' o' text size
own_line_at b b' o o' text size l e f = subst (λ (x : List ℕ). IsOwnLineSize b' x text size) f (subst (λ (x : List (List ℕ)). IsOwnLineSize x o text size) e l)

pub part_line_at : (b b' : List (List ℕ)) (o o' : List ℕ) (u u' : ℕ) (text : List ℕ) (size : ℕ) → IsPartLineSize b o u text size → b ≡ b' → o ≡ o' → u ≡ u' → IsPartLineSize b' o' u' text size
part_line_at b b' o o' u u' text size l e f g =
    subst (λ (x : ℕ). IsPartLineSize b' o' x text size) g (subst (λ (x : List ℕ). IsPartLineSize b' x u text size) f (subst (λ (x : List (List ℕ)). IsPartLineSize x o u text size) e l))

pub size_at : (b b' : List (List ℕ)) (text : List ℕ) (size : ℕ) → IsBodySize b text size → b ≡ b' → IsBodySize b' text size
size_at b b' text size s e = subst (λ (x : List (List ℕ)). IsBodySize x text size) e s

pub header_at : (b b' : List (List ℕ)) (text : List ℕ) (size : ℕ) (w : Bool) → IsHeaderSize b text size w → b ≡ b' → IsHeaderSize b' text size w
header_at b b' text size w h e = subst (λ (x : List (List ℕ)). IsHeaderSize x text size w) e h

pub body_read_at : (b : List (List ℕ)) (p d : ℕ) (c : Content) (w : Bool) (text : List ℕ) (size : ℕ) (old old' new : List Part) → IsBodyRead b p d c w text size old new → old ≡ old' → IsBodyRead b p d c w text size old' new
body_read_at b p d c w text size old old' new t e = subst (λ (x : List Part). IsBodyRead b p d c w text size x new) e t

pub none_at : (b : List (List ℕ)) (own rest rest' : List ℕ) → BeginsNoOwn b own (lines_of rest) → rest ≡ rest' → BeginsNoOwn b own (lines_of rest')
none_at b own rest rest' n e = subst (λ (x : List ℕ). BeginsNoOwn b own (lines_of x)) e n

pub no_part_at : (b : List (List ℕ)) (own : List ℕ) (used : ℕ) (rest rest' : List ℕ) → BeginsNoPart b own used (lines_of rest) → rest ≡ rest' → BeginsNoPart b own used (lines_of rest')
no_part_at b own used rest rest' n e = subst (λ (x : List ℕ). BeginsNoPart b own used (lines_of x)) e n

pub no_part_left : (b : List (List ℕ)) (own : List ℕ) (used : ℕ) (text : List ℕ) (size : ℕ) → length text ≤ size → BeginsNoPart b own used (lines_of (drop size text))
no_part_left b own used text size l = no_part_at b own used [] (drop size text) tt (sym (drop_nil text size l))

pub if_ok : {T E : Type 0} (r : Result T E) (P Q : T → Type 0) → ((x : T) → P x → Q x) → IfOk r P → IfOk r Q
if_ok (Ok x) P Q f h = f x h
if_ok (Err e) P Q f h = tt
