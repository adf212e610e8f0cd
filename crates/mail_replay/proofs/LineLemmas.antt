use Rattle.std.proofs.Common.{◌≡◌, inl, ℕ, suc, ◌+◌, List, [], ◌∷◌, ◌++◌, Option, Some, None, length, length-append, append_assoc, append-nil, arith, ap, sym, refl, subst, ◌∙◌}
use Rattle.std.specs.Io.KnownBytes.{Appends, Keeps}
use Rattle.mail_script.specs.Lines.{lines_of}
use Rattle.mail_script.specs.Reading.{cut_at}
use Rattle.mail_script.specs.Script.{Means}
use Rattle.mail_script.specs.declared.script.ScriptLine.{ScriptLine}
use Rattle.text_fields.proofs.FieldLemmas.{cut_sound}
use Rattle.mail_script.proofs.LineLemmas.{lines_next}
use Rattle.mail_replay.specs.Lines.{IsBad, ServesLine, ServesInPart}
use Rattle.mail_replay.specs.Replays.{HasServedLines, HasBadLine, FirstInPart, ServesAll, HasLineWithoutMemory}
use Rattle.mail_replay.specs.ScriptState.{ScriptContents}

-- a line that is cut off, its end and the rest are the whole
pub cut_parts : (text line rest : List ℕ) → cut_at 10 text ≡ Some (line, rest) → length text ≡ length line + 1 + length rest
cut_parts text line rest e =
    let n : length text ≡ length line + length (10 ∷ rest) = ap length (cut_sound 10 text (line, rest) e) ∙ length-append line (10 ∷ rest) in
    let m : length (10 ∷ rest) ≡ suc (length rest) = refl in
    omega (arith, n, m)

-- two additions are one
pub appends_both : (a b c : Option (List ℕ)) (xs ys : List ℕ) → Appends a b xs → Appends b c ys → Appends a c (xs ++ ys)
appends_both None b c xs ys h k = tt
appends_both (Some as') None c xs ys h k = absurd h
appends_both (Some as') (Some bs) None xs ys h k = absurd k
appends_both (Some as') (Some bs) (Some cs) xs ys h k = k ∙ ap (λ zs. zs ++ ys) h ∙ append_assoc as' xs ys

-- unchanged contents have nothing added
pub keeps_appends : (a b : Option (List ℕ)) → Keeps a b → Appends a b []
keeps_appends None b h = tt
keeps_appends (Some xs) None h = absurd h
keeps_appends (Some xs) (Some ys) h = h ∙ sym (append-nil xs)

pub appends_none : (a : Option (List ℕ)) → Appends a a []
appends_none None = tt
appends_none (Some xs) = sym (append-nil xs)

pub appends_keeps : (a b c : Option (List ℕ)) (xs : List ℕ) → Appends a b xs → Keeps b c → Appends a c xs
appends_keeps a b c xs h k = subst (λ (zs : List ℕ). Appends a c zs) (append-nil xs) (appends_both a b c xs [] h (keeps_appends b c k))

-- a line for which memory runs out may print nothing
pub nothing_in_part : (setup : ScriptContents) (lines : List (List ℕ)) → FirstInPart setup lines []
nothing_in_part setup [] = refl
nothing_in_part setup (line ∷ lines) = inl refl

-- one more line after those that were served
pub serves_one_more : (old mid new : ScriptContents) (lines : List (List ℕ)) (line out more : List ℕ) (meaning : ScriptLine)
    → ServesAll old lines out mid → Means line meaning → ServesLine mid meaning more new → ServesAll old (lines ++ line ∷ []) (out ++ more) new
serves_one_more old mid new [] line out more meaning s means serves =
    let start : mid ≡ old = s.1 in
    let none : out ≡ [] = s.0 in
    (meaning, more, new, [], means, subst (λ (z : ScriptContents). ServesLine z meaning more new) start serves, ap (λ zs. zs ++ more) none ∙ sym (append-nil more), (refl, refl))
serves_one_more old mid new (first ∷ lines) line out more meaning s means serves =
    (s.0, s.1, s.2, s.3 ++ more, s.4, s.5, ap (λ zs. zs ++ more) s.6 ∙ append_assoc s.1 s.3 more, serves_one_more s.2 mid new lines line s.3 more meaning s.7 means serves)

-- lines served after others
pub serves_both : (old mid new : ScriptContents) (xs ys : List (List ℕ)) (out more : List ℕ) → ServesAll old xs out mid → ServesAll mid ys more new → ServesAll old (xs ++ ys) (out ++ more) new
serves_both old mid new [] ys out more s t =
    let start : mid ≡ old = s.1 in
    let none : more ≡ out ++ more = sym (ap (λ zs. zs ++ more) s.0) in
    subst (λ (zs : List ℕ). ServesAll old ys zs new) none (subst (λ (z : ScriptContents). ServesAll z ys more new) start t)
serves_both old mid new (first ∷ xs) ys out more s t =
    (s.0, s.1, s.2, s.3 ++ more, s.4, s.5, ap (λ zs. zs ++ more) s.6 ∙ append_assoc s.1 s.3 more, serves_both s.2 mid new xs ys s.3 more s.7 t)

module _ (held : Option (List ℕ)) (setup : ScriptContents) (served : ℕ) (text : List ℕ) where
  pub advance_at_first : HasServedLines held setup served text held setup served text
  advance_at_first = record {
    front = [];
    out = [];
    lines = λ more. refl;
    count = omega arith;
    serves = (refl, refl);
    writes = appends_none held;
    fits = omega arith;
  }

  -- memory runs out after some of the lines
  pub stops_after : (held1 : Option (List ℕ)) (scene1 : ScriptContents) (served1 : ℕ) (text1 : List ℕ) → HasServedLines held setup served text held1 scene1 served1 text1 → HasLineWithoutMemory held setup text held1
  stops_after held1 scene1 served1 text1 a = record {
    front = a.front;
    back = λ more. lines_of (text1 ++ more);
    out = a.out;
    part = [];
    setup' = scene1;
    lines = a.lines;
    serves = a.serves;
    first = λ more. nothing_in_part scene1 (lines_of (text1 ++ more));
    writes = subst (λ (zs : List ℕ). Appends held held1 zs) (sym (append-nil a.out)) a.writes;
  }

  module _ (held1 : Option (List ℕ)) (scene1 : ScriptContents) (served1 : ℕ) (text1 : List ℕ) (a : HasServedLines held setup served text held1 scene1 served1 text1) (line rest : List ℕ) (cut : cut_at 10 text1 ≡ Some (line, rest)) where
    parts : (more : List ℕ) → lines_of (text ++ more) ≡ a.front ++ line ∷ lines_of (rest ++ more)
    parts more = a.lines more ∙ ap (λ ls. a.front ++ ls) (lines_next text1 line rest more cut)

    pub advance_on : (held2 : Option (List ℕ)) (scene2 : ScriptContents) (served2 : ℕ) (meaning : ScriptLine) (more : List ℕ) → served2 ≡ served1 + 1 → Means line meaning → ServesLine scene1 meaning more scene2 → Appends held1 held2 more
        → HasServedLines held setup served text held2 scene2 served2 rest
    advance_on held2 scene2 served2 meaning more next means serves writes =
        let n = cut_parts text1 line rest cut in
        let l : length (a.front ++ line ∷ []) ≡ length a.front + 1 = length-append a.front (line ∷ []) in
        record {
          front = a.front ++ line ∷ [];
          out = a.out ++ more;
          lines = λ after. parts after ∙ sym (append_assoc a.front (line ∷ []) (lines_of (rest ++ after)));
          count = omega (arith, next, l, a.count);
          serves = serves_one_more setup scene1 scene2 a.front line a.out more meaning a.serves means serves;
          writes = appends_both held held1 held2 a.out more a.writes writes;
          fits = omega (arith, next, n, a.fits);
        }

    pub stops_here : (held2 : Option (List ℕ)) (part : List ℕ) → ServesInPart scene1 line part → Appends held1 held2 part → HasLineWithoutMemory held setup text held2
    stops_here held2 part h writes = record {
      front = a.front;
      back = λ more. line ∷ lines_of (rest ++ more);
      out = a.out;
      part = part;
      setup' = scene1;
      lines = parts;
      serves = a.serves;
      first = λ more. h;
      writes = appends_both held held1 held2 a.out part a.writes writes;
    }

    pub breaks_here : (held2 : Option (List ℕ)) (number : ℕ) → number ≡ served1 + 1 → IsBad scene1 line → Appends held1 held2 [] → HasBadLine held setup served text held2 number
    breaks_here held2 number next bad writes = record {
      front = a.front;
      line = line;
      after = rest;
      out = a.out;
      setup' = scene1;
      lines = parts;
      count = omega (arith, next, a.count);
      serves = a.serves;
      bad = bad;
      writes = subst (λ (zs : List ℕ). Appends held held2 zs) (append-nil a.out) (appends_both held held1 held2 a.out [] a.writes writes);
    }
