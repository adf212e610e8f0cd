use Rattle.std.proofs.Common.{◌≡◌, ◌≢◌, ℕ, suc, ◌+◌, ◌≤◌, List, [], ◌∷◌, ◌++◌, Option, Some, None, length, length-append, append_assoc, append-nil, arith, ap, sym, refl, subst, ◌∙◌}
use Rattle.std.specs.Io.KnownBytes.{Appends, Consumes, IsAtEnd, Keeps}
use Rattle.text_fields.proofs.FieldLemmas.{cut_sound}
use Rattle.mail_script.specs.Lines.{lines_of}
use Rattle.mail_script.specs.Reading.{cut_at}
use Rattle.mail_script.proofs.LineLemmas.{lines_last, lines_next}
use Rattle.mail_audit.specs.Audits.{IsVerdict}
use Rattle.mail_audit.specs.AuditProgress.{HasAdvanced, EndsAt, EndsWithin, HasTaken}
use Rattle.mail_audit.specs.declared.line_audit.Audit.{Audit}
use Rattle.mail_audit.specs.declared.verdict.AuditEnd.{AuditEnd}

-- ---- output

-- two additions, one after the other, are one addition
pub appends_both : (a b c : Option (List ℕ)) (xs ys : List ℕ) → Appends a b xs → Appends b c ys → Appends a c (xs ++ ys)
appends_both None b c xs ys h k = tt
appends_both (Some as') None c xs ys h k = absurd h
appends_both (Some as') (Some bs) None xs ys h k = absurd k
appends_both (Some as') (Some bs) (Some cs) xs ys h k = k ∙ ap (λ zs. zs ++ ys) h ∙ append_assoc as' xs ys

-- nothing was added to unchanged contents
pub keeps_appends : (a b : Option (List ℕ)) → Keeps a b → Appends a b []
keeps_appends None b h = tt
keeps_appends (Some xs) None h = absurd h
keeps_appends (Some xs) (Some ys) h = h ∙ sym (append-nil xs)

pub appends_none : (a : Option (List ℕ)) → Appends a a []
appends_none None = tt
appends_none (Some xs) = sym (append-nil xs)

pub appends_keeps : (a b c : Option (List ℕ)) (xs : List ℕ) → Appends a b xs → Keeps b c → Appends a c xs
appends_keeps a b c xs h k = subst (λ (zs : List ℕ). Appends a c zs) (append-nil xs) (appends_both a b c xs [] h (keeps_appends b c k))

-- ---- lines of a text

-- a line that is cut off, its end and the rest have the length of the whole text
pub cut_parts : (text line rest : List ℕ) → cut_at 10 text ≡ Some (line, rest) → length text ≡ length line + 1 + length rest
cut_parts text line rest e =
    let n : length text ≡ length line + length (10 ∷ rest) = ap length (cut_sound 10 text (line, rest) e) ∙ length-append line (10 ∷ rest) in
    let m : length (10 ∷ rest) ≡ suc (length rest) = refl in
    omega (arith, n, m)

pub advance_at_first : (front : List (List ℕ)) (audit : Audit) (text : List ℕ) → HasTaken front audit → HasAdvanced front audit text audit text
advance_at_first front audit text s = record {
  done = [];
  lines = λ more. refl;
  has_taken = subst (λ (ls : List (List ℕ)). HasTaken ls audit) (sym (append-nil front)) s;
  fits = omega arith;
}

module _ (front : List (List ℕ)) (old : Audit) (text : List ℕ) (mid : Audit) (left : List ℕ) (a : HasAdvanced front old text mid left) (line rest : List ℕ) (cut : cut_at 10 left ≡ Some (line, rest)) where
  -- the lines of a text from which one more line is cut off
  lines_on : (more : List ℕ) → lines_of (text ++ more) ≡ a.done ++ line ∷ lines_of (rest ++ more)
  lines_on more = a.lines more ∙ ap (λ (ls : List (List ℕ)). a.done ++ ls) (lines_next left line rest more cut)

  -- one further line was taken
  pub advance_on : (new : Audit) → HasTaken ((front ++ a.done) ++ line ∷ []) new → HasAdvanced front old text new rest
  advance_on new s =
      let n = cut_parts left line rest cut in
      let k = length-append (front ++ a.done) (line ∷ []) in
      let x : new.taken ≡ length ((front ++ a.done) ++ line ∷ []) = s.0 in
      let y : mid.taken ≡ length (front ++ a.done) = a.has_taken.0 in
      let f = a.fits in
      record {
        done = a.done ++ line ∷ [];
        lines = λ more. lines_on more ∙ sym (append_assoc a.done (line ∷ []) (lines_of (rest ++ more)));
        has_taken = subst (λ (ls : List (List ℕ)). HasTaken ls new) (append_assoc front a.done (line ∷ [])) s;
        fits = omega (arith, n, k, x, y, f);
      }

  -- the audit ends at that line
  pub ends_within : (end : AuditEnd) → EndsAt (front ++ a.done) line end → EndsWithin front text end
  ends_within end e more =
      subst (λ (ls : List (List ℕ)). IsVerdict ls end)
      (append_assoc front a.done (line ∷ lines_of (rest ++ more)) ∙ ap (λ (ls : List (List ℕ)). front ++ ls) (sym (lines_on more)))
      (e (lines_of (rest ++ more)))

  -- a line is left, so one more can be counted
  pub line_fits : mid.taken + 1 ≤ old.taken + length text
  line_fits = let n = cut_parts left line rest cut in let f = a.fits in omega (arith, n, f)

-- ---- a reader's octets

-- The progress of an audit: the complete lines of what was read were taken, and the first octets of
-- the next line are left.
pub record HasRead (start left : Option (List ℕ)) (audit : Audit) (text : List ℕ) : Type 0 where
  pub read : List ℕ
  pub front : List (List ℕ)
  pub lines : (more : List ℕ) → lines_of (read ++ more) ≡ front ++ lines_of (text ++ more)
  pub has_taken : HasTaken front audit
  pub known : (input : List ℕ) → start ≡ Some input → (rest : List ℕ) × (input ≡ read ++ rest) × (left ≡ Some rest)

pub read_at_first : (start : Option (List ℕ)) (audit : Audit) (text : List ℕ) → HasTaken [] audit → text ≡ [] → HasRead start start audit text
read_at_first start audit text s t = record {
  read = [];
  front = [];
  lines = λ more. ap (λ (zs : List ℕ). lines_of (zs ++ more)) (sym t);
  has_taken = s;
  known = λ input e. (input, refl, e);
}

keeps_known : (rest : List ℕ) (left : Option (List ℕ)) → Keeps (Some rest) left → left ≡ Some rest
keeps_known rest None k = absurd k
keeps_known rest (Some xs) k = ap Some k

consumes_known : (rest bs : List ℕ) (left : Option (List ℕ)) → Consumes (Some rest) left bs → (more : List ℕ) × (left ≡ Some more) × (rest ≡ bs ++ more)
consumes_known rest bs None k = absurd k
consumes_known rest bs (Some more) k = (more, refl, k)

module _ (start left : Option (List ℕ)) (audit : Audit) (text : List ℕ) (has_read : HasRead start left audit text) where
  -- a read that failed took nothing
  pub read_unchanged : (left' : Option (List ℕ)) → Keeps left left' → HasRead start left' audit text
  read_unchanged left' k = record {
    read = has_read.read;
    front = has_read.front;
    lines = has_read.lines;
    has_taken = has_read.has_taken;
    known = λ input e. let q = has_read.known input e in (q.0, q.1, keeps_known q.0 left' (subst (λ (o : Option (List ℕ)). Keeps o left') q.2 k));
  }

  -- octets that are read follow those read before
  joined : (bs more : List ℕ) → lines_of ((has_read.read ++ bs) ++ more) ≡ has_read.front ++ lines_of ((text ++ bs) ++ more)
  joined bs more = ap lines_of (append_assoc has_read.read bs more) ∙ has_read.lines (bs ++ more) ∙ ap (λ (zs : List ℕ). has_read.front ++ lines_of zs) (sym (append_assoc text bs more))

  -- the lines of the input after octets are read
  after : (bs : List ℕ) (left' : Option (List ℕ)) → Consumes left left' bs → (input : List ℕ) → start ≡ Some input → (more : List ℕ) × (left' ≡ Some more) × (input ≡ (has_read.read ++ bs) ++ more) × (lines_of input ≡ has_read.front ++ lines_of ((text ++ bs) ++ more))
  after bs left' k input e =
      let q = has_read.known input e in
      let p = consumes_known q.0 bs left' (subst (λ (o : Option (List ℕ)). Consumes o left' bs) q.2 k) in
      let i : input ≡ (has_read.read ++ bs) ++ p.0 = q.1 ∙ ap (λ (zs : List ℕ). has_read.read ++ zs) p.2 ∙ sym (append_assoc has_read.read bs p.0) in
      (p.0, p.1, i, ap lines_of i ∙ joined bs p.0)

  -- the lines that a piece completes are taken
  pub read_on : (bs : List ℕ) (left' : Option (List ℕ)) (audit' : Audit) (text' : List ℕ) → Consumes left left' bs → HasAdvanced has_read.front audit (text ++ bs) audit' text' → HasRead start left' audit' text'
  read_on bs left' audit' text' k a = record {
    read = has_read.read ++ bs;
    front = has_read.front ++ a.done;
    lines = λ more. joined bs more ∙ ap (λ (ls : List (List ℕ)). has_read.front ++ ls) (a.lines more) ∙ sym (append_assoc has_read.front a.done (lines_of (text' ++ more)));
    has_taken = a.has_taken;
    known = λ input e. let b = after bs left' k input e in (b.0, b.2, b.1);
  }

  -- the audit ends within a piece that was read
  pub read_to_line : (bs : List ℕ) (left' : Option (List ℕ)) (end : AuditEnd) → Consumes left left' bs → EndsWithin has_read.front (text ++ bs) end → (input : List ℕ) → start ≡ Some input → IsVerdict (lines_of input) end
  read_to_line bs left' end k w input e =
      let b = after bs left' k input e in
      subst (λ (ls : List (List ℕ)). IsVerdict ls end) (sym b.3) (w b.0)

  -- the input ends
  pub read_to_end : (left' : Option (List ℕ)) (end : AuditEnd) → Consumes left left' [] → IsAtEnd left' → IsVerdict (has_read.front ++ lines_of text) end → (input : List ℕ) → start ≡ Some input → IsVerdict (lines_of input) end
  read_to_end left' end k at w input e =
      let b = after [] left' k input e in
      let none : b.0 ≡ [] = subst (λ (o : Option (List ℕ)). IsAtEnd o) b.1 at in
      let t : (text ++ []) ++ b.0 ≡ text = ap (λ (zs : List ℕ). (text ++ []) ++ zs) none ∙ append-nil (text ++ []) ∙ append-nil text in
      subst (λ (ls : List (List ℕ)). IsVerdict ls end) (sym (b.3 ∙ ap (λ (zs : List ℕ). has_read.front ++ lines_of zs) t)) w

-- ---- the last line

pub last_none : (front : List (List ℕ)) (text : List ℕ) (end : AuditEnd) → length text ≡ 0 → IsVerdict front end → IsVerdict (front ++ lines_of text) end
last_none front [] end e a = subst (λ (ls : List (List ℕ)). IsVerdict ls end) (sym (append-nil front)) a
last_none front (octet ∷ octets) end e a = absurd (omega (arith, e))

pub last_one : (front : List (List ℕ)) (text : List ℕ) (end : AuditEnd) → cut_at 10 text ≡ None → length text ≢ 0 → IsVerdict (front ++ text ∷ []) end → IsVerdict (front ++ lines_of text) end
last_one front text end c n a = subst (λ (ls : List (List ℕ)). IsVerdict ls end) (ap (λ (ls : List (List ℕ)). front ++ ls) (sym (lines_last text c (λ e. n (ap length e))))) a
