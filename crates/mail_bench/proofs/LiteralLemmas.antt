use Rattle.std.proofs.Common.{◌≡◌, ◌≤◌, ◌<◌, ◌+◌, ◌-◌, ◌*◌, ◌==◌, ◌∙◌, ℕ, suc, Bool, true, false, not, List, [], ◌∷◌, ◌++◌, append-nil, append_assoc, refl, rules, sym, ap, subst, arith, length, if◌then◌else◌}
use Rattle.std.specs.Char.{is_ascii_digit}
use Rattle.std.specs.Fmt.{decimal}
use Rattle.std.specs.List.{list_all}
use Rattle.std.specs.Str.{all_ascii_digits}
use Rattle.std.proofs.lemmas.Bool.{and_parts, false≢true}
use Rattle.std.proofs.lemmas.Bool.Decides.{nat_tests}
use Rattle.std.proofs.lemmas.Fmt.{decimal_nonempty, digits_decimal, digits_value-decimal}
use Rattle.std.proofs.lemmas.Str.Parse.{IsNumeralModel, numerals_by_fold}
use Rattle.mail_bench.specs.Answers.{number_from}
use Rattle.mail_bench.specs.Replies.{LiteralsArePassed, announced, at_literal, count_more, scan, line_stage_after, is_ended, is_text, longest_literal, stage_after}
use Rattle.mail_bench.specs.declared.replies.ReplyStage.{ReplyStage}
use Rattle.mail_bench.specs.declared.replies.ReplyStage.TheVariants.{Announced, Closed, Count, Ended, Line, Literal, Open}
use Rattle.mail_bench.proofs.AnswerLemmas.{number_grows}

-- ---- octets of a line

either : (b : Bool) (s t : ReplyStage) → is_text s ≡ true → is_text t ≡ true → is_text (if b then s else t) ≡ true
either true s t k l = k
either false s t k l = l

other : (b : Bool) (s t : ReplyStage) → b ≡ false → is_text t ≡ true → is_text (if b then s else t) ≡ true
other true s t e l = absurd (false≢true (sym e))
other false s t e l = l

is_not : (b : Bool) → not b ≡ true → b ≡ false
is_not true e = absurd (false≢true e)
is_not false e = refl

is_text_line_stage_after : (octet : ℕ) → (octet == 10) ≡ false → is_text (line_stage_after octet) ≡ true
is_text_line_stage_after octet e = either (octet == 123) Open (if octet == 10 then Ended else Line) refl (rw e refl)

is_text_stage_after : (stage : ReplyStage) (octet : ℕ) → is_text stage ≡ true → (octet == 10) ≡ false → is_text (stage_after stage octet) ≡ true
is_text_stage_after Line octet k e = is_text_line_stage_after octet e
is_text_stage_after Open octet k e = either (is_ascii_digit octet) (Count (count_more 0 octet)) (line_stage_after octet) refl (is_text_line_stage_after octet e)
is_text_stage_after (Count n) octet k e =
    either (is_ascii_digit octet) (Count (count_more n octet)) (if octet == 125 then Closed n else line_stage_after octet) refl (either (octet == 125) (Closed n) (line_stage_after octet) refl (is_text_line_stage_after octet e))
is_text_stage_after (Closed n) octet k e = either (octet == 13) (Announced n) (line_stage_after octet) refl (is_text_line_stage_after octet e)
is_text_stage_after (Announced n) octet k e = other (octet == 10) (at_literal n) (line_stage_after octet) e (is_text_line_stage_after octet e)
is_text_stage_after (Literal n) octet k e = absurd (false≢true k)
is_text_stage_after Ended octet k e = absurd (false≢true k)

opens : (stage : ReplyStage) → is_text stage ≡ true → stage_after stage 123 ≡ Open
opens Line k = refl
opens Open k = refl
opens (Count n) k = refl
opens (Closed n) k = refl
opens (Announced n) k = refl
opens (Literal n) k = absurd (false≢true k)
opens Ended k = absurd (false≢true k)

not_ended : (stage : ReplyStage) → is_text stage ≡ true → is_ended stage ≡ false
not_ended Line k = refl
not_ended Open k = refl
not_ended (Count n) k = refl
not_ended (Closed n) k = refl
not_ended (Announced n) k = refl
not_ended (Literal n) k = refl
not_ended Ended k = absurd (false≢true k)

scan_octet : (stage : ReplyStage) (line : List ℕ) (octet : ℕ) (rest : List ℕ) → is_text stage ≡ true → scan stage line (octet ∷ rest) ≡ scan (stage_after stage octet) (line ++ octet ∷ []) rest
scan_octet stage line octet rest k = rw (not_ended stage k) (rw k refl)

scan_line : (text : List ℕ) (stage : ReplyStage) (line rest : List ℕ) → is_text stage ≡ true → list_all (λ octet. not (octet == 10)) text ≡ true
    → (new : ReplyStage) × (is_text new ≡ true) × (scan stage line (text ++ rest) ≡ scan new (line ++ text) rest)
scan_line [] stage line rest k all = (stage, k, ap (λ (l : List ℕ). scan stage l rest) (sym (append-nil line)))
scan_line (octet ∷ text) stage line rest k all =
    let parts = and_parts (not (octet == 10)) (list_all (λ octet. not (octet == 10)) text) all in
    let more = scan_line text (stage_after stage octet) (line ++ octet ∷ []) rest (is_text_stage_after stage octet k (is_not (octet == 10) parts.0)) parts.1 in
    (more.0, more.1, scan_octet stage line octet (text ++ rest) k ∙ more.2 ∙ ap (λ (l : List ℕ). scan more.0 l rest) (append_assoc line (octet ∷ []) text))

-- ---- the digits of an announcement

own : IsNumeralModel (λ ds. all_ascii_digits ds ≡ true) (number_from 0)
own = numerals_by_fold _ (search rules) number_from (search rules)

counted : (n digit : ℕ) (digits : List ℕ) → number_from (n * 10 + (digit - 48)) digits ≤ longest_literal → count_more n digit ≡ n * 10 + (digit - 48)
counted n digit digits h = let g = number_grows (n * 10 + (digit - 48)) digits in omega arith

scan_count : (n digit : ℕ) (line rest : List ℕ) → is_ascii_digit digit ≡ true → scan (Count n) line (digit ∷ rest) ≡ scan (Count (count_more n digit)) (line ++ digit ∷ []) rest
scan_count n digit line rest d = rw d refl

scan_digits : (digits : List ℕ) (n : ℕ) (line rest : List ℕ) → all_ascii_digits digits ≡ true → number_from n digits ≤ longest_literal
    → scan (Count n) line (digits ++ rest) ≡ scan (Count (number_from n digits)) (line ++ digits) rest
scan_digits [] n line rest d h = ap (λ (l : List ℕ). scan (Count n) l rest) (sym (append-nil line))
scan_digits (digit ∷ digits) n line rest d h =
    let p = and_parts (is_ascii_digit digit) (all_ascii_digits digits) d in
    let m = n * 10 + (digit - 48) in
    scan_count n digit line (digits ++ rest) p.0 ∙ ap (λ (k : ℕ). scan (Count k) (line ++ digit ∷ []) (digits ++ rest)) (counted n digit digits h)
    ∙ scan_digits digits m (line ++ digit ∷ []) rest p.1 h ∙ ap (λ (l : List ℕ). scan (Count (number_from m digits)) l rest) (append_assoc line (digit ∷ []) digits)

-- the first digit follows `{`
begins : (digits line rest : List ℕ) → 0 < length digits → all_ascii_digits digits ≡ true → scan Open line (digits ++ rest) ≡ scan (Count 0) line (digits ++ rest)
begins [] line rest some d = absurd (omega arith)
begins (digit ∷ digits) line rest some d =
    let p = and_parts (is_ascii_digit digit) (all_ascii_digits digits) d in
    rw p.0 refl

-- ---- the literal

left_none : (left : ℕ) → left ≡ 1 → at_literal (left - 1) ≡ Line
left_none left e = subst (λ (k : ℕ). at_literal (k - 1) ≡ Line) (sym e) refl

left_more : (left more : ℕ) → left ≡ suc more → 0 < more → at_literal (left - 1) ≡ Literal more
left_more left more e some =
    let d : left - 1 ≡ more = omega arith in
    let f : (more == 0) ≡ false = grind (arith, nat_tests) in
    rw d (rw f refl)

passed : (literal : List ℕ) (left : ℕ) (line rest : List ℕ) → length literal ≡ left → 0 < left → scan (Literal left) line (literal ++ rest) ≡ scan Line line rest
passed [] left line rest e some = absurd (omega arith)
passed (octet ∷ []) left line rest e some = ap (λ (stage : ReplyStage). scan stage line rest) (left_none left (sym e))
passed (octet ∷ second ∷ literal) left line rest e some =
    ap (λ (stage : ReplyStage). scan stage line ((second ∷ literal) ++ rest)) (left_more left (suc (length literal)) (sym e) (omega arith))
    ∙ passed (second ∷ literal) (suc (length literal)) line rest refl (omega arith)

-- an announcement, from its `{`
scan_announcement : (literal line rest : List ℕ) → 0 < length literal → length literal ≤ longest_literal
    → scan Open (line ++ 123 ∷ []) (decimal (length literal) ++ 125 ∷ 13 ∷ 10 ∷ rest) ≡ scan (Literal (length literal)) (line ++ announced literal) rest
scan_announcement literal line rest some short =
    let n = length literal in
    let digits = decimal n in
    let start = line ++ 123 ∷ [] in
    let h : all_ascii_digits digits ≡ true = digits_decimal own n (omega arith) in
    let v : number_from 0 digits ≡ n = digits_value-decimal own n (omega arith) in
    let f : (n == 0) ≡ false = grind (arith, nat_tests) in
    let small : number_from 0 digits ≤ longest_literal = omega arith in
    let count = begins digits start (125 ∷ 13 ∷ 10 ∷ rest) (decimal_nonempty n (omega arith)) h ∙ scan_digits digits 0 start (125 ∷ 13 ∷ 10 ∷ rest) h small in
    let known = count ∙ ap (λ (k : ℕ). scan (Count k) (start ++ digits) (125 ∷ 13 ∷ 10 ∷ rest)) v in
    let last : at_literal n ≡ Literal n = rw f refl in
    let tail = 125 ∷ 13 ∷ 10 ∷ [] in
    let text = start ++ digits in
    let line_is : ((text ++ 125 ∷ []) ++ 13 ∷ []) ++ 10 ∷ [] ≡ line ++ announced literal =
    ap (λ (l : List ℕ). l ++ 10 ∷ []) (append_assoc text (125 ∷ []) (13 ∷ [])) ∙ append_assoc text (125 ∷ 13 ∷ []) (10 ∷ [])
    ∙ append_assoc start digits tail ∙ append_assoc line (123 ∷ []) (digits ++ tail) in
    known ∙ ap (λ (stage : ReplyStage). scan stage (((text ++ 125 ∷ []) ++ 13 ∷ []) ++ 10 ∷ []) rest) last ∙ ap (λ (l : List ℕ). scan (Literal n) l rest) line_is

-- whatever octets a literal has, the line continues after it
pub literals_are_passed : LiteralsArePassed
literals_are_passed before line literal rest some short all =
    let n = length literal in
    let text = before ++ line in
    let after = literal ++ rest in
    let front = scan_line line Line before (announced literal ++ after) refl all in
    let more = decimal n ++ (125 ∷ 13 ∷ 10 ∷ after) in
    front.2 ∙ ap (λ (l : List ℕ). scan front.0 text (123 ∷ l)) (append_assoc (decimal n) (125 ∷ 13 ∷ 10 ∷ []) after)
    ∙ scan_octet front.0 text 123 more front.1 ∙ ap (λ (stage : ReplyStage). scan stage (text ++ 123 ∷ []) more) (opens front.0 front.1)
    ∙ scan_announcement literal text after some short ∙ passed literal n (text ++ announced literal) rest refl some
