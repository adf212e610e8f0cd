use Rattle.std.proofs.Common.{◌≡◌, ◌≤◌, ◌<◌, ◌+◌, ◌-◌, ◌==◌, ◌||◌, ◌∙◌, ℕ, zero, suc, Bool, true, false, List, [], ◌∷◌, ◌++◌, append-nil, append_assoc, refl, arith, length, length-drop, take, drop, get_or, max, sym, ap, subst}
use Rattle.std.proofs.lemmas.Bool.Decides.{nat_tests}
use Rattle.std.proofs.lemmas.List.{drop-drop, drop_all, length-take, take_all, take_more}
use Rattle.memchr.specs.Find.{Nowhere, Passes, is_byte2}
use Rattle.mail_bench.specs.Replies.{at_literal, scan, line_stage_after, is_ended, line_after, stage_after}
use Rattle.mail_bench.specs.declared.replies.ReplyStage.{ReplyStage}
use Rattle.mail_bench.specs.declared.replies.ReplyStage.TheVariants.{Line, Literal}

-- an answer that has ended takes no further octets
pub scan_ended : (stage : ReplyStage) (line octets : List ℕ) → is_ended stage ≡ true → scan stage line octets ≡ (stage, line, octets)
scan_ended stage line [] e = refl
scan_ended stage line (octet ∷ octets) e = rw e refl

-- one further octet
scan_suc : (stage : ReplyStage) (line octets : List ℕ) (i : ℕ) → i < length octets → is_ended stage ≡ false
    → scan stage line (drop i octets) ≡ scan (stage_after stage (get_or octets i 0)) (line_after stage line (get_or octets i 0)) (drop (suc i) octets)
scan_suc stage line [] i l e = absurd (omega arith)
scan_suc stage line (octet ∷ octets) zero l e = rw e refl
scan_suc stage line (octet ∷ octets) (suc i) l e = scan_suc stage line octets i (omega arith) e

pub scan_next : (stage : ReplyStage) (line octets : List ℕ) (i : ℕ) → i < length octets → is_ended stage ≡ false
    → scan stage line (drop i octets) ≡ scan (stage_after stage (get_or octets i 0)) (line_after stage line (get_or octets i 0)) (drop (i + 1) octets)
scan_next stage line octets i l e =
    let k : suc i ≡ i + 1 = omega arith in
    subst (λ (m : ℕ). scan stage line (drop i octets) ≡ scan (stage_after stage (get_or octets i 0)) (line_after stage line (get_or octets i 0)) (drop m octets)) k (scan_suc stage line octets i l e)

-- ---- a line's octets, up to one that may begin an announcement

passes_by : (a b : Bool) → ¬ ((a || b) ≡ true) → (a ≡ false) × (b ≡ false)
passes_by true b neither = absurd (neither refl)
passes_by false true neither = absurd (neither refl)
passes_by false false neither = (refl, refl)

-- octets without `{` and LF belong to the line
pub scan_text : (octets line : List ℕ) (count : ℕ) → count ≤ length octets → Nowhere (Passes (is_byte2 123 10) octets) 0 count
    → scan Line line octets ≡ scan Line (line ++ take count octets) (drop count octets)
scan_text octets line zero short none = ap (λ (l : List ℕ). scan Line l octets) (sym (append-nil line))
scan_text [] line (suc count) short none = absurd (omega arith)
scan_text (octet ∷ octets) line (suc count) short none =
    let here = passes_by (octet == 123) (octet == 10) (none 0 (omega arith) (omega arith)) in
    let later : Nowhere (Passes (is_byte2 123 10) octets) 0 count = λ k low high. none (suc k) (omega arith) (omega arith) in
    let one : scan Line line (octet ∷ octets) ≡ scan Line (line ++ octet ∷ []) octets = rw here.0 (rw here.1 refl) in
    one ∙ scan_text octets (line ++ octet ∷ []) count (omega arith) later ∙ ap (λ (l : List ℕ). scan Line l (drop count octets)) (append_assoc line (octet ∷ []) (take count octets))

-- and so does the octet after them, which ends the answer or may begin an announcement
pub scan_text_and_more : (octets line : List ℕ) (at : ℕ) → at < length octets → Nowhere (Passes (is_byte2 123 10) octets) 0 at
    → scan Line line octets ≡ scan (line_stage_after (get_or octets at 0)) (line ++ take (at + 1) octets) (drop (at + 1) octets)
scan_text_and_more octets line at short none =
    let octet = get_or octets at 0 in
    let text : (line ++ take at octets) ++ octet ∷ [] ≡ line ++ take (at + 1) octets =
    append_assoc line (take at octets) (octet ∷ []) ∙ ap (λ (l : List ℕ). line ++ l) (sym (take_more octets at 0 short)) in
    scan_text octets line at (omega arith) none ∙ scan_next Line (line ++ take at octets) octets at short refl ∙ ap (λ (l : List ℕ). scan (line_stage_after octet) l (drop (at + 1) octets)) text

pub scan_all_text : (octets line : List ℕ) → Nowhere (Passes (is_byte2 123 10) octets) 0 (length octets) → scan Line line octets ≡ scan Line (line ++ octets) (drop (length octets) octets)
scan_all_text octets line none =
    scan_text octets line (length octets) (omega arith) none ∙ ap (λ (l : List ℕ). scan Line (line ++ l) (drop (length octets) octets)) (take_all (length octets) octets (omega arith))

-- ---- a literal's octets

more_left : (left count : ℕ) → suc (suc count) ≤ max left 1 → at_literal (left - 1) ≡ Literal (left - 1)
more_left left count within =
    let more : (left - 1 == 0) ≡ false = grind (arith, nat_tests) in
    rw more refl

pub scan_literal : (octets line : List ℕ) (left count : ℕ) → count ≤ length octets → 0 < count → count ≤ max left 1
    → scan (Literal left) line octets ≡ scan (at_literal (left - count)) line (drop count octets)
scan_literal octets line left zero short some within = absurd (omega arith)
scan_literal [] line left (suc count) short some within = absurd (omega arith)
scan_literal (octet ∷ octets) line left (suc zero) short some within = refl
scan_literal (octet ∷ octets) line left (suc (suc count)) short some within =
    let fewer : left - 1 - suc count ≡ left - suc (suc count) = omega arith in
    ap (λ (stage : ReplyStage). scan stage line octets) (more_left left count within)
    ∙ scan_literal octets line (left - 1) (suc count) (omega arith) (omega arith) (omega arith)
    ∙ ap (λ (n : ℕ). scan (at_literal n) line (drop (suc count) octets)) fewer

-- ---- the state of a reading

-- the result of reading, if the stage and the line are these
pub scan_is : (octets line rest text more : List ℕ) (stage new : ReplyStage) → scan Line line octets ≡ scan stage text rest → new ≡ stage → more ≡ text → scan Line line octets ≡ scan new more rest
scan_is octets line rest text more stage new h e f = h ∙ ap (λ (s : ReplyStage). scan s text rest) (sym e) ∙ ap (λ (l : List ℕ). scan new l rest) (sym f)

-- piece after piece: reading continues after a place
pub scan_rest : (stage new : ReplyStage) (line more octets : List ℕ) (at count : ℕ)
    → scan stage line (take (length octets - at) (drop at octets)) ≡ scan new more (drop count (take (length octets - at) (drop at octets)))
    → scan stage line (drop at octets) ≡ scan new more (drop (at + count) octets)
scan_rest stage new line more octets at count one =
    let rest : take (length octets - at) (drop at octets) ≡ drop at octets = take_all (length octets - at) (drop at octets) (omega (arith, length-drop at octets)) in
    ap (λ (l : List ℕ). scan stage line l) (sym rest) ∙ one ∙ ap (λ (l : List ℕ). scan new more (drop count l)) rest ∙ ap (λ (l : List ℕ). scan new more l) (drop-drop count at octets)

pub within_on : (octets : List ℕ) (at count : ℕ) → at ≤ length octets → count ≤ length (take (length octets - at) (drop at octets)) → at + count ≤ length octets
within_on octets at count low h = omega (arith, length-take (length octets - at) (drop at octets), length-drop at octets)

-- no octets are left
pub scan_nothing : (stage : ReplyStage) (line octets : List ℕ) (at : ℕ) → length octets ≤ at → scan stage line (drop at octets) ≡ (stage, line, drop at octets)
scan_nothing stage line octets at past = rw (drop_all at octets past) refl
