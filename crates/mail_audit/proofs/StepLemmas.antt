use Rattle.std.proofs.Common.{◌≡◌, inl, inr, ℕ, ◌+◌, ◌-◌, ◌<◌, ◌≤◌, Bool, true, false, List, [], ◌∷◌, ◌++◌, length, length-append, length-drop, drop, Option, Some, None, Result, Ok, Err, IfOk, refl, sym, ap, ◌∙◌, subst, append_assoc, append-nil, drop-drop, arith, codes}
use Rattle.std.proofs.Math.Seq.{drop-append_seam}
use Rattle.std.proofs.lemmas.Bool.{cases_Bool}
use Rattle.std.proofs.lemmas.Grind.{flat_map-append}
use Rattle.std.proofs.lemmas.List.{drop_all}
use Rattle.std.specs.List.{flat_map}
use Rattle.std.specs.Prelude.{IfSome, IsSome}
use Rattle.crdt_ops.specs.Form.{IsInForm, IsSpelled}
use Rattle.crdt_ops.specs.declared.op.Op.{Op}
use Rattle.merge_laws.proofs.Lists.{in_parts}
use Rattle.merge_laws.specs.Orders.{AreSound}
use Rattle.text_fields.proofs.FieldLemmas.{cut_sound}
use Rattle.text_fields.specs.FieldReading.{cut_at}
use Rattle.mail_audit.specs.Audits.{IsNoEnd, ended_line, text_of}
use Rattle.mail_audit.specs.DumpLines.{AreLinesAfterOps, IsCompared, IsUnreadableStep, IsExpected, HasTakenOp, IsStep, IsMatchStep, AreOps, IsPhase, HasTakenLine}
use Rattle.crdt_ops.specs.DumpLines.{op_line}
use Rattle.mail_audit.specs.Dumps.{AreOrdered, inside_text}
use Rattle.mail_audit.specs.declared.expected_lines.Expected.{Expected}
use Rattle.mail_audit.specs.declared.expected_lines.Expected.TheVariants.{Lines, WrongOp}
use Rattle.mail_audit.specs.declared.open_dump.Comparison.{Comparison}
use Rattle.mail_audit.specs.declared.open_dump.DumpPhase.{DumpPhase}
use Rattle.mail_audit.specs.declared.open_dump.DumpPhase.TheVariants.{State}
use Rattle.mail_audit.specs.declared.open_dump.DumpStep.{DumpStep}
use Rattle.mail_audit.specs.declared.open_dump.DumpStep.TheVariants.{Continues, Ends, Wrong, Unreadable}
use Rattle.mail_audit.specs.declared.op_lines.OpLines.{OpLines}

-- the text of lines with one more line
text_more : (inside : List (List ℕ)) (line : List ℕ) → text_of (inside ++ line ∷ []) ≡ text_of inside ++ (line ++ 10 ∷ [])
text_more inside line = flat_map-append ended_line inside (line ∷ []) ∙ ap (λ (xs : List ℕ). text_of inside ++ xs) (append-nil (line ++ 10 ∷ []))

-- an op line doesn't end a dump
pub op_no_end : (line spelled : List ℕ) → line ≡ codes "op " ++ spelled → IsNoEnd line
op_no_end line spelled e f = absurd (let k : ◌≡◌ {A = List ℕ} (111 ∷ 112 ∷ 32 ∷ spelled) (101 ∷ 110 ∷ 100 ∷ []) = sym e ∙ f in cc)

-- one further op line
pub ops_append : (inside : List (List ℕ)) (line spelled : List ℕ) (old new : OpLines) (op : Op) → AreOps inside old → line ≡ codes "op " ++ spelled → IsSpelled op spelled → HasTakenOp old op new → AreOps (inside ++ line ∷ []) new
ops_append inside line spelled old new op s e p g =
    let count : length (inside ++ line ∷ []) ≡ length inside + 1 = length-append inside (line ∷ []) in
    let fits : length old.ops.items ≤ length inside = s.0 in
    elim g [
      | inl k ↦
          let more : length new.ops.items ≡ length old.ops.items + 1 = ap length k.2 ∙ length-append old.ops.items (op ∷ []) in
          let good = s.2 k.0 in (
            omega arith,
            λ b. absurd (let t : false ≡ true = sym k.1 ∙ b in cc),
            λ b. (
              text_more inside line
                  ∙ (λ i. good.0 i ++ (e i ++ 10 ∷ []))
                  ∙ ap (λ (xs : List ℕ). flat_map op_line old.ops.items ++ (codes "op " ++ (xs ++ 10 ∷ []))) p.1
                  ∙ ap (λ (xs : List ℕ). flat_map op_line old.ops.items ++ xs) (sym (append-nil (op_line op)))
                  ∙ sym (flat_map-append op_line old.ops.items (op ∷ []))
                  ∙ ap (flat_map op_line) (sym k.2),
              subst (AreSound IsInForm) (sym k.2) (λ o h. elim (in_parts o old.ops.items (op ∷ []) h) [
                | inl t ↦ good.1 o t
                | inr t ↦ elim t [ inl q ↦ subst IsInForm q p.0 | inr n ↦ absurd n ]
              ]),
            ),
            k.3 s.3,
          )
      | inr k ↦
          let same : length new.ops.items ≡ length old.ops.items = ap length k.1 in (
            omega arith,
            λ b. omega arith,
            λ b. absurd (let t : true ≡ false = sym k.0 ∙ b in cc),
            subst AreOrdered (sym k.1) s.3,
          )
    ]

-- ---- the lines after the op lines

-- the expected lines that are left after the next expected line
pub taken : (lines line rest : List ℕ) (pos next : ℕ) → pos ≤ length lines → drop pos lines ≡ line ++ 10 ∷ rest → next ≡ pos + (length line + 1) → (next ≤ length lines) × (drop pos lines ≡ line ++ 10 ∷ drop next lines)
taken lines line rest pos next within is e =
    let size : length (drop pos lines) ≡ length line + (length rest + 1) = ap length is ∙ length-append line (10 ∷ rest) ∙ ap (λ (n : ℕ). length line + n) (omega arith) in
    let long : length (drop pos lines) ≡ length lines - pos = length-drop pos lines in
    let left : drop next lines ≡ rest =
    ap (λ (n : ℕ). drop n lines) e ∙ sym (drop-drop (length line + 1) pos lines)
    ∙ ap (drop (length line + 1)) (is ∙ sym (append_assoc line (10 ∷ []) rest))
    ∙ ap (λ (n : ℕ). drop n ((line ++ 10 ∷ []) ++ rest)) (sym (length-append line (10 ∷ [])))
    ∙ drop-append_seam (line ++ 10 ∷ []) rest in
    (omega arith, is ∙ ap (λ (xs : List ℕ). line ++ 10 ∷ xs) (sym left))

-- the lines so far, with the next expected line
moved : (inside : List (List ℕ)) (line whole left more : List ℕ) → text_of inside ++ left ≡ whole → left ≡ line ++ 10 ∷ more → text_of (inside ++ line ∷ []) ++ more ≡ whole
moved inside line whole left more e n =
    ap (λ (xs : List ℕ). xs ++ more) (text_more inside line)
    ∙ append_assoc (text_of inside) (line ++ 10 ∷ []) more
    ∙ ap (λ (xs : List ℕ). text_of inside ++ xs) (append_assoc line (10 ∷ []) more ∙ sym n)
    ∙ e

-- the effect of a line that is compared
pub compared_step : (first : ℕ) (inside : List (List ℕ)) (line : List ℕ) (number : ℕ) (old new : Comparison) (step : DumpStep) → IsPhase inside (State old) → number ≡ first + 1 + length inside → IsCompared old line number new step → IsStep first inside line (State new) step
compared_step first inside line number old new Continues s n c =
    let text : text_of (inside ++ line ∷ []) ++ drop new.pos new.lines.items ≡ inside_text s.0 =
    ap (λ (xs : List ℕ). text_of (inside ++ line ∷ []) ++ drop new.pos xs) c.0.0
    ∙ moved inside line (inside_text s.0) (drop old.pos old.lines.items) (drop new.pos old.lines.items) s.3 c.0.2 in
    ((s.0, s.1, c.0.1, text), c.1)
compared_step first inside line number old new Ends s n c =
    let none : drop new.pos old.lines.items ≡ [] = ap (λ (xs : List ℕ). drop new.pos xs) (sym c.0.0) ∙ drop_all new.pos new.lines.items (omega (arith, c.1)) in (
      s.0,
      s.1,
      sym (append-nil (text_of (inside ++ line ∷ [])))
          ∙ ap (λ (xs : List ℕ). text_of (inside ++ line ∷ []) ++ xs) (sym none)
          ∙ moved inside line (inside_text s.0) (drop old.pos old.lines.items) (drop new.pos old.lines.items) s.3 c.0.2,
    )
compared_step first inside line number old new (Wrong named) s n c = (omega (arith, n, c), omega (arith, n, c))
compared_step first inside line number old new Unreadable s n c = tt

-- the effect of a line that can't be read while op lines may still follow
pub unreadable_step : (first : ℕ) (inside : List (List ℕ)) (line : List ℕ) (lines : OpLines) (phase : DumpPhase) (step : DumpStep) → AreOps inside lines → IsUnreadableStep first lines step → IsStep first inside line phase step
unreadable_step first inside line lines phase Continues s e = absurd e
unreadable_step first inside line lines phase Ends s e = absurd e
unreadable_step first inside line lines phase (Wrong number) s e = (e.0, omega (arith, s.0, e.1))
unreadable_step first inside line lines phase Unreadable s e = tt

-- ---- the end of the op lines

pub not_bad : (b : Bool) (named : Option ℕ) → named ≡ None → (b ≡ true → IsSome named) → b ≡ false
not_bad false named e h = refl
not_bad true named e h = absurd (let k : IsSome {T = ℕ} None = subst IsSome e (h refl) in cc)

-- the first op line that makes a dump wrong is one of its lines
pub within_lines : (inside : List (List ℕ)) (lines : OpLines) (named : Option ℕ) (place : ℕ) → AreOps inside lines → named ≡ Some place → IfSome named (λ place. place ≤ length lines.ops.items) → (lines.is_bad ≡ false → IfSome named (λ place. place < length lines.ops.items)) → place < length inside
within_lines inside lines named place s e w f =
    let l : place ≤ length lines.ops.items = subst (λ (o : Option ℕ). IfSome o (λ place. place ≤ length lines.ops.items)) e w in
    elim (cases_Bool lines.is_bad) [
      | inl t ↦ let m = s.1 t in omega (arith, l, m)
      | inr n ↦
          let k : place < length lines.ops.items = subst (λ (o : Option ℕ). IfSome o (λ place. place < length lines.ops.items)) e (f n) in
          let m = s.0 in
          omega (arith, k, m)
    ]

-- the lines that must follow good op lines
pub lines_after_good_ops : {E : Type 0} (inside : List (List ℕ)) (lines : OpLines) (result : Result Expected E) → AreOps inside lines → lines.is_bad ≡ false → IfOk result (IsExpected lines.ops.items) → IfOk result (AreLinesAfterOps inside)
lines_after_good_ops inside lines (Err e) s b h = tt
lines_after_good_ops inside lines (Ok (WrongOp place)) s b h = omega (arith, s.0, h)
lines_after_good_ops inside lines (Ok (Lines expected)) s b h =
    let good = s.2 b in (
      lines.ops.items,
      record { in_form = good.1; sound = h.1; ascending = s.3; causes = h.0 },
      λ i. good.0 i ++ h.2 i,
    )

-- ---- the start of a dump

-- no lines yet
pub no_ops : (lines : OpLines) → lines.ops.items ≡ [] → lines.is_bad ≡ false → AreOps [] lines
no_ops lines e b = (
  omega (arith, ap length e),
  λ t. absurd (let k : true ≡ false = sym t ∙ b in cc),
  λ t. (sym (ap (flat_map op_line) e), subst (AreSound IsInForm) (sym e) (λ o h. absurd h)),
  subst AreOrdered (sym e) tt,
)

-- ---- the next expected line

pub next_is : (text whole line : List ℕ) (pos : ℕ) (parts : List ℕ × List ℕ) → text ≡ drop pos whole → Some parts ≡ cut_at 10 text → parts.0 ≡ line → (rest : List ℕ) × (drop pos whole ≡ line ++ 10 ∷ rest)
next_is text whole line pos parts t e q = (parts.1, sym t ∙ cut_sound 10 text parts (sym e) ∙ ap (λ (l : List ℕ). l ++ 10 ∷ parts.1) q)

-- the effect of the next expected line
pub match_compared : (old new : Comparison) (line : List ℕ) (number : ℕ) (step : DumpStep) → HasTakenLine old line new → IsMatchStep new line number step → IsCompared old line number new step
match_compared old new line number Continues t s = (t, s)
match_compared old new line number Ends t s = (t, s)
match_compared old new line number (Wrong named) t s = s
match_compared old new line number Unreadable t s = tt

-- the comparison begins
pub phase_of_lines : (inside : List (List ℕ)) (closed : Expected) (comparison : Comparison) → closed ≡ Lines comparison.lines → comparison.pos ≡ 0 → AreLinesAfterOps inside closed → IsPhase inside (State comparison)
phase_of_lines inside closed comparison is none h =
    let c : AreLinesAfterOps inside (Lines comparison.lines) = subst (AreLinesAfterOps inside) is h in
    (c.0, c.1, omega (arith, none), ap (λ (n : ℕ). text_of inside ++ drop n comparison.lines.items) none ∙ c.2)
