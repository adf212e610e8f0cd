use Rattle.std.proofs.Common.{◌≡◌, ◌++◌, ℕ, List, Some, length, arith, ap, sym, subst}
use Rattle.mail_script.specs.Reading.{cut_at}
use Rattle.mail_script.specs.Script.{Means}
use Rattle.mail_replay.specs.Lines.{IsBad, ServesInPart}
use Rattle.mail_replay.specs.Replays.{HasServedLines}
use Rattle.mail_replay.specs.ScriptState.{script_contents_of}
use Rattle.mail_replay.proofs.LineLemmas.{advance_at_first, advance_on, breaks_here, cut_parts, stops_after, stops_here}
use Rattle.mail_replay.proofs.ReplayLemmas.{ends_by, err_passed}
use Rattle.mail_replay.proofs.replay_run.serve_piece.Goals as goal

pub returns-in_default-clause-err : goal.returns-in_default-clause-err
returns-in_default-clause-err g c = stops_after _ _ c.args.progress.now.served _ _ _ _ _ (advance_at_first _ _ _ _)

pub returns-in-Err-clause-err : goal.returns-in-Err-clause-err
returns-in-Err-clause-err g c = stops_after _ _ _ _ _ _ _ _ c.lines.invariant

pub returns-in_err-serve_next-in-Ok-Some-clause-err : goal.returns-in_err-serve_next-in-Ok-Some-clause-err
returns-in_err-serve_next-in-Ok-Some-clause-err g c =
    let cut : cut_at 10 c.lines.progress.lines ≡ Some (c.in-Ok-Some.line, c.next_line.new.self) = rw c.in-Ok-Some.field-0-is at c.in-Ok-Some.ensures.ok in
    let line : c.as_bytes.result.now ≡ c.in-Ok-Some.line = c.as_bytes.ensures in
    err_passed c.from_residual.result _ _ _ c.from_residual.ensures.1 (λ e same. same) (ends_by _
    (λ number b. breaks_here _ _ _ _ _ _ _ _ c.lines.invariant c.in-Ok-Some.line c.next_line.new.self cut _ number b.0 (subst (λ (z : List ℕ). IsBad (script_contents_of c.lines.progress.setup) z) line b.1) b.2)
    (λ s. stops_here _ _ _ _ _ _ _ _ c.lines.invariant c.in-Ok-Some.line c.next_line.new.self cut _ s.0 (subst (λ (z : List ℕ). ServesInPart (script_contents_of c.lines.progress.setup) z s.0) line s.1) s.2)
    c.in_err-serve_next-in-Ok-Some.ensures.err)

pub lines-smaller : goal.lines-smaller
lines-smaller g c =
    let cut : cut_at 10 c.lines.progress.lines ≡ Some (c.in-Ok-Some.line, c.next_line.new.self) = rw c.in-Ok-Some.field-0-is at c.in-Ok-Some.ensures.ok in
    let n = cut_parts c.lines.progress.lines c.in-Ok-Some.line c.next_line.new.self cut in
    let same : length c.serve_next.new.progress.lines ≡ length c.next_line.new.self = ap length c.in_ok-serve_next-in-Ok-Some.ensures.lines in
    omega (arith, n, same)

pub lines-preserved : goal.lines-preserved
lines-preserved g c =
    let cut : cut_at 10 c.lines.progress.lines ≡ Some (c.in-Ok-Some.line, c.next_line.new.self) = rw c.in-Ok-Some.field-0-is at c.in-Ok-Some.ensures.ok in
    let ok = c.in_ok-serve_next-in-Ok-Some.ensures.ok in
    let means : Means c.in-Ok-Some.line ok.0 = subst (λ (z : List ℕ). Means z ok.0) c.as_bytes.ensures ok.2 in
    let held = g.W.Write.contents in
    subst (λ (z : List ℕ). HasServedLines (held c.args.writer.now) (script_contents_of c.args.progress.now.setup) c.args.progress.now.served (c.args.progress.now.lines ++ c.args.piece.now) (held c.serve_next.new.writer) (script_contents_of c.serve_next.new.progress.setup) c.serve_next.new.progress.served z)
    (sym c.in_ok-serve_next-in-Ok-Some.ensures.lines)
    (advance_on _ _ _ _ _ _ _ _ c.lines.invariant c.in-Ok-Some.line c.next_line.new.self cut _ _ _ ok.0 ok.1 ok.5 means ok.3 ok.4)
