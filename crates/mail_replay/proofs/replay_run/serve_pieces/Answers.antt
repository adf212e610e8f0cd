use Rattle.std.proofs.Common.{rules, arith, ◌≡◌, ◌<◌, ℕ, [], length, length-append, ◌∙◌, ap, subst, take}
use Rattle.std.proofs.lemmas.Result.{IfErr-weaker, on_ok_weaker}
use Rattle.std.specs.Io.KnownBytes.{Consumes}
use Rattle.mail_script.specs.Reading.{cut_at}
use Rattle.mail_replay.proofs.ReplayLemmas.{read_at_first, read_unchanged, read_on, read_to_bad, read_to_bad_last, read_to_end, read_to_failure, read_to_stop, read_to_stop_last, err_passed, replays_by}
use Rattle.mail_replay.proofs.replay_run.serve_pieces.Goals as goal
use Rattle.mail_replay.proofs.replay_run.serve_pieces.Goals.{in-Ok+in_ok-serve_piece-in-Ok, in-Err+else-ne}

pub loop-read-init : goal.loop-read-init
loop-read-init g c =
    let none : length c.new-2.result ≡ 0 = ap length c.new-2.ensures in
    record {
      fits = omega (arith, none);
      piece = search rules;
      rest = ap (cut_at 10) c.new-2.ensures;
      has_read = read_at_first _ _ _ c.new-2.result c.new.ensures c.new-2.ensures;
    }

pub serve_last-requires-clause-room : goal.serve_last-requires-clause-room
serve_last-requires-clause-room g c = let t = c.loop-read-test.true in omega (arith, t, c.loop-read.invariant.fits)

pub serve_last-requires-clause-rest : goal.serve_last-requires-clause-rest
serve_last-requires-clause-rest g c = c.loop-read.invariant.rest

pub returns-in-Ok-eq0-clause-ok : goal.returns-in-Ok-eq0-clause-ok
returns-in-Ok-eq0-clause-ok g c =
    let zero : c.in-Ok-eq0.field-0 ≡ 0 = search rules in
    let b = c.in-Ok-eq0.ensures.bytes in
    let taken : Consumes (g.R.Read.remaining c.loop-read.reader) (g.R.Read.remaining c.read.new.self) [] =
    subst (λ (n : ℕ). Consumes (g.R.Read.remaining c.loop-read.reader) (g.R.Read.remaining c.read.new.self) (take n c.read.new.buf)) zero b.0 in
    let a = c.read.auto.buf in
    let p = c.loop-read.invariant.piece in
    let room : 0 < length c.read.new.buf = omega (arith, a, p) in
    on_ok_weaker c.serve_last.result (λ o script e. read_to_end _ _ _ _ _ _ _ c.loop-read.invariant.has_read _ taken (b.1 zero room) script e _ o.0 o.1 o.2 o.3) c.serve_last.ensures.ok

pub returns-in-Ok-eq0-clause-err : goal.returns-in-Ok-eq0-clause-err
returns-in-Ok-eq0-clause-err g c =
    let zero : c.in-Ok-eq0.field-0 ≡ 0 = search rules in
    let b = c.in-Ok-eq0.ensures.bytes in
    let taken : Consumes (g.R.Read.remaining c.loop-read.reader) (g.R.Read.remaining c.read.new.self) [] =
    subst (λ (n : ℕ). Consumes (g.R.Read.remaining c.loop-read.reader) (g.R.Read.remaining c.read.new.self) (take n c.read.new.buf)) zero b.0 in
    let a = c.read.auto.buf in
    let p = c.loop-read.invariant.piece in
    let room : 0 < length c.read.new.buf = omega (arith, a, p) in
    let end = b.1 zero room in
    IfErr-weaker c.serve_last.result _ _
    (λ early h script e. replays_by script _ _ _ early
    (λ number s. read_to_bad_last _ _ _ _ _ _ _ c.loop-read.invariant.has_read _ taken end script e _ number s.0 s.1 s.2 s.3)
    (λ s. read_to_stop_last _ _ _ _ _ _ _ c.loop-read.invariant.has_read _ taken end script e _ s.0 s.1 s.2) h)
    c.serve_last.ensures.err

pub serve_piece-requires : goal.serve_piece-requires
serve_piece-requires g c =
    let b = c.in-Ok.ensures.bound in
    let b0 = b.0 in
    let b1 = b.1 in
    let a = c.read.auto.buf in
    let p = c.loop-read.invariant.piece in
    let f = c.loop-read.invariant.fits in
    let t = c.loop-read-test.true in
    omega (arith, b0, b1, a, p, f, t)

pub returns-in_err-serve_piece-in-Ok-clause-err : goal.returns-in_err-serve_piece-in-Ok-clause-err
returns-in_err-serve_piece-in-Ok-clause-err g c =
    let early = c.in_err-serve_piece-in-Ok.ensures.err in
    let taken = c.in-Ok.ensures.bytes.0 in
    err_passed c.from_residual.result _ _ _ c.from_residual.ensures.1 (λ e same. same)
    (λ script e. replays_by script _ _ _ _
    (λ number b. read_to_bad _ _ _ _ _ _ _ c.loop-read.invariant.has_read _ _ _ number taken b script e)
    (λ s. read_to_stop _ _ _ _ _ _ _ c.loop-read.invariant.has_read _ _ _ taken s script e) early)

pub returns-then-ne-clause-err : goal.returns-then-ne-clause-err
returns-then-ne-clause-err g c =
    let has_read = read_unchanged _ _ _ _ _ _ _ c.loop-read.invariant.has_read _ c.in-Err.ensures.bytes in
    read_to_failure _ _ _ _ _ _ _ has_read c.loop-read.invariant.rest

pub returns-clause-err : goal.returns-clause-err
returns-clause-err g c = read_to_failure _ _ _ _ _ _ _ c.loop-read.invariant.has_read c.loop-read.invariant.rest

pub loop-read-preserved : goal.loop-read-preserved
loop-read-preserved g c =
    let a = c.read.auto.buf in
    let p = c.loop-read.invariant.piece in
    let f = c.loop-read.invariant.fits in
    elim c.match-read.branch [
      | in-Ok+in_ok-serve_piece-in-Ok w ↦
          let o = w.in_ok-serve_piece-in-Ok.ensures.ok in
          let b0 = w.in-Ok.ensures.bound.0 in
          let b1 = w.in-Ok.ensures.bound.1 in
          let n = length-append c.loop-read.progress.lines (take w.in-Ok.count c.read.new.buf) in
          let m = o.fits in
          rw (w.writer-is, w.progress-is) (record {
            fits = omega (arith, m, n, b0, b1, a, p, f);
            piece = a ∙ p;
            rest = w.in_ok-serve_piece-in-Ok.ensures.rest;
            has_read = read_on _ _ _ _ _ _ _ c.loop-read.invariant.has_read _ _ _ _ _ _ w.in-Ok.ensures.bytes.0 o;
          })
      | in-Err+else-ne w ↦
          rw (w.writer-is, w.progress-is) (record {
            fits = omega (arith, f);
            piece = a ∙ p;
            rest = c.loop-read.invariant.rest;
            has_read = read_unchanged _ _ _ _ _ _ _ c.loop-read.invariant.has_read _ w.in-Err.ensures.bytes;
          })
    ]
