use Rattle.std.proofs.Common.{arith, length-append, take, ◌∙◌}
use Rattle.mail_audit.proofs.AuditingLemmas.{read_unchanged, read_on, read_to_line}
use Rattle.mail_audit.proofs.reader_audit.judge.Goals as goal
use Rattle.mail_audit.proofs.reader_audit.judge.Goals.{in-Ok+in_default, in-Err+else-ne}

pub returns-in-Some : goal.returns-in-Some
returns-in-Some g c =
    let m = c.loop-read.invariant.has_read in
    read_to_line _ _ _ _ m _ _ _ c.in-Ok.ensures.bytes.0 (c.in-Some.ensures {u = tt} m.front m.has_taken)

pub loop-read-preserved : goal.loop-read-preserved
loop-read-preserved g c =
    let a = c.read.auto.buf in
    let p = c.loop-read.invariant.piece in
    let f = c.loop-read.invariant.fits in
    let m = c.loop-read.invariant.has_read in
    elim c.match-read.branch [
      | in-Ok+in_default w ↦
          let o = w.in_default.ensures {u = tt} m.front m.has_taken in
          let b0 = w.in-Ok.ensures.bound.0 in
          let b1 = w.in-Ok.ensures.bound.1 in
          let n = length-append c.loop-read.progress.lines (take w.in-Ok.count c.read.new.buf) in
          let k = o.0.fits in
          rw (w.progress-is) (record {
            fits = omega (arith, k, n, b0, b1, a, p, f);
            piece = a ∙ p;
            rest = o.1;
            has_read = read_on _ _ _ _ m _ _ _ _ w.in-Ok.ensures.bytes.0 o.0;
          })
      | in-Err+else-ne w ↦
          rw (w.progress-is) (record {
            fits = omega (arith, f);
            piece = a ∙ p;
            rest = c.loop-read.invariant.rest;
            has_read = read_unchanged _ _ _ _ m _ w.in-Err.ensures.bytes;
          })
    ]
