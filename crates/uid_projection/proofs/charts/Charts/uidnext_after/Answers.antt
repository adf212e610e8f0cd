use Rattle.std.proofs.Common.{◌≤◌, ◌∙◌, arith}
use Rattle.uid_projection.specs.UidsAndModSeqs.{first_uid, uidnext_of}
use Rattle.uid_projection.proofs.LaterNumbers.{uidnext_within}
use Rattle.uid_projection.proofs.charts.Charts.uidnext_after.Goals as goal

pub returns : goal.returns
returns c = λ list f m a not_exhausted.
    let s = c.args.self.now in
    let n = c.args.name.now in
    let first = c.first_of-first.ensures in
    let now = c.uidnext_in-now.ensures list s.next_k f.table in
    let e = c.uid_after.ensures s.start list a m first now in
    let least : first_uid s.start n ≤ 4294967295 = omega (arith, first) in
    let was : uidnext_of s.start n list ≤ 4294967295 = omega (arith, now) in
    let w = uidnext_within s.start n c.args.ops.now list was least not_exhausted in
    c.uid_in_32_bits.ensures (omega (arith, e, w)) ∙ e
