use Rattle.uid_projection.proofs.ExhaustionLemmas.{applied_before, k_far, k_near}
use Rattle.uid_projection.proofs.exhaustion.lacks_k.Goals as goal

pub returns-then-front-next_k : goal.returns-then-front-next_k
returns-then-front-next_k c = λ start list e a m is.
    k_far start list c.args.front.now c.args.op.now c.args.next_k c.if-next_k-le65535.true c.if-front-next_k.true is

pub returns-then-begins : goal.returns-then-begins
returns-then-begins c = λ start list e a m is.
    let front = c.args.front.now in
    let o = c.args.op.now in
    k_near start list front o c.k_after.result c.begins.result c.if-begins.true (c.begins.ensures list e a m)
    (c.k_after.ensures start list (applied_before list front c.args.through.now o e a) m is)
