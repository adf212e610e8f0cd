use Rattle.std.proofs.Common.{arith}
use Rattle.chunk_list.proofs.DensityLemmas.{dense_by_tests, fill_front_by_test, fill_next_by_test}
use Rattle.chunk_list.proofs.chunks.join_around.Goals as goal

pub join-requires-clause-within : goal.join-requires-clause-within
join-requires-clause-within g c = omega (arith, (c.fits_front.ensures.both c.if-fits_front.true).1, c.deref.ensures.len)

pub join-requires-clause-full : goal.join-requires-clause-full
join-requires-clause-full g c = fill_next_by_test c.args.chunks.now.items c.deref.result.now c.args.at c.fits_front.result c.deref.ensures.value c.requires.loose c.fits_front.ensures.both c.fits_front.ensures.fits c.if-fits_front.true

pub overflow_sub-at : goal.overflow_sub-at
overflow_sub-at g c = (c.fits_front-2.ensures.both c.if-fits_front-2.true).0

pub join-requires-then-fits_front-2-clause-within : goal.join-requires-then-fits_front-2-clause-within
join-requires-then-fits_front-2-clause-within g c = omega (arith, c.fits_front-2.ensures.both c.if-fits_front-2.true, c.requires.within)

pub join-requires-then-fits_front-2-clause-full : goal.join-requires-then-fits_front-2-clause-full
join-requires-then-fits_front-2-clause-full g c = fill_front_by_test c.args.chunks.now.items c.deref-2.result.now c.args.at c.fits_front-2.result c.deref-2.ensures.value c.requires.loose c.fits_front-2.ensures.both c.fits_front-2.ensures.fits c.if-fits_front-2.true

pub returns-clause-dense : goal.returns-clause-dense
returns-clause-dense g c = dense_by_tests c.args.chunks.now.items c.deref.result.now c.deref-2.result.now c.args.at c.fits_front.result c.fits_front-2.result c.deref.ensures.value c.deref-2.ensures.value c.requires.chunks c.requires.loose (omega (arith, c.requires.within, c.args.chunks.now.ok.0)) c.fits_front.ensures.fits (λ t. cc (t, c.if-fits_front.false)) c.fits_front-2.ensures.fits (λ t. cc (t, c.if-fits_front-2.false))
