use Rattle.std.proofs.Common.{◌≡◌, ◌++◌, ◌∷◌, [], length, subst}
use Rattle.std.proofs.lemmas.Result.{err_from_is_err_and}
use Rattle.imap_grammar.specs.KeyReading.{below_at, keys_at}
use Rattle.imap_grammar.specs.Reading.{IsReading}
use Rattle.imap_syntax.specs.declared.search.SearchStep.TheVariants.{And}
use Rattle.imap_grammar.proofs.KeyLoops.{below_zero, below_suc, keys_continue, keys_stop, keys_fail}
use Rattle.imap_grammar.proofs.keys.+keys.Goals as goal

pub below-returns-then-levels-eq0 : goal.below-returns-then-levels-eq0
below-returns-then-levels-eq0 t c = below_zero c.args.levels c.args.octets.now c.if-levels-eq0.true

pub below-returns : goal.below-returns
below-returns t c = subst (IsReading (λ x. (x.0.items, x.1.now)) c.level.result) (below_suc c.args.levels c.args.octets.now c.if-levels-eq0.false) c.level.ensures

pub keys-returns-in_err-more : goal.keys-returns-in_err-more
keys-returns-in_err-more t c =
    let p = err_from_is_err_and c.from_residual-in_err-more.result c.from_residual-in_err-more.ensures.1 in
    rw (p.1, p.2) (keys_fail (below_at c.args.levels) c.in_err-more.field-0.0 c.loop.steps.items (length c.args.octets.now) c.loop.counter c.loop.rest.now
    (keys_at (below_at c.args.levels) c.args.octets.now) c.loop-test.true c.in_err-more.ensures c.loop.invariant)

pub keys-returns-in_default : goal.keys-returns-in_default
keys-returns-in_default t c =
    let ended = rw c.in_default.is at c.in_ok-more.ensures in
    keys_stop (below_at c.args.levels) c.loop.steps.items (length c.args.octets.now) c.loop.counter c.loop.rest.now
    (keys_at (below_at c.args.levels) c.args.octets.now) c.loop-test.true ended c.loop.invariant

pub keys-loop-preserved : goal.keys-loop-preserved
keys-loop-preserved t c =
    let is_read = rw c.in-Some.is at c.in_ok-more.ensures in
    let grown : c.and_key.new.steps.items ≡ c.loop.steps.items ++ c.in-Some.more.items ++ And ∷ [] = c.in_ok-and_key.ensures in
    rw grown (keys_continue (below_at c.args.levels) c.loop.steps.items (length c.args.octets.now) c.loop.counter c.loop.rest.now c.in-Some.after.now c.in-Some.more.items
    (keys_at (below_at c.args.levels) c.args.octets.now) c.loop-test.true is_read c.loop.invariant)
