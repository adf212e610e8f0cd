use Rattle.std.proofs.Common.{◌≡◌, ◌+◌, ◌-◌, ◌∷◌, [], ◌++◌, codes, None, Some, sym, ap, ◌∙◌}
use Rattle.imap_print.specs.Reading.{after, run_at, runs_at, with_prefix}
use Rattle.imap_print.proofs.ReadingLemmas.{runs-end, runs_at-step}
use Rattle.imap_print.proofs.scanner.runs.Goals as goal

pub returns-in-None : goal.returns-in-None
returns-in-None c =
    let rest = c.loop-index.rest.now in
    let parsed = c.loop-index.parsed.items in
    let items : c.push.new.self.items ≡ parsed ++ (run_at rest).0 ∷ [] = c.in_ok-push.ensures.items ∙ ap (λ r. parsed ++ r ∷ []) c.run.ensures.run in
    let none : after (codes ",") (run_at rest).1 ≡ None = ap (after (codes ",")) (sym c.run.ensures.rest) ∙ sym c.in-None.ensures in
    sym c.loop-index.invariant ∙ runs-end c.loop-index._index c.args.count parsed rest c.loop-index-test.true none
    ∙ (λ k. Some (sym items k, sym c.run.ensures.rest k))

pub loop-index-preserved : goal.loop-index-preserved
loop-index-preserved c =
    let rest = c.loop-index.rest.now in
    let parsed = c.loop-index.parsed.items in
    let items : c.push.new.self.items ≡ parsed ++ (run_at rest).0 ∷ [] = c.in_ok-push.ensures.items ∙ ap (λ r. parsed ++ r ∷ []) c.run.ensures.run in
    let some : after (codes ",") (run_at rest).1 ≡ Some c.in-Some.more.now = ap (after (codes ",")) (sym c.run.ensures.rest) ∙ sym c.in-Some.ensures in
    ap (λ f. with_prefix f (runs_at (c.args.count - (c.loop-index._index + 1)) c.in-Some.more.now)) items
    ∙ sym (runs_at-step c.loop-index._index c.args.count parsed rest c.in-Some.more.now c.loop-index-test.true some) ∙ c.loop-index.invariant
