use Rattle.std.proofs.Common.{◌≡◌, ◌≤◌, arith, ap, ◌∙◌}
use Rattle.std.proofs.lemmas.Bool.Decides.{nat_tests}
use Rattle.imap_node.proofs.NextLemmas.{counts_within}
use Rattle.tags_clocks.specs.Clock.{count_of}
use Rattle.imap_node.proofs.ready_ops.has_numbers.Goals as goal

pub returns-clause-yes : goal.returns-clause-yes
returns-clause-yes c = λ yes clock counts.
    let r = c.args.replica.now.start.replica in
    let within : count_of clock r ≤ count_of c.clock.result.now r = counts_within c.args.replica.now.applied clock c.clock.result.now counts c.clock.ensures r in
    let given : c.get-given.result ≡ count_of c.clock.result.now r = c.get-given.ensures ∙ ap (count_of c.clock.result.now) c.id.ensures in
    let most = c.get-given.type_inv in
    grind (arith, nat_tests)
