use Rattle.std.specs.Option.{is_some}
use Rattle.rev1_front.proofs.SearchLemmas.{by_test, plain_iff, uid_iff}
use Rattle.rev1_front.proofs.form.begins_search_return.Goals as goal

pub returns-in-None : goal.returns-in-None
returns-in-None c =
    by_test c.is_some.result (is_some c.after_prefix-in-None.result) c.is_some.ensures (plain_iff (λ x. x.now) c.args.octets.now c.in-None.ensures c.after_prefix-in-None.result c.after_prefix-in-None.ensures)

pub returns-in-Some : goal.returns-in-Some
returns-in-Some c =
    let f = c.in-Some.ensures in
    by_test c.is_some-in-Some.result (is_some c.after_prefix-in-Some.result) c.is_some-in-Some.ensures
    (uid_iff (λ x. x.now) c.args.octets.now f.0 c.in-Some.rest.now f.1 f.2 c.after_prefix-in-Some.result c.after_prefix-in-Some.ensures)
