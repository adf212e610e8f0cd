use Rattle.std.proofs.Common.{◌≡◌, ◌++◌, ◌∷◌, [], length}
use Rattle.std.proofs.lemmas.Result.{err_from_is_err_and}
use Rattle.imap_grammar.specs.Reading.{listed_at}
use Rattle.imap_grammar.proofs.Lists.{list_continues, stops_here, fails}
use Rattle.imap_grammar.proofs.element_list.element_list.Goals as goal

pub returns-in_err-value : goal.returns-in_err-value
returns-in_err-value g c =
    let p = err_from_is_err_and c.from_residual-in_err-value.result c.from_residual-in_err-value.ensures.1 in
    rw (p.1, p.2) (fails c.args.separator g.E.ListElement.read_at c.in_err-value.field-0.0 c.loop.values.items (length c.args.octets.now) c.loop.counter c.loop.rest.now
    (listed_at c.args.separator g.E.ListElement.read_at c.args.octets.now) c.loop-test.true c.in_err-value.ensures c.loop.invariant)

pub returns-in_default : goal.returns-in_default
returns-in_default g c =
    let ended = rw c.in_default.is at c.in_ok-value.ensures in
    stops_here c.args.separator g.E.ListElement.read_at c.loop.values.items (length c.args.octets.now) c.loop.counter c.loop.rest.now
    (listed_at c.args.separator g.E.ListElement.read_at c.args.octets.now) c.loop-test.true ended c.loop.invariant

pub loop-preserved : goal.loop-preserved
loop-preserved g c =
    let is_read = rw c.in-Some.is at c.in_ok-value.ensures in
    let grown : c.push-in-loop.new.self.items ≡ c.loop.values.items ++ c.in-Some.value ∷ [] = c.in_ok-push-2.ensures.items in
    rw grown (list_continues c.args.separator g.E.ListElement.read_at c.loop.values.items (length c.args.octets.now) c.loop.counter c.loop.rest.now c.in-Some.after.now c.in-Some.value
    (listed_at c.args.separator g.E.ListElement.read_at c.args.octets.now) c.loop-test.true is_read c.loop.invariant)
