use Rattle.session_view.proofs.PlaceLemmas.{span_pushed}
use Rattle.session_view.proofs.set_places.push_span.Goals as goal

pub returns-clause-numbers : goal.returns-clause-numbers
returns-clause-numbers c = λ rest s.
    span_pushed c.args.span rest c.args.done c.args.count c.min-end.result c.max.result c.max-2.result c.args.numbers.now.items c.push_places.new.numbers.items c.requires.done s c.min-end.ensures c.max.ensures c.max-2.ensures (c.in_ok-push_places.ensures {u = tt})
