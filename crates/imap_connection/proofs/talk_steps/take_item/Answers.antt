use Rattle.std.proofs.Common.{ℕ, List, Option, subst}
use Rattle.imap_connection.specs.RequestSteps.{IsRequest}
use Rattle.imap_connection.proofs.RequestLemmas.{item_answered, item_broken, request_awaited}
use Rattle.imap_connection.proofs.talk_steps.take_item.Goals as goal

pub take_request-requires-clause-awaited : goal.take_request-requires-clause-awaited
take_request-requires-clause-awaited c =
    let request = c.in-Ok-request_of.request in
    let is = subst (λ (idling : Option (List ℕ)). IsRequest idling c.args.item.now request) c.tag_of_idling.ensures (c.in-Ok-request_of.ensures {u = tt}) in
    request_awaited c.args.node.now.state c.args.session c.args.item.now request is

pub returns-clause-ok : goal.returns-clause-ok
returns-clause-ok c =
    let request = c.in-Ok-request_of.request in
    let is = subst (λ (idling : Option (List ℕ)). IsRequest idling c.args.item.now request) c.tag_of_idling.ensures (c.in-Ok-request_of.ensures {u = tt}) in
    item_answered c.args.session c.args.moment c.args.item.now c.args.turns.now.items c.show.new.turns.items c.take_request.new.turns.items (c.in-Ok.ensures {u = tt}).ok c.args.node.now.state
    c.take_request.new.node.state request is c.take_request.result c.take_request.ensures.ok

pub returns-clause-err : goal.returns-clause-err
returns-clause-err c =
    let request = c.in-Ok-request_of.request in
    let is = subst (λ (idling : Option (List ℕ)). IsRequest idling c.args.item.now request) c.tag_of_idling.ensures (c.in-Ok-request_of.ensures {u = tt}) in
    item_broken c.args.session c.args.moment c.args.item.now c.args.turns.now.items c.show.new.turns.items c.take_request.new.turns.items (c.in-Ok.ensures {u = tt}).ok c.args.node.now.state
    c.take_request.new.node.state request is c.take_request.result c.take_request.ensures.err
