use Rattle.std.proofs.Common.{[], inl, refl, sym, append-nil}
use Rattle.imap_lex.specs.declared.item.Item.TheVariants.{Refused}
use Rattle.rev1_connection.specs.Handling.{FailsItem, FailsRequest, HandlesItem, HandlesRequest}
use Rattle.rev1_connection.proofs.HandlingLemmas.{err_map, ok_map, stops_map, takes_map}
use Rattle.rev1_connection.proofs.item_steps.take_refused.Goals as goal

pub returns-in-Ok-clause-ok : goal.returns-in-Ok-clause-ok
returns-in-Ok-clause-ok g c =
    let session = c.args.session.now in
    let octets = c.args.front.now in
    let request = c.in-Ok.request in
    let new = c.take_request.new in
    let first = HandlesRequest g.P.Port.steps g.P.RenamePort.renames c.args.port.now session.mode octets request in
    let other = HandlesItem g.P.Port.steps g.P.RenamePort.renames c.args.port.now session (Refused octets) in
    ok_map c.take_request.result c.take_request.ensures.ok (λ u t. takes_map first other u c.args.text.now.items new.text.items new.port new.session (λ whole given out k. (request, c.in-Ok.ensures, k)) t)

pub returns-in-Ok-clause-err : goal.returns-in-Ok-clause-err
returns-in-Ok-clause-err g c =
    let session = c.args.session.now in
    let octets = c.args.front.now in
    let request = c.in-Ok.request in
    let old = c.args.port.now in
    let new = c.take_request.new in
    let first = HandlesRequest g.P.Port.steps g.P.RenamePort.renames old session.mode octets request in
    let other = HandlesItem g.P.Port.steps g.P.RenamePort.renames old session (Refused octets) in
    let fails = FailsRequest g.P.Port.steps g.P.RenamePort.renames old session.mode octets request in
    let others = FailsItem g.P.Port.steps g.P.RenamePort.renames old session (Refused octets) in
    err_map c.take_request.result c.take_request.ensures.err (λ ended o. (
      o.0,
      stops_map first other fails others old ended o.0 new.port (λ whole after out k. (request, c.in-Ok.ensures, k)) (λ k. (request, c.in-Ok.ensures, k)) o.1,
      o.2,
    ))

pub returns-in-Err-clause-err : goal.returns-in-Err-clause-err
returns-in-Err-clause-err g c = ([], inl (refl, refl, refl), sym (append-nil c.args.text.now.items))
