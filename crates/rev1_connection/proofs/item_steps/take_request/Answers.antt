use Rattle.std.proofs.Common.{List, ℕ, ◌≡◌, ◌++◌, sym, subst}
use Rattle.std.specs.Prelude.{IfErr, IfOk}
use Rattle.rev1_connection.specs.Handling.{FailsCall, FailsRequest, HandlesCall, HandlesRequest, StopsBy}
use Rattle.rev1_connection.specs.TakingSteps.{Takes}
use Rattle.rev1_connection.specs.declared.request.FrontRequest.{FrontRequest}
use Rattle.rev1_connection.proofs.HandlingLemmas.{err_map, ok_map, stops_map, takes_map}
use Rattle.rev1_connection.proofs.RequestLemmas.{request_failed, request_handled}
use Rattle.rev1_connection.proofs.item_steps.take_request.Goals as goal

pub returns-in-Days-clause-ok : goal.returns-in-Days-clause-ok
returns-in-Days-clause-ok g c =
    let new = c.take_days.new in
    subst (λ (r : FrontRequest). IfOk c.take_days.result (λ u. Takes (HandlesRequest g.P.Port.steps g.P.RenamePort.renames c.args.port.now c.args.session.now.mode c.args.frame.now r) u c.args.text.now.items new.port new.session new.text.items)) (sym c.in-Days.is) c.take_days.ensures.ok

pub returns-in-Days-clause-err : goal.returns-in-Days-clause-err
returns-in-Days-clause-err g c =
    let old = c.args.port.now in
    let mode = c.args.session.now.mode in
    let frame = c.args.frame.now in
    let new = c.take_days.new in
    subst (λ (r : FrontRequest). IfErr c.take_days.result (λ ended. (given : List ℕ) × StopsBy (HandlesRequest g.P.Port.steps g.P.RenamePort.renames old mode frame r) (FailsRequest g.P.Port.steps g.P.RenamePort.renames old mode frame r) old ended given new.port
    × (new.text.items ≡ c.args.text.now.items ++ given))) (sym c.in-Days.is) c.take_days.ensures.err

pub returns-in_default-clause-ok : goal.returns-in_default-clause-ok
returns-in_default-clause-ok g c =
    let steps = g.P.Port.steps in
    let renames = g.P.RenamePort.renames in
    let old = c.args.port.now in
    let mode = c.args.session.now.mode in
    let frame = c.args.frame.now in
    let request = c.args.request in
    let new = c.take_call.new in
    ok_map c.take_call.result c.take_call.ensures.ok (λ u t.
    takes_map (HandlesCall steps renames old mode request) (HandlesRequest steps renames old mode frame request) u c.args.text.now.items new.text.items new.port new.session
    (λ whole given out k. request_handled steps renames old mode frame request c.in_default.not-Days whole given new.port new.session out k) t)

pub returns-in_default-clause-err : goal.returns-in_default-clause-err
returns-in_default-clause-err g c =
    let steps = g.P.Port.steps in
    let renames = g.P.RenamePort.renames in
    let old = c.args.port.now in
    let mode = c.args.session.now.mode in
    let frame = c.args.frame.now in
    let request = c.args.request in
    let new = c.take_call.new in
    err_map c.take_call.result c.take_call.ensures.err (λ ended o. (
      o.0,
      stops_map (HandlesCall steps renames old mode request) (HandlesRequest steps renames old mode frame request) (FailsCall steps renames old request) (FailsRequest steps renames old mode frame request) old ended o.0 new.port
          (λ whole after out k. request_handled steps renames old mode frame request c.in_default.not-Days whole o.0 new.port after out k) (λ k. request_failed steps renames old mode frame request c.in_default.not-Days ended o.0 new.port k) o.1,
      o.2,
    ))
