use Rattle.std.proofs.Common.{◌≡◌, ◌++◌, ◌∷◌, [], List, None, refl, sym, subst}
use Rattle.std.specs.Prelude.{IfErr}
use Rattle.imap_answers.specs.declared.answer.Answer.{Answer}
use Rattle.imap_connection.specs.Requests.{FailsRequest, TakesRequest, texts}
use Rattle.imap_connection.specs.declared.request.Request.{Request}
use Rattle.imap_connection.proofs.request_steps.take_request.Goals as goal

pub returns-in-Ok-clause-ok : goal.returns-in-Ok-clause-ok
returns-in-Ok-clause-ok g c =
    let p = c.args.port.now in
    let idling = c.args.idling.now in
    let answer = c.in-Immediate.answer in
    subst (λ (request : Request). TakesRequest g.P.Port.steps p idling request None c.args.text.now.items p idling c.print_answer.new.text.items) (sym c.in-Immediate.is)
    (answer ∷ [], (refl, refl, refl, refl), c.in-Ok.ensures.ok)

pub returns-in-Command-clause-err : goal.returns-in-Command-clause-err
returns-in-Command-clause-err g c =
    let new = c.take_command.new in
    let before = c.args.text.now.items in
    subst (λ (request : Request). IfErr c.take_command.result (λ ended. (given : List Answer) × FailsRequest g.P.Port.steps c.args.port.now c.args.idling.now request ended given new.port × (new.text.items ≡ before ++ texts given))) (sym c.in-Command.is)
    c.take_command.ensures.err

pub returns-in-Err-take_line-clause-err : goal.returns-in-Err-take_line-clause-err
returns-in-Err-take_line-clause-err g c =
    let new = c.take_line.new in
    let before = c.args.text.now.items in
    subst (λ (request : Request). (given : List Answer) × FailsRequest g.P.Port.steps c.args.port.now c.args.idling.now request c.in-Err-take_line.ended given new.port × (new.text.items ≡ before ++ texts given)) (sym c.in-Line.is)
    c.in-Err-take_line.ensures.err
