use Rattle.std.proofs.Common.{◌≡◌, List, ◌++◌, sym, subst, OnOk}
use Rattle.std.specs.Prelude.{IfErr}
use Rattle.imap_answers.specs.declared.answer.Answer.{Answer}
use Rattle.imap_connection.specs.Conversation.{turns_of_answers}
use Rattle.imap_connection.specs.RequestSteps.{AwaitsRequest, FailsRequest, HandlesRequest}
use Rattle.imap_connection.specs.declared.request.Request.{Request}
use Rattle.imap_connection.specs.declared.turn.Turn.{Turn}
use Rattle.imap_connection.proofs.RequestLemmas.{sent_ok, line_fails}
use Rattle.imap_connection.proofs.talk_steps.take_request.Goals as goal

pub take_command-requires-clause-awake : goal.take_command-requires-clause-awake
take_command-requires-clause-awake c = subst (λ (request : Request). AwaitsRequest c.args.node.now.state c.args.session request) c.in-Command.is c.requires.awaited

pub take_line-requires-clause-idles : goal.take_line-requires-clause-idles
take_line-requires-clause-idles c = subst (λ (request : Request). AwaitsRequest c.args.node.now.state c.args.session request) c.in-Line.is c.requires.awaited

pub returns-in-Immediate-clause-ok : goal.returns-in-Immediate-clause-ok
returns-in-Immediate-clause-ok c =
    let node = c.args.node.now.state in
    let before = c.args.turns.now.items in
    let after = c.send_one.new.turns.items in
    subst (λ (request : Request). OnOk c.send_one.result ((given : List Answer) × HandlesRequest node c.args.session c.args.moment request given node × (after ≡ before ++ turns_of_answers given))) (sym c.in-Immediate.is)
    (sent_ok c.args.session c.args.moment node c.in-Immediate.answer before after c.send_one.result c.send_one.ensures.ok)

pub returns-in-Command-clause-ok : goal.returns-in-Command-clause-ok
returns-in-Command-clause-ok c =
    let node = c.args.node.now.state in
    let before = c.args.turns.now.items in
    let after = c.take_command.new.turns.items in
    subst (λ (request : Request). OnOk c.take_command.result ((given : List Answer) × HandlesRequest node c.args.session c.args.moment request given c.take_command.new.node.state × (after ≡ before ++ turns_of_answers given))) (sym c.in-Command.is)
    c.take_command.ensures.ok

pub returns-in-Line-clause-err : goal.returns-in-Line-clause-err
returns-in-Line-clause-err c =
    let old = c.args.node.now.state in
    let new = c.take_line.new.node.state in
    let before = c.args.turns.now.items in
    let after = c.take_line.new.turns.items in
    subst (λ (request : Request). IfErr c.take_line.result (λ why. (front : List Turn) × (after ≡ before ++ front) × FailsRequest why old c.args.session c.args.moment request front new)) (sym c.in-Line.is)
    (line_fails c.take_line.result old new c.args.session c.args.moment c.in-Line.tag c.in-Line.line before after c.take_line.ensures.err)
