use Rattle.std.proofs.Common.{◌≡◌, ◌++◌, ℕ, List, [], None, refl, sym, subst, append-nil}
use Rattle.std.specs.Prelude.{IfErr, IfOk}
use Rattle.rev1_front.specs.FrontTexts.{challenge_line, text_at_once}
use Rattle.rev1_connection.specs.Handling.{FailsCall, FailsCommand, FailsLine, HandlesCall, HandlesCommand, HandlesLine, StopsBy}
use Rattle.rev1_connection.specs.TakingSteps.{Takes}
use Rattle.rev1_connection.specs.declared.request.FrontRequest.{FrontRequest}
use Rattle.rev1_connection.specs.declared.request.FrontRequest.TheVariants as requests
use Rattle.rev1_connection.proofs.HandlingLemmas.{challenged, fails_err, gives_err, gives_takes, line_err, line_ok, on_each}
use Rattle.rev1_connection.proofs.call_steps.take_call.Goals as goal

pub returns-in-Immediate-clause-ok : goal.returns-in-Immediate-clause-ok
returns-in-Immediate-clause-ok g c =
    let p = c.args.port.now in
    let mode = c.args.session.now.mode in
    let it = c.in-Immediate.taken in
    let new = c.answer_at_once.new in
    let r = c.answer_at_once.result in
    subst (λ (request : FrontRequest). IfOk r (λ u. Takes (HandlesCall g.P.Port.steps g.P.RenamePort.renames p mode request) u c.args.text.now.items p new.session new.text.items)) (sym c.in-Immediate.is)
    (line_ok (HandlesCall g.P.Port.steps g.P.RenamePort.renames p mode (requests.Immediate it)) r (text_at_once it) c.args.text.now.items new.text.items p new.session (on_each r (refl, refl, c.answer_at_once.ensures.session, refl)) c.answer_at_once.ensures.ok c.answer_at_once.ensures.none)

pub returns-in-Immediate-clause-err : goal.returns-in-Immediate-clause-err
returns-in-Immediate-clause-err g c =
    let p = c.args.port.now in
    let request = c.args.request in
    line_err (HandlesCall g.P.Port.steps g.P.RenamePort.renames p c.args.session.now.mode request) (FailsCall g.P.Port.steps g.P.RenamePort.renames p request) c.answer_at_once.result p c.args.text.now.items c.answer_at_once.new.text.items c.answer_at_once.ensures.err

pub returns-in-Challenge-clause-ok : goal.returns-in-Challenge-clause-ok
returns-in-Challenge-clause-ok g c =
    let p = c.args.port.now in
    let mode = c.args.session.now.mode in
    let tag = c.in-Challenge.tag in
    let new = c.challenge.new in
    let r = c.challenge.result in
    subst (λ (request : FrontRequest). IfOk r (λ u. Takes (HandlesCall g.P.Port.steps g.P.RenamePort.renames p mode request) u c.args.text.now.items p new.session new.text.items)) (sym c.in-Challenge.is)
    (line_ok (HandlesCall g.P.Port.steps g.P.RenamePort.renames p mode (requests.Challenge tag)) r challenge_line c.args.text.now.items new.text.items p new.session (challenged r challenge_line new.session _ p c.challenge.ensures.session) c.challenge.ensures.ok c.challenge.ensures.none)

pub returns-in-Challenge-clause-err : goal.returns-in-Challenge-clause-err
returns-in-Challenge-clause-err g c =
    let p = c.args.port.now in
    let request = c.args.request in
    line_err (HandlesCall g.P.Port.steps g.P.RenamePort.renames p c.args.session.now.mode request) (FailsCall g.P.Port.steps g.P.RenamePort.renames p request) c.challenge.result p c.args.text.now.items c.challenge.new.text.items c.challenge.ensures.err

pub returns-in-Command-clause-ok : goal.returns-in-Command-clause-ok
returns-in-Command-clause-ok g c =
    let p = c.args.port.now in
    let mode = c.args.session.now.mode in
    let new = c.give_command.new in
    let text = c.args.text.now.items in
    let r = c.give_command.result in
    subst (λ (request : FrontRequest). IfOk r (λ u. Takes (HandlesCall g.P.Port.steps g.P.RenamePort.renames p mode request) u text new.port new.session text)) (sym c.in-Command.is)
    (gives_takes (HandlesCommand g.P.Port.steps p mode c.in-Command.tagged c.in-Command.manner) r text new.port new.session c.give_command.ensures.ok)

pub returns-in-Command-clause-err : goal.returns-in-Command-clause-err
returns-in-Command-clause-err g c =
    let p = c.args.port.now in
    let mode = c.args.session.now.mode in
    let new = c.give_command.new in
    let text = c.args.text.now.items in
    let r = c.give_command.result in
    subst (λ (request : FrontRequest). IfErr r (λ ended. (given : List ℕ) × StopsBy (HandlesCall g.P.Port.steps g.P.RenamePort.renames p mode request) (FailsCall g.P.Port.steps g.P.RenamePort.renames p request) p ended given new.port × (text ≡ text ++ given))) (sym c.in-Command.is)
    (gives_err (HandlesCommand g.P.Port.steps p mode c.in-Command.tagged c.in-Command.manner) (FailsCommand g.P.Port.steps p c.in-Command.tagged) r p text new.port c.give_command.ensures.err)

pub returns-in-Line-clause-ok : goal.returns-in-Line-clause-ok
returns-in-Line-clause-ok g c =
    let p = c.args.port.now in
    let mode = c.args.session.now.mode in
    let new = c.give_line.new in
    let text = c.args.text.now.items in
    let r = c.give_line.result in
    subst (λ (request : FrontRequest). IfOk r (λ u. Takes (HandlesCall g.P.Port.steps g.P.RenamePort.renames p mode request) u text new.port new.session text)) (sym c.in-Line.is)
    (gives_takes (HandlesLine g.P.Port.steps p mode c.in-Line.tag c.in-Line.line) r text new.port new.session c.give_line.ensures.ok)

pub returns-in-Line-clause-err : goal.returns-in-Line-clause-err
returns-in-Line-clause-err g c =
    let p = c.args.port.now in
    let mode = c.args.session.now.mode in
    let new = c.give_line.new in
    let text = c.args.text.now.items in
    let r = c.give_line.result in
    subst (λ (request : FrontRequest). IfErr r (λ ended. (given : List ℕ) × StopsBy (HandlesCall g.P.Port.steps g.P.RenamePort.renames p mode request) (FailsCall g.P.Port.steps g.P.RenamePort.renames p request) p ended given new.port × (text ≡ text ++ given))) (sym c.in-Line.is)
    (fails_err (HandlesLine g.P.Port.steps p mode c.in-Line.tag c.in-Line.line) (FailsLine g.P.Port.steps p c.in-Line.line) r p text new.port c.give_line.ensures.err)

pub returns-in-Rename-clause-ok : goal.returns-in-Rename-clause-ok
returns-in-Rename-clause-ok g c =
    let p = c.args.port.now in
    let new = c.take_rename.new in
    subst (λ (request : FrontRequest). IfOk c.take_rename.result (λ u. Takes (HandlesCall g.P.Port.steps g.P.RenamePort.renames p c.args.session.now.mode request) u c.args.text.now.items new.port new.session new.text.items)) (sym c.in-Rename.is) c.take_rename.ensures.ok

pub returns-in-Rename-clause-err : goal.returns-in-Rename-clause-err
returns-in-Rename-clause-err g c =
    let p = c.args.port.now in
    let new = c.take_rename.new in
    subst (λ (request : FrontRequest). IfErr c.take_rename.result (λ ended. (given : List ℕ) × StopsBy (HandlesCall g.P.Port.steps g.P.RenamePort.renames p c.args.session.now.mode request) (FailsCall g.P.Port.steps g.P.RenamePort.renames p request) p ended given new.port
    × (new.text.items ≡ c.args.text.now.items ++ given))) (sym c.in-Rename.is) c.take_rename.ensures.err

pub returns-in-Days-clause-ok : goal.returns-in-Days-clause-ok
returns-in-Days-clause-ok g c =
    let p = c.args.port.now in
    let mode = c.args.session.now.mode in
    let text = c.args.text.now.items in
    subst (λ (request : FrontRequest). Takes (HandlesCall g.P.Port.steps g.P.RenamePort.renames p mode request) None text p c.awake.result text) (sym c.in-Days.is) ([], (refl, refl, c.awake.ensures, refl), sym (append-nil text))
