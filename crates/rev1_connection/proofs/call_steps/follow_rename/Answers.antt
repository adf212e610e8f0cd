use Rattle.std.proofs.Common.{inl, inr, refl, sym, subst}
use Rattle.std.specs.Prelude.{IfOk}
use Rattle.imap_answers.specs.AnswerText.{text_of_answer}
use Rattle.imap_answers.specs.declared.answer.Answer.TheVariants as answers
use Rattle.rev1_front.specs.FrontTexts.{refused_line}
use Rattle.rev1_front.specs.declared.fixed_texts.FrontRefusal.TheVariants as reasons
use Rattle.rev1_connection.specs.Handling.{FollowsRename, HandlesCommand, noop_of}
use Rattle.rev1_connection.specs.TakingSteps.{Takes}
use Rattle.rev1_connection.specs.declared.manner.Manner.TheVariants as manners
use Rattle.rev1_connection.specs.declared.rename_port.RenameEnd.{RenameEnd}
use Rattle.rev1_connection.specs.declared.rename_port.RenameEnd.TheVariants as ends
use Rattle.rev1_connection.proofs.HandlingLemmas.{err_map, gives_takes, line_ok, on_each}
use Rattle.rev1_connection.proofs.call_steps.follow_rename.Goals as goal

pub returns-in-NoSecondSession-clause-ok : goal.returns-in-NoSecondSession-clause-ok
returns-in-NoSecondSession-clause-ok g c =
    let p = c.args.port.now in
    let mode = c.args.session.now.mode in
    let new = c.answer_at_once.new in
    let r = c.answer_at_once.result in
    subst (λ (end : RenameEnd). IfOk r (λ u. Takes (FollowsRename g.P.Port.steps g.P.RenamePort.renames p mode c.args.tag end) u c.args.text.now.items p new.session new.text.items)) (sym c.in-NoSecondSession.is)
    (line_ok (FollowsRename g.P.Port.steps g.P.RenamePort.renames p mode c.args.tag ends.NoSecondSession) r (refused_line c.args.tag reasons.NoSecondSession) c.args.text.now.items new.text.items p new.session (on_each r (refl, refl, c.answer_at_once.ensures.session, refl))
    c.answer_at_once.ensures.ok c.answer_at_once.ensures.none)

pub returns-in-NoSecondSession-clause-err : goal.returns-in-NoSecondSession-clause-err
returns-in-NoSecondSession-clause-err g c = err_map c.answer_at_once.result c.answer_at_once.ensures.err (λ ended o. (inl (o.0, refl, refl), o.1))

pub returns-in-Refused-clause-ok : goal.returns-in-Refused-clause-ok
returns-in-Refused-clause-ok g c =
    let p = c.args.port.now in
    let mode = c.args.session.now.mode in
    let why = c.in-Refused.reason in
    let new = c.answer_at_once-in-Refused.new in
    let r = c.answer_at_once-in-Refused.result in
    subst (λ (end : RenameEnd). IfOk r (λ u. Takes (FollowsRename g.P.Port.steps g.P.RenamePort.renames p mode c.args.tag end) u c.args.text.now.items p new.session new.text.items)) (sym c.in-Refused.is)
    (line_ok (FollowsRename g.P.Port.steps g.P.RenamePort.renames p mode c.args.tag (ends.Refused why)) r (text_of_answer (answers.Refused c.args.tag why)) c.args.text.now.items new.text.items p new.session (on_each r (refl, refl, c.answer_at_once-in-Refused.ensures.session, refl))
    c.answer_at_once-in-Refused.ensures.ok c.answer_at_once-in-Refused.ensures.none)

pub returns-in-Refused-clause-err : goal.returns-in-Refused-clause-err
returns-in-Refused-clause-err g c = err_map c.answer_at_once-in-Refused.result c.answer_at_once-in-Refused.ensures.err (λ ended o. (inl (o.0, refl, refl), o.1))

pub returns-in-Renamed-clause-ok : goal.returns-in-Renamed-clause-ok
returns-in-Renamed-clause-ok g c =
    let p = c.args.port.now in
    let mode = c.args.session.now.mode in
    let new = c.give_command.new in
    let text = c.args.text.now.items in
    let r = c.give_command.result in
    subst (λ (end : RenameEnd). IfOk r (λ u. Takes (FollowsRename g.P.Port.steps g.P.RenamePort.renames p mode c.args.tag end) u text new.port new.session text)) (sym c.in-Renamed.is)
    (gives_takes (HandlesCommand g.P.Port.steps p mode (noop_of c.args.tag) manners.Renamed) r text new.port new.session c.give_command.ensures.ok)

pub returns-in-Renamed-clause-err : goal.returns-in-Renamed-clause-err
returns-in-Renamed-clause-err g c = err_map c.give_command.result c.give_command.ensures.err (λ ended o. (elim o [ inl unasked ↦ inl unasked | inr failed ↦ inr (c.in-Renamed.is, failed) ], refl))
