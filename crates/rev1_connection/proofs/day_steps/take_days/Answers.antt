use Rattle.std.proofs.Common.{[], ◌∙◌, inl, inr, refl, sym, append-nil, rules}
use Rattle.rev1_connection.proofs.HandlingLemmas.{err_map, ok_map}
use Rattle.rev1_connection.proofs.RequestLemmas.{days_ended, days_followed, none_ended, none_followed, refusal_followed}
use Rattle.rev1_connection.proofs.day_steps.take_days.Goals as goal

pub returns-in_default-clause-err : goal.returns-in_default-clause-err
returns-in_default-clause-err g c = ([], inl (refl, refl, refl), sym (append-nil c.args.text.now.items))

pub returns-in-Err-clause-err : goal.returns-in-Err-clause-err
returns-in-Err-clause-err g c = ([], inr (inr (inr (inr (inl (c.in-Err.fault, c.in-Err.ensures, c.end_reason_of.ensures, refl))))), sym (append-nil c.args.text.now.items))

pub returns-in-Done-clause-ok : goal.returns-in-Done-clause-ok
returns-in-Done-clause-ok g c =
    let new = c.follow_search.new in
    ok_map c.follow_search.result c.follow_search.ensures.ok (λ u t.
    days_followed g.P.Port.steps g.P.RenamePort.renames c.args.port.now c.command.new.self c.args.session.now.mode c.args.frame.now c.args.fetch c.in-Ok-command.reply c.in-Done.answers _ _ u c.args.text.now.items new.text.items new.port new.session c.in-Ok-command.ensures c.in-Done.is t)

pub returns-in-Done-clause-err : goal.returns-in-Done-clause-err
returns-in-Done-clause-err g c =
    let new = c.follow_search.new in
    err_map c.follow_search.result c.follow_search.ensures.err (λ ended o. (
      o.0,
      days_ended g.P.Port.steps g.P.RenamePort.renames c.args.port.now c.command.new.self c.args.session.now.mode c.args.frame.now c.args.fetch c.in-Ok-command.reply c.in-Done.answers _ _ ended o.0 new.port c.in-Ok-command.ensures c.in-Done.is o.1,
      o.2,
    ))

pub returns-then-is_of_no_message-clause-ok : goal.returns-then-is_of_no_message-clause-ok
returns-then-is_of_no_message-clause-ok g c =
    let new = c.search_no_days.new in
    let none = sym c.is_of_no_message.ensures ∙ c.if-is_of_no_message.true in
    ok_map c.search_no_days.result c.search_no_days.ensures.ok (λ u t.
    none_followed g.P.Port.steps g.P.RenamePort.renames c.args.port.now c.command.new.self c.args.session.now.mode c.args.frame.now c.args.fetch c.in-Ok-command.reply c.in-Refused.why c.in-Refused.closed u c.args.text.now.items new.text.items new.port new.session c.in-Ok-command.ensures c.in-Refused.is none t)

pub returns-then-is_of_no_message-clause-err : goal.returns-then-is_of_no_message-clause-err
returns-then-is_of_no_message-clause-err g c =
    let new = c.search_no_days.new in
    let none = sym c.is_of_no_message.ensures ∙ c.if-is_of_no_message.true in
    err_map c.search_no_days.result c.search_no_days.ensures.err (λ ended o. (
      o.0,
      none_ended g.P.Port.steps g.P.RenamePort.renames c.args.port.now c.command.new.self c.args.session.now.mode c.args.frame.now c.args.fetch c.in-Ok-command.reply c.in-Refused.why c.in-Refused.closed ended o.0 new.port c.in-Ok-command.ensures c.in-Refused.is none o.1,
      o.2,
    ))

pub returns-clause-ok : goal.returns-clause-ok
returns-clause-ok g c =
    let other = sym c.is_of_no_message.ensures ∙ c.if-is_of_no_message.false in
    refusal_followed g.P.Port.steps g.P.RenamePort.renames c.args.port.now c.command.new.self c.args.session.now.mode c.args.frame.now c.args.fetch c.in-Ok-command.reply c.in-Refused.why c.in-Refused.closed c.refuse_search.result c.args.text.now.items c.args.text.now.items c.refuse_search.new.session c.in-Ok-command.ensures c.in-Refused.is other
    (c.refuse_search.ensures.reply ∙ search rules) c.refuse_search.ensures.session refl
