use Rattle.std.proofs.Common.{Option, inr, subst}
use Rattle.imap_connection.proofs.ConversationsLemmas.{not_failed, output_held}
use Rattle.rev1_connection.specs.Handling.{FailsItem, HandlesItem}
use Rattle.rev1_connection.specs.TakingSteps.{Takes}
use Rattle.rev1_connection.specs.declared.reply_writer.UnshownReply.{UnshownReply}
use Rattle.rev1_connection.proofs.HandlingLemmas.{err_map, on_map, shown_already, shown_end, shown_whole}
use Rattle.rev1_connection.proofs.conversation.answer_item.Goals as goal

pub returns-in-Err-clause-err : goal.returns-in-Err-clause-err
returns-in-Err-clause-err g c =
    let o = c.in-Err.ensures.err in
    (o.0, o.1, inr (not_failed c.in-Err.ended c.in-Err.ensures.devices.1, output_held (g.K.Sink.taken c.args.sink.now) c.args.text.now.items o.0 c.take_item.new.text.items o.2))

pub returns-in-Some-clause-ok : goal.returns-in-Some-clause-ok
returns-in-Some-clause-ok g c =
    let handles = HandlesItem g.P.Port.steps g.P.RenamePort.renames c.args.port.now c.args.session.now c.args.item.now in
    let new = c.take_item.new in
    let held = c.args.text.now.items in
    let t = subst (λ (u : Option UnshownReply). Takes handles u held new.port new.session new.text.items) c.in-Some.is c.in-Ok.ensures.ok in
    on_map c.write_reply.result c.write_reply.ensures.ok (λ o.
    shown_whole handles (g.K.Sink.taken c.args.sink.now) (g.K.Sink.taken c.write_reply.new.sink) held new.text.items c.write_reply.new.text.items c.in-Some.unshown o.0 new.port new.session t o.1 o.2 o.3)

pub returns-in-Some-clause-err : goal.returns-in-Some-clause-err
returns-in-Some-clause-err g c =
    let old = c.args.port.now in
    let handles = HandlesItem g.P.Port.steps g.P.RenamePort.renames old c.args.session.now c.args.item.now in
    let fails = FailsItem g.P.Port.steps g.P.RenamePort.renames old c.args.session.now c.args.item.now in
    let new = c.take_item.new in
    let held = c.args.text.now.items in
    let t = subst (λ (u : Option UnshownReply). Takes handles u held new.port new.session new.text.items) c.in-Some.is c.in-Ok.ensures.ok in
    err_map c.write_reply.result c.write_reply.ensures.err (λ ended o.
    shown_end handles fails (g.K.Sink.taken c.args.sink.now) (g.K.Sink.taken c.write_reply.new.sink) held new.text.items c.write_reply.new.text.items old c.in-Some.unshown ended o.0 new.port new.session t o.1 o.2)

pub returns-in-None-clause-ok : goal.returns-in-None-clause-ok
returns-in-None-clause-ok g c =
    let handles = HandlesItem g.P.Port.steps g.P.RenamePort.renames c.args.port.now c.args.session.now c.args.item.now in
    let new = c.take_item.new in
    let held = c.args.text.now.items in
    let t = subst (λ (u : Option UnshownReply). Takes handles u held new.port new.session new.text.items) c.in-None.is c.in-Ok.ensures.ok in
    shown_already handles (g.K.Sink.taken c.args.sink.now) held new.text.items new.port new.session t
