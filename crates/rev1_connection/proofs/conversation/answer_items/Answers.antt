use Rattle.std.proofs.Common.{◌≡◌, ◌+◌, ◌++◌, ◌∷◌, [], inl, inr, List, take, drop, false, refl, sym, subst, arith, rules}
use Rattle.std.proofs.lemmas.Grind.{common_steps}
use Rattle.imap_lex.specs.declared.item.Item.{Item}
use Rattle.imap_connection.proofs.ConversationsLemmas.{last_output_after, output-append, output_then_written, takes_part_of_output}
use Rattle.rev1_connection.specs.Handling.{AnswersItem, StopsAt}
use Rattle.rev1_connection.specs.ItemConversations.{Converses}
use Rattle.rev1_connection.proofs.ItemConversationLemmas.{converses-append, converses_one, ends_here}
use Rattle.rev1_connection.proofs.conversation.answer_items.Goals as goal

pub returns-in-Err-clause-err : goal.returns-in-Err-clause-err
returns-in-Err-clause-err g c =
    let at = c.loop-item in
    let items = c.args.items.now in
    let item = c.item-item.result in
    let so = at.invariant.conversation in
    let first = take at.item-index items in
    let o = c.in-Err.ensures.err in
    let new = c.answer_item.new in
    let split : items ≡ first ++ item ∷ drop (at.item-index + 1) items = grind (arith, common_steps, c.item-item.is) in (
      so.0 ++ o.0,
      ends_here (AnswersItem g.P.Port.steps g.P.RenamePort.renames) (StopsAt g.P.Port.steps g.P.RenamePort.renames) c.args.port.now c.args.session.now first item (drop (at.item-index + 1) items) items c.in-Err.ended so.0 at.port at.session o.0 new.port split so.1 o.1,
      last_output_after c.in-Err.ended (g.K.Sink.taken c.args.sink.now) (g.K.Sink.taken at.sink) (g.K.Sink.taken new.sink) c.args.text.now.items so.0 at.text.items o.0 new.text.items so.2 o.2,
    )

pub returns-then-not-write_if_full-clause-err : goal.returns-then-not-write_if_full-clause-err
returns-then-not-write_if_full-clause-err g c =
    let at = c.loop-item in
    let items = c.args.items.now in
    let item = c.item-item.result in
    let so = at.invariant.conversation in
    let first = take at.item-index items in
    let o = c.in-Ok.ensures.ok in
    let new = c.answer_item.new in
    let split : items ≡ first ++ item ∷ drop (at.item-index + 1) items = grind (arith, common_steps, c.item-item.is) in
    let k = g.K.Sink.taken c.args.sink.now in
    let l = g.K.Sink.taken new.sink in
    let all = output-append k (g.K.Sink.taken at.sink) l c.args.text.now.items so.0 at.text.items o.0 new.text.items so.2 o.2 in (
      so.0 ++ o.0,
      ends_here (AnswersItem g.P.Port.steps g.P.RenamePort.renames) (StopsAt g.P.Port.steps g.P.RenamePort.renames) c.args.port.now c.args.session.now first item (drop (at.item-index + 1) items) items _ so.0 at.port at.session o.0 new.port split so.1
          (inr (inr (inl (new.session, false, refl, o.1)))),
      inl (refl, takes_part_of_output k l (g.K.Sink.taken c.write_if_full.new.sink) c.args.text.now.items (so.0 ++ o.0) new.text.items all c.if-not-write_if_full.ensures.output),
    )

pub loop-item-preserved : goal.loop-item-preserved
loop-item-preserved g c =
    let at = c.loop-item in
    let items = c.args.items.now in
    let item = c.item-item.result in
    let so = at.invariant.conversation in
    let first = take at.item-index items in
    let o = c.in-Ok.ensures.ok in
    let new = c.answer_item.new in
    let next : take (at.item-index + 1) items ≡ first ++ item ∷ [] = grind (arith, common_steps, c.item-item.is) in
    let k = g.K.Sink.taken c.args.sink.now in
    let l = g.K.Sink.taken new.sink in
    let answers = AnswersItem g.P.Port.steps g.P.RenamePort.renames in
    let stops = StopsAt g.P.Port.steps g.P.RenamePort.renames in
    let all = output-append k (g.K.Sink.taken at.sink) l c.args.text.now.items so.0 at.text.items o.0 new.text.items so.2 o.2 in
    record {
      conversation = (
        so.0 ++ o.0,
        subst (λ (xs : List Item). Converses answers stops c.args.port.now c.args.session.now xs (so.0 ++ o.0) new.port new.session) (sym next)
            (converses-append answers stops c.args.port.now c.args.session.now first (item ∷ []) so.0 at.port at.session o.0 new.port new.session so.1 (converses_one answers stops at.port at.session item o.0 new.port new.session o.1)),
        output_then_written k l (g.K.Sink.taken c.write_if_full.new.sink) c.args.text.now.items (so.0 ++ o.0) new.text.items c.write_if_full.new.text.items all c.if-not-write_if_full.ensures.output,
      );
      failures = search rules;
    }
