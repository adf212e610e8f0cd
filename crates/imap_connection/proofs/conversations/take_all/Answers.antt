use Rattle.std.proofs.Common.{◌≡◌, ◌+◌, ◌++◌, ◌∷◌, [], inl, inr, ℕ, List, Option, take, drop, false, refl, sym, ap, subst, append_assoc, arith, rules}
use Rattle.std.proofs.lemmas.Grind.{common_steps}
use Rattle.imap_lex.specs.declared.item.Item.{Item}
use Rattle.imap_syntax.specs.declared.command.Tagged.{Tagged}
use Rattle.imap_connection.specs.Batches.{answers_by, tags_of}
use Rattle.imap_connection.specs.Conversations.{Converses, HasTaken, EndsOverItems, TakesItem}
use Rattle.imap_connection.specs.Devices.{IsOutput, TakesAllOrPart}
use Rattle.imap_connection.specs.EndReasons.{failed_writes}
use Rattle.imap_connection.specs.Replies.{answers_of}
use Rattle.imap_connection.specs.declared.answer_writer.UnprintedReply.{UnprintedReply}
use Rattle.imap_connection.specs.declared.end_reason.Ended.{Ended}
use Rattle.imap_connection.specs.declared.end_reason.Ended.TheVariants.{NoMemory}
use Rattle.imap_connection.specs.Requests.{texts}
use Rattle.imap_connection.proofs.BatchLemmas.{taken_falters, taken_none, taken_answered}
use Rattle.imap_connection.proofs.ConversationsLemmas.{fails_at, leaves_first, takes_part_of_output, not_failed, output_part, output-append, output_then_written, output_held, output_empty}
use Rattle.imap_connection.proofs.conversations.take_all.Goals.{in-Some+in-Ok-write_reply, in-None+else-not-write_if_full}
use Rattle.imap_connection.proofs.conversations.take_all.Goals as goal

pub loop-item-init : goal.loop-item-init
loop-item-init g c =
    let none = subst (λ (waiting : List Tagged). HasTaken g.P.Port.steps c.args.port.now c.args.idling.now [] [] c.args.port.now c.args.idling.now waiting) (sym c.new-batch.ensures) (taken_none g.P.Port.steps) in
    record { conversation = ([], none, output_empty (g.K.Sink.taken c.args.sink.now) c.args.text.now.items); failures = refl }

pub returns-in-Err-clause-err : goal.returns-in-Err-clause-err
returns-in-Err-clause-err g c =
    let at = c.loop-item in
    let items = c.args.items.now in
    let item = c.item-item.result in
    let so = at.invariant.conversation in
    let first = take at.item-index items in
    let o = c.in-Err.ensures.err c.args.port.now c.args.idling.now first so.0 so.1 in
    let taken = g.K.Sink.taken at.sink in
    let split : items ≡ (first ++ item ∷ []) ++ drop (at.item-index + 1) items = grind (arith, common_steps, c.item-item.is) in (
      so.0 ++ o.0,
      leaves_first g.P.Port.steps c.args.port.now c.args.idling.now (first ++ item ∷ []) items c.in-Err.ended (so.0 ++ o.0) c.take_item.new.port (drop (at.item-index + 1) items, split) o.1,
      inr (
        not_failed c.in-Err.ended c.in-Err.ensures.devices.1,
        output-append (g.K.Sink.taken c.args.sink.now) taken taken c.args.text.now.items so.0 at.text.items o.0 c.take_item.new.text.items so.2 (output_held taken at.text.items o.0 c.take_item.new.text.items o.2),
      ),
    )

pub returns-then-not-write_if_full-clause-err : goal.returns-then-not-write_if_full-clause-err
returns-then-not-write_if_full-clause-err g c =
    let at = c.loop-item in
    let items = c.args.items.now in
    let item = c.item-item.result in
    let so = at.invariant.conversation in
    let before = take at.item-index items in
    let new = c.take_item.new in
    let o = subst (λ (u : Option UnprintedReply). TakesItem g.P.Port.steps c.args.port.now c.args.idling.now (before ++ item ∷ []) so.0 u at.text.items new.port new.idling new.batch new.text.items) c.in-None.is (c.in-Ok.ensures.ok c.args.port.now c.args.idling.now before so.0 so.1) in
    let next : take (at.item-index + 1) items ≡ before ++ item ∷ [] = grind (arith, common_steps, c.item-item.is) in
    let has_taken = subst (λ (xs : List Item). HasTaken g.P.Port.steps c.args.port.now c.args.idling.now xs (so.0 ++ o.0) new.port new.idling new.batch) (sym next) o.1 in
    let first = g.K.Sink.taken c.args.sink.now in
    let taken = g.K.Sink.taken at.sink in
    let all = output-append first taken taken c.args.text.now.items so.0 at.text.items o.0 new.text.items so.2 (output_held taken at.text.items o.0 new.text.items o.2) in (
      so.0 ++ o.0,
      fails_at g.P.Port.steps c.args.port.now c.args.idling.now items (at.item-index + 1) (so.0 ++ o.0) new.port new.idling new.batch has_taken,
      inl (refl, takes_part_of_output first taken (g.K.Sink.taken c.write_if_full.new.sink) c.args.text.now.items (so.0 ++ o.0) new.text.items all c.if-not-write_if_full.ensures.output),
    )

pub returns-in-Err-write_reply-clause-err : goal.returns-in-Err-write_reply-clause-err
returns-in-Err-write_reply-clause-err g c =
    let at = c.loop-item in
    let items = c.args.items.now in
    let item = c.item-item.result in
    let so = at.invariant.conversation in
    let before = take at.item-index items in
    let new = c.take_item.new in
    let ended = c.in-Err-write_reply.ended in
    let o = subst (λ (u : Option UnprintedReply). TakesItem g.P.Port.steps c.args.port.now c.args.idling.now (before ++ item ∷ []) so.0 u at.text.items new.port new.idling new.batch new.text.items) c.in-Some.is (c.in-Ok.ensures.ok c.args.port.now c.args.idling.now before so.0 so.1) in
    let given = texts (answers_of c.in-Some.unprinted.tag c.in-Some.unprinted.reply) in
    let next : take (at.item-index + 1) items ≡ before ++ item ∷ [] = grind (arith, common_steps, c.item-item.is) in
    let split : items ≡ (before ++ item ∷ []) ++ drop (at.item-index + 1) items = grind (arith, common_steps, c.item-item.is) in
    let has_taken = subst (λ (xs : List Item). HasTaken g.P.Port.steps c.args.port.now c.args.idling.now xs (so.0 ++ (o.0 ++ given)) new.port new.idling new.batch) (sym next) o.1 in
    let start = c.args.text.now.items in
    let first = g.K.Sink.taken c.args.sink.now in
    let taken = g.K.Sink.taken at.sink in
    let after = g.K.Sink.taken c.write_reply.new.sink in
    let left = c.write_reply.new.text.items in
    let all = output-append first taken taken start so.0 at.text.items o.0 new.text.items so.2 (output_held taken at.text.items o.0 new.text.items o.2) in
    elim c.in-Err-write_reply.ensures.err [
      | inl failed ↦ (
        so.0 ++ (o.0 ++ given),
        subst (λ (e : Ended). EndsOverItems g.P.Port.steps c.args.port.now c.args.idling.now items e (so.0 ++ (o.0 ++ given)) new.port) (sym failed.0)
            (fails_at g.P.Port.steps c.args.port.now c.args.idling.now items (at.item-index + 1) (so.0 ++ (o.0 ++ given)) new.port new.idling new.batch has_taken),
        inl (
          failed.0,
          subst (λ (t : List ℕ). TakesAllOrPart false first (start ++ t) after) (append_assoc so.0 o.0 given) (output_part first taken after start (so.0 ++ o.0) new.text.items given all failed.1),
        ),
      )
      | inr lost ↦ (
        so.0 ++ (o.0 ++ texts lost.1.0),
        subst (λ (e : Ended). EndsOverItems g.P.Port.steps c.args.port.now c.args.idling.now items e (so.0 ++ (o.0 ++ texts lost.1.0)) new.port) (sym lost.0)
            (leaves_first g.P.Port.steps c.args.port.now c.args.idling.now (before ++ item ∷ []) items NoMemory (so.0 ++ (o.0 ++ texts lost.1.0)) new.port (drop (at.item-index + 1) items, split) (o.3 lost.1.0 lost.1.1)),
        inr (
          not_failed ended (subst (λ (e : Ended). failed_writes e ≡ 0) (sym lost.0) refl),
          subst (λ (t : List ℕ). IsOutput first start t after left) (append_assoc so.0 o.0 (texts lost.1.0)) (output-append first taken after start (so.0 ++ o.0) new.text.items (texts lost.1.0) left all lost.1.2),
        ),
      )
    ]

pub loop-item-preserved : goal.loop-item-preserved
loop-item-preserved g c =
    let at = c.loop-item in
    let items = c.args.items.now in
    let item = c.item-item.result in
    let so = at.invariant.conversation in
    let before = take at.item-index items in
    let new = c.take_item.new in
    let next : take (at.item-index + 1) items ≡ before ++ item ∷ [] = grind (arith, common_steps, c.item-item.is) in
    let start = c.args.text.now.items in
    let first = g.K.Sink.taken c.args.sink.now in
    let taken = g.K.Sink.taken at.sink in
    let o = c.in-Ok.ensures.ok c.args.port.now c.args.idling.now before so.0 so.1 in
    elim c.match-unprinted.branch [
      | in-Some+in-Ok-write_reply w ↦ (
          let t = subst (λ (u : Option UnprintedReply). TakesItem g.P.Port.steps c.args.port.now c.args.idling.now (before ++ item ∷ []) so.0 u at.text.items new.port new.idling new.batch new.text.items) w.in-Some.is o in
          let given = texts (answers_of w.in-Some.unprinted.tag w.in-Some.unprinted.reply) in
          let all = output-append first taken taken start so.0 at.text.items t.0 new.text.items so.2 (output_held taken at.text.items t.0 new.text.items t.2) in
          let out = output-append first taken (g.K.Sink.taken w.write_reply.new.sink) start (so.0 ++ t.0) new.text.items given w.write_reply.new.text.items all w.in-Ok-write_reply.ensures.ok in
          record {
            conversation = (
              so.0 ++ (t.0 ++ given),
              subst (λ (xs : List Item). HasTaken g.P.Port.steps c.args.port.now c.args.idling.now xs (so.0 ++ (t.0 ++ given)) new.port new.idling new.batch) (sym next) t.1,
              subst (λ (k : Option (List ℕ)). IsOutput first start (so.0 ++ (t.0 ++ given)) k c.match-unprinted.text.items) (sym (ap (λ s. g.K.Sink.taken s) w.sink-is))
                  (subst (λ (held : List ℕ). IsOutput first start (so.0 ++ (t.0 ++ given)) (g.K.Sink.taken w.write_reply.new.sink) held) (sym (ap (λ v. v.items) w.text-is))
                  (subst (λ (x : List ℕ). IsOutput first start x (g.K.Sink.taken w.write_reply.new.sink) w.write_reply.new.text.items) (append_assoc so.0 t.0 given) out)),
            );
            failures = search rules;
          }
          )
      | in-None+else-not-write_if_full w ↦ (
          let t = subst (λ (u : Option UnprintedReply). TakesItem g.P.Port.steps c.args.port.now c.args.idling.now (before ++ item ∷ []) so.0 u at.text.items new.port new.idling new.batch new.text.items) w.in-None.is o in
          let all = output-append first taken taken start so.0 at.text.items t.0 new.text.items so.2 (output_held taken at.text.items t.0 new.text.items t.2) in
          let out = output_then_written first taken (g.K.Sink.taken w.write_if_full.new.sink) start (so.0 ++ t.0) new.text.items w.write_if_full.new.text.items all w.if-not-write_if_full.ensures.output in
          record {
            conversation = (
              so.0 ++ t.0,
              subst (λ (xs : List Item). HasTaken g.P.Port.steps c.args.port.now c.args.idling.now xs (so.0 ++ t.0) new.port new.idling new.batch) (sym next) t.1,
              subst (λ (k : Option (List ℕ)). IsOutput first start (so.0 ++ t.0) k c.match-unprinted.text.items) (sym (ap (λ s. g.K.Sink.taken s) w.sink-is))
                  (subst (λ (held : List ℕ). IsOutput first start (so.0 ++ t.0) (g.K.Sink.taken w.write_if_full.new.sink) held) (sym (ap (λ v. v.items) w.text-is)) out),
            );
            failures = search rules;
          }
          )
    ]

pub returns-in-Ok-carry_out-clause-ok : goal.returns-in-Ok-carry_out-clause-ok
returns-in-Ok-carry_out-clause-ok g c =
    let at = c.loop-item in
    let items = c.args.items.now in
    let so = at.invariant.conversation in
    let t = c.in-Ok-carry_out.ensures.ok in
    let more = texts (answers_by (tags_of at.batch) t.0) in
    let taken = g.K.Sink.taken at.sink in
    let whole : take at.item-index items ≡ items = grind (arith, common_steps, c.loop-item-test.false) in
    let has_conversed = taken_answered g.P.Port.steps (take at.item-index items) so.0 at.port at.idling at.batch t.0 tt c.carry_out.new.port so.1 t.1 in (
      so.0 ++ more,
      subst (λ (xs : List Item). Converses g.P.Port.steps c.args.port.now c.args.idling.now xs (so.0 ++ more) c.carry_out.new.port at.idling) whole has_conversed,
      output-append (g.K.Sink.taken c.args.sink.now) taken taken c.args.text.now.items so.0 at.text.items more c.carry_out.new.text.items so.2 (output_held taken at.text.items more c.carry_out.new.text.items t.2),
    )

pub returns-clause-err : goal.returns-clause-err
returns-clause-err g c =
    let at = c.loop-item in
    let items = c.args.items.now in
    let so = at.invariant.conversation in
    let t = c.in-Err-carry_out.ensures.err in
    let taken = g.K.Sink.taken at.sink in
    let whole : take at.item-index items ≡ items = grind (arith, common_steps, c.loop-item-test.false) in
    let left = taken_falters g.P.Port.steps (take at.item-index items) so.0 at.port at.idling at.batch c.in-Err-carry_out.ended t.0 c.carry_out.new.port so.1 t.1 in (
      so.0 ++ texts t.0,
      subst (λ (xs : List Item). EndsOverItems g.P.Port.steps c.args.port.now c.args.idling.now xs c.in-Err-carry_out.ended (so.0 ++ texts t.0) c.carry_out.new.port) whole left,
      inr (
        not_failed c.in-Err-carry_out.ended c.in-Err-carry_out.ensures.devices.1,
        output-append (g.K.Sink.taken c.args.sink.now) taken taken c.args.text.now.items so.0 at.text.items (texts t.0) c.carry_out.new.text.items so.2 (output_held taken at.text.items (texts t.0) c.carry_out.new.text.items t.2),
      ),
    )
