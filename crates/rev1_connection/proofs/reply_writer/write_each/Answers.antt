use Rattle.std.proofs.Common.{◌≡◌, ◌+◌, ◌++◌, ◌∷◌, [], inl, inr, List, take, drop, refl, sym, subst, arith, rules}
use Rattle.std.proofs.lemmas.Grind.{common_steps}
use Rattle.imap_answers.specs.declared.answer.Answer.{Answer}
use Rattle.imap_connection.proofs.ConversationsLemmas.{output-append, output_empty, output_held, output_then_written, takes_part_of_output}
use Rattle.rev1_connection.specs.ShownReplies.{AreShownIn}
use Rattle.rev1_connection.proofs.ReplyLemmas.{front_append, shown_append, shown_none}
use Rattle.rev1_connection.proofs.reply_writer.write_each.Goals as goal

pub loop-answer-init : goal.loop-answer-init
loop-answer-init g c =
    record { output = ([], shown_none c.args.mode c.args.manner.now c.args.answers.now, output_empty (g.K.Sink.taken c.args.sink.now) c.args.text.now.items); failures = refl }

pub returns-in-Err-clause-err : goal.returns-in-Err-clause-err
returns-in-Err-clause-err g c =
    let at = c.loop-answer in
    let all = c.args.answers.now in
    let answer = c.answer-item.result in
    let so = at.invariant.output in
    let first = take at.answer-index all in
    let o = c.in-Err.ensures.err in
    let k = g.K.Sink.taken c.args.sink.now in
    let l = g.K.Sink.taken at.sink in
    let new = c.show_answer.new.text.items in
    let split : all ≡ first ++ answer ∷ drop (at.answer-index + 1) all = grind (arith, common_steps, c.answer-item.is) in (
      first ++ o.0,
      so.0 ++ o.1,
      inl refl,
      front_append all first (drop (at.answer-index + 1) all) answer o.0 split o.2,
      shown_append c.args.mode c.args.manner.now all (answer ∷ []) first o.0 so.0 o.1 c.requires.each so.1 o.3,
      inr ((λ x. cc), output-append k l l c.args.text.now.items so.0 at.text.items o.1 new so.2 (output_held l at.text.items o.1 new o.4)),
    )

pub returns-then-not-write_if_full-clause-err : goal.returns-then-not-write_if_full-clause-err
returns-then-not-write_if_full-clause-err g c =
    let at = c.loop-answer in
    let all = c.args.answers.now in
    let answer = c.answer-item.result in
    let so = at.invariant.output in
    let first = take at.answer-index all in
    let o = c.in-Ok.ensures.ok in
    let k = g.K.Sink.taken c.args.sink.now in
    let l = g.K.Sink.taken at.sink in
    let new = c.show_answer.new.text.items in
    let split : all ≡ first ++ answer ∷ drop (at.answer-index + 1) all = grind (arith, common_steps, c.answer-item.is) in
    let more = output-append k l l c.args.text.now.items so.0 at.text.items o.0 new so.2 (output_held l at.text.items o.0 new o.2) in (
      first ++ answer ∷ [],
      so.0 ++ o.0,
      inr refl,
      front_append all first (drop (at.answer-index + 1) all) answer (answer ∷ []) split ([], refl),
      shown_append c.args.mode c.args.manner.now all (answer ∷ []) first (answer ∷ []) so.0 o.0 c.requires.each so.1 o.1,
      inl (refl, takes_part_of_output k l (g.K.Sink.taken c.write_if_full.new.sink) c.args.text.now.items (so.0 ++ o.0) new more c.if-not-write_if_full.ensures.output),
    )

pub loop-answer-preserved : goal.loop-answer-preserved
loop-answer-preserved g c =
    let at = c.loop-answer in
    let all = c.args.answers.now in
    let answer = c.answer-item.result in
    let so = at.invariant.output in
    let first = take at.answer-index all in
    let o = c.in-Ok.ensures.ok in
    let k = g.K.Sink.taken c.args.sink.now in
    let l = g.K.Sink.taken at.sink in
    let new = c.show_answer.new.text.items in
    let next : take (at.answer-index + 1) all ≡ first ++ answer ∷ [] = grind (arith, common_steps, c.answer-item.is) in
    let more = output-append k l l c.args.text.now.items so.0 at.text.items o.0 new so.2 (output_held l at.text.items o.0 new o.2) in
    record {
      output = (
        so.0 ++ o.0,
        subst (λ (xs : List Answer). AreShownIn c.args.mode c.args.manner.now all xs (so.0 ++ o.0)) (sym next) (shown_append c.args.mode c.args.manner.now all (answer ∷ []) first (answer ∷ []) so.0 o.0 c.requires.each so.1 o.1),
        output_then_written k l (g.K.Sink.taken c.write_if_full.new.sink) c.args.text.now.items (so.0 ++ o.0) new c.write_if_full.new.text.items more c.if-not-write_if_full.ensures.output,
      );
      failures = search rules;
    }

pub returns-clause-ok : goal.returns-clause-ok
returns-clause-ok g c =
    let at = c.loop-answer in
    let all = c.args.answers.now in
    let so = at.invariant.output in
    let whole : take at.answer-index all ≡ all = grind (arith, common_steps, c.loop-answer-test.false) in
    (so.0, subst (λ (xs : List Answer). AreShownIn c.args.mode c.args.manner.now all xs so.0) whole so.1, so.2)
