use Rattle.std.proofs.Common.{◌≡◌, ◌+◌, ◌++◌, ◌∷◌, ◌∙◌, [], inl, inr, List, ℕ, take, drop, false, refl, sym, ap, subst, append-nil, append_assoc, arith, rules}
use Rattle.std.proofs.lemmas.Grind.{common_steps}
use Rattle.std.proofs.lemmas.List.{take-append-drop}
use Rattle.imap_answers.specs.declared.answer.Answer.{Answer}
use Rattle.imap_connection.specs.Devices.{IsOutput, TakesAllOrPart}
use Rattle.imap_connection.specs.Requests.{texts}
use Rattle.imap_connection.proofs.BatchLemmas.{texts-append}
use Rattle.imap_connection.proofs.ConversationsLemmas.{output-append, output_held, output_then_written, takes_part_append, takes_part_of_output}
use Rattle.imap_connection.proofs.answer_writer.write_all.Goals as goal

pub returns-in-Err-clause-err : goal.returns-in-Err-clause-err
returns-in-Err-clause-err g c =
    let at = c.loop-answer in
    let given = c.args.answers.now in
    let first = take at.answer-index given in
    inr (
      refl,
      (
        first,
        (drop at.answer-index given, sym (take-append-drop at.answer-index given)),
        subst (λ (t : List ℕ). IsOutput (g.K.Sink.taken c.args.sink.now) c.args.text.now.items (texts first) (g.K.Sink.taken at.sink) t) (sym c.in-Err.ensures.err) at.invariant.output,
      ),
    )

pub returns-then-not-write_if_full-clause-err : goal.returns-then-not-write_if_full-clause-err
returns-then-not-write_if_full-clause-err g c =
    let at = c.loop-answer in
    let given = c.args.answers.now in
    let answer = c.answer-item.result in
    let before = c.args.text.now.items in
    let first = take at.answer-index given in
    let rest = drop (at.answer-index + 1) given in
    let one = texts (answer ∷ []) in
    let start = g.K.Sink.taken c.args.sink.now in
    let taken = g.K.Sink.taken at.sink in
    let printed : c.print.new.out.items ≡ at.text.items ++ one = c.in-Ok.ensures.ok ∙ ap (λ t. at.text.items ++ t) (sym (append-nil _)) in
    let all = output-append start taken taken before (texts first) at.text.items one c.print.new.out.items at.invariant.output (output_held taken at.text.items one c.print.new.out.items printed) in
    let some = takes_part_of_output start taken (g.K.Sink.taken c.write_if_full.new.sink) before (texts first ++ one) c.print.new.out.items all c.if-not-write_if_full.ensures.output in
    let split : given ≡ (first ++ answer ∷ []) ++ rest = grind (arith, common_steps, c.answer-item.is) in
    let whole : texts given ≡ (texts first ++ one) ++ texts rest = ap texts split ∙ texts-append (first ++ answer ∷ []) rest ∙ ap (λ t. t ++ texts rest) (texts-append first (answer ∷ [])) in
    inl (
      refl,
      subst (λ (t : List ℕ). TakesAllOrPart false start t (g.K.Sink.taken c.write_if_full.new.sink)) (append_assoc before (texts first ++ one) (texts rest) ∙ ap (λ t. before ++ t) (sym whole))
          (takes_part_append start (g.K.Sink.taken c.write_if_full.new.sink) (before ++ (texts first ++ one)) (texts rest) some),
    )

pub loop-answer-preserved : goal.loop-answer-preserved
loop-answer-preserved g c =
    let at = c.loop-answer in
    let given = c.args.answers.now in
    let answer = c.answer-item.result in
    let before = c.args.text.now.items in
    let first = take at.answer-index given in
    let one = texts (answer ∷ []) in
    let start = g.K.Sink.taken c.args.sink.now in
    let taken = g.K.Sink.taken at.sink in
    let printed : c.print.new.out.items ≡ at.text.items ++ one = c.in-Ok.ensures.ok ∙ ap (λ t. at.text.items ++ t) (sym (append-nil _)) in
    let all = output-append start taken taken before (texts first) at.text.items one c.print.new.out.items at.invariant.output (output_held taken at.text.items one c.print.new.out.items printed) in
    let next : take (at.answer-index + 1) given ≡ first ++ answer ∷ [] = grind (arith, common_steps, c.answer-item.is) in
    let whole : texts (take (at.answer-index + 1) given) ≡ texts first ++ one = ap texts next ∙ texts-append first (answer ∷ []) in
    record {
      output = subst (λ (t : List ℕ). IsOutput start before t (g.K.Sink.taken c.write_if_full.new.sink) c.write_if_full.new.text.items) (sym whole)
          (output_then_written start taken (g.K.Sink.taken c.write_if_full.new.sink) before (texts first ++ one) c.print.new.out.items c.write_if_full.new.text.items all c.if-not-write_if_full.ensures.output);
      failures = search rules;
    }
