use Rattle.std.proofs.Common.{◌≡◌, ◌+◌, ◌++◌, ◌<◌, List, ℕ, length, take, refl, sym, ap, ◌∙◌, append_assoc, append-nil, arith, subst}
use Rattle.std.proofs.lemmas.Grind.{common_steps}
use Rattle.imap_answers.specs.declared.answer.Answer.{Answer}
use Rattle.imap_connection.specs.Batches.{answers_by}
use Rattle.imap_connection.specs.Conversation.{IsPrefixOf}
use Rattle.imap_connection.specs.Replies.{answers_of}
use Rattle.imap_connection.specs.Requests.{texts}
use Rattle.imap_connection.proofs.BatchLemmas.{answers_at, answers_next, no_answers, texts-append}
use Rattle.imap_connection.proofs.batch.print_replies.Goals as goal

pub loop-i-init : goal.loop-i-init
loop-i-init c = sym (append-nil c.args.text.now.items) ∙ ap (λ (x : List ℕ). c.args.text.now.items ++ x) (sym (ap texts (no_answers c.args.tags.now c.args.replies.now)))

pub returns-in-Err-clause-err : goal.returns-in-Err-clause-err
returns-in-Err-clause-err c =
    let tags = c.args.tags.now in
    let replies = c.args.replies.now in
    let first = answers_by tags (take c.loop-i.i replies) in
    let within : c.loop-i.i < length tags = omega (arith, c.loop-i-test.true, c.requires) in
    let at = answers_at tags replies c.loop-i.i c.index-tags-i.result c.index-replies-i.result within c.loop-i-test.true c.index-tags-i.is c.index-replies-i.is in
    let h = c.in-Err.ensures.err in (
      first ++ h.0,
      h.1 ∙ ap (λ (x : List ℕ). x ++ texts h.0) c.loop-i.invariant ∙ append_assoc c.args.text.now.items (texts first) (texts h.0) ∙ ap (λ (x : List ℕ). c.args.text.now.items ++ x) (sym (texts-append first h.0)),
      record {
        whole = c.loop-i.i;
        first = h.0;
        within = c.loop-i-test.true;
        answers_are = refl;
        first_of_reply = subst (λ (xs : List Answer). IsPrefixOf h.0 xs) (sym at) h.2;
      },
    )

pub loop-i-preserved : goal.loop-i-preserved
loop-i-preserved c =
    let tags = c.args.tags.now in
    let replies = c.args.replies.now in
    let first = answers_by tags (take c.loop-i.i replies) in
    let one = answers_of c.index-tags-i.result c.index-replies-i.result in
    let within : c.loop-i.i < length tags = omega (arith, c.loop-i-test.true, c.requires) in
    let next = answers_next tags replies c.loop-i.i c.index-tags-i.result c.index-replies-i.result within c.loop-i-test.true c.index-tags-i.is c.index-replies-i.is in
    c.in-Ok.ensures.ok ∙ ap (λ (x : List ℕ). x ++ texts one) c.loop-i.invariant ∙ append_assoc c.args.text.now.items (texts first) (texts one)
    ∙ ap (λ (x : List ℕ). c.args.text.now.items ++ x) (sym (texts-append first one) ∙ sym (ap texts next))

pub returns-clause-ok : goal.returns-clause-ok
returns-clause-ok c =
    let whole : take c.loop-i.i c.args.replies.now ≡ c.args.replies.now = grind (arith, common_steps, c.loop-i-test.false) in
    c.loop-i.invariant ∙ ap (λ x. c.args.text.now.items ++ texts (answers_by c.args.tags.now x)) whole
