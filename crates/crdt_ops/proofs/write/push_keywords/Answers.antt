use Rattle.std.proofs.Common.{ℕ, List, [], ◌∷◌, ◌++◌, take, sym, ap, ◌∙◌, subst}
use Rattle.std.proofs.lemmas.List.{append-nil}
use Rattle.crdt_ops.specs.Text.{HasSpaced, join_fields}
use Rattle.crdt_ops.proofs.PartLemmas.{all_taken}
use Rattle.crdt_ops.proofs.LoopLemmas.{fields_append}
use Rattle.crdt_ops.proofs.TextLemmas.{extends_trans}
use Rattle.crdt_ops.proofs.write.push_keywords.Goals as goal

pub loop-keyword-init : goal.loop-keyword-init
loop-keyword-init c = record {
  spaced = λ before front h. rw (append-nil front) h;
  extended = ([], sym (append-nil c.args.out.now.items));
}

pub loop-keyword-preserved : goal.loop-keyword-preserved
loop-keyword-preserved c =
    let words : List (List ℕ) = c.args.keywords.now in
    let taken = take c.loop-keyword.keyword-index words in
    let more = λ (front : List (List ℕ)). ap (λ word. (front ++ taken) ++ word ∷ []) c.as_bytes.ensures ∙ fields_append front words c.loop-keyword.keyword-index c.keyword-item.result c.loop-keyword-test.true c.keyword-item.is in
    record {
      spaced = λ before front h. subst (λ fields. HasSpaced before c.push_flag.new.out.items fields c.in_ok-is_first.is_first) (more front) (c.in_ok-is_first.ensures.ok before (front ++ taken) (c.loop-keyword.invariant.spaced before front h));
      extended = extends_trans _ _ _ c.loop-keyword.invariant.extended c.in_ok-is_first.ensures.extended;
    }

pub returns-in_err-is_first-clause-extended : goal.returns-in_err-is_first-clause-extended
returns-in_err-is_first-clause-extended c = extends_trans _ _ _ c.loop-keyword.invariant.extended c.push_flag.ensures.extended

pub returns-clause-ok : goal.returns-clause-ok
returns-clause-ok c = λ before front h.
    (c.loop-keyword.invariant.spaced before front h).0 ∙ ap (λ words. before ++ join_fields 32 (front ++ words)) (all_taken c.args.keywords.now c.loop-keyword.keyword-index c.loop-keyword-test.false)

pub returns-clause-extended : goal.returns-clause-extended
returns-clause-extended c = c.loop-keyword.invariant.extended
