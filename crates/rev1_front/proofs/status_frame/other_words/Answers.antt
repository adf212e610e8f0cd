use Rattle.std.proofs.Common.{◌-◌, length, take, drop, refl, arith, length-drop}
use Rattle.std.proofs.lemmas.List.{take_all}
use Rattle.rev1_front.proofs.StatusLemmas.{words_begun, words_last, words_next, words_same}
use Rattle.rev1_front.proofs.status_frame.other_words.Goals as goal

pub loop-end-init : goal.loop-end-init
loop-end-init c = words_begun c.args.text.now c.new.result.items c.new.ensures.items

pub loop-end-preserved-then-text-end-ne32 : goal.loop-end-preserved-then-text-end-ne32
loop-end-preserved-then-text-end-ne32 c =
    words_same c.args.text.now c.loop-end.start c.loop-end.end c.loop-end.others.text.items c.loop-end.others.has_recent c.loop-end.others.is_empty c.loop-end-test.true c.if-text-end-ne32.true c.loop-end.invariant

pub loop-end-preserved : goal.loop-end-preserved
loop-end-preserved c =
    words_next c.args.text.now c.loop-end.start c.loop-end.end (take (c.loop-end.end - c.loop-end.start) (drop c.loop-end.start c.args.text.now)) c.loop-end.others.text.items c.push_word.new.others.text.items
    c.loop-end.others.has_recent c.loop-end.others.is_empty c.push_word.new.others.has_recent c.push_word.new.others.is_empty c.loop-end-test.true c.if-text-end-ne32.false refl c.loop-end.invariant c.in_ok-push_word.ensures

pub returns : goal.returns
returns c =
    let rest = drop c.loop-end.start c.args.text.now in
    let w = take (length c.args.text.now - c.loop-end.start) rest in
    words_last c.args.text.now c.loop-end.start c.loop-end.end w c.loop-end.others.text.items c.push_word-2.new.others.text.items
    c.loop-end.others.has_recent c.loop-end.others.is_empty c.push_word-2.new.others.has_recent c.push_word-2.new.others.is_empty (omega arith)
    (take_all (length c.args.text.now - c.loop-end.start) rest (omega (arith, length-drop c.loop-end.start c.args.text.now))) c.loop-end.invariant c.in_ok-push_word-2.ensures
