use Rattle.std.proofs.Common.{◌≡◌, ◌∙◌, ap, arith, drop, length, sym, true}
use Rattle.std.proofs.lemmas.Grind.{common_steps}
use Rattle.imap_query.specs.PatternRows.{answer_after, is_unset, last_of}
use Rattle.imap_query.proofs.RowLemmas.{answer_after_match, unset_never}
use Rattle.imap_query.proofs.pattern.is_match.Goals as goal

pub returns-then-is_unset : goal.returns-then-is_unset
returns-then-is_unset c =
    let unset : is_unset c.loop-octet.first c.loop-octet.row.items ≡ true = ap (is_unset c.loop-octet.first) (sym c.deref.ensures.value) ∙ sym c.is_unset.ensures ∙ c.if-is_unset.true in
    let lengths : length c.in_ok-row.row.items ≡ length c.args.name.now = grind (arith, common_steps) in
    sym (unset_never (drop c.loop-octet.octet-index c.args.pattern.now) c.args.name.now c.loop-octet.first c.loop-octet.row.items unset c.loop-octet.invariant.lengths)
    ∙ c.loop-octet.invariant.answer
    ∙ answer_after_match c.args.pattern.now c.args.name.now c.in_ok-row.row.items (c.in_ok-row.ensures.items_if_clones_equal (λ y same. same)) lengths

pub returns : goal.returns
returns c =
    let read : last_of c.loop-octet.first c.loop-octet.row.items ≡ answer_after c.args.pattern.now true c.in_ok-row.row.items c.args.name.now = grind (arith, common_steps) in
    let lengths : length c.in_ok-row.row.items ≡ length c.args.name.now = grind (arith, common_steps) in
    c.last_of.ensures
    ∙ ap (last_of c.loop-octet.first) c.deref-2.ensures.value
    ∙ read
    ∙ answer_after_match c.args.pattern.now c.args.name.now c.in_ok-row.row.items (c.in_ok-row.ensures.items_if_clones_equal (λ y same. same)) lengths
