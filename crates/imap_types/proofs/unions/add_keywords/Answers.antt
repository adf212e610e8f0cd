use Rattle.std.proofs.Common.{ℕ, List, ◌+◌, take, sym, subst, ap, ◌∙◌}
use Rattle.std.specs.List.{fold}
use Rattle.imap_types.specs.Keywords.{AreKeywords, to_lower_case, with_word}
use Rattle.imap_types.proofs.WordLemmas.{union_step}
use Rattle.imap_types.proofs.unions.add_keywords.Goals as goal

pub loop-word-preserved : goal.loop-word-preserved
loop-word-preserved c =
    let words : List (List ℕ) = c.as_slice-word-items.result.now in
    let same = c.as_slice-word-items.ensures.value in
    union_step words c.args.union.now c.loop-word.union c.insert.new.self c.loop-word.word-index c.word-item.result
    (subst AreKeywords (sym same) c.as_slice-word-items.ensures.ascending) c.loop-word-test.true c.word-item.is
    (c.loop-word.invariant ∙ ap (λ ws. fold (λ done word. with_word word done) c.args.union.now (take c.loop-word.word-index ws)) (sym same))
    (c.in_ok-insert.ensures.ok ∙ ap (λ word. with_word (to_lower_case word) c.loop-word.union) c.as_bytes.ensures)
    ∙ ap (λ ws. fold (λ done word. with_word word done) c.args.union.now (take (c.loop-word.word-index + 1) ws)) same
