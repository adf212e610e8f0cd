use Rattle.imap_types.proofs.KeywordLemmas.{has_keyword_drop_same, has_keyword_drop_other}
use Rattle.std.proofs.Common.{◌∙◌, ap, sym}
use Rattle.imap_types.specs.Keywords.{to_lower_case}
use Rattle.imap_types.proofs.keywords.contains.Goals as goal

pub returns-then-eq_ignore_ascii_case : goal.returns-then-eq_ignore_ascii_case
returns-then-eq_ignore_ascii_case c =
    let t = c.eq_ignore_ascii_case.ensures.test in
    let same = ap to_lower_case c.as_bytes.ensures in
    has_keyword_drop_same c.args.keyword.now c.word-item.result c.args.words.now c.loop-word.word-index c.eq_ignore_ascii_case.result c.loop-word-test.true c.word-item.is
    (λ h. sym same ∙ t.0 h, λ h. t.1 (same ∙ h)) c.if-eq_ignore_ascii_case.true c.loop-word.invariant

pub loop-word-preserved : goal.loop-word-preserved
loop-word-preserved c =
    let t = c.eq_ignore_ascii_case.ensures.test in
    let same = ap to_lower_case c.as_bytes.ensures in
    has_keyword_drop_other c.args.keyword.now c.word-item.result c.args.words.now c.loop-word.word-index c.eq_ignore_ascii_case.result c.loop-word-test.true c.word-item.is
    (λ h. sym same ∙ t.0 h, λ h. t.1 (same ∙ h)) c.if-eq_ignore_ascii_case.false c.loop-word.invariant
