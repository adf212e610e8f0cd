use Rattle.std.proofs.Common.{◌≡◌, true, sym, subst, ◌∙◌}
use Rattle.imap_types.specs.Keywords.{AreKeywords, are_keywords}
use Rattle.imap_types.proofs.KeywordLemmas.{keywords_from_test}
use Rattle.imap_types.proofs.keywords.Keywords.new.Goals as goal

pub invariant_of-result : goal.invariant_of-result
invariant_of-result c =
    let e : are_keywords c.deref.result.now ≡ true = sym c.are_keywords.ensures ∙ c.if-are_keywords.true in
    subst AreKeywords (sym c.from.ensures.0) (keywords_from_test _ (rw c.deref.ensures.value at e))
