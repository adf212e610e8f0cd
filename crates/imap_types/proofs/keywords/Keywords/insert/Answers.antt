use Rattle.std.proofs.Common.{◌≡◌, ◌∙◌, sym, ap, subst}
use Rattle.std.specs.List.{insert}
use Rattle.imap_types.specs.Keywords.{AreKeywords, to_lower_case, with_word}
use Rattle.imap_types.proofs.KeywordLemmas.{keywords_with}
use Rattle.imap_types.proofs.keywords.Keywords.insert.Goals as goal

pub invariant_of-self : goal.invariant_of-self
invariant_of-self c =
    let old = c.self.inside.words.items in
    let word : c.as_bytes.result.now ≡ to_lower_case c.args.keyword.now = c.as_bytes.ensures ∙ c.in_ok-word.ensures in
    let slice : c.as_slice.result.now ≡ old = c.as_slice.ensures.value ∙ sym c.self.view_is in
    let new : c.insert.new.self.items ≡ with_word (to_lower_case c.args.keyword.now) old =
    c.in_ok-insert.ensures.ok
    ∙ ap (insert old c.in-Err.place) (c.in_ok-word.ensures ∙ sym word)
    ∙ ap (λ xs. insert xs c.in-Err.place c.as_bytes.result.now) (sym slice)
    ∙ sym c.in-Err.ensures.absent.1
    ∙ ap (with_word c.as_bytes.result.now) slice
    ∙ ap (λ w. with_word w old) word in
    subst AreKeywords (sym new) (keywords_with c.args.keyword.now old c.self.invariant)
