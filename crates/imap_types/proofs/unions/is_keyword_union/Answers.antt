use Rattle.std.proofs.Common.{◌∙◌, sym, subst}
use Rattle.std.proofs.lemmas.Bool.{false≢true}
use Rattle.imap_types.specs.Ascending.{AreAscending}
use Rattle.imap_types.proofs.UnionLemmas.{same_from_tests, tests_from_same}
use Rattle.imap_types.proofs.unions.is_keyword_union.Goals as goal

pub returns-then-all_are_within : goal.returns-then-all_are_within
returns-then-all_are_within c =
    let vs = c.args.versions.now in
    let words = c.as_slice-words.result.now in
    let value = c.as_slice-words.ensures.value in (
      λ h. same_from_tests vs words (subst AreAscending (sym value) c.as_slice-words.ensures.ascending.1) (sym c.all_are_within.ensures ∙ c.if-all_are_within.true) (sym c.each_is_in_a_version.ensures ∙ h) ∙ value,
      λ e. c.each_is_in_a_version.ensures ∙ (tests_from_same vs words (e ∙ sym value)).1,
    )

pub returns-else-all_are_within : goal.returns-else-all_are_within
returns-else-all_are_within c = (
  λ h. absurd (false≢true (sym c.if-all_are_within.false ∙ h)),
  λ e. c.all_are_within.ensures ∙ (tests_from_same c.args.versions.now c.as_slice-words.result.now (e ∙ sym c.as_slice-words.ensures.value)).0,
)
