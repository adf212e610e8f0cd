use Rattle.std.proofs.Common.{◌∙◌}
use Rattle.std.proofs.lemmas.Result.{on_ok_weaker}
use Rattle.imap_types.proofs.UnionLemmas.{united_added}
use Rattle.imap_types.proofs.versions.Versions.add_keywords_to.Goals as goal

pub returns : goal.returns
returns c =
    on_ok_weaker c.add_version_keywords.result
    (λ h. h ∙ united_added c.args.self.now.list.now c.args.keywords.now c.as_slice-words.ensures.ascending.1)
    c.add_version_keywords.ensures
