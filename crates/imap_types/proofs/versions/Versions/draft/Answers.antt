use Rattle.std.proofs.Common.{◌∙◌, sym}
use Rattle.imap_types.proofs.UnionLemmas.{any_mapped}
use Rattle.imap_types.proofs.versions.Versions.draft.Goals as goal

pub returns : goal.returns
returns c = c.any_is_draft.ensures ∙ sym (any_mapped (λ flags. flags.draft) c.args.self.now.list.now)
