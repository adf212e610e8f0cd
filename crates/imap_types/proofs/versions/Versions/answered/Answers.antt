use Rattle.std.proofs.Common.{◌∙◌, sym}
use Rattle.imap_types.proofs.UnionLemmas.{any_mapped}
use Rattle.imap_types.proofs.versions.Versions.answered.Goals as goal

pub returns : goal.returns
returns c = c.any_is_answered.ensures ∙ sym (any_mapped (λ flags. flags.answered) c.args.self.now.list.now)
