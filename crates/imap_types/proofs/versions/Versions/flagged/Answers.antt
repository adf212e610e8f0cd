use Rattle.std.proofs.Common.{◌∙◌, sym}
use Rattle.imap_types.proofs.UnionLemmas.{any_mapped}
use Rattle.imap_types.proofs.versions.Versions.flagged.Goals as goal

pub returns : goal.returns
returns c = c.any_is_flagged.ensures ∙ sym (any_mapped (λ flags. flags.flagged) c.args.self.now.list.now)
