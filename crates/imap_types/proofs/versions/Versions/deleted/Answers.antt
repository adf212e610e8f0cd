use Rattle.std.proofs.Common.{◌∙◌, sym}
use Rattle.imap_types.proofs.UnionLemmas.{any_mapped}
use Rattle.imap_types.proofs.versions.Versions.deleted.Goals as goal

pub returns : goal.returns
returns c = c.any_is_deleted.ensures ∙ sym (any_mapped (λ flags. flags.deleted) c.args.self.now.list.now)
