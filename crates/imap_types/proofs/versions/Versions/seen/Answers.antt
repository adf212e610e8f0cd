use Rattle.std.proofs.Common.{◌∙◌, sym}
use Rattle.imap_types.proofs.UnionLemmas.{any_mapped}
use Rattle.imap_types.proofs.versions.Versions.seen.Goals as goal

pub returns : goal.returns
returns c = c.any_is_seen.ensures ∙ sym (any_mapped (λ flags. flags.seen) c.args.self.now.list.now)
