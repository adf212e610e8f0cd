use Rattle.std.proofs.Common.{◌∙◌, sym}
use Rattle.std.specs.Str.{bytes_eq}
use Rattle.imap_types.specs.Keywords.{to_lower_case}
use Rattle.imap_types.proofs.UnionLemmas.{any_united}
use Rattle.imap_types.proofs.versions.Versions.has_keyword.Goals as goal

pub returns : goal.returns
returns c = c.any_has_keyword.ensures ∙ sym (any_united (λ other. bytes_eq (to_lower_case other) (to_lower_case c.args.word.now)) c.args.self.now.list.now)
