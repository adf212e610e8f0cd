use Rattle.std.proofs.Common.{ap, ◌∙◌}
use Rattle.imap_types.specs.Keywords.{is_lower_case}
use Rattle.crdt_ops.proofs.PartLemmas.{lowered_all}
use Rattle.crdt_ops.proofs.flags.is_lower_case.Goals as goal

pub returns : goal.returns
returns c = c.has_no_capitals.ensures ∙ lowered_all c.as_bytes.result.now ∙ ap is_lower_case c.as_bytes.ensures
