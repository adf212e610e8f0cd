use Rattle.std.proofs.Common.{sym, ◌∙◌}
use Rattle.mailbox_rows.proofs.EditLemmas.{slice_get_drop}
use Rattle.mailbox_rows.proofs.pieces.base_item.Goals as goal

pub returns : goal.returns
returns g c = c.copied.ensures ∙ c.get.ensures.value ∙ sym (slice_get_drop c.args.from c.args.base.now.items c.args.more)
