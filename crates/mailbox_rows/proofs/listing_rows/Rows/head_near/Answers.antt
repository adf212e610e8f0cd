use Rattle.std.proofs.Common.{ap, option_map, sym, ◌∙◌}
use Rattle.mailbox_rows.specs.RowViews.{listed_head}
use Rattle.mailbox_rows.proofs.WindowLemmas.{head_listed}
use Rattle.mailbox_rows.proofs.listing_rows.Rows.head_near.Goals as goal

pub returns-then-head-uid : goal.returns-then-head-uid
returns-then-head-uid c =
    head_listed c.args.self.now c.args.place c.args.uid (listed_head c.in-Some.head) c.len-len.ensures.rising (sym (ap (option_map listed_head) c.in-Some.is) ∙ c.head_at.ensures) c.if-head-uid.true
