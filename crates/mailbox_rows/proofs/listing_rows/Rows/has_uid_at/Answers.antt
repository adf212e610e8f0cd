use Rattle.std.proofs.Common.{Some, ap, sym, ◌∙◌}
use Rattle.mailbox_rows.proofs.WindowLemmas.{uid_listed, same_number}
use Rattle.mailbox_rows.proofs.listing_rows.Rows.has_uid_at.Goals as goal

pub returns-in-Some : goal.returns-in-Some
returns-in-Some c = λ same.
    uid_listed c.args.self.now c.args.place c.args.uid c.len-len.ensures.rising (sym c.uid_at.ensures ∙ c.in-Some.is ∙ ap (λ u. Some u) (same_number c.in-Some.other c.args.uid same))
