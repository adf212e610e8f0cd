use Rattle.std.proofs.Common.{◌∙◌, ◌≡◌, ◌-◌, ap, sym, length, option_map}
use Rattle.std.specs.List.{slice_get}
use Rattle.mailbox_rows.specs.ListedMessage.{ListedMessage}
use Rattle.mailbox_rows.proofs.WindowLemmas.{last_some, last_none}
use Rattle.mailbox_rows.proofs.listing_rows.Rows.last_uid.Goals as goal

pub returns-in-Some : goal.returns-in-Some
returns-in-Some c =
    let rows = c.args.self.now in
    let e : c.args.len - 1 ≡ length rows - 1 = ap (λ n. n - 1) c.requires in
    last_some 0 rows c.in-Some.uid (sym c.in-Some.is ∙ c.uid_at.ensures ∙ ap (λ k. option_map (λ (row : ListedMessage). row.uid) (slice_get rows k)) e)

pub returns-in-None : goal.returns-in-None
returns-in-None c =
    let rows = c.args.self.now in
    let e : c.args.len - 1 ≡ length rows - 1 = ap (λ n. n - 1) c.requires in
    last_none rows (sym c.in-None.is ∙ c.uid_at.ensures ∙ ap (λ k. option_map (λ (row : ListedMessage). row.uid) (slice_get rows k)) e)
