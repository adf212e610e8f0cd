use Rattle.std.proofs.Common.{List, ap, ◌∙◌}
use Rattle.mailbox_rows.specs.ListedMessage.{ListedMessage}
use Rattle.imap_query.specs.FetchCommand.{fetch_answers}
use Rattle.imap_query.proofs.ChangedLemmas.{changed_alike, if_ok}
use Rattle.imap_query.proofs.fetch_command.fetch_unchanged.Goals as goal

pub returns-in_ok-changed-in-Some : goal.returns-in_ok-changed-in-Some
returns-in_ok-changed-in-Some c =
    let items = c.args.items.now in
    let mode = c.args.mode in
    let rows = c.args.rows.now in
    let named = c.args.named.now in
    if_ok c.fetch_in-in-Some.result
    (λ answers is. is ∙ ap (λ (changed : List ListedMessage). fetch_answers items mode changed changed named) (c.in_ok-changed-in-Some.ensures {u = tt}) ∙ changed_alike items mode c.in-Some.modseq rows named c.in-Some.is c.count-count.ensures.rising)
    c.fetch_in-in-Some.ensures
