use Rattle.std.proofs.Common.{◌++◌, codes}
use Rattle.imap_answers.specs.AnswerText.{status_texts}
use Rattle.imap_answers.specs.Strings.{name_text, separated_by}
use Rattle.imap_print.proofs.ListsLemmas.{appends_append}
use Rattle.imap_print.proofs.printer.push_status.Goals as goal

pub returns : goal.returns
returns c =
    let second = appends_append c.args.out.now.items _ _ (codes "* STATUS ") (name_text c.args.name.now) c.in_ok-push_text.ensures c.in_ok-push_name.ensures in
    let third = appends_append c.args.out.now.items _ _ (codes "* STATUS " ++ name_text c.args.name.now) (codes " (") second c.in_ok-push_text-2.ensures in
    let fourth = appends_append c.args.out.now.items _ _ (codes "* STATUS " ++ name_text c.args.name.now ++ codes " (") (separated_by 32 (status_texts c.args.items.now)) third c.in_ok-push_status_items.ensures.text in
    appends_append c.args.out.now.items _ _ (codes "* STATUS " ++ name_text c.args.name.now ++ codes " (" ++ separated_by 32 (status_texts c.args.items.now)) (codes ")") fourth c.in_ok-push_text-3.ensures
