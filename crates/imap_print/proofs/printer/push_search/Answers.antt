use Rattle.std.proofs.Common.{◌++◌, codes}
use Rattle.imap_answers.specs.AnswerText.{results_text, uid_label}
use Rattle.imap_print.proofs.ListsLemmas.{appends_append}
use Rattle.imap_print.proofs.printer.push_search.Goals as goal

pub returns : goal.returns
returns c =
    let h1 = rw c.as_bytes.ensures at c.in_ok-push_text-2.ensures in
    let h2 = rw c.uid_label.ensures at c.in_ok-push_text-3.ensures in
    let second = appends_append c.args.out.now.items _ _ (codes "* ESEARCH (TAG \"") (c.args.tag.now) c.in_ok-push_text.ensures h1 in
    let third = appends_append c.args.out.now.items _ _ (codes "* ESEARCH (TAG \"" ++ c.args.tag.now) (uid_label c.args.by_uid) second h2 in
    appends_append c.args.out.now.items _ _ (codes "* ESEARCH (TAG \"" ++ c.args.tag.now ++ uid_label c.args.by_uid) (results_text c.args.results.now) third c.in_ok-push_results.ensures
