use Rattle.std.proofs.Common.{◌++◌, codes}
use Rattle.imap_answers.specs.Words.{attributes_text}
use Rattle.imap_answers.specs.Strings.{name_text}
use Rattle.imap_print.proofs.ListsLemmas.{appends_append}
use Rattle.imap_print.proofs.printer.push_list.Goals as goal

pub returns : goal.returns
returns c =
    let h1 = rw c.attributes.ensures at c.in_ok-push_text-2.ensures in
    let second = appends_append c.args.out.now.items _ _ (codes "* LIST ") (attributes_text c.args.state c.args.subscribed) c.in_ok-push_text.ensures h1 in
    let third = appends_append c.args.out.now.items _ _ (codes "* LIST " ++ attributes_text c.args.state c.args.subscribed) (codes " \"/\" ") second c.in_ok-push_text-3.ensures in
    appends_append c.args.out.now.items _ _ (codes "* LIST " ++ attributes_text c.args.state c.args.subscribed ++ codes " \"/\" ") (name_text c.args.name.now) third c.in_ok-push_name.ensures
