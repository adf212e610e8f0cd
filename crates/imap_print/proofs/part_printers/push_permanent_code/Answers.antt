use Rattle.std.proofs.Common.{◌++◌, codes}
use Rattle.imap_answers.specs.AnswerText.{permanent_text}
use Rattle.imap_print.proofs.ListsLemmas.{appends_append}
use Rattle.imap_print.proofs.part_printers.push_permanent_code.Goals as goal

pub returns : goal.returns
returns c =
    let second = appends_append c.args.out.now.items _ _ (codes "[PERMANENTFLAGS ") (permanent_text c.args.flags.now) c.in_ok-push_text.ensures c.in_ok-push_permanent_flags.ensures in
    appends_append c.args.out.now.items _ _ (codes "[PERMANENTFLAGS " ++ permanent_text c.args.flags.now) (codes "]") second c.in_ok-push_text-2.ensures
