use Rattle.std.proofs.Common.{refl}
use Rattle.mailbox_rows.specs.RowViews.{listed_message}
use Rattle.imap_commands.proofs.KeywordSteps.{row_added, row_passed}
use Rattle.imap_commands.proofs.select_command.add_keywords_at.Goals as goal

pub returns-in-Some : goal.returns-in-Some
returns-in-Some c =
    row_added c.args.rows.now c.args.place (listed_message c.in-Some.row) (listed_message c.in-Some.row).flags.keywords c.args.keywords.now c.add_keywords_of.new.keywords c.add_keywords_of.result
    (c.in-Some.ensures {u = tt}) refl c.add_keywords_of.ensures

pub returns-in-None : goal.returns-in-None
returns-in-None c = row_passed c.args.rows.now c.args.place c.args.keywords.now (c.in-None.ensures {u = tt})
