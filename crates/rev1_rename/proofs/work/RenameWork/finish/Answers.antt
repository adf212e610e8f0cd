use Rattle.std.proofs.Common.{◌++◌}
use Rattle.rev1_rename.proofs.CallLemmas.{exchanges_append}
use Rattle.rev1_rename.proofs.TurnLemmas.{created_turn, found_turn, renamed_turn}
use Rattle.rev1_rename.proofs.work.RenameWork.finish.Goals as goal

pub returns-in_err-find_mailboxes-clause-turn : goal.returns-in_err-find_mailboxes-clause-turn
returns-in_err-find_mailboxes-clause-turn g c =
    let find = c.find_mailboxes.ensures in
    let f = find.calls in
    (f.0, f.1, found_turn c.args.self.now c.find_mailboxes.new.self f.0 find.names find.counts f.2 f.3)

pub returns-in_err-create_new-clause-turn : goal.returns-in_err-create_new-clause-turn
returns-in_err-create_new-clause-turn g c =
    let find = c.find_mailboxes.ensures in
    let f = find.calls in
    let create = c.create_new.ensures in
    let k = create.calls in (
      f.0 ++ k.1,
      exchanges_append f.0 k.1 c.args.pass.now c.find_mailboxes.new.pass c.create_new.new.pass f.1 k.2,
      created_turn c.args.self.now c.find_mailboxes.new.self f.0 find.names find.counts f.2 f.3 c.create_new.new.self k.1 create.names create.same k.0 k.3 k.4 k.5,
    )

pub returns-clause-turn : goal.returns-clause-turn
returns-clause-turn g c =
    let find = c.find_mailboxes.ensures in
    let f = find.calls in
    let create = c.create_new.ensures in
    let k = create.calls in
    let rename = c.rename_old.ensures in
    let r = rename.calls in (
      f.0 ++ (k.1 ++ r.1),
      exchanges_append f.0 (k.1 ++ r.1) c.args.pass.now c.find_mailboxes.new.pass c.rename_old.new.pass f.1 (exchanges_append k.1 r.1 c.find_mailboxes.new.pass c.create_new.new.pass c.rename_old.new.pass k.2 r.2),
      renamed_turn c.args.self.now c.find_mailboxes.new.self f.0 find.names find.counts f.2 f.3 c.create_new.new.self k.1 create.names create.same k.0 k.3 k.4 k.5 c.rename_old.new.self r.1 rename.names rename.same r.0 r.3 r.4 r.5,
    )
