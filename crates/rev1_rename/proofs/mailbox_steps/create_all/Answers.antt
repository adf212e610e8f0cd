use Rattle.std.proofs.Common.{◌+◌, ◌∷◌, ◌++◌, [], ap, refl, sym, subst, take}
use Rattle.imap_syntax.specs.declared.command.Command.TheVariants as commands
use Rattle.rev1_rename.specs.Steps.{AreCreations, done}
use Rattle.rev1_rename.proofs.CallLemmas.{at_most_deletes_nothing, at_most_moves_nothing, exchanges_append, given_any, given_ok}
use Rattle.rev1_rename.proofs.PartLemmas.{creations_more}
use Rattle.rev1_rename.proofs.mailbox_steps.create_all.Goals as goal

pub returns-in_err-reply-clause-calls : goal.returns-in_err-reply-clause-calls
returns-in_err-reply-clause-calls g c =
    let at = c.loop-mailbox.invariant in
    let command = commands.Create c.in_ok-name.name in
    let given = given_any command c.give.result c.loop-mailbox.pass c.give.new.pass c.give.ensures in (
      at.calls.0,
      given.0,
      exchanges_append at.calls.0 given.0 c.args.pass.now c.loop-mailbox.pass c.give.new.pass at.calls.1 given.1,
      subst (λ count. AreCreations (take count c.args.mailboxes.now) at.calls.0) (sym at.count) at.calls.2,
      at_most_deletes_nothing command given.0 refl given.2,
      at_most_moves_nothing command given.0 refl given.2,
    )

pub loop-mailbox-preserved : goal.loop-mailbox-preserved
loop-mailbox-preserved g c =
    let at = c.loop-mailbox.invariant in
    let command = commands.Create c.in_ok-name.name in
    let call = done command c.in_ok-reply.reply in
    record {
      count = ap (λ n. n + 1) at.count;
      calls = (
        at.calls.0 ++ call ∷ [],
        exchanges_append at.calls.0 (call ∷ []) c.args.pass.now c.loop-mailbox.pass c.give.new.pass at.calls.1 (given_ok command c.in_ok-reply.reply c.loop-mailbox.pass c.give.new.pass c.in_ok-reply.ensures.1),
        creations_more c.args.mailboxes.now at.calls.0 c.loop-mailbox.mailbox-index c.mailbox-item.result c.in_ok-name.name c.in_ok-reply.reply c.loop-mailbox-test.true c.mailbox-item.is c.in_ok-name.ensures at.calls.2 c.in_ok-reply.ensures.0,
      );
    }
