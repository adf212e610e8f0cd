use Rattle.std.proofs.Common.{ℕ, ◌++◌, sym, subst}
use Rattle.uid_projection.specs.Listing.{listing}
use Rattle.uid_projection.specs.TouchedMessages.{RowsStayExcept}
use Rattle.imap_node.proofs.change_notes.MailboxSnapshot.before_ops.Goals as goal

pub returns : goal.returns
returns c =
    let start = c.args.replica.now.start in
    let name = c.args.name.now in
    let before = c.args.replica.now.applied in
    record {
      name_is = c.in_ok-copy.ensures {u = tt};
      uidvalidity = c.numbers-uidvalidity.ensures.uidvalidity;
      uidnext = c.numbers-uidvalidity.ensures.uidnext;
      stay = λ a e. subst (λ (n : ℕ). RowsStayExcept c.in_ok-touched_uids.field-0.items n (listing start name before) (listing start name (before ++ c.args.ops.now))) (sym c.numbers-uidvalidity.ensures.uidnext) (c.in_ok-touched_uids.ensures {u = tt} a e);
    }
