use Rattle.std.proofs.Common.{◌≡◌, ◌++◌, IfOk, sym, subst}
use Rattle.uid_projection.specs.declared.first_numbers.Counters.{Counters}
use Rattle.uid_projection.specs.Incarnations.{uidvalidity_of}
use Rattle.uid_projection.specs.UidsAndModSeqs.{uidnext_of}
use Rattle.uid_projection.specs.Listing.{listing}
use Rattle.uid_projection.specs.TouchedMessages.{RowsStayExcept}
use Rattle.imap_node.proofs.replica.ReplicaState.touched_uids.Goals as goal

pub returns : goal.returns
returns c = λ a e.
    let name = c.args.name.now in
    let before = c.args.self.now.applied in
    let after = before ++ c.args.ops.now in
    subst (λ (start : Counters). IfOk c.touched_uids.result (λ uids. RowsStayExcept uids.items (uidnext_of start name before) (listing start name before) (listing start name after))) c.charts_now.ensures.start
    (c.touched_uids.ensures before c.charts_now.ensures.follows a (subst (λ (start : Counters). uidvalidity_of start name after ≡ uidvalidity_of start name before) (sym c.charts_now.ensures.start) e))
