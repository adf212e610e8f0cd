use Rattle.std.proofs.Common.{take}
use Rattle.log_dump.proofs.EntryOrderLemmas.{applied_next, applied_none, stops_here}
use Rattle.log_dump.proofs.apply.apply_entries.Goals as goal

pub loop-place-init : goal.loop-place-init
loop-place-init c = applied_none c.args.replica c.args.node.now.state c.requires

pub returns-in-Err-CannotFollow : goal.returns-in-Err-CannotFollow
returns-in-Err-CannotFollow c =
    let entries = c.args.entries.now in
    let i = c.loop-place.place in
    stops_here c.args.replica entries i c.index-entries-place.result c.loop-place-test.true c.index-entries-place.is c.loop-place.node.state c.loop-place.invariant
    (c.in-Err-CannotFollow.ensures (take i entries) c.loop-place.invariant.is c.in-Err-CannotFollow.field-0-is)

pub loop-place-preserved : goal.loop-place-preserved
loop-place-preserved c =
    let entries = c.args.entries.now in
    let i = c.loop-place.place in
    let applied = c.in-Ok.ensures (take i entries) c.loop-place.invariant.is in
    applied_next c.args.replica entries i c.index-entries-place.result c.loop-place-test.true c.index-entries-place.is c.loop-place.node.state c.loop-place.invariant c.apply_entry.new.node.state applied.0 applied.1
