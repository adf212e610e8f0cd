use Rattle.imap_types.proofs.UnionLemmas.{united_flags_take}
use Rattle.imap_types.proofs.versions.Versions.flags.Goals as goal

pub loop-version-preserved : goal.loop-version-preserved
loop-version-preserved c =
    united_flags_take c.args.self.now.list.now c.loop-version.union c.add_flags.new.union c.loop-version.version-index c.version-item.result
    c.loop-version-test.true c.version-item.is c.loop-version.invariant c.in_ok-add_flags.ensures
