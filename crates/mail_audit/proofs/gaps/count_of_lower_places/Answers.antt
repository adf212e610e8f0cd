use Rattle.std.proofs.Common.{ltb, rules}
use Rattle.std.proofs.lemmas.Fn.{always_returns_same}
use Rattle.std.proofs.lemmas.List.Sorted.{IsPartitionedBy-ltb}
use Rattle.mail_audit.specs.declared.slots.KnownUid.{KnownUid}
use Rattle.mail_audit.proofs.KnownUidLemmas.{places_ordered}
use Rattle.mail_audit.proofs.gaps.count_of_lower_places.Goals as goal

pub returns-clause-parts : goal.returns-clause-parts
returns-clause-parts c =
    let parts_around = IsPartitionedBy-ltb (λ (t : KnownUid). t.place) _ c.args.place (places_ordered 0 c.args.entries.now c.requires.0 c.requires.1) in
    let point = c.partition_point.ensures.point (λ i t. ltb t.place c.args.place) (always_returns_same _ _ _ (λ a r f called. search rules)) parts_around in
    (λ k d from below. point.pass k d below, λ k d from below. point.fail k d from below)
