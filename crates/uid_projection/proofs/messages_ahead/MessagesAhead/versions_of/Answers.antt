use Rattle.std.proofs.Common.{subst}
use Rattle.merge_laws.specs.Orders.{IsIn}
use Rattle.uid_projection.specs.TagChanges.{IsUnchanged, IsPlaced, IsAdded, tag_data_of, ids_listed}
use Rattle.uid_projection.proofs.PlaceLemmas.{all_placed}
use Rattle.uid_projection.proofs.messages_ahead.MessagesAhead.versions_of.Goals as goal

pub returns : goal.returns
returns c = λ whole.
    let m = c.args.self.now in
    let o = c.args.origin.now in
    all_placed m o c.place_stored.new.versions.items _ whole
    (subst (λ vs. IsPlaced (tag_data_of m) o (IsUnchanged m o) vs c.place_stored.new.versions.items) c.new-versions.ensures.items (c.in_ok-place_stored.ensures {u = tt}))
    (subst (λ x. IsPlaced (tag_data_of m) o (λ i. IsAdded m o i × IsIn i (ids_listed x)) c.place_stored.new.versions.items c.place_listed.new.versions.items) c.get.ensures.value (c.in_ok-place_listed.ensures {u = tt}))
