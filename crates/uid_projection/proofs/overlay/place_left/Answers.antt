use Rattle.std.proofs.Common.{◌≡◌, ap, sym, subst, ◌∙◌}
use Rattle.crdt_ops.specs.SortedSets.{insert_ordered}
use Rattle.uid_projection.specs.TagChanges.{IsUnchanged, IsPlaced, tag_data_of, by_id, change_of}
use Rattle.uid_projection.proofs.IdLemmas.{element, none_of}
use Rattle.uid_projection.proofs.PlaceLemmas.{left_take_next, left_none, left_one}
use Rattle.uid_projection.proofs.overlay.place_left.Goals.{then-not-contains_key+in_ok-copy+in_ok-place, else-not-contains_key}
use Rattle.uid_projection.proofs.overlay.place_left.Goals as goal

pub loop-version-preserved : goal.loop-version-preserved
loop-version-preserved c =
    let m = c.args.messages.now in
    let o = c.args.origin.now in
    let v = c.version-item.result in
    left_take_next m o c.args.stored.now c.loop-version.version-index v _ c.loop-version.versions.items _ c.loop-version-test.true c.version-item.is c.loop-version.invariant
    (elim c.if-not-contains_key.branch [
      | then-not-contains_key+in_ok-copy+in_ok-place w ↦
          left_one m o v _ _
          (ap (λ vs. vs.items) w.versions-is ∙ w.in_ok-place.ensures {u = tt} ∙ ap (λ z. insert_ordered by_id z c.loop-version.versions.items) (w.in_ok-copy.ensures {u = tt}))
          (none_of (change_of m v.id) (sym c.contains_key.ensures ∙ w.if-not-contains_key.true))
          (c.requires v (element c.args.stored.now c.loop-version.version-index v c.loop-version-test.true c.version-item.is))
      | else-not-contains_key w ↦
          subst (λ vs. IsPlaced (tag_data_of m) o (λ i. IsUnchanged m o i × (i ≡ v.id)) c.loop-version.versions.items vs) (sym (ap (λ vs. vs.items) w.versions-is))
          (left_none m o v c.loop-version.versions.items (sym c.contains_key.ensures ∙ w.if-not-contains_key.false))
    ])
