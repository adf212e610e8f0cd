use Rattle.std.proofs.Common.{◌≡◌, ◌+◌, ◌<◌, [], ◌∷◌, ◌++◌, length, take, ap, sym, ◌∙◌, arith}
use Rattle.std.proofs.lemmas.List.{flat_map_more, take_more}
use Rattle.std.specs.List.{flat_map}
use Rattle.crdt_ops.specs.DumpLines.{subscription_line}
use Rattle.imap_connection.proofs.dump.push_subscriptions.Goals as goal

pub loop-name-preserved : goal.loop-name-preserved
loop-name-preserved c =
    let line = subscription_line c.args.replica.now.applied in
    let i = c.loop-name.name-index in
    let folders = c.deref-name-items.result.now in
    let folder = c.name-item.result in
    let before = c.args.text.now.items in
    let inside : i < length folders = omega arith in
    let next : take (i + 1) folders ≡ take i folders ++ folder ∷ [] = take_more folders i folder inside ∙ ap (λ f. take i folders ++ f ∷ []) (sym c.name-item.is) in
    c.in_ok-push_subscription.ensures {u = tt} ∙ ap (λ text. text ++ line folder) c.loop-name.invariant ∙ flat_map_more line before (take i folders) folder
    ∙ ap (λ fs. before ++ flat_map line fs) (sym next)
