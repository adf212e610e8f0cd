use Rattle.std.proofs.Common.{◌≡◌, ◌+◌, ◌<◌, [], ◌∷◌, ◌++◌, length, take, ap, sym, ◌∙◌, arith}
use Rattle.std.proofs.lemmas.List.{flat_map_more, take_more}
use Rattle.std.specs.List.{flat_map}
use Rattle.crdt_ops.specs.DumpLines.{subscription_line}
use Rattle.mail_audit.proofs.dump_state.push_subscriptions.Goals as goal

pub loop-name-preserved : goal.loop-name-preserved
loop-name-preserved c = λ ops made.
    let line = subscription_line ops in
    let i = c.loop-name.name-index in
    let names = c.deref-name-items.result.now in
    let name = c.name-item.result in
    let before = c.args.text.now.items in
    let inside : i < length names = omega arith in
    let next : take (i + 1) names ≡ take i names ++ name ∷ [] = take_more names i name inside ∙ ap (λ n. take i names ++ n ∷ []) (sym c.name-item.is) in
    c.in_ok-push_subscription.ensures ops made ∙ ap (λ text. text ++ line name) (c.loop-name.invariant ops made) ∙ flat_map_more line before (take i names) name
    ∙ ap (λ ns. before ++ flat_map line ns) (sym next)
