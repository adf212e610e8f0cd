use Rattle.std.proofs.Common.{◌≡◌, ◌∙◌, ◌++◌, arith, [], length, sym}
use Rattle.std.specs.List.{cons_option}
use Rattle.std.specs.Map.{keys_of}
use Rattle.std.proofs.lemmas.List.{length-map, take_all}
use Rattle.folder_state.proofs.Listing.{take_next_some}
use Rattle.folder_state.proofs.folder.Folder.origins.Goals as goal

pub loop-place-preserved : goal.loop-place-preserved
loop-place-preserved c =
    let all = keys_of c.args.self.now.messages in
    c.in_ok-push_if_some.ensures {u = tt} ∙ (λ k. c.loop-place.invariant k ++ cons_option (c.origin_at.ensures k) []) ∙ sym (take_next_some all c.loop-place.place)

pub returns-clause-origins : goal.returns-clause-origins
returns-clause-origins c =
    let all = keys_of c.args.self.now.messages in
    let count = c.len-place-end.ensures.len in
    let end = c.loop-place-test.false in
    let same : length c.self.inside.messages.entries ≡ length c.args.self.now.messages = λ j. length (c.self.view_is j).messages in
    let long : length all ≡ length c.args.self.now.messages = length-map c.args.self.now.messages (λ e. e.0) in
    c.loop-place.invariant ∙ take_all c.loop-place.place all (omega (arith, count, end, same, long))
