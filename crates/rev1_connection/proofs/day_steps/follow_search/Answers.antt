use Rattle.std.proofs.Common.{◌≡◌, List, ◌++◌, ◌∙◌, [], Some, inl, inr, ap, refl, sym, subst, append-nil, append_assoc}
use Rattle.std.specs.List.{flat_map}
use Rattle.imap_answers.specs.declared.answer.Answer.{Answer}
use Rattle.rev1_front.specs.ClientFrames.{IsCommandFrame}
use Rattle.rev1_front.specs.SentDays.{sent_days}
use Rattle.rev1_front.specs.Showing.{IsFrontOf}
use Rattle.rev1_connection.specs.FrontRequests.{request_of}
use Rattle.rev1_connection.specs.Handling.{FailsCall, FollowsSearch, HandlesCall, StopsBy}
use Rattle.rev1_connection.specs.ShownReplies.{news_text}
use Rattle.rev1_connection.specs.TakingSteps.{Takes}
use Rattle.rev1_connection.specs.declared.request.FrontRequest.{FrontRequest}
use Rattle.rev1_connection.proofs.HandlingLemmas.{err_map, ok_map, takes_after}
use Rattle.rev1_connection.proofs.RequestLemmas.{search_ends}
use Rattle.rev1_connection.proofs.day_steps.follow_search.Goals as goal

pub returns-in-Err-clause-err : goal.returns-in-Err-clause-err
returns-in-Err-clause-err g c =
    let o = c.in-Err.ensures.err in
    (flat_map news_text o.0, inr (inr (inr (inl (refl, refl, (o.0, subst (λ (all : List Answer). IsFrontOf o.0 all) c.as_slice.ensures o.1, refl))))), o.2)

pub returns-in-Err-dated-clause-err : goal.returns-in-Err-dated-clause-err
returns-in-Err-dated-clause-err g c =
    let given = c.args.answers in
    let news : c.show_all_news.new.text.items ≡ c.args.text.now.items ++ flat_map news_text given = c.in-Ok.ensures.ok ∙ ap (λ (all : List Answer). c.args.text.now.items ++ flat_map news_text all) c.as_slice.ensures in
    (flat_map news_text given, inr (inr (inr (inl (refl, refl, (given, ([], sym (append-nil given)), refl))))), news)

pub returns-in-Ok-dated-clause-ok : goal.returns-in-Ok-dated-clause-ok
returns-in-Ok-dated-clause-ok g c =
    let p = c.args.port.now in
    let mode = c.args.session.now.mode in
    let given = c.args.answers in
    let frame = c.args.frame.now in
    let d = c.in-Ok-dated.ensures in
    let taken : IsCommandFrame mode (Some (sent_days given)) frame d.0 = subst (λ (all : List Answer). IsCommandFrame mode (Some (sent_days all)) frame d.0) c.as_slice-2.ensures d.1 in
    let new = c.take_call.new in
    let mid = c.show_all_news.new.text.items in
    let news : mid ≡ c.args.text.now.items ++ flat_map news_text given = c.in-Ok.ensures.ok ∙ ap (λ (all : List Answer). c.args.text.now.items ++ flat_map news_text all) c.as_slice.ensures in
    let first = HandlesCall g.P.Port.steps g.P.RenamePort.renames p mode in
    let other = FollowsSearch g.P.Port.steps g.P.RenamePort.renames p mode frame given in
    ok_map c.take_call.result c.take_call.ensures.ok (λ u t.
    takes_after (first (request_of d.0)) other u (flat_map news_text given) c.args.text.now.items mid new.text.items new.port new.session news (λ whole text out k. (d.0, text, taken, k, refl))
    (subst (λ (r : FrontRequest). Takes (first r) u mid new.port new.session new.text.items) d.2 t))

pub returns-in-Ok-dated-clause-err : goal.returns-in-Ok-dated-clause-err
returns-in-Ok-dated-clause-err g c =
    let p = c.args.port.now in
    let mode = c.args.session.now.mode in
    let given = c.args.answers in
    let frame = c.args.frame.now in
    let d = c.in-Ok-dated.ensures in
    let taken : IsCommandFrame mode (Some (sent_days given)) frame d.0 = subst (λ (all : List Answer). IsCommandFrame mode (Some (sent_days all)) frame d.0) c.as_slice-2.ensures d.1 in
    let new = c.take_call.new in
    let text = c.args.text.now.items in
    let news : c.show_all_news.new.text.items ≡ text ++ flat_map news_text given = c.in-Ok.ensures.ok ∙ ap (λ (all : List Answer). text ++ flat_map news_text all) c.as_slice.ensures in
    let steps = g.P.Port.steps in
    let renames = g.P.RenamePort.renames in
    err_map c.take_call.result c.take_call.ensures.err (λ ended o. (
      flat_map news_text given ++ o.0,
      search_ends steps renames p new.port mode frame given d.0 ended o.0 taken (subst (λ (r : FrontRequest). StopsBy (HandlesCall steps renames p mode r) (FailsCall steps renames p r) p ended o.0 new.port) d.2 o.1),
      o.2 ∙ ap (λ t. t ++ o.0) news ∙ append_assoc text (flat_map news_text given) o.0,
    ))
