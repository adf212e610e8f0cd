use Rattle.std.proofs.Common.{◌≡◌, ◌<◌, ◌-◌, ◌∙◌, ℕ, Option, Some, IfOk, IfErr, length, arith, sym, ap, subst}
use Rattle.std.specs.Option.{unwrap_or}
use Rattle.imap_commands.specs.declared.session.Session.{Session}
use Rattle.idle_feed.specs.Feeds.{Pending}
use Rattle.imap_node.specs.Plans.{IsReadyInput}
use Rattle.imap_node.specs.Replays.{view_in}
use Rattle.imap_node.specs.Responses.{IsRefused}
use Rattle.imap_node.specs.SessionFeeds.{IsNotedFor}
use Rattle.imap_node.specs.Sessions.{Places, session_at}
use Rattle.imap_node.proofs.SessionChangeLemmas.{own_session}
use Rattle.imap_node.proofs.plan.prepare_input.Goals as goal
use Rattle.imap_node.proofs.plan.prepare_input.Goals.{In-Some}

-- the session at the place is the one with the number
at_place : (c : In-Some) → session_at c.args.sessions.now c.args.number ≡ Some c.in-Some.session
at_place c =
    let n = c.get-place.result in
    let places = c.sessions.inside.places.items in
    let inside : n - 1 < length places = let a = c.if-place-len.false in let b = c.len.ensures in let k = c.sessions.inside.places.ok.0 in omega (arith, a, b, k) in
    let own = own_session places n c.index_mut.result.now c.get-place.ensures.positive inside c.index_mut.ensures.value in
    sym (sym own ∙ ap (λ (ps : Places). session_at ps n) c.sessions.view_is ∙ ap (λ (m : ℕ). session_at c.args.sessions.now m) c.get-place.ensures.number) ∙ c.in-Some.is

pub prepare-requires : goal.prepare-requires
prepare-requires c =
    record {
      noted = λ view q.
          subst (λ (pending : Pending). IsNotedFor c.args.replica.now.start c.args.replica.now.applied pending view) (sym c.feed_of.ensures)
          (c.requires.noted c.args.number view (ap view_in (at_place c.before.before) ∙ q));
    }

pub returns-clause-ok : goal.returns-clause-ok
returns-clause-ok c = λ s at.
    subst (λ (session : Session). IfOk c.prepare.result (λ p. IsReadyInput c.args.replica.now c.prepare.new.replica session c.args.input.now p))
    (ap (λ (o : Option Session). unwrap_or o c.in-Some.session) (sym (at_place c.before.before.before.before) ∙ at)) c.prepare.ensures.ok

pub returns-clause-err : goal.returns-clause-err
returns-clause-err c = λ s at.
    subst (λ (session : Session). IfErr c.prepare.result (λ why. IsRefused c.args.replica.now.start c.args.replica.now.applied session.state c.args.input.now why))
    (ap (λ (o : Option Session). unwrap_or o c.in-Some.session) (sym (at_place c.before.before.before.before) ∙ at)) c.prepare.ensures.err
