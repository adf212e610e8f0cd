use Rattle.std.proofs.Common.{◌≡◌, ℕ, List, ◌++◌, ◌∙◌, [], IfErr, IfOk, Option, inl, inr, refl, sym, subst, append-nil}
use Rattle.imap_answers.specs.declared.answer.Answer.{Answer}
use Rattle.imap_connection.specs.declared.end_reason.Ended.{Ended}
use Rattle.rev1_connection.specs.Handling.{EndsBy, FailsSearch, FollowsSearch}
use Rattle.rev1_connection.specs.TakingSteps.{Takes}
use Rattle.rev1_connection.specs.declared.reply_writer.UnshownReply.{UnshownReply}
use Rattle.rev1_connection.proofs.day_steps.search_no_days.Goals as goal

pub returns-in_default-clause-err : goal.returns-in_default-clause-err
returns-in_default-clause-err g c = ([], inr (inr (inr (inl (refl, refl, ([], ([], refl), refl))))), sym (append-nil c.args.text.now.items))

pub returns-clause-ok : goal.returns-clause-ok
returns-clause-ok g c =
    subst (λ (given : List Answer). IfOk c.follow_search.result (λ (u : Option UnshownReply). Takes (FollowsSearch g.P.Port.steps g.P.RenamePort.renames c.args.port.now c.args.session.now.mode c.args.frame.now given) u c.args.text.now.items c.follow_search.new.port c.follow_search.new.session c.follow_search.new.text.items))
    (c.in-Ok.ensures ∙ c.new.ensures.items) c.follow_search.ensures.ok

pub returns-clause-err : goal.returns-clause-err
returns-clause-err g c =
    subst (λ (given : List Answer). IfErr c.follow_search.result (λ (ended : Ended). (x : List ℕ) × EndsBy (FollowsSearch g.P.Port.steps g.P.RenamePort.renames c.args.port.now c.args.session.now.mode c.args.frame.now given) (FailsSearch g.P.Port.steps g.P.RenamePort.renames c.args.port.now c.args.session.now.mode c.args.frame.now given) ended x c.follow_search.new.port × (c.follow_search.new.text.items ≡ c.args.text.now.items ++ x)))
    (c.in-Ok.ensures ∙ c.new.ensures.items) c.follow_search.ensures.err
