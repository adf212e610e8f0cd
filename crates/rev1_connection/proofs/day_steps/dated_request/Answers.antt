use Rattle.std.proofs.Common.{List, Some, ◌∙◌, subst}
use Rattle.rev1_front.specs.ClientFrames.{IsCommandFrame}
use Rattle.rev1_front.specs.declared.search_days.SentDay.{SentDay}
use Rattle.rev1_connection.proofs.day_steps.dated_request.Goals as goal

pub returns : goal.returns
returns c =
    let it = c.in_ok-taken.taken in
    (it, subst (λ (days : List SentDay). IsCommandFrame c.args.mode (Some days) c.args.frame.now it) (c.deref.ensures.value ∙ c.in_ok-days.ensures) c.in_ok-taken.ensures, c.request_of.ensures)
