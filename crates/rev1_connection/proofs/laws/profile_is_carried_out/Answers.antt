use Rattle.rev1_connection.proofs.LawLemmas.{untouched}
use Rattle.rev1_connection.proofs.laws.profile_is_carried_out.Goals as goal

pub returns : goal.returns
returns g c = λ old new frame text tagged after out s h.
    untouched g.P.Port.steps g.P.RenamePort.renames c.profile_is_untouched.ensures.frames c.profile_is_untouched.ensures.answers old new frame text tagged after out s h
