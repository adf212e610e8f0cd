use Rattle.rev1_connection.proofs.TaggedLemmas.{frame_completes, response_completes}
use Rattle.rev1_connection.proofs.laws.commands_are_completed.Goals as goal

pub returns-clause-frames : goal.returns-clause-frames
returns-clause-frames g c = λ gives old new session frame tag rest text after out e t h.
    frame_completes c.lines_keep_tags.ensures g.P.Port.steps g.P.RenamePort.renames gives c.tags_are_kept.ensures.tagged old new session frame tag rest text after out e t h

pub returns-clause-responses : goal.returns-clause-responses
returns-clause-responses g c = λ gives old new session frame tag text after out e h.
    response_completes c.lines_keep_tags.ensures g.P.Port.steps g.P.RenamePort.renames gives old new session frame tag text after out e h
