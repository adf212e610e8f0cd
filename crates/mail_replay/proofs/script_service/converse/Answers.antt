use Rattle.std.proofs.Common.{inr, List, ◌++◌, length, ap, sym, ◌∙◌}
use Rattle.std.proofs.Math.Seq.{take-length}
use Rattle.mail_replay.specs.Transcript.{transcript}
use Rattle.imap_connection.specs.declared.turn.Turn.{Turn}
use Rattle.mail_replay.proofs.script_service.converse.Goals as goal

pub returns-in-Framing-NoMemory-clause-memory : goal.returns-in-Framing-NoMemory-clause-memory
returns-in-Framing-NoMemory-clause-memory c =
    let turns = c.in-Err.fault.turns.items in
    λ e. (turns, length turns, inr (c.in-Err.fault.why, c.talk.new.node.state, (c.in-Err.ensures {u = tt}).err), c.in_ok-write_turns-in-Err.ensures.ok ∙ ap (λ (ts : List Turn). c.args.printed.now.items ++ transcript c.args.name.now ts) (c.deref-in-Err.ensures.value ∙ sym (take-length turns)))
