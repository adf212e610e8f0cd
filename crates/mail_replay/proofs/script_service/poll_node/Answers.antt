use Rattle.std.proofs.Common.{inr, List, ◌++◌, length, take, ap, sym, ◌∙◌}
use Rattle.std.proofs.Math.Seq.{take-length}
use Rattle.mail_replay.specs.Transcript.{transcript}
use Rattle.imap_connection.specs.declared.turn.Turn.{Turn}
use Rattle.mail_replay.proofs.script_service.poll_node.Goals as goal

pub returns-in_err-write_turns-in-Err-clause-memory : goal.returns-in_err-write_turns-in-Err-clause-memory
returns-in_err-write_turns-in-Err-clause-memory c =
    let served = c.in_err-write_turns-in-Err.ensures.err in
    λ e. (c.in-Err.broken.turns.items, served.0, inr (c.poll_turns.new.node.state, (c.in-Err.ensures {u = tt}).err.1), served.1 ∙ ap (λ (ts : List Turn). c.args.printed.now.items ++ transcript c.args.name.now (take served.0 ts)) c.deref-in-Err.ensures.value)

pub returns-in_ok-write_turns-in-Err-clause-memory : goal.returns-in_ok-write_turns-in-Err-clause-memory
returns-in_ok-write_turns-in-Err-clause-memory c =
    let turns = c.in-Err.broken.turns.items in
    λ e. (turns, length turns, inr (c.poll_turns.new.node.state, (c.in-Err.ensures {u = tt}).err.1), c.in_ok-write_turns-in-Err.ensures.ok ∙ ap (λ (ts : List Turn). c.args.printed.now.items ++ transcript c.args.name.now ts) (c.deref-in-Err.ensures.value ∙ sym (take-length turns)))
