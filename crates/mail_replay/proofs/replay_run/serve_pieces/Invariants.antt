use Rattle.std.proofs.Common.{◌≡◌, ◌≤◌, ◌+◌, ◌*◌, None, length}
use Rattle.mail_script.specs.Reading.{cut_at}
use Rattle.mail_replay.specs.ScriptState.{script_contents_of}
use Rattle.mail_replay.proofs.ReplayLemmas.{HasRead}
use Rattle.mail_replay.proofs.replay_run.serve_pieces.Given as goal

abbrev pub invariant-loop-read : goal.invariant-loop-read
invariant-loop-read g l =
    let left = g.R.Read.remaining in
    let held = g.W.Write.contents in
    record {
      fits : l.progress.served + length l.progress.lines ≤ 65536 * l._read;
      piece : length l.piece ≡ 65536;
      rest : cut_at 10 l.progress.lines ≡ None;
      has_read : HasRead (left l.fn.reader) (held l.fn.writer) (left l.reader) (held l.writer) (script_contents_of l.progress.setup) l.progress.served l.progress.lines;
    }
