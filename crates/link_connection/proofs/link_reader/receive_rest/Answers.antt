use Rattle.std.proofs.Common.{take, rules}
use Rattle.link_connection.proofs.SourceLemmas.{ended, ended_closed, ended_failed, read_more}
use Rattle.link_connection.proofs.link_reader.receive_rest.Goals as goal

pub returns-in_default-clause-received : goal.returns-in_default-clause-received
returns-in_default-clause-received g c =
    let at = c.loop in
    ended_failed g.R.Receiver.acts (g.S.Source.left c.args.source.now) (g.S.Source.left at.source) (g.S.Source.left c.read.new.self) c.args.framer.now at.framer c.args.receiver.now at.receiver at.invariant.2 c.in_default.ensures.same

pub returns-then-count-eq0-clause-received : goal.returns-then-count-eq0-clause-received
returns-then-count-eq0-clause-received g c =
    let at = c.loop in
    ended_closed g.R.Receiver.acts (g.S.Source.left c.args.source.now) (g.S.Source.left at.source) (g.S.Source.left c.read.new.self) c.args.framer.now at.framer c.args.receiver.now at.receiver
    (take c.in-Some-read.count c.read.new.piece) at.invariant.2 c.in-Some-read.ensures.octets (search rules)

pub returns-in-Err-clause-received : goal.returns-in-Err-clause-received
returns-in-Err-clause-received g c =
    let at = c.loop in
    ended g.R.Receiver.acts (g.S.Source.left c.args.source.now) (g.S.Source.left at.source) (g.S.Source.left c.read.new.self) c.args.framer.now at.framer c.args.receiver.now at.receiver c.receive_piece.new.receiver
    (take c.in-Some-read.count c.read.new.piece) c.in-Err.end at.invariant.2 c.in-Some-read.ensures.octets (λ limits key first stream h. c.in-Err.ensures.received limits key first stream h)

pub loop-preserved : goal.loop-preserved
loop-preserved g c =
    let at = c.loop in (
      tt,
      tt,
      read_more g.R.Receiver.acts (g.S.Source.left c.args.source.now) (g.S.Source.left at.source) (g.S.Source.left c.read.new.self) c.args.framer.now at.framer c.receive_piece.new.framer c.args.receiver.now at.receiver c.receive_piece.new.receiver
          (take c.in-Some-read.count c.read.new.piece) at.invariant.2 c.in-Some-read.ensures.octets (λ limits key first stream h. c.in-Ok.ensures.received limits key first stream h),
      search rules,
      search rules,
    )
