use Rattle.std.proofs.Common.{take, refl, rules}
use Rattle.rev1_connection.proofs.ItemConversationLemmas.{underway_closed, underway_ends, underway_first, underway_next, underway_read_failed, underway_write_failed, underway_wrote}
use Rattle.rev1_connection.specs.Handling.{AnswersItem, StopsAt}
use Rattle.rev1_connection.proofs.conversation.answer_all.Goals as goal

pub returns-then-not-write_pending-clause-conversation : goal.returns-then-not-write_pending-clause-conversation
returns-then-not-write_pending-clause-conversation g c =
    let at = c.loop in
    underway_write_failed (AnswersItem g.P.Port.steps g.P.RenamePort.renames) (StopsAt g.P.Port.steps g.P.RenamePort.renames) at.port at.talk.session (g.S.Source.left at.source) (g.K.Sink.taken at.sink) (g.K.Sink.taken c.write_pending.new.sink) at.talk.text.items c.write_pending.new.text.items at.talk.framer.state
    (g.S.Source.is_ended at.source) at.invariant.2 c.if-not-write_pending.ensures.output

pub returns-in_default-clause-conversation : goal.returns-in_default-clause-conversation
returns-in_default-clause-conversation g c =
    let at = c.loop in
    let wrote =
    underway_wrote (AnswersItem g.P.Port.steps g.P.RenamePort.renames) (StopsAt g.P.Port.steps g.P.RenamePort.renames) at.port at.talk.session (g.S.Source.left at.source) (g.K.Sink.taken at.sink) (g.K.Sink.taken c.write_pending.new.sink) at.talk.text.items c.write_pending.new.text.items at.talk.framer.state
    at.invariant.2 c.if-not-write_pending.ensures.output in
    underway_read_failed (AnswersItem g.P.Port.steps g.P.RenamePort.renames) (StopsAt g.P.Port.steps g.P.RenamePort.renames) at.port at.talk.session (g.S.Source.left at.source) (g.S.Source.left c.read.new.self) (g.K.Sink.taken c.write_pending.new.sink) c.write_pending.new.text.items at.talk.framer.state
    (g.S.Source.is_ended c.read.new.self) wrote c.in_default.ensures.same

pub returns-then-count-eq0-clause-conversation : goal.returns-then-count-eq0-clause-conversation
returns-then-count-eq0-clause-conversation g c =
    let at = c.loop in
    let wrote =
    underway_wrote (AnswersItem g.P.Port.steps g.P.RenamePort.renames) (StopsAt g.P.Port.steps g.P.RenamePort.renames) at.port at.talk.session (g.S.Source.left at.source) (g.K.Sink.taken at.sink) (g.K.Sink.taken c.write_pending.new.sink) at.talk.text.items c.write_pending.new.text.items at.talk.framer.state
    at.invariant.2 c.if-not-write_pending.ensures.output in
    underway_closed (AnswersItem g.P.Port.steps g.P.RenamePort.renames) (StopsAt g.P.Port.steps g.P.RenamePort.renames) at.port at.talk.session (g.S.Source.left at.source) (g.S.Source.left c.read.new.self) (g.K.Sink.taken c.write_pending.new.sink) c.write_pending.new.text.items (take c.in-Some-read.count c.read.new.piece)
    at.talk.framer.state (g.S.Source.is_ended c.read.new.self) wrote (search rules) c.in-Some-read.ensures.octets (search rules)

pub returns-in-Err-clause-conversation : goal.returns-in-Err-clause-conversation
returns-in-Err-clause-conversation g c =
    let at = c.loop in
    let wrote =
    underway_wrote (AnswersItem g.P.Port.steps g.P.RenamePort.renames) (StopsAt g.P.Port.steps g.P.RenamePort.renames) at.port at.talk.session (g.S.Source.left at.source) (g.K.Sink.taken at.sink) (g.K.Sink.taken c.write_pending.new.sink) at.talk.text.items c.write_pending.new.text.items at.talk.framer.state
    at.invariant.2 c.if-not-write_pending.ensures.output in
    let new = c.answer_piece.new in
    let o = c.in-Err.ensures.err in
    underway_ends (AnswersItem g.P.Port.steps g.P.RenamePort.renames) (StopsAt g.P.Port.steps g.P.RenamePort.renames) at.port new.port at.talk.session (g.S.Source.left at.source) (g.S.Source.left c.read.new.self) (g.K.Sink.taken c.write_pending.new.sink) (g.K.Sink.taken new.sink)
    c.write_pending.new.text.items new.talk.text.items (take c.in-Some-read.count c.read.new.piece) o.0 at.talk.framer.state c.in-Err.ended (g.S.Source.is_ended c.read.new.self) wrote c.in-Some-read.ensures.octets (rw (← at.invariant.3) o.1) o.2

pub loop-init : goal.loop-init
loop-init g c = (
  tt,
  tt,
  underway_first (AnswersItem g.P.Port.steps g.P.RenamePort.renames) (StopsAt g.P.Port.steps g.P.RenamePort.renames) c.args.talk.now.session c.args.talk.now.framer.state c.requires.framer c.requires.session,
  refl,
  refl,
  refl,
  search rules,
)

pub loop-preserved : goal.loop-preserved
loop-preserved g c =
    let at = c.loop in
    let wrote =
    underway_wrote (AnswersItem g.P.Port.steps g.P.RenamePort.renames) (StopsAt g.P.Port.steps g.P.RenamePort.renames) at.port at.talk.session (g.S.Source.left at.source) (g.K.Sink.taken at.sink) (g.K.Sink.taken c.write_pending.new.sink) at.talk.text.items c.write_pending.new.text.items at.talk.framer.state
    at.invariant.2 c.if-not-write_pending.ensures.output in
    let new = c.answer_piece.new in
    let o = c.in-Ok.ensures.ok in (
      tt,
      tt,
      underway_next (AnswersItem g.P.Port.steps g.P.RenamePort.renames) (StopsAt g.P.Port.steps g.P.RenamePort.renames) at.port new.port at.talk.session new.talk.session (g.S.Source.left at.source) (g.S.Source.left c.read.new.self) (g.K.Sink.taken c.write_pending.new.sink) (g.K.Sink.taken new.sink)
          c.write_pending.new.text.items new.talk.text.items (take c.in-Some-read.count c.read.new.piece) o.0 at.talk.framer.state new.talk.framer.state wrote c.in-Some-read.ensures.octets (rw (← at.invariant.3) o.1) o.2 (rw (← at.invariant.3) c.in-Ok.ensures.state),
      search rules,
      search rules,
      search rules,
      search rules,
    )
