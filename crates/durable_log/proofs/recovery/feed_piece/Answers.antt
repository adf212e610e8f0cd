use Rattle.std.proofs.Common.{◌≡◌, ◌<◌, ◌≤◌, ◌+◌, ◌∙◌, ap, arith, length, take}
use Rattle.durable_log.proofs.LayoutLemmas.{last_piece, more_pieces, piece_fault}
use Rattle.durable_log.proofs.recovery.feed_piece.Goals as goal

pub returns-in-Err-feed-clause-fault : goal.returns-in-Err-feed-clause-fault
returns-in-Err-feed-clause-fault g c = λ replica known h.
    let log = (g.D.LogDevice.state c.args.device.now).contents in
    let is = c.deref.ensures.value ∙ c.in-Ok.ensures.read known in
    c.store_fault_of.ensures replica log (piece_fault c.args.place 1048576 log c.deref.result.now c.in-Err-feed.fault (c.in-Err-feed.ensures.fault replica (take c.args.place log) h) is)

pub returns-then-len-lt-PIECE_OCTETS-clause-read : goal.returns-then-len-lt-PIECE_OCTETS-clause-read
returns-then-len-lt-PIECE_OCTETS-clause-read g c = λ replica known h.
    let log = (g.D.LogDevice.state c.args.device.now).contents in
    let is = c.deref.ensures.value ∙ c.in-Ok.ensures.read known in
    let same : length c.deref.result.now ≡ length c.in-Ok.piece.items = ap length c.deref.ensures.value in
    let short : length c.deref.result.now < 1048576 = omega (arith, same, c.len.ensures, c.in-Ok.piece.ok.0, c.if-len-lt-PIECE_OCTETS.true) in
    last_piece replica c.args.place 1048576 log c.deref.result.now c.feed.new.self (c.in_default.ensures.read replica (take c.args.place log) h) is short

pub returns-in-Some-clause-read : goal.returns-in-Some-clause-read
returns-in-Some-clause-read g c = λ replica known h.
    let log = (g.D.LogDevice.state c.args.device.now).contents in
    let is = c.deref.ensures.value ∙ c.in-Ok.ensures.read known in
    let same : length c.deref.result.now ≡ length c.in-Ok.piece.items = ap length c.deref.ensures.value in
    let long : 1048576 ≤ length c.deref.result.now = omega (arith, same, c.len.ensures, c.in-Ok.piece.ok.0, c.if-len-lt-PIECE_OCTETS.false) in
    let past : c.in-Some.end ≡ c.args.place + length c.deref.result.now = omega (arith, same, c.len-2.ensures, c.in-Ok.piece.ok.0, c.in-Some.ensures) in
    more_pieces replica c.args.place 1048576 c.in-Some.end log c.deref.result.now c.feed.new.self (c.in_default.ensures.read replica (take c.args.place log) h) is long past
