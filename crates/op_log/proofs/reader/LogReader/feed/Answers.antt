use Rattle.std.proofs.Common.{refl}
use Rattle.op_log.proofs.ReaderLemmas.{fed_more, read_no_more}
use Rattle.op_log.proofs.reader.LogReader.feed.Goals as goal

pub returns-then-not-reads_on-clause-read : goal.returns-then-not-reads_on-clause-read
returns-then-not-reads_on-clause-read c = λ replica log h.
    read_no_more replica log c.args.piece.now c.args.self.now _ h c.in-Ok.ensures.items refl refl refl (c.if-not-reads_on.ensures refl)

pub returns-in-Ok-read_lines-clause-read : goal.returns-in-Ok-read_lines-clause-read
returns-in-Ok-read_lines-clause-read c = λ replica log h.
    let fed = fed_more replica log c.args.piece.now c.args.self.now _ h c.in-Ok.ensures.items refl refl in
    c.drop_front.ensures.read replica _ (c.in-Ok-read_lines.ensures.read replica _ _ fed)

pub returns-in-Err-clause-fault : goal.returns-in-Err-clause-fault
returns-in-Err-clause-fault c = λ replica log h.
    c.in-Err.ensures.fault replica _ _ (fed_more replica log c.args.piece.now c.args.self.now _ h c.in-Ok.ensures.items refl refl)
