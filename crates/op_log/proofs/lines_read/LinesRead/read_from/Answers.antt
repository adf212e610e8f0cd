use Rattle.op_log.proofs.ReaderLemmas.{unread_found}
use Rattle.op_log.proofs.lines_read.LinesRead.read_from.Goals as goal

pub returns-in-Some-clause-read : goal.returns-in-Some-clause-read
returns-in-Some-clause-read c = λ replica log rest h is within.
    c.read_lines.ensures.read replica log (unread_found replica log rest c.args.kept.now c.in-Some.octets.now c.args.self.now c.args.start h is within c.in-Some.ensures)

pub returns-in-Some-clause-grows : goal.returns-in-Some-clause-grows
returns-in-Some-clause-grows c = λ replica log rest h is within.
    c.read_lines.ensures.grows replica log (unread_found replica log rest c.args.kept.now c.in-Some.octets.now c.args.self.now c.args.start h is within c.in-Some.ensures)

pub returns-in-Some-clause-fault : goal.returns-in-Some-clause-fault
returns-in-Some-clause-fault c = λ replica log rest h is within.
    c.read_lines.ensures.fault replica log (unread_found replica log rest c.args.kept.now c.in-Some.octets.now c.args.self.now c.args.start h is within c.in-Some.ensures)
