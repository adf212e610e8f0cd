use Rattle.op_log.proofs.ReaderLemmas.{grown_added, read_added, unsound_whatever}
use Rattle.op_log.proofs.lines_read.LinesRead.read_line.Goals as goal

pub returns-in-Err-NotAnEntry-clause-fault : goal.returns-in-Err-NotAnEntry-clause-fault
returns-in-Err-NotAnEntry-clause-fault c = λ replica log rest after h cut is_text.
    unsound_whatever replica log rest c.args.text.now after c.args.self.now c.line_fault.result h cut is_text
    (λ entry l e. let z = c.in-Err-NotAnEntry.ensures.only entry l e in absurd cc) c.line_fault.ensures

pub returns-clause-read : goal.returns-clause-read
returns-clause-read c = λ replica log rest after h cut is_text long.
    read_added replica log rest c.args.text.now after c.args.self.now c.add.new.self c.in-Ok.entry c.args.octets c.add.result h cut is_text long c.in-Ok.ensures.sound.0 c.in-Ok.ensures.sound.1
    c.add.ensures.replica c.add.ensures.ops c.add.ensures.all c.add.ensures.committed c.add.ensures.op_count c.add.ensures.synced

pub returns-clause-grows : goal.returns-clause-grows
returns-clause-grows c = λ replica log rest after h cut long.
    grown_added replica log rest c.args.self.now c.add.new.self c.in-Ok.entry c.args.octets c.add.result h c.add.ensures.all c.add.ensures.committed
