use Rattle.std.proofs.Common.{arith}
use Rattle.mail_bench.proofs.ReplyLemmas.{scan_literal}
use Rattle.mail_bench.proofs.replies.Reading.pass.Goals as goal

pub returns-clause-scan : goal.returns-clause-scan
returns-clause-scan c =
    let scan = scan_literal c.args.octets.now c.args.self.now.line.items c.args.left c.min-count.result (omega arith) (omega arith) (omega arith) in
    cc
