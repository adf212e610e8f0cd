use Rattle.std.proofs.Common.{arith}
use Rattle.clap.specs.Words.{found_of}
use Rattle.mail_bench.proofs.WordLemmas.{amount_is}
use Rattle.mail_bench.proofs.settings.amount_in.Goals as goal

pub returns-in-Some : goal.returns-in-Some
returns-in-Some c =
    amount_is (found_of c.args.matches.now) c.args.word.now c.get_one.result c.args.usual c.args.most c.in-Some.number c.min.result c.get_one.ensures.none c.in-Some.is
    (omega arith) (omega arith)
