use Rattle.std.proofs.Common.{◌≡◌, ◌<◌, drop}
use Rattle.mail_bench.specs.Answers.{number_from}
use Rattle.mail_bench.proofs.answers.number_of_digits.Given as goal

abbrev pub invariant-loop-digit : goal.invariant-loop-digit
invariant-loop-digit l =
    record {
      spelled : number_from l.number (drop l.digit-index l.digits) ≡ number_from 0 l.digits;
      fits : l.number < 4294967296;
    }
