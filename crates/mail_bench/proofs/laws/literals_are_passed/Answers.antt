use Rattle.mail_bench.proofs.LiteralLemmas as lemmas
use Rattle.mail_bench.proofs.laws.literals_are_passed.Goals as goal

pub returns : goal.returns
returns c = lemmas.literals_are_passed
