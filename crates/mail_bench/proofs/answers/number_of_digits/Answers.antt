use Rattle.std.proofs.Common.{◌≡◌, ◌∙◌, arith, sym, ap}
use Rattle.std.proofs.lemmas.List.{drop_all}
use Rattle.mail_bench.specs.Answers.{number_from}
use Rattle.mail_bench.proofs.answers.number_of_digits.Goals as goal

pub returns : goal.returns
returns c =
    let whole : number_from 0 c.args.digits.now ≡ c.loop-digit.number =
    sym c.loop-digit.invariant.spelled ∙ ap (number_from c.loop-digit.number) (drop_all c.loop-digit.digit-index c.args.digits.now (omega arith)) in
    let fits = c.loop-digit.invariant.fits in
    (omega arith, sym whole)
