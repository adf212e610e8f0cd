use Rattle.std.proofs.Common.{arith}
use Rattle.rev1_front.proofs.DayLemmas.{four_digits, last_century, three_digits}
use Rattle.rev1_front.proofs.search_days.full_year.Goals as goal

pub returns-else-year-lt50 : goal.returns-else-year-lt50
returns-else-year-lt50 c =
    last_century c.args.digits.now c.number-year.result c.requires (λ k. omega (arith, c.type_inv.digits k)) c.number-year.ensures c.saturating_add-else-year-lt50.result c.if-digits-eq2.true c.if-year-lt50.false c.saturating_add-else-year-lt50.ensures

pub returns-then-digits-eq3 : goal.returns-then-digits-eq3
returns-then-digits-eq3 c =
    three_digits c.args.digits.now c.number-year.result c.requires (λ k. omega (arith, c.type_inv.digits k)) c.number-year.ensures c.saturating_add-then-digits-eq3.result c.if-digits-eq2.false c.if-digits-eq3.true c.saturating_add-then-digits-eq3.ensures

pub returns : goal.returns
returns c = four_digits c.args.digits.now c.number-year.result c.requires (λ k. omega (arith, c.type_inv.digits k)) c.number-year.ensures c.if-digits-eq2.false c.if-digits-eq3.false
