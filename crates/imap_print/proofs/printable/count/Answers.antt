use Rattle.std.proofs.Common.{◌≡◌, length, ap, arith}
use Rattle.imap_types.specs.Numbers.{numbers_in}
use Rattle.imap_print.proofs.CountLemmas.{rising_fits}
use Rattle.imap_print.proofs.printable.count.Goals as goal

pub returns : goal.returns
returns c =
    let all : length (numbers_in c.runs.result.now) ≡ length c.args.set.now = ap length c.runs.ensures.numbers in
    omega (arith, c.count_in.ensures, all, rising_fits c.args.set.now c.set_fits.ensures.rising, c.set_fits.ensures.small)
