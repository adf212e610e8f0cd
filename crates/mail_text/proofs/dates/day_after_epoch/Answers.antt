use Rattle.std.proofs.Common.{arith, FitsSigned, w64, ◌∙◌, pos, ◌+ℤ◌}
use Rattle.std.proofs.lemmas.Int.{to_z-of_z}
use Rattle.jiff.proofs.SpanFacts.{signed_arith, date_add-days, can_add-days}
use Rattle.jiff.specs.Words.{IsEpochDay, epoch_day}
use Rattle.mail_text.proofs.CivilLemmas.{epoch}
use Rattle.mail_text.proofs.dates.day_after_epoch.Goals as goal

pub unreachable-requires : goal.unreachable-requires
unreachable-requires c =
    let n : FitsSigned w64 (pos c.args.days) = omega (arith, signed_arith) in
    let from = c.from.ensures in
    let only = simp to_z-of_z at (rw from at c.days.ensures) in
    let can = can_add-days c.date.result (pos c.args.days) c.days.result only in
    let e = epoch c.date.result c.date.ensures in
    let day : IsEpochDay (epoch_day c.date.result +ℤ pos c.args.days) = omega (arith, signed_arith) in
    let never = c.in-Err.ensures.succeeds.1 (can.1 day) in
    cc

pub returns : goal.returns
returns c =
    let n : FitsSigned w64 (pos c.args.days) = omega (arith, signed_arith) in
    let from = c.from.ensures in
    let only = simp to_z-of_z at (rw from at c.days.ensures) in
    let e = epoch c.date.result c.date.ensures in
    c.in-Ok.ensures.value ∙ date_add-days c.date.result (pos c.args.days) c.days.result only ∙ omega (arith, signed_arith)
