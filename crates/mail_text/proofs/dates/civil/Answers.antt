use Rattle.std.proofs.Common.{◌%◌, ◌/◌, ◌∙◌, ap, arith, pos, subst, sym, unsigned_abs}
use Rattle.std.proofs.Math.Nat.{div-add-mod}
use Rattle.imap_types.specs.DateTimes.{IsDateTime}
use Rattle.mail_text.specs.Civil.{utc_text}
use Rattle.mail_text.proofs.CivilLemmas.{lawful}
use Rattle.mail_text.proofs.dates.civil.Goals as goal

pub unreachable-requires : goal.unreachable-requires
unreachable-requires c =
    let known = lawful c.day_after_epoch-day.result (c.seconds-seconds.result % 86400) (omega (arith, div-add-mod c.seconds-seconds.result 86400)) in
    let never = c.in-None.ensures.exact.1 (subst IsDateTime (sym c.utc_octets.ensures) known) in
    cc

pub returns : goal.returns
returns c = record {
  day = c.day_after_epoch-day.result;
  counted = c.day_after_epoch-day.ensures ∙ ap (λ n. pos (n / 86400)) c.seconds-seconds.ensures.value;
  spelled = c.in-Some.ensures.value ∙ c.utc_octets.ensures
      ∙ ap (λ n. utc_text (unsigned_abs c.day_after_epoch-day.result.year) c.day_after_epoch-day.result.month c.day_after_epoch-day.result.day (n % 86400)) c.seconds-seconds.ensures.value;
}
