use Rattle.std.proofs.Common.{rules, refl, arith, codes}
use Rattle.imap_types.specs.DateTimes.{date_time_picture}
use Rattle.imap_types.proofs.Pictures.{pictured_by}
use Rattle.imap_types.proofs.date_time.DateTime.epoch.Goals as goal

pub invariant_of-result : goal.invariant_of-result
invariant_of-result c = record {
  form = pictured_by date_time_picture (codes "\"01-Jan-1970 00:00:00 +0000\"") refl;
  date = search rules;
  time = record { hour = omega arith; minute = omega arith; second = omega arith; zone_hour = omega arith; zone_minute = omega arith };
}
