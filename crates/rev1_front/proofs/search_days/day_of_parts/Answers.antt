use Rattle.std.proofs.Common.{take, ap, sym, ◌∙◌}
use Rattle.imap_types.specs.DateTimes.{month_of}
use Rattle.rev1_front.specs.SentDays.{day_of}
use Rattle.rev1_front.proofs.DayLemmas.{parts_day}
use Rattle.rev1_front.proofs.search_days.day_of_parts.Goals as goal

pub returns : goal.returns
returns c =
    parts_day c.args.day.now c.args.month.now c.args.year.now c.number-day.result c.day_of.result (sym c.are_date_parts.ensures.value ∙ c.if-not-are_date_parts.false) c.number-day.ensures c.if-day-gt31.false
    (c.day_of.ensures ∙ ap (λ y. day_of y (month_of (take 3 c.args.month.now)) c.number-day.result) c.full_year-year.ensures)
