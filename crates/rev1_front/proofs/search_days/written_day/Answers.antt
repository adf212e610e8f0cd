use Rattle.rev1_front.proofs.DayLemmas.{written}
use Rattle.rev1_front.proofs.search_days.written_day.Goals as goal

pub returns : goal.returns
returns c =
    written c.args.value.now c.run_of.result.0.now c.run_of.result.1.now c.run_of-2.result.0.now c.run_of-2.result.1.now c.run_of-3.result.0.now c.run_of-3.result.1.now c.run_of-4.result.0.now c.run_of-4.result.1.now
    c.run_of-5.result.0.now c.run_of-5.result.1.now c.run_of-6.result.0.now c.run_of-6.result.1.now c.day_of_parts.result c.run_of.ensures c.run_of-2.ensures c.run_of-3.ensures c.run_of-4.ensures c.run_of-5.ensures c.run_of-6.ensures
    c.day_of_parts.ensures
