use Rattle.std.proofs.Common.{inr}
use Rattle.rev1_connection.proofs.FetchLemmas.{not_spelled}
use Rattle.rev1_connection.proofs.HandlingLemmas.{ok_map}
use Rattle.rev1_connection.proofs.fetch_frame.planned_fetch.Goals as goal

pub returns-in-Err : goal.returns-in-Err
returns-in-Err c = ok_map c.refused_fetch.result c.refused_fetch.ensures (λ request k. inr (not_spelled c.args.inner.now c.parse.result c.parse.ensures.only c.in-Err.why c.in-Err.is k.1, k.0))
