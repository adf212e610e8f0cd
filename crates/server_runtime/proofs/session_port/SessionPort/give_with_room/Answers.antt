use Rattle.std.proofs.Common.{rules}
use Rattle.server_runtime.proofs.CallLemmas.{lacking_again}
use Rattle.server_runtime.proofs.session_port.SessionPort.give_with_room.Goals as goal

pub loop-preserved : goal.loop-preserved
loop-preserved g c = (
  search rules,
  search rules,
  lacking_again c.args.pass.now c.loop.pass c.args.tagged c.loop.pending c.args.moment c.in-Err.unmade.fault c.loop.invariant.0 c.loop.invariant.1 c.in-Err.ensures.lacking,
)
