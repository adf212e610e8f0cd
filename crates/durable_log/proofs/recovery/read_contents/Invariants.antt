use Rattle.std.proofs.Common.{◌≡◌, ◌-◌, take, true}
use Rattle.op_log.specs.Readers.{HasRead}
use Rattle.durable_log.proofs.recovery.read_contents.Given as goal

abbrev pub invariant-loop-next : goal.invariant-loop-next
invariant-loop-next g l = record {
  same : g.D.LogDevice.state l.device ≡ g.D.LogDevice.state l.fn.device;
  read : (g.D.LogDevice.state l.fn.device).is_known ≡ true → HasRead l.fn.replica (take l.place (g.D.LogDevice.state l.fn.device).contents) l.reader;
}

abbrev pub decreases-loop-next : goal.decreases-loop-next
decreases-loop-next g l = 18446744073709551616 - l.place
