use Rattle.std.proofs.Common.{arith}
use Rattle.durable_log.proofs.LogLemmas.{batch_lawful, ok_anyhow}
use Rattle.durable_log.proofs.lines.push_batch.Goals as goal

pub returns-clause-lawful : goal.returns-clause-lawful
returns-clause-lawful c = ok_anyhow c.push_entry_line.result _ (batch_lawful c.args.ops.now c.args.synced c.in_ok-push_ops.ensures.lawful (omega arith))
