use Rattle.durable_log.proofs.DeviceLemmas.{length_resized, zeros_resized}
use Rattle.durable_log.proofs.lines.zeros.Goals as goal

pub returns-clause-zeros : goal.returns-clause-zeros
returns-clause-zeros c = zeros_resized c.args.count _ c.new-zeros.result.items c.resize.new.self.items c.new-zeros.ensures.items c.in_ok-resize.ensures.items

pub returns-clause-count : goal.returns-clause-count
returns-clause-count c = length_resized c.args.count _ c.new-zeros.result.items c.resize.new.self.items c.new-zeros.ensures.items c.new-zeros.result.ok.0 c.in_ok-resize.ensures.items
