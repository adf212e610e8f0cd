use Rattle.std.proofs.Common.{◌∙◌}
use Rattle.mail_bench.proofs.ReplyLemmas.{scan_rest, within_on}
use Rattle.mail_bench.proofs.replies.Reading.read.Goals as goal

pub loop-at-preserved : goal.loop-at-preserved
loop-at-preserved c =
    record {
      so_far =
          c.loop-at.invariant.so_far
          ∙ scan_rest c.loop-at.self.stage c.read_some.new.self.stage c.loop-at.self.line.items c.read_some.new.self.line.items c.args.octets.now c.loop-at.at c.in_ok-count.count c.in_ok-count.ensures.scan;
      within = within_on c.args.octets.now c.loop-at.at c.in_ok-count.count c.loop-at.invariant.within c.in_ok-count.ensures.within;
    }
