use Rattle.std.proofs.Common.{rules}
use Rattle.server_runtime.proofs.totals.totals_of.Goals as goal

pub returns : goal.returns
returns c =
    let h = c.summary-summary.ensures.summary in
    record {
      operations = search rules;
      entries = search rules;
      forgotten_count = search rules;
      history = (h.0, h.1, h.2.sessions, h.2.commands);
    }
