use Rattle.rev1_connection.proofs.FetchLemmas.{prefix_test}
use Rattle.rev1_connection.proofs.fetch_frame.has_prefix.Goals as goal

pub returns : goal.returns
returns c = prefix_test c.args.word.now c.args.octets.now c.min.result c.eq_ignore_ascii_case.result c.min.ensures c.eq_ignore_ascii_case.ensures.test
