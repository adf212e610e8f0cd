use Rattle.rev1_front.proofs.SearchLemmas.{prefix_test}
use Rattle.rev1_front.proofs.search_frame.has_prefix.Goals as goal

pub returns : goal.returns
returns c = prefix_test c.args.word.now c.args.octets.now c.min.result c.eq_ignore_ascii_case.result c.min.ensures c.eq_ignore_ascii_case.ensures.test
