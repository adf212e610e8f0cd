use Rattle.rev1_front.proofs.ClientLemmas.{search_found, search_missing}
use Rattle.rev1_front.proofs.ResultLemmas.{not_so}
use Rattle.rev1_front.proofs.search_commands.after_search.Goals as goal

pub returns-then-not-eq_ignore_ascii_case : goal.returns-then-not-eq_ignore_ascii_case
returns-then-not-eq_ignore_ascii_case c =
    search_missing c.args.octets.now (c.atom_span.result.0.now, c.atom_span.result.1.now) c.atom_span.ensures (not_so c.eq_ignore_ascii_case.result c.eq_ignore_ascii_case.ensures.test.1 c.if-not-eq_ignore_ascii_case.true)

pub returns : goal.returns
returns c =
    search_found c.args.octets.now (c.atom_span.result.0.now, c.atom_span.result.1.now) c.atom_span.ensures (c.eq_ignore_ascii_case.ensures.test.0 c.if-not-eq_ignore_ascii_case.false)
