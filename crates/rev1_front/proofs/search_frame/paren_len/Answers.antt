use Rattle.std.proofs.Common.{length, sym, ◌∙◌, eqb, not}
use Rattle.std.proofs.lemmas.Bool.{eqb-false}
use Rattle.rev1_front.proofs.SearchLemmas.{cut_within}
use Rattle.rev1_front.proofs.search_frame.paren_len.Goals as goal

pub returns-else-is_empty-clause-within : goal.returns-else-is_empty-clause-within
returns-else-is_empty-clause-within c =
    cut_within (λ octet. not (eqb octet 41)) c.args.octets.now c.cut_before.result.0.now c.cut_before.result.1.now c.cut_before.ensures (eqb-false (length c.cut_before.result.1.now) 0 (sym c.is_empty.ensures ∙ c.if-is_empty.false))
