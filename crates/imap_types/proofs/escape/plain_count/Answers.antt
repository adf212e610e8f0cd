use Rattle.std.proofs.Common.{◌+◌, ◌∙◌, List, ℕ, ap, sym, take}
use Rattle.std.proofs.lemmas.List.{take_rest}
use Rattle.std.specs.List.{list_all}
use Rattle.imap_types.specs.Escape.{is_plain}
use Rattle.imap_types.proofs.EscapeLemmas.{escaped_run, plain_joined}
use Rattle.imap_types.proofs.escape.plain_count.Goals as goal

pub returns-clause-each : goal.returns-clause-each
returns-clause-each c =
    let count = c.plain_in_blocks-count.result in
    plain_joined c.args.escape count c.plain_one_by_one.result c.args.octets.now c.plain_in_blocks-count.ensures.each
    (ap (λ (rest : List ℕ). list_all (is_plain c.args.escape) (take c.plain_one_by_one.result rest)) (sym (take_rest c.args.octets.now count)) ∙ c.plain_one_by_one.ensures.each)

pub returns-clause-plain : goal.returns-clause-plain
returns-clause-plain c = escaped_run c.args.escape (take (c.plain_in_blocks-count.result + c.plain_one_by_one.result) c.args.octets.now) (returns-clause-each c)
