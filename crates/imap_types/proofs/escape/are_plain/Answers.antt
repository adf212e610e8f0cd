use Rattle.std.proofs.Common.{◌&&◌, ◌∙◌, sym, get_or}
use Rattle.std.proofs.lemmas.List.Folds.{list_all_more}
use Rattle.imap_types.specs.Escape.{is_plain}
use Rattle.imap_types.proofs.EscapeLemmas.{within_by_tests}
use Rattle.imap_types.proofs.escape.are_plain.Goals as goal

pub loop-octet-preserved : goal.loop-octet-preserved
loop-octet-preserved c =
    let octet = get_or c.args.octets.now c.loop-octet.octet-index 0 in
    (λ i. c.loop-octet.invariant i && (within_by_tests c.lowest_plain-lowest.result octet ∙ sym (c.lowest_plain-lowest.ensures octet)) i)
    ∙ sym (list_all_more (is_plain c.args.escape) c.args.octets.now c.loop-octet.octet-index 0 c.loop-octet-test.true)
