use Rattle.std.proofs.Common.{nat_eq, rules, tests}
use Rattle.std.proofs.lemmas.Iterator.Search.{all_from_yields_List}
use Rattle.std.proofs.lemmas.Iterator.Splits.{YieldsList-from_slice_split}
use Rattle.imap_types.specs.Names.{has_octets}
use Rattle.imap_types.proofs.name.has_no_empty_level.Goals as goal

pub returns : goal.returns
returns c =
    all_from_yields_List has_octets _ _ _ c.all.ensures.ran
    (YieldsList-from_slice_split _ (λ b. nat_eq b 47) c.args.octets.now c.split.ensures.rest c.split.ensures.done c.split.ensures.closure (λ x b q k. search (rules, tests)))
    (λ x b q k. search (rules, tests))
