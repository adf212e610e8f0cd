use Rattle.std.proofs.Common.{refl}
use Rattle.mail_parts.proofs.CompositionLemmas.{begins_whole}
use Rattle.mail_parts.proofs.CuttingLemmas.{all_read, tree_at}
use Rattle.mail_parts.proofs.NestingLemmas.{all_nested, all_placed}
use Rattle.mail_parts.proofs.cutting.cut.Goals as goal

pub returns-clause-entries : goal.returns-clause-entries
returns-clause-entries c =
    all_read c.args.text.now c.in_ok-read_part.field-0 c.new-parts.result.items c.read_part.new.parts.items c.new-parts.ensures.items
    (tree_at _ _ 0 0 0 0 _ _ c.args.text.now _ _ _ c.in_ok-read_part.ensures.read c.new-boundaries.ensures.items refl refl refl)

pub returns-clause-places : goal.returns-clause-places
returns-clause-places c = all_placed c.args.text.now c.read_part.new.parts.items (returns-clause-entries c)

pub returns-clause-nested : goal.returns-clause-nested
returns-clause-nested c = all_nested c.args.text.now c.read_part.new.parts.items (returns-clause-entries c)

pub returns-clause-whole : goal.returns-clause-whole
returns-clause-whole c = begins_whole c.args.text.now c.read_part.new.parts.items (returns-clause-entries c)
