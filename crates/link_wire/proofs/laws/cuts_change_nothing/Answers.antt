use Rattle.std.proofs.Common.{Ok, sym, ap, ◌∙◌}
use Rattle.link_wire.specs.Framing.{cut_from, start}
use Rattle.link_wire.proofs.CutLemmas.{cut_of_pieces_from-concat_pieces}
use Rattle.link_wire.proofs.laws.cuts_change_nothing.Goals as goal

pub returns-clause-whole : goal.returns-clause-whole
returns-clause-whole c limits digest pieces = cut_of_pieces_from-concat_pieces limits digest (Ok (start 0)) pieces

pub returns-clause-cuts : goal.returns-clause-cuts
returns-clause-cuts c limits digest pieces others e =
    cut_of_pieces_from-concat_pieces limits digest (Ok (start 0)) pieces ∙ ap (cut_from limits digest (Ok (start 0))) e ∙ sym (cut_of_pieces_from-concat_pieces limits digest (Ok (start 0)) others)
