use Rattle.std.proofs.Common.{Ok, sym, ap, ◌∙◌}
use Rattle.imap_lex.specs.Framing.{cut_from, start}
use Rattle.imap_lex.proofs.CutLemmas.{cut_pieces-joined}
use Rattle.imap_lex.proofs.laws.cuts_change_nothing.Goals as goal

pub returns-clause-whole : goal.returns-clause-whole
returns-clause-whole c limits pieces = cut_pieces-joined limits (Ok start) pieces

pub returns-clause-cuts : goal.returns-clause-cuts
returns-clause-cuts c limits pieces others e =
    cut_pieces-joined limits (Ok start) pieces ∙ ap (cut_from limits (Ok start)) e ∙ sym (cut_pieces-joined limits (Ok start) others)
