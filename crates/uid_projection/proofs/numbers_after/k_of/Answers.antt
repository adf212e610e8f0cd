use Rattle.std.proofs.Common.{sym, ◌∙◌}
use Rattle.uid_projection.proofs.Numbers.{k_shown}
use Rattle.uid_projection.proofs.Steps.{k_none}
use Rattle.uid_projection.proofs.numbers_after.k_of.Goals as goal

pub returns-in-Some : goal.returns-in-Some
returns-in-Some c = λ start list t.
    c.k_now.ensures ∙ k_shown start c.args.folder.now list c.args.next_k c.in-Some.chart.now t.is_k (t.shows c.args.folder.now c.in-Some.chart.now (sym c.in-Some.ensures))

pub returns-in-None : goal.returns-in-None
returns-in-None c = λ start list t. t.is_k ∙ sym (k_none start c.args.folder.now list (t.covers c.args.folder.now (sym c.in-None.ensures)))
