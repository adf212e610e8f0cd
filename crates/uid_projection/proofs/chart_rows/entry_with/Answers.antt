use Rattle.std.proofs.Common.{ap, ◌∙◌, sym}
use Rattle.uid_projection.proofs.RowLemmas.{edge_point, entry_at_point, if_uid_other, if_uid_own, if_uid}
use Rattle.uid_projection.proofs.chart_rows.entry_with.Goals as goal

pub returns-then-entry-uid : goal.returns-then-entry-uid
returns-then-entry-uid c = λ s.
    let es = c.args.entries.now.entries in
    let p = edge_point c.args.uid es c.first_place_from.result s c.first_place_from.ensures.within c.first_place_from.ensures.edge in
    if_uid_own c.args.uid c.in-Some.entry c.if-entry-uid.true
    ∙ ap (if_uid c.args.uid) (sym c.in-Some.is ∙ c.get.ensures) ∙ entry_at_point c.args.uid es c.first_place_from.result s p

pub returns-else-entry-uid : goal.returns-else-entry-uid
returns-else-entry-uid c = λ s.
    let es = c.args.entries.now.entries in
    let p = edge_point c.args.uid es c.first_place_from.result s c.first_place_from.ensures.within c.first_place_from.ensures.edge in
    if_uid_other c.args.uid c.in-Some.entry c.if-entry-uid.false
    ∙ ap (if_uid c.args.uid) (sym c.in-Some.is ∙ c.get.ensures) ∙ entry_at_point c.args.uid es c.first_place_from.result s p

pub returns-in-None : goal.returns-in-None
returns-in-None c = λ s.
    let es = c.args.entries.now.entries in
    let p = edge_point c.args.uid es c.first_place_from.result s c.first_place_from.ensures.within c.first_place_from.ensures.edge in
    ap (if_uid c.args.uid) (sym c.in-None.is ∙ c.get.ensures) ∙ entry_at_point c.args.uid es c.first_place_from.result s p
