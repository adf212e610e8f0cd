use Rattle.std.specs.List.{list_any}
use Rattle.std.proofs.Common.{◌∙◌, ◌++◌, ◌∷◌, [], sym}
use Rattle.crdt_ops.specs.SortedSets.{same_id}
use Rattle.folder_state.specs.Contents.{effect_of, origin_in}
use Rattle.uid_projection.specs.FolderAhead.{folder_of}
use Rattle.uid_projection.proofs.AheadLemmas.{ahead_none, ahead_some, made_after, on_both, versions_in_list}
use Rattle.uid_projection.proofs.chart_ahead.advance.Goals as goal

pub returns-in-Some-clause-shows : goal.returns-in-Some-clause-shows
returns-in-Some-clause-shows c = on_both c.add.result (λ u es start list k t r s.
    let n = (folder_of c.args.ahead.now) in
    let o = c.args.op.now in
    let x = c.args.chart.now in
    ahead_some start n list o r.applied t r.about x.uidnext x.highest x.entries.entries s (origin_in k n) (versions_in_list k list n r.made) (λ g. list_any (same_id g) c.args.lost.now) r.is_lost c.lose.new.entries.entries
    (c.in_ok-near.ensures.entries (list ++ o ∷ []) (effect_of k o) r.is_ahead (made_after k list (o ∷ []) r.made r.applied))
    c.in-Some.origin (sym c.added_origin.ensures ∙ c.in-Some.is) _ _ _ u c.add.ensures.highest es) c.add.ensures.uidnext c.add.ensures.entries

pub returns-in-None-clause-shows : goal.returns-in-None-clause-shows
returns-in-None-clause-shows c = λ start list k t r s.
    let n = (folder_of c.args.ahead.now) in
    let o = c.args.op.now in
    let x = c.args.chart.now in
    ahead_none start n list o r.applied t r.about x.uidnext x.highest x.entries.entries s (origin_in k n) (versions_in_list k list n r.made) (λ g. list_any (same_id g) c.args.lost.now) r.is_lost c.lose.new.entries.entries
    (c.in_ok-near.ensures.entries (list ++ o ∷ []) (effect_of k o) r.is_ahead (made_after k list (o ∷ []) r.made r.applied))
    (sym c.added_origin.ensures ∙ c.in-None.is)
