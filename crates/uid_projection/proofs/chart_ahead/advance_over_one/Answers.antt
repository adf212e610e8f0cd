use Rattle.std.specs.List.{list_any}
use Rattle.std.proofs.Common.{◌≡◌, ◌∙◌, ◌++◌, ◌∷◌, [], true, false, ap, sym, subst}
use Rattle.crdt_ops.specs.declared.op.Op.{Op}
use Rattle.crdt_ops.specs.SortedSets.{same_id}
use Rattle.crdt_ops.specs.Tags.{removed_ids}
use Rattle.folder_state.specs.Contents.{effect_of, origin_in}
use Rattle.uid_projection.specs.FolderAhead.{IsAhead, folder_of}
use Rattle.uid_projection.specs.NextOps.{AdvancesAhead, IsNextAhead}
use Rattle.uid_projection.specs.Chart.{IsChart}
use Rattle.uid_projection.specs.Incarnations.{folder_exists}
use Rattle.uid_projection.specs.UidsAndModSeqs.{kind_names_folder}
use Rattle.uid_projection.specs.EntryMoves.{loses}
use Rattle.uid_projection.proofs.ChartSteps.{chart_none}
use Rattle.uid_projection.proofs.AheadLemmas.{made_after, on_ok, folder_exists_is}
use Rattle.uid_projection.proofs.Tables.{is_chart_of_equal, chart_of_other}
use Rattle.uid_projection.proofs.chart_ahead.advance_over_one.Goals as goal

pub returns-then-not-names_folder-clause-latest : goal.returns-then-not-names_folder-clause-latest
returns-then-not-names_folder-clause-latest c = on_ok c.step.result (λ q. c.requires) c.step.ensures.ahead

pub returns-then-not-names_folder-clause-shows : goal.returns-then-not-names_folder-clause-shows
returns-then-not-names_folder-clause-shows c = on_ok c.step.result (λ q list k r s.
    let x = c.args.chart.now in
    chart_of_other c.args.charts.now.start c.args.folder.now list c.args.op.now r.applied (subst (λ (p : Op). kind_names_folder c.args.folder.now p.kind ≡ false) c.op.ensures.op (sym c.names_folder.ensures ∙ c.if-not-names_folder.true)) x.uidnext x.highest x.entries.entries s) c.step.ensures.ahead

pub returns-then-not-exists-clause-shows : goal.returns-then-not-exists-clause-shows
returns-then-not-exists-clause-shows c = λ list k r s.
    let start = c.args.charts.now.start in
    let n = c.args.folder.now in
    let o = c.args.op.now in
    let mid = c.step-2.new.self in
    let own : (folder_of mid) ≡ n = c.step-2.ensures.folder ∙ r.own in
    let w = c.in_ok-chart.ensures.shows in
    let present = folder_exists_is (effect_of k o) (list ++ o ∷ []) (folder_of mid) c.exists.result (made_after k list (o ∷ []) r.made r.applied) (c.exists.ensures (effect_of k o) (c.in_ok-step.ensures.ahead k r.is_ahead)) in
    let absent : folder_exists n (list ++ o ∷ []) ≡ false = sym (present ∙ ap (λ m. folder_exists m (list ++ o ∷ [])) own) ∙ c.if-not-exists.true in
    is_chart_of_equal start n (list ++ o ∷ []) _ _ _ _ _ _ (w.0 ∙ c.first_of.ensures) w.1 (w.2 ∙ r.none) (chart_none start n (list ++ o ∷ []) absent)

pub returns-clause-shows : goal.returns-clause-shows
returns-clause-shows c = on_ok c.advance.result (λ h list k r s.
    let start = c.args.charts.now.start in
    let n = c.args.folder.now in
    let o = c.args.op.now in
    let p = c.op-3.result.now in
    let e : p ≡ o = c.op-3.ensures.op in
    let mid = c.step-2.new.self in
    let was = c.step-2.ensures.folder in
    let own : (folder_of mid) ≡ n = was ∙ r.own in
    let x = c.args.chart.now in
    let y = c.advance.new.chart in
    let about : kind_names_folder n o.kind ≡ true = subst (λ (q : Op). kind_names_folder n q.kind ≡ true) c.op.ensures.op (sym c.names_folder.ensures ∙ c.if-not-names_folder.false) in
    let w : AdvancesAhead k list p (λ g. list_any (same_id g) c.as_slice.result.now) mid = record {
      applied = (subst (λ (q : Op). IsNextAhead start n c.args.charts.now.nothing.entries k list (q ∷ []) c.args.ahead.now) (sym e) r).applied;
      about = (λ i. kind_names_folder (own i) (e i).kind) ∙ about;
      made = r.made;
      is_lost = λ g.
          ap (λ ids. list_any (same_id g) ids) c.as_slice.ensures.value ∙ c.in_ok-lost.ensures k r.is_ahead g
          ∙ (λ i. loses (origin_in k (sym was i)) ((c.removed_ids.ensures ∙ ap (λ (q : Op). removed_ids q.kind) (c.op-2.ensures.op ∙ sym e)) i) g);
      is_ahead = subst (λ (q : Op). IsAhead (effect_of k q) mid) (sym e) (c.in_ok-step.ensures.ahead k r.is_ahead);
    } in
    let before : IsChart start (folder_of mid) list x.uidnext x.highest x.entries.entries = subst (λ m. IsChart start m list x.uidnext x.highest x.entries.entries) (sym own) s in
    let present = folder_exists_is (effect_of k p) (list ++ p ∷ []) (folder_of mid) c.exists.result (made_after k list (p ∷ []) w.made w.applied) (c.exists.ensures (effect_of k p) w.is_ahead) in
    let is_chart = h start list k (sym present ∙ c.if-not-exists.false) w before in
    subst (λ (q : Op). IsChart start n (list ++ q ∷ []) y.uidnext y.highest y.entries.entries) e (subst (λ m. IsChart start m (list ++ p ∷ []) y.uidnext y.highest y.entries.entries) own is_chart)) c.advance.ensures.shows
