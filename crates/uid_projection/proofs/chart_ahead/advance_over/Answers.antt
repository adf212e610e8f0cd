use Rattle.std.proofs.Common.{◌∙◌, ◌+◌, ◌++◌, ◌∷◌, [], refl, ap, sym, subst, take, append_assoc, append-nil, arith}
use Rattle.std.proofs.lemmas.List.{take_all}
use Rattle.folder_state.specs.Contents.{effect_of}
use Rattle.folder_state.specs.AfterOps.{contents_after}
use Rattle.uid_projection.specs.FolderAhead.{IsAhead}
use Rattle.uid_projection.specs.NextOps.{IsNextAhead}
use Rattle.uid_projection.specs.Applied.{IsApplied}
use Rattle.uid_projection.specs.Chart.{IsChart}
use Rattle.uid_projection.proofs.ExhaustionLemmas.{applied_take, take_op}
use Rattle.uid_projection.proofs.AheadLemmas.{fold_append, made_after}
use Rattle.uid_projection.proofs.chart_ahead.advance_over.Goals as goal

pub loop-op-init : goal.loop-op-init
loop-op-init c =
    let x = c.args.chart.now in
    record {
      latest = c.requires;
      folder = refl;
      ahead = λ k h. h;
      shows = λ list k r s. subst (λ xs. IsChart c.args.charts.now.start c.args.folder.now xs x.uidnext x.highest x.entries.entries) (sym (append-nil list)) s;
    }

pub returns-in_err-advance_over_one-clause-folder : goal.returns-in_err-advance_over_one-clause-folder
returns-in_err-advance_over_one-clause-folder c = c.advance_over_one.ensures.folder ∙ c.loop-op.invariant.folder

pub loop-op-preserved : goal.loop-op-preserved
loop-op-preserved c =
    let h = c.loop-op.invariant in
    let b = c.in_ok-advance_over_one.ensures in
    let ops = c.args.ops.now in
    let i = c.loop-op.op-index in
    let o = c.op-item.result in
    let next = take_op ops i o o c.loop-op-test.true c.op-item.is refl in
    let y = c.advance_over_one.new.chart in
    record {
      latest = b.latest;
      folder = c.advance_over_one.ensures.folder ∙ h.folder;
      ahead = λ k q.
          subst (λ w. IsAhead w c.advance_over_one.new.ahead) (sym (ap (contents_after k) next ∙ fold_append effect_of k (take i ops) (o ∷ []))) (b.ahead (contents_after k (take i ops)) (h.ahead k q));
      shows = λ list k r s.
          let at = append_assoc list (take i ops) (o ∷ []) ∙ sym (ap (λ xs. list ++ xs) next) in
          let w : IsNextAhead c.args.charts.now.start c.args.folder.now c.args.charts.now.nothing.entries (contents_after k (take i ops)) (list ++ take i ops) (o ∷ []) c.loop-op.ahead = record {
            own = h.folder ∙ r.own;
            none = r.none;
            applied = subst IsApplied (sym at) (applied_take list ops (i + 1) r.applied);
            made = made_after k list (take i ops) r.made (applied_take list ops i r.applied);
            is_ahead = h.ahead k r.is_ahead;
          } in
          subst (λ xs. IsChart c.args.charts.now.start c.args.folder.now xs y.uidnext y.highest y.entries.entries) at (b.shows (list ++ take i ops) (contents_after k (take i ops)) w (h.shows list k r s));
    }

pub returns-clause-ahead : goal.returns-clause-ahead
returns-clause-ahead c = λ k h.
    let stop = c.loop-op-test.false in
    subst (λ xs. IsAhead (contents_after k xs) c.loop-op.ahead) (take_all c.loop-op.op-index c.args.ops.now (omega (arith, stop))) (c.loop-op.invariant.ahead k h)

pub returns-clause-shows : goal.returns-clause-shows
returns-clause-shows c = λ list k r s.
    let stop = c.loop-op-test.false in
    let x = c.loop-op.chart in
    subst (λ xs. IsChart c.args.charts.now.start c.args.folder.now (list ++ xs) x.uidnext x.highest x.entries.entries) (take_all c.loop-op.op-index c.args.ops.now (omega (arith, stop))) (c.loop-op.invariant.shows list k r s)
