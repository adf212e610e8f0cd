use Rattle.std.proofs.Common.{◌+◌, ◌≤◌, ◌++◌, ◌∷◌, [], sym, ap, ◌∙◌, subst}
use Rattle.crdt_ops.specs.Tags.{name_of}
use Rattle.folder_state.specs.Tables.{contents_of}
use Rattle.indexmap.specs.IndexMap.{spare}
use Rattle.uid_projection.specs.Chart.{AreVersions, IsChart}
use Rattle.uid_projection.specs.Incarnations.{folder_exists}
use Rattle.uid_projection.specs.UidsAndModSeqs.{first_uid}
use Rattle.uid_projection.specs.ChartTable.{modseqs_by, origin_at}
use Rattle.uid_projection.proofs.ExhaustionLemmas.{exists_of_test}
use Rattle.uid_projection.proofs.FolderStepLemmas.{advances, k_absent, k_small, k_present, up_now}
use Rattle.uid_projection.proofs.Tables.{absent_up}
use Rattle.uid_projection.proofs.chart.step.Goals as goal

pub returns-then-not-exists-clause-next : goal.returns-then-not-exists-clause-next
returns-then-not-exists-clause-next c = λ list r.
    let o = c.args.op.now in
    let n = c.name-folder.result.now in
    let present = exists_of_test n (list ++ o ∷ []) c.exists.result (c.exists.ensures.set (list ++ o ∷ []) r.next.made) ∙ ap (λ m. folder_exists m (list ++ o ∷ [])) c.name-folder.ensures in
    k_absent c.args.start.now c.args.next_k.now (contents_of c.args.value.now) list o c.args.chart.now r (sym present ∙ c.if-not-exists.true)

pub returns-then-not-exists-clause-up : goal.returns-then-not-exists-clause-up
returns-then-not-exists-clause-up c = λ list r.
    let o = c.args.op.now in
    let n = c.name-folder.result.now in
    let present = exists_of_test n (list ++ o ∷ []) c.exists.result (c.exists.ensures.set (list ++ o ∷ []) r.next.made) ∙ ap (λ m. folder_exists m (list ++ o ∷ [])) c.name-folder.ensures in
    let e = c.close.ensures in
    absent_up c.args.start.now (name_of o.kind) (list ++ o ∷ []) c.close.new.chart (sym present ∙ c.if-not-exists.true) e.present (e.uidnext ∙ c.first_of.ensures ∙ ap (first_uid c.args.start.now) c.name-folder.ensures) e.highest e.entries e.versions e.latest

pub open-requires : goal.open-requires
open-requires c =
    let (list, r) = c.requires in
    let o = c.args.op.now in
    let n = c.name-folder.result.now in
    let present = exists_of_test n (list ++ o ∷ []) c.exists.result (c.exists.ensures.set (list ++ o ∷ []) r.next.made) ∙ ap (λ m. folder_exists m (list ++ o ∷ [])) c.name-folder.ensures in
    k_small c.args.start.now c.args.next_k.now (contents_of c.args.value.now) list o c.args.chart.now r (sym present ∙ c.if-not-exists.false)

pub advance-requires : goal.advance-requires
advance-requires c =
    let (list, r) = c.requires in
    let o = c.args.op.now in
    let n = c.name-folder.result.now in
    let present = exists_of_test n (list ++ o ∷ []) c.exists.result (c.exists.ensures.set (list ++ o ∷ []) r.next.made) ∙ ap (λ m. folder_exists m (list ++ o ∷ [])) c.name-folder.ensures in
    let e = c.open.ensures in
    (c.args.start.now, list, advances c.args.start.now c.args.next_k.now (contents_of c.args.value.now) list o c.args.chart.now r (sym present ∙ c.if-not-exists.false) n c.open.new.chart c.name-folder.ensures e.uidnext e.highest e.entries e.versions)

pub returns-clause-next : goal.returns-clause-next
returns-clause-next c = λ list r.
    let o = c.args.op.now in
    let n = c.name-folder.result.now in
    let present = exists_of_test n (list ++ o ∷ []) c.exists.result (c.exists.ensures.set (list ++ o ∷ []) r.next.made) ∙ ap (λ m. folder_exists m (list ++ o ∷ [])) c.name-folder.ensures in
    k_present c.args.start.now c.args.next_k.now (contents_of c.args.value.now) list o c.args.chart.now r (sym present ∙ c.if-not-exists.false) c.open.new.next_k c.open.ensures.next

pub returns-clause-up : goal.returns-clause-up
returns-clause-up c = λ list r.
    let o = c.args.op.now in
    let n = c.name-folder.result.now in
    let present = exists_of_test n (list ++ o ∷ []) c.exists.result (c.exists.ensures.set (list ++ o ∷ []) r.next.made) ∙ ap (λ m. folder_exists m (list ++ o ∷ [])) c.name-folder.ensures in
    let t = sym present ∙ c.if-not-exists.false in
    let e = c.open.ensures in
    let own = c.name-folder.ensures in
    let x = c.advance.ensures in
    let w = advances c.args.start.now c.args.next_k.now (contents_of c.args.value.now) list o c.args.chart.now r t n c.open.new.chart own e.uidnext e.highest e.entries e.versions in
    up_now c.args.start.now c.args.next_k.now (contents_of c.args.value.now) list o c.args.chart.now r t c.open.new.chart.k c.advance.new.chart e.k (x.present ∙ e.present) x.k
    (subst (λ m. IsChart c.args.start.now m (list ++ o ∷ []) c.advance.new.chart.uidnext c.advance.new.chart.highest c.advance.new.chart.entries.entries) own (x.shows c.args.start.now list w))
    (subst (λ m. AreVersions m (list ++ o ∷ []) (origin_at c.advance.new.chart.versions.entries)) own (x.versions c.args.start.now list w)) x.latest

pub returns-clause-roomy : goal.returns-clause-roomy
returns-clause-roomy c = λ g n k w.
    let e = c.open.ensures in
    c.advance.ensures.roomy g n k (record {
      places = λ o j. subst (λ x. n + 1 ≤ x.room) (sym e.entries) (w.places o j);
      version_places = λ o j. subst (λ x. n + 1 ≤ spare x) (sym e.versions) (w.version_places o j);
      modseq_places = subst (λ x. k + modseqs_by c.args.op.now ≤ x.modseq_room) (sym e.entries) w.modseq_places;
      highest = subst (λ x. x + (n + 1) ≤ 18446744073709551615) (sym e.highest) w.highest;
      uidnext = subst (λ x. x ≤ 4294967295) (sym e.uidnext) w.uidnext;
    })
