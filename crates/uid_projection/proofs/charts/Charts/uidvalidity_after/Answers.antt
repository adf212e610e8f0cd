use Rattle.std.proofs.Common.{◌≡◌, ◌++◌, Some, sym, ap, ◌∙◌, arith}
use Rattle.std.proofs.lemmas.Bool.{false≢true}
use Rattle.std.proofs.lemmas.Slice.Eq.{bytes_eq-Decides}
use Rattle.imap_types.specs.Names.{inbox}
use Rattle.uid_projection.proofs.ExhaustionLemmas.{exists_of_test}
use Rattle.uid_projection.proofs.LaterNumbers.{k_within_after, k_within_table}
use Rattle.uid_projection.proofs.NextOpLemmas.{validity_none, validity_inbox, validity_present}
use Rattle.uid_projection.proofs.charts.Charts.uidvalidity_after.Goals as goal

pub returns-then-is_inbox : goal.returns-then-is_inbox
returns-then-is_inbox c = λ list f m a not_exhausted. ap Some c.get.ensures.number ∙ validity_inbox c.args.self.now.start (list ++ c.args.ops.now) c.args.name.now (sym c.is_inbox.ensures ∙ c.if-is_inbox.true)

pub returns-then-outlasts_ops : goal.returns-then-outlasts_ops
returns-then-outlasts_ops c = λ list f m a not_exhausted.
    c.uidvalidity.ensures list f ∙ sym (c.outlasts_ops.ensures c.if-outlasts_ops.true c.args.self.now.start list a m)

pub returns-then-not-exists_after : goal.returns-then-not-exists_after
returns-then-not-exists_after c = λ list f m a not_exhausted.
    let now = list ++ c.args.ops.now in
    let present = exists_of_test c.args.name.now now c.exists_after.result (c.exists_after.ensures.set list m a.sound a.causal) in
    validity_none c.args.self.now.start now c.args.name.now (sym c.is_inbox.ensures ∙ c.if-is_inbox.false) (sym present ∙ c.if-not-exists_after.true)

pub returns : goal.returns
returns c = λ list f m a not_exhausted.
    let s = c.args.self.now in
    let n = c.args.name.now in
    let ops = c.args.ops.now in
    let now = list ++ ops in
    let other = sym c.is_inbox.ensures ∙ c.if-is_inbox.false in
    let present = sym (exists_of_test n now c.exists_after.result (c.exists_after.ensures.set list m a.sound a.causal)) ∙ c.if-not-exists_after.false in
    let apart : n ≡ inbox → ⊥ = λ e. false≢true (sym other ∙ (bytes_eq-Decides n inbox).1 e) in
    let k = c.k_of_after.ensures s.start list a m f.table.is_k (c.k_of-now.ensures s.start list f.table) in
    let small = k_within_after s.start n apart ops list a (k_within_table s.start n apart list s.next_k s.charts.entries f.table) not_exhausted present in
    c.uidvalidity_of_k.ensures (omega (arith, k, small)) ∙ validity_present s.start now n other present c.k_of_after.result k
