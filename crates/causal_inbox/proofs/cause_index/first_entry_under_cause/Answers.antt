use Rattle.std.proofs.Common.{◌≡◌, ◌∙◌, ap, rules, sym}
use Rattle.causal_inbox.specs.declared.cause_index.CauseEntry.{CauseEntry}
use Rattle.std.proofs.lemmas.Fn.{always_returns_same}
use Rattle.tree_list.specs.Searches.{IsPoint}
use Rattle.causal_inbox.proofs.EntryOrder.{earlier_parts, is_earlier, is_lesser, none_under}
use Rattle.causal_inbox.proofs.cause_index.first_entry_under_cause.Goals as goal

pub returns-in_err-one : goal.returns-in_err-one
returns-in_err-one c =
    let point : IsPoint (is_earlier c.args.cause.now) c.args.entries.now c.partition_point-at.result =
    c.partition_point-at.ensures.point (is_earlier c.args.cause.now) (always_returns_same _ _ _ (λ a r f called. search (rules, is_lesser))) (earlier_parts c.args.cause.now c.args.entries.now c.requires) in
    let v = (c.in_err-one.ensures {u = tt}).value in
    let w = c.in_err-one.was {u = tt} in
    rw c.from_residual.ensures (none_under c.args.cause.now c.args.entries.now c.partition_point-at.result c.requires point (λ f at. absurd cc))

pub returns-else-is_same_cause : goal.returns-else-is_same_cause
returns-else-is_same_cause c =
    let point : IsPoint (is_earlier c.args.cause.now) c.args.entries.now c.partition_point-at.result =
    c.partition_point-at.ensures.point (is_earlier c.args.cause.now) (always_returns_same _ _ _ (λ a r f called. search (rules, is_lesser))) (earlier_parts c.args.cause.now c.args.entries.now c.requires) in
    none_under c.args.cause.now c.args.entries.now c.partition_point-at.result c.requires point (λ f at e.
    let v = (c.in_ok-one.ensures {u = tt}).value in
    let k : f ≡ c.in_ok-one.one.now = cc (v, at) in
    let t = (c.if-is_same_cause.ensures {u = tt}).1 (ap (λ (x : CauseEntry). x.cause) (sym k) ∙ e) in
    absurd cc)
