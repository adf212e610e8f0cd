use Rattle.std.proofs.Common.{◌≡◌, ◌++◌, ℕ, List, Some, sym, subst, rules, append_assoc}
use Rattle.std.specs.Prelude.{IfOk}
use Rattle.rev1_fetch.specs.declared.plan.FetchRequest.{FetchRequest}
use Rattle.rev1_connection.specs.FrontRequests.{IsFetchBy, IsPlannedFetch}
use Rattle.rev1_connection.proofs.fetch_frame.fetch_by.Goals as goal

pub returns-in_ok-extend_from_slice-in-Planned-2 : goal.returns-in_ok-extend_from_slice-in-Planned-2
returns-in_ok-extend_from_slice-in-Planned-2 c =
    let tag = c.args.tag.now in
    let word = c.args.word.now in
    let rest = c.in-Planned.rest.items in
    let r = c.planned_fetch.result in
    let whole : c.deref-in-Planned.result.now ≡ tag ++ (word ++ rest) = search (rules, append_assoc) in
    subst (λ (asked : FetchRequest). IfOk r (IsFetchBy tag word (Some asked) c.args.answer)) (sym c.in-Planned.is) (subst (λ (octets : List ℕ). IfOk r (IsPlannedFetch octets c.in-Planned.plan c.args.answer)) whole c.planned_fetch.ensures)
