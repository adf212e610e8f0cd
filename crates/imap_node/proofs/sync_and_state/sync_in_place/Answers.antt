use Rattle.std.proofs.Common.{◌≡◌, ◌++◌, Bool, List, [], None, Some, refl, sym, ap, subst, ◌∙◌, length, arith}
use Rattle.std.proofs.lemmas.Bool.Decides.{nat_tests}
use Rattle.crdt_ops.specs.declared.op.Op.{Op}
use Rattle.imap_answers.specs.declared.answer.Answer.{Answer}
use Rattle.imap_commands.specs.declared.session.State.{State}
use Rattle.imap_commands.specs.declared.session.State.TheVariants.{Selected}
use Rattle.imap_node.specs.InputEffects.{SyncInput, sync_result_after}
use Rattle.imap_node.specs.SessionChanges.{state_with}
use Rattle.imap_node.specs.Mailboxes.{rows_for}
use Rattle.imap_node.specs.Replays.{view_of}
use Rattle.session_view.specs.NoteChanges.{all_fetched_flags}
use Rattle.session_view.specs.Replay.{after_silent}
use Rattle.imap_node.proofs.SessionChangeLemmas.{rows_made_for_state, can_change_in_place, can_stay, empty_by_length, shown_as_before, shown_in_place, answers_in_place}
use Rattle.session_view.specs.ViewState.{ViewState}
use Rattle.uid_projection.specs.declared.first_numbers.Counters.{Counters}
use Rattle.imap_node.proofs.sync_and_state.sync_in_place.Goals as goal

-- if no mailbox is selected, nothing is sent and the state stays
unselected_sync : (start : Counters) (after : List Op) (state : State) (front : SyncInput) (answers : List Answer) → answers ≡ [] → ((view : ViewState) (read_only : Bool) → state ≡ Selected view read_only → ⊥)
    → (answers ≡ (sync_result_after start after state front).answers) × (state_with state None ≡ (sync_result_after start after state front).state)
unselected_sync start after (Selected view read_only) front answers e n = absurd (n view read_only refl)
unselected_sync start after _ front answers e n = (e, refl)

pub plan_sync_of_view-requires-clause-made : goal.plan_sync_of_view-requires-clause-made
plan_sync_of_view-requires-clause-made c = λ rows e.
    rows_made_for_state c.args.applied.now.replica.now.start (c.args.applied.now.replica.now.applied ++ c.args.applied.now.ops.now) c.args.state.now c.in-Selected.view c.in-Selected.read_only _ rows c.in-Selected.is e c.requires.made

pub plan_sync_of_view-requires-clause-noted : goal.plan_sync_of_view-requires-clause-noted
plan_sync_of_view-requires-clause-noted c = c.requires.noted c.in-Selected.view (ap view_of c.in-Selected.is)

pub returns-in_ok-planned-in-Selected-clause-answers : goal.returns-in_ok-planned-in-Selected-clause-answers
returns-in_ok-planned-in-Selected-clause-answers c =
    let start = c.args.applied.now.replica.now.start in
    let after = c.args.applied.now.replica.now.applied ++ c.args.applied.now.ops.now in
    let inside = c.front.inside in
    let front : SyncInput = record { silent = inside.silent.now; own = inside.own.now; sync = inside.sync; modseq = inside.modseq } in
    subst (λ (f : SyncInput). c.in_ok-planned-in-Selected.planned.answers.items ≡ (sync_result_after start after c.args.state.now f).answers) c.front.view_is
    (answers_in_place start after c.args.state.now c.in-Selected.view c.in-Selected.read_only front c.in-Some.kind (rows_for start after c.in-Selected.view) c.in_ok-first.first.items
    c.in-Selected.is c.in-Some.is (sym c.are_shifting.ensures ∙ c.if-are_shifting.false) refl
    (c.in_ok-first.ensures {u = tt} c.in-Selected.view (ap view_of c.in-Selected.is) ∙ ap (λ (f : SyncInput). after_silent c.in-Selected.view.entries (f.silent ++ all_fetched_flags f.own)) (sym c.front.view_is))
    c.in_ok-planned-in-Selected.planned.answers.items (c.in_ok-planned-in-Selected.ensures {u = tt}).answers)

pub returns-in_ok-planned-in-Selected-clause-state : goal.returns-in_ok-planned-in-Selected-clause-state
returns-in_ok-planned-in-Selected-clause-state c =
    let start = c.args.applied.now.replica.now.start in
    let after = c.args.applied.now.replica.now.applied ++ c.args.applied.now.ops.now in
    let inside = c.front.inside in
    let front : SyncInput = record { silent = inside.silent.now; own = inside.own.now; sync = inside.sync; modseq = inside.modseq } in
    subst (λ (f : SyncInput). state_with c.args.state.now (Some c.in_ok-planned-in-Selected.planned.change) ≡ (sync_result_after start after c.args.state.now f).state) c.front.view_is
    (shown_in_place start after c.args.state.now c.in-Selected.view c.in-Selected.read_only front c.in-Some.kind (rows_for start after c.in-Selected.view) c.in_ok-first.first.items
    c.in-Selected.is c.in-Some.is (sym c.are_shifting.ensures ∙ c.if-are_shifting.false) refl
    (c.in_ok-first.ensures {u = tt} c.in-Selected.view (ap view_of c.in-Selected.is) ∙ ap (λ (f : SyncInput). after_silent c.in-Selected.view.entries (f.silent ++ all_fetched_flags f.own)) (sym c.front.view_is))
    c.in_ok-planned-in-Selected.planned.change (c.in_ok-planned-in-Selected.ensures {u = tt}).changed)

pub returns-in_ok-planned-in-Selected-clause-can : goal.returns-in_ok-planned-in-Selected-clause-can
returns-in_ok-planned-in-Selected-clause-can c =
    let start = c.args.applied.now.replica.now.start in
    let after = c.args.applied.now.replica.now.applied ++ c.args.applied.now.ops.now in
    let inside = c.front.inside in
    let front : SyncInput = record { silent = inside.silent.now; own = inside.own.now; sync = inside.sync; modseq = inside.modseq } in
    can_change_in_place start after c.args.state.now c.in-Selected.view c.in-Selected.read_only front c.in-Some.kind (rows_for start after c.in-Selected.view) c.in_ok-first.first.items
    c.in-Selected.is c.in-Some.is (sym c.are_shifting.ensures ∙ c.if-are_shifting.false) refl
    (c.in_ok-first.ensures {u = tt} c.in-Selected.view (ap view_of c.in-Selected.is) ∙ ap (λ (f : SyncInput). after_silent c.in-Selected.view.entries (f.silent ++ all_fetched_flags f.own)) (sym c.front.view_is))
    c.in_ok-planned-in-Selected.planned.change (c.in_ok-planned-in-Selected.ensures {u = tt}).can (c.in_ok-planned-in-Selected.ensures {u = tt}).change

pub returns-then-is_settled-clause-answers : goal.returns-then-is_settled-clause-answers
returns-then-is_settled-clause-answers c =
    let start = c.args.applied.now.replica.now.start in
    let before = c.args.applied.now.replica.now.applied in
    let after = before ++ c.args.applied.now.ops.now in
    let inside = c.front.inside in
    let front : SyncInput = record { silent = inside.silent.now; own = inside.own.now; sync = inside.sync; modseq = inside.modseq } in
    let first = c.in_ok-first.first in
    let empty : length first.items ≡ 0 = let a = c.if-is_empty.true in let b = c.is_empty.ensures in let k = first.ok.0 in grind (arith, nat_tests) in
    c.new.ensures.items
    ∙ subst (λ (f : SyncInput). [] ≡ (sync_result_after start after c.args.state.now f).answers) c.front.view_is
    (shown_as_before start before after c.args.state.now c.args.unsent.now front first.items (sym c.are_shifting.ensures ∙ c.if-are_shifting.false)
    (λ view is. c.in_ok-first.ensures {u = tt} view is ∙ ap (λ (f : SyncInput). after_silent view.entries (f.silent ++ all_fetched_flags f.own)) (sym c.front.view_is)) (empty_by_length first.items empty) c.requires.noted c.requires.changes
    (c.is_settled.ensures c.if-is_settled.true)).0

pub returns-then-is_settled-clause-state : goal.returns-then-is_settled-clause-state
returns-then-is_settled-clause-state c =
    let start = c.args.applied.now.replica.now.start in
    let before = c.args.applied.now.replica.now.applied in
    let after = before ++ c.args.applied.now.ops.now in
    let inside = c.front.inside in
    let front : SyncInput = record { silent = inside.silent.now; own = inside.own.now; sync = inside.sync; modseq = inside.modseq } in
    let first = c.in_ok-first.first in
    let empty : length first.items ≡ 0 = let a = c.if-is_empty.true in let b = c.is_empty.ensures in let k = first.ok.0 in grind (arith, nat_tests) in
    subst (λ (f : SyncInput). state_with c.args.state.now None ≡ (sync_result_after start after c.args.state.now f).state) c.front.view_is
    (shown_as_before start before after c.args.state.now c.args.unsent.now front first.items (sym c.are_shifting.ensures ∙ c.if-are_shifting.false)
    (λ view is. c.in_ok-first.ensures {u = tt} view is ∙ ap (λ (f : SyncInput). after_silent view.entries (f.silent ++ all_fetched_flags f.own)) (sym c.front.view_is)) (empty_by_length first.items empty) c.requires.noted c.requires.changes
    (c.is_settled.ensures c.if-is_settled.true)).1

pub returns-in_default-state : goal.returns-in_default-state
returns-in_default-state c =
    let start = c.args.applied.now.replica.now.start in
    let after = c.args.applied.now.replica.now.applied ++ c.args.applied.now.ops.now in
    let sent = unselected_sync start after c.args.state.now c.args.front.now c.new-in_default-state.result.items c.new-in_default-state.ensures.items c.in_default-state.not-Selected in
    record { same = refl; answers = sent.0; state = sent.1; can = can_stay start after c.args.state.now }
