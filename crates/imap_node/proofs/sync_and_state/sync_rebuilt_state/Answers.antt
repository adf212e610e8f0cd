use Rattle.std.proofs.Common.{◌≡◌, ◌++◌, Bool, List, [], length, refl, sym, ap, ◌∙◌, arith}
use Rattle.std.proofs.lemmas.Bool.{false≢true}
use Rattle.std.proofs.lemmas.Bool.Decides.{nat_tests}
use Rattle.crdt_ops.specs.declared.op.Op.{Op}
use Rattle.imap_answers.specs.declared.answer.Answer.{Answer}
use Rattle.imap_commands.specs.declared.session.State.{State}
use Rattle.imap_commands.specs.declared.session.State.TheVariants.{Selected}
use Rattle.imap_node.specs.InputEffects.{SyncInput, answers_of_sync, sync_result_after, entries_after_sync}
use Rattle.imap_node.proofs.FirstLemmas.{all_is_shown}
use Rattle.mailbox_rows.specs.ListedMessage.{ListedMessage}
use Rattle.session_view.specs.Replay.{view_after_reply}
use Rattle.session_view.specs.ViewState.{ViewState}
use Rattle.uid_projection.specs.declared.first_numbers.Counters.{Counters}
use Rattle.imap_node.proofs.sync_and_state.sync_rebuilt_state.Goals.{then-is_first, else-is_first}
use Rattle.imap_node.proofs.sync_and_state.sync_rebuilt_state.Goals as goal

-- if no mailbox is selected, nothing is sent and the state stays
unselected_sync : (start : Counters) (after : List Op) (state : State) (front : SyncInput) (answers : List Answer) → answers ≡ [] → ((view : ViewState) (read_only : Bool) → state ≡ Selected view read_only → ⊥)
    → (answers ≡ (sync_result_after start after state front).answers) × (state ≡ (sync_result_after start after state front).state)
unselected_sync start after (Selected view read_only) front answers e n = absurd (n view read_only refl)
unselected_sync start after _ front answers e n = (e, refl)

pub returns-after-is_first-clause-shown : goal.returns-after-is_first-clause-shown
returns-after-is_first-clause-shown c = λ shown.
    elim c.if-is_first.branch [
      | then-is_first w ↦
          let was = c.in-Selected.view in
          let now = c.in-Ok.view in
          let rows = c.in_ok-rows-in-Selected.rows in
          let first = c.is_first_sight-is_first.ensures w.if-is_first.true in
          let counted : length now.entries ≡ length rows = let a = w.shows_all-is in let b = w.len.ensures in let d = w.count.ensures.count in let e = w.entries.ensures in let s = shown in grind (arith, nat_tests) in
          all_is_shown c.args.replica.now.start (c.args.replica.now.applied ++ c.args.ops.now) rows was now c.in-Selected.read_only c.args.front.now w.count.ensures.rising (c.in_ok-rows-in-Selected.ensures {u = tt}) (c.in-Ok.ensures {u = tt}).view first counted
      | else-is_first w ↦ absurd (false≢true (sym w.if-is_first.false ∙ sym w.shows_all-is ∙ shown))
    ]

pub returns-after-is_first-clause-answers : goal.returns-after-is_first-clause-answers
returns-after-is_first-clause-answers c =
    let start = c.args.replica.now.start in
    let after = c.args.replica.now.applied ++ c.args.ops.now in
    let front = c.args.front.now in
    let view = c.in-Selected.view in
    (c.in-Ok.ensures {u = tt}).answers
    ∙ ap (λ (rows : List ListedMessage). answers_of_sync front.sync front.modseq rows (view_after_reply rows view.entries front.silent front.own)) (c.in_ok-rows-in-Selected.ensures {u = tt})
    ∙ ap (λ (state : State). (sync_result_after start after state front).answers) (sym c.in-Selected.is)

pub returns-after-is_first-clause-state : goal.returns-after-is_first-clause-state
returns-after-is_first-clause-state c =
    let start = c.args.replica.now.start in
    let after = c.args.replica.now.applied ++ c.args.ops.now in
    let front = c.args.front.now in
    let view = c.in-Selected.view in
    ap (λ (synced_view : ViewState). Selected synced_view c.in-Selected.read_only) (c.in-Ok.ensures {u = tt}).view
    ∙ ap (λ (rows : List ListedMessage). Selected (record view { entries = entries_after_sync front.sync rows (view_after_reply rows view.entries front.silent front.own) }) c.in-Selected.read_only) (c.in_ok-rows-in-Selected.ensures {u = tt})
    ∙ ap (λ (state : State). (sync_result_after start after state front).state) (sym c.in-Selected.is)

pub returns-in_default : goal.returns-in_default
returns-in_default c =
    let start = c.args.replica.now.start in
    let after = c.args.replica.now.applied ++ c.args.ops.now in
    let sent = unselected_sync start after c.args.state c.args.front.now c.new.result.items c.new.ensures.items c.in_default.not-Selected in
    record { answers = sent.0; state = sent.1; shown = λ shown. absurd (false≢true shown) }
