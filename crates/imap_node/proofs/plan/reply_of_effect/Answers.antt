use Rattle.std.proofs.Common.{List, ◌++◌, ap, ◌∙◌}
use Rattle.imap_answers.specs.declared.answer.Answer.{Answer}
use Rattle.imap_node.specs.InputEffects.{EffectDraft, answers_of_effect, effect_from, sync_result_after, sync_result_of, state_or}
use Rattle.imap_node.proofs.plan.reply_of_effect.Goals as goal

pub returns-in-Ok-clause-answers : goal.returns-in-Ok-clause-answers
returns-in-Ok-clause-answers c =
    let start = c.args.replica.now.start in
    let after = c.args.replica.now.applied ++ c.args.ops.now in
    let state = c.args.state.now in
    let effect = c.effect.inside in
    (c.in-Ok.ensures {u = tt}).answers
    ∙ ap (λ (answers : List Answer). effect.own.items ++ (answers ++ effect.tail.items))
    ((c.in_ok-answers.ensures {u = tt}).answers
    ∙ (λ i. (sync_result_after start after (state_or state effect.moved) (record { silent = c.deref.ensures.value i; own = c.deref-2.ensures.value i; sync = effect.sync; modseq = effect.modseq })).answers))
    ∙ ap (λ (draft : EffectDraft). answers_of_effect start after (effect_from state draft)) c.effect.view_is

pub returns-in-Ok-clause-state_change : goal.returns-in-Ok-clause-state_change
returns-in-Ok-clause-state_change c =
    let start = c.args.replica.now.start in
    let after = c.args.replica.now.applied ++ c.args.ops.now in
    let state = c.args.state.now in
    let effect = c.effect.inside in
    (c.in_ok-answers.ensures {u = tt}).state
    ∙ (λ i. (sync_result_after start after (state_or state effect.moved) (record { silent = c.deref.ensures.value i; own = c.deref-2.ensures.value i; sync = effect.sync; modseq = effect.modseq })).state)
    ∙ ap (λ (draft : EffectDraft). (sync_result_of start after (effect_from state draft)).state) c.effect.view_is

pub returns-in-Ok-clause-can : goal.returns-in-Ok-clause-can
returns-in-Ok-clause-can c = (c.in_ok-answers.ensures {u = tt}).can
