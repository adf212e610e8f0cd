use Rattle.std.proofs.Common.{◌≡◌, ◌+◌, ◌<◌, ◌≤◌, length, List, ℕ, ap, refl, ◌∙◌, arith}
use Rattle.session_view.specs.NoteChanges.{patched_entries}
use Rattle.session_view.specs.Sync.{staying_entries}
use Rattle.session_view.specs.Views.{last_from, last_uid}
use Rattle.session_view.specs.declared.view_entry.ViewEntry.{ViewEntry}
use Rattle.session_view.specs.declared.reply_replay.SilentFlags.{SilentFlags}
use Rattle.session_view.proofs.ChangeLemmas.{if_ok, if_ok_three, if_ok_two}
use Rattle.session_view.proofs.WalkLemmas.{all_answers, arrivals_from, end_left, end_lost, end_sent, end_fetched, few_noted, gone_count, patches}
use Rattle.session_view.proofs.WholeLemmas.{whole_notes_all}
use Rattle.session_view.proofs.sync_plan.plan_sync.Goals as goal

pub finish_walk-requires-clause-fits : goal.finish_walk-requires-clause-fits
finish_walk-requires-clause-fits c =
    let kind = c.args.form.kind in
    let rows = c.args.rows.now in
    let view = c.args.view.now.items in
    let walk = c.in_ok-walk.walk in
    let lost = end_lost kind c.args.form.modseq rows view walk (c.in_ok-walk.ensures {u = tt}) in
    let count : length walk.gone.items + length (staying_entries kind rows view) ≡ length view = gone_count kind rows view walk.gone.items lost in
    let new = arrivals_from kind rows view c.new-arrivals.result.items c.push_new.new.entries.items c.last_staying_uid-last.result (c.in_ok-push_new.ensures {u = tt}) c.new-arrivals.ensures.items c.last_staying_uid-last.ensures in
    let last = c.last_from-last.ensures ∙ ap (λ u. last_from u c.deref.result.now) c.last_staying_uid-last.ensures ∙ ap (last_from (last_uid (staying_entries kind rows view))) c.deref.ensures.value in
    let few : length (staying_entries kind rows view) + length c.push_new.new.entries.items ≤ c.last_from-last.result = few_noted kind rows view c.push_new.new.entries.items c.last_from-last.result c.requires.rising c.count-listed.ensures.rising new last in
    let top : c.last_from-last.result < 4294967296 = omega arith in
    let whole = c.count_of-count.ensures.count in
    omega (arith, count, few, top, whole)

pub returns-clause-answers : goal.returns-clause-answers
returns-clause-answers c =
    let kind = c.args.form.kind in
    let rows = c.args.rows.now in
    let view = c.args.view.now.items in
    let walk = c.in_ok-walk.walk in
    let is_walk = c.in_ok-walk.ensures {u = tt} in
    let arrivals = c.push_new.new.entries.items in
    if_ok c.finish_walk.result
    (λ planned same. all_answers kind c.args.form.modseq rows view arrivals arrivals walk.gone.items walk.gone.items c.count_of-count.result planned.answers.items walk.fetches.items
    same refl refl c.count_of-count.ensures.count
    (end_lost kind c.args.form.modseq rows view walk is_walk)
    (arrivals_from kind rows view c.new-arrivals.result.items arrivals c.last_staying_uid-last.result (c.in_ok-push_new.ensures {u = tt}) c.new-arrivals.ensures.items c.last_staying_uid-last.ensures)
    (end_sent kind c.args.form.modseq rows view walk is_walk))
    c.finish_walk.ensures.answers

pub returns-clause-patch : goal.returns-clause-patch
returns-clause-patch c =
    let kind = c.args.form.kind in
    let rows = c.args.rows.now in
    let view = c.args.view.now.items in
    let walk = c.in_ok-walk.walk in
    let is_walk = c.in_ok-walk.ensures {u = tt} in
    let arrivals = c.push_new.new.entries.items in
    if_ok_three c.finish_walk.result
    (λ planned g n f.
    ap (λ (gs : List ℕ). patched_entries view gs planned.patch.arrivals.items planned.patch.flags.items) g
    ∙ ap (λ (es : List ViewEntry). patched_entries view walk.gone.items es planned.patch.flags.items) n
    ∙ ap (λ (ss : List SilentFlags). patched_entries view walk.gone.items arrivals ss) f
    ∙ patches kind c.args.form.modseq rows view walk.gone.items arrivals walk.flags.items
    (end_lost kind c.args.form.modseq rows view walk is_walk)
    (arrivals_from kind rows view c.new-arrivals.result.items arrivals c.last_staying_uid-last.result (c.in_ok-push_new.ensures {u = tt}) c.new-arrivals.ensures.items c.last_staying_uid-last.ensures)
    (end_fetched kind c.args.form.modseq rows view walk is_walk))
    c.finish_walk.ensures.gone c.finish_walk.ensures.arrivals c.finish_walk.ensures.flags

pub returns-clause-left : goal.returns-clause-left
returns-clause-left c =
    if_ok c.finish_walk.result (λ planned same. same ∙ end_left c.args.form.kind c.args.form.modseq c.args.rows.now c.args.view.now.items c.in_ok-walk.walk (c.in_ok-walk.ensures {u = tt})) c.finish_walk.ensures.left

pub returns-clause-whole : goal.returns-clause-whole
returns-clause-whole c =
    let kind = c.args.form.kind in
    let rows = c.args.rows.now in
    let view = c.args.view.now.items in
    let walk = c.in_ok-walk.walk in
    let is_walk = c.in_ok-walk.ensures {u = tt} in
    let arrivals = c.push_new.new.entries.items in
    if_ok_two c.finish_walk.result
    (λ planned left whole yet.
    whole_notes_all kind rows view arrivals walk.gone.items walk.left.items planned.left.items c.count_of-count.result c.count-listed.result c.count-listed.ensures.rising c.requires.rising c.count_of-count.ensures.count c.count-listed.ensures.count
    (end_lost kind c.args.form.modseq rows view walk is_walk)
    (arrivals_from kind rows view c.new-arrivals.result.items arrivals c.last_staying_uid-last.result (c.in_ok-push_new.ensures {u = tt}) c.new-arrivals.ensures.items c.last_staying_uid-last.ensures)
    (end_left kind c.args.form.modseq rows view walk is_walk) left (whole yet))
    c.finish_walk.ensures.left c.finish_walk.ensures.whole
