use Rattle.std.proofs.Common.{append-nil, refl, sym, ◌∙◌}
use Rattle.std.specs.Prelude.{slice_index_or}
use Rattle.rev1_front.specs.declared.search_days.SentDay.{SentDay}
use Rattle.rev1_front.proofs.DayLemmas.{hit_has, hit_text, miss_has, miss_text, same_at, sent_done}
use Rattle.rev1_front.proofs.search_days.push_sent.Goals as goal

abbrev none : SentDay
none = record { uid = 0; day = record { year = 0; month = 0; day = 0 } }

pub loop-sent-init : goal.loop-sent-init
loop-sent-init c = (refl, sym (append-nil c.args.keys.now.items))

pub loop-sent-preserved-then-not-is_related : goal.loop-sent-preserved-then-not-is_related
loop-sent-preserved-then-not-is_related c =
    let i = c.loop-sent.sent-index in
    let sent : SentDay = slice_index_or c.args.days.now i none in
    let e = same_at c.args.days.now i none c.loop-sent-test.true in
    let inv = c.loop-sent.invariant in
    let h = sym c.is_related.ensures ∙ c.if-not-is_related.true in (
      miss_has c.args.order c.args.day c.args.days.now i sent c.loop-sent.has_hit c.args.keys.now.items c.loop-sent.keys.items c.loop-sent-test.true e inv.0 inv.1 h,
      miss_text c.args.order c.args.day c.args.days.now i sent c.loop-sent.has_hit c.args.keys.now.items c.loop-sent.keys.items c.loop-sent-test.true e inv.0 inv.1 h,
    )

pub loop-sent-preserved : goal.loop-sent-preserved
loop-sent-preserved c =
    let i = c.loop-sent.sent-index in
    let sent : SentDay = slice_index_or c.args.days.now i none in
    let e = same_at c.args.days.now i none c.loop-sent-test.true in
    let inv = c.loop-sent.invariant in
    let h = sym c.is_related.ensures ∙ c.if-not-is_related.false in (
      hit_has c.args.order c.args.day c.args.days.now i sent c.loop-sent.has_hit c.args.keys.now.items c.loop-sent.keys.items c.loop-sent-test.true e inv.0 inv.1 h,
      hit_text c.args.order c.args.day c.args.days.now i sent c.loop-sent.has_hit c.args.keys.now.items c.loop-sent.keys.items c.loop-sent-test.true e inv.0 inv.1 h c.push_uid.new.keys.items c.in_ok-push_uid.ensures,
    )

pub returns : goal.returns
returns c =
    sent_done c.push_no_hit.result c.args.order c.args.day c.args.days.now c.loop-sent.sent-index c.loop-sent.has_hit c.args.keys.now.items c.loop-sent.keys.items c.push_no_hit.new.keys.items
    c.loop-sent-test.false c.loop-sent.invariant.0 c.loop-sent.invariant.1 c.push_no_hit.ensures
