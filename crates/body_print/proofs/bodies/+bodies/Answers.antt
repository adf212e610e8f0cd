use Rattle.std.proofs.Common.{◌≡◌, ◌++◌, OnOk, subst, sym}
use Rattle.body_print.specs.Bodies.{bodies_of, media_of}
use Rattle.body_print.specs.Values.{Joined, joined_text}
use Rattle.body_print.proofs.NodeLemmas.{first_appended, some_bodies}
use Rattle.body_print.proofs.TextLemmas.{message_appended, on_ok}
use Rattle.body_print.proofs.bodies.+bodies.Goals as goal

pub push_first-returns-clause-appended : goal.push_first-returns-clause-appended
push_first-returns-clause-appended t c =
    first_appended c.args.extended c.args.text.now c.args.part c.args.tail.now c.split_at.result.0.now c.count_below-count.result c.args.out.now.items c.push_part.new.out.items c.split_at.ensures.front c.count_below-count.ensures.below
    c.count_below-count.ensures.after c.in_ok-push_part.ensures

pub push_bodies_or_empty-returns-in-len1-up : goal.push_bodies_or_empty-returns-in-len1-up
push_bodies_or_empty-returns-in-len1-up t c =
    subst (λ (bodies : Joined). OnOk c.push_bodies.result (c.push_bodies.new.out.items ≡ c.args.out.now.items ++ joined_text bodies))
    (sym (some_bodies c.args.extended c.args.text.now c.args.inner.now c.in-len1-up.len_at_least)) c.push_bodies.ensures

pub push_message-returns : goal.push_message-returns
push_message-returns t c =
    on_ok c.push_lines_end.result (message_appended c.args.extended c.args.header.now c.args.body.now c.inner_header.result.now _ (media_of c.args.part c.args.header.now) (bodies_of c.args.extended c.args.text.now c.args.inner.now)
    c.args.out.now.items c.push_message_start.new.out.items c.push_bodies.new.out.items c.push_lines_end.new.out.items c.inner_header.ensures c.in_ok-push_message_start.ensures c.in_ok-push_bodies.ensures) c.push_lines_end.ensures
