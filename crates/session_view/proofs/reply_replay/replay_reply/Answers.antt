use Rattle.std.proofs.Common.{List, subst, sym}
use Rattle.session_view.specs.Views.{AreRising}
use Rattle.session_view.specs.declared.view_entry.ViewEntry.{ViewEntry}
use Rattle.session_view.proofs.ReplayLemmas.{replay_rising}
use Rattle.session_view.proofs.reply_replay.replay_reply.Goals as goal

pub returns-clause-rising : goal.returns-clause-rising
returns-clause-rising c =
    subst (λ (es : List ViewEntry). AreRising 1 es) (sym (c.in_ok-entries.ensures {u = tt}))
    (replay_rising c.args.rows.now c.args.view.now.items c.args.silents.now c.args.answers.now c.count-count.ensures.rising c.requires)
