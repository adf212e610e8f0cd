use Rattle.std.proofs.Common.{◌++◌, List, [], sym, ap, ◌∙◌, append-nil}
use Rattle.session_view.specs.Replay.{after_silent}
use Rattle.session_view.specs.declared.reply_replay.SilentFlags.{SilentFlags}
use Rattle.session_view.proofs.preset_flags.flags_to_set.Goals as goal

pub returns : goal.returns
returns c =
    let after = after_silent c.args.view.now.items in
    let silents = c.args.silents.now in
    ap after (sym (append-nil c.push_all_to_set.new.left.items))
    ∙ (c.in_ok-push_all_to_set.ensures {u = tt}).same []
    ∙ ap (λ (front : List SilentFlags). after (front ++ (silents ++ []))) c.new-left.ensures.items
    ∙ ap after (append-nil silents)
