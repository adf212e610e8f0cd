use Rattle.std.proofs.Common.{◌++◌, List, [], sym, ap, ◌∙◌, append-nil}
use Rattle.session_view.specs.NoteChanges.{all_fetched_flags}
use Rattle.session_view.specs.Replay.{after_silent}
use Rattle.session_view.specs.declared.reply_replay.SilentFlags.{SilentFlags}
use Rattle.session_view.proofs.preset_flags.silent_and_answer_flags.Goals as goal

pub returns : goal.returns
returns c =
    let after = after_silent c.args.view.now.items in
    let silents = c.args.silents.now in
    let reported = all_fetched_flags c.args.answers.now in
    ap after (sym (append-nil c.push_all_answer_flags.new.left.items))
    ∙ (c.in_ok-push_all_answer_flags.ensures {u = tt}).same []
    ∙ ap (λ (back : List SilentFlags). after (c.push_all_to_set.new.left.items ++ back)) (append-nil reported)
    ∙ (c.in_ok-last.ensures {u = tt}).same reported
    ∙ ap (λ (front : List SilentFlags). after (front ++ (silents ++ reported))) c.new-left.ensures.items
