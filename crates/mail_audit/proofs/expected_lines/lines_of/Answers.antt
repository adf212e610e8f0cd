use Rattle.folder_state.specs.Tables.{contents_of}
use Rattle.subs_state.specs.Table.{subscriptions_of}
use Rattle.mail_audit.proofs.AppliedLemmas.{made_both}
use Rattle.mail_audit.proofs.expected_lines.lines_of.Goals as goal

pub returns : goal.returns
returns c =
    let applied = c.args.inbox.now.received.applied in
    let list = c.op_list-list.ensures in
    let value = c.value-value.result.now in
    let made = made_both (contents_of value.first) (subscriptions_of value.second) applied c.value-value.ensures.meaning list.sound list.lawful.causal in
    (list.sound, list.lawful.causal, c.in_ok-lines.ensures applied made.0 made.1)
