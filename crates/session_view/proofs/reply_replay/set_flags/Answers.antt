use Rattle.std.proofs.Common.{ℕ, ◌-◌, set, inl, inr, ap, ◌∙◌, arith}
use Rattle.session_view.proofs.ReplayLemmas.{flagged_at_number, flagged_out}
use Rattle.session_view.proofs.reply_replay.set_flags.Goals as goal

pub returns-then-number-eq0 : goal.returns-then-number-eq0
returns-then-number-eq0 c = flagged_out c.args.entries.now.items c.args.number c.args.flags (inl (omega arith))

pub returns-then-number-len : goal.returns-then-number-len
returns-then-number-len c = flagged_out c.args.entries.now.items c.args.number c.args.flags (inr (omega arith))

pub returns : goal.returns
returns c =
    let es = c.args.entries.now.items in
    let n = c.args.number in
    let d = c.replace-old.result in
    c.replace-old.ensures.items
    ∙ ap (λ (u : ℕ). set es (n - 1) (record { uid = u; flags = c.args.flags })) (c.uid_at-uid.ensures d)
    ∙ flagged_at_number es n c.args.flags d (omega arith) (omega arith)
