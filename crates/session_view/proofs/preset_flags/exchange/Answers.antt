use Rattle.std.proofs.Common.{◌≡◌, ℕ, ◌-◌, List, inl, inr, ap, sym, ◌∙◌, arith, set, get_or}
use Rattle.imap_types.specs.declared.flags.Flags.{Flags}
use Rattle.session_view.specs.Replay.{with_flags_at}
use Rattle.session_view.specs.declared.view_entry.ViewEntry.{ViewEntry}
use Rattle.session_view.proofs.FlagLemmas.{flagged_back}
use Rattle.session_view.proofs.ReplayLemmas.{flagged_at_number, flagged_out}
use Rattle.session_view.proofs.preset_flags.exchange.Goals as goal

pub returns-then-silent-eq0-clause-set : goal.returns-then-silent-eq0-clause-set
returns-then-silent-eq0-clause-set c = flagged_out c.args.entries.now.items c.args.silent.now.number c.args.silent.now.flags (inl (omega arith))

pub returns-then-silent-eq0-clause-back : goal.returns-then-silent-eq0-clause-back
returns-then-silent-eq0-clause-back c = sym (flagged_out c.args.entries.now.items c.args.silent.now.number c.args.silent.now.flags (inl (omega arith)))

pub returns-then-silent-len-clause-set : goal.returns-then-silent-len-clause-set
returns-then-silent-len-clause-set c = flagged_out c.args.entries.now.items c.args.silent.now.number c.args.silent.now.flags (inr (omega arith))

pub returns-then-silent-len-clause-back : goal.returns-then-silent-len-clause-back
returns-then-silent-len-clause-back c = sym (flagged_out c.args.entries.now.items c.args.silent.now.number c.args.silent.now.flags (inr (omega arith)))

pub returns-clause-set : goal.returns-clause-set
returns-clause-set c =
    let es = c.args.entries.now.items in
    let n = c.args.silent.now.number in
    let d = c.replace-flags-2.result in
    c.replace-flags-2.ensures.items
    ∙ ap (λ (u : ℕ). set es (n - 1) (record { uid = u; flags = c.replace-flags.result })) (c.uid_at-uid.ensures d)
    ∙ ap (λ (f : Flags). set es (n - 1) (record { uid = (get_or es (n - 1) d).uid; flags = f })) c.replace-flags.ensures.value
    ∙ flagged_at_number es n c.args.silent.now.flags d (omega arith) (omega arith)

pub returns-clause-back : goal.returns-clause-back
returns-clause-back c =
    let es = c.args.entries.now.items in
    let n = c.args.silent.now.number in
    let d = c.replace-flags-2.result in
    let changed : c.replace-flags-2.new.self.items ≡ with_flags_at es n c.args.silent.now.flags =
    c.replace-flags-2.ensures.items
    ∙ ap (λ (u : ℕ). set es (n - 1) (record { uid = u; flags = c.replace-flags.result })) (c.uid_at-uid.ensures d)
    ∙ ap (λ (f : Flags). set es (n - 1) (record { uid = (get_or es (n - 1) d).uid; flags = f })) c.replace-flags.ensures.value
    ∙ flagged_at_number es n c.args.silent.now.flags d (omega arith) (omega arith) in
    ap (λ (xs : List ViewEntry). with_flags_at xs n d.flags) changed
    ∙ ap (λ (e : ViewEntry). with_flags_at (with_flags_at es n c.args.silent.now.flags) n e.flags) c.replace-flags-2.ensures.value
    ∙ flagged_back es n c.args.silent.now.flags d (omega arith) (omega arith)
