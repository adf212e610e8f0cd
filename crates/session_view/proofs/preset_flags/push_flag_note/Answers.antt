use Rattle.std.proofs.Common.{◌++◌, List, inl, inr, ap, sym, ◌∙◌, arith, append-nil}
use Rattle.session_view.specs.declared.notes.Note.{Note}
use Rattle.session_view.proofs.FlagLemmas.{noted_by_uid, silent_note_out}
use Rattle.session_view.proofs.preset_flags.push_flag_note.Goals as goal

pub returns-then-number-eq0 : goal.returns-then-number-eq0
returns-then-number-eq0 c = sym (ap (λ (ns : List Note). c.args.notes.now.items ++ ns) (silent_note_out c.args.view.now.items c.args.number (inl (omega arith))) ∙ append-nil c.args.notes.now.items)

pub returns-then-number-len : goal.returns-then-number-len
returns-then-number-len c = sym (ap (λ (ns : List Note). c.args.notes.now.items ++ ns) (silent_note_out c.args.view.now.items c.args.number (inr (omega arith))) ∙ append-nil c.args.notes.now.items)

pub returns : goal.returns
returns c =
    (c.in_ok-push.ensures {u = tt}).items
    ∙ ap (λ (ns : List Note). c.args.notes.now.items ++ ns) (sym (noted_by_uid c.args.view.now.items c.args.number c.uid_at-uid.result (omega arith) (omega arith) c.uid_at-uid.ensures))
