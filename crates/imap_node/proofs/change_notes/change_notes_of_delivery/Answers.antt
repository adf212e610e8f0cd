use Rattle.std.proofs.Common.{◌≡◌, inl, inr, List, [], ◌∷◌, ◌++◌, ℕ, true, sym, subst, ap, ◌∙◌}
use Rattle.crdt_ops.specs.declared.op.Op.{Op}
use Rattle.crdt_ops.specs.Tags.{name_of}
use Rattle.imap_node.specs.SessionFeeds.{MailboxNotes, AreChangeNotes, NotesNameIn, is_named}
use Rattle.imap_node.specs.ChangeNotes.{IsSnapshotOf}
use Rattle.uid_projection.specs.Applied.{IsApplied}
use Rattle.uid_projection.specs.Incarnations.{uidvalidity_of}
use Rattle.uid_projection.specs.UidsAndModSeqs.{uidnext_of}
use Rattle.imap_node.proofs.ChangeNotesLemmas.{all_change_notes, so_far_append}
use Rattle.imap_node.proofs.change_notes.change_notes_of_delivery.Goals as goal

pub returns : goal.returns
returns c = λ before op is e.
    let start = c.args.replica.now.start in
    let after = before ++ op ∷ [] in
    let name = name_of op.kind in
    let folder = c.in_ok-folder.folder in
    let done = c.in_ok-folder.ensures {u = tt} in
    let applied : IsApplied after = subst IsApplied e (record { sound = c.op_list-list.ensures.sound; causal = c.op_list-list.ensures.lawful.causal }) in
    let named = subst (λ (n : List ℕ). NotesNameIn start before after n folder.notes) is.name_is
    (done.notes start before (op ∷ []) applied (subst (λ (n : List ℕ). IsSnapshotOf start before (op ∷ []) n c.args.snapshot) (sym is.name_is) is)
    (c.uidvalidity-uidvalidity.ensures ∙ (λ i. uidvalidity_of start (c.name.ensures i) (e i))) (c.uidnext-uidnext.ensures ∙ (λ i. uidnext_of start (c.name-2.ensures i) (e i)))) in
    let far = so_far_append start before (op ∷ []) name [] folder (done.name ∙ is.name_is) named in
    let all = all_change_notes start before (op ∷ []) (folder ∷ []) applied (far.named (λ f i. absurd i))
    (λ o i. elim i [ inl q ↦ subst (λ (x : Op). is_named (folder ∷ []) (name_of x.kind) ≡ true) q far.own | inr n ↦ absurd n ]) in
    let pushed = c.push_reserved.ensures.items ∙ ap (λ (folders : List MailboxNotes). folders ++ folder ∷ []) (c.in_ok-folders.ensures {u = tt}).items in
    subst (λ (folders : List MailboxNotes). AreChangeNotes start before c.args.replica.now.applied folders) (sym pushed) (subst (λ (ops : List Op). AreChangeNotes start before ops (folder ∷ [])) (sym e) all)
