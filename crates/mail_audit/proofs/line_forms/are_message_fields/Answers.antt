use Rattle.std.proofs.Common.{IsTrue, sym}
use Rattle.std.proofs.lemmas.Result.{IfOk-weaker}
use Rattle.mail_audit.proofs.FormLemmas.{cut_lacks, message_fields}
use Rattle.mail_audit.specs.Forms.{AreAppendFields, AreMessageFields}
use Rattle.mail_audit.proofs.line_forms.are_message_fields.Goals as goal

pub are_append_fields-requires : goal.are_append_fields-requires
are_append_fields-requires c = cut_lacks 32 c.args.fields.now (c.in-Some.origin.now, c.in-Some.after.now) (sym c.in-Some.ensures)

pub returns : goal.returns
returns c =
    let fields = c.args.fields.now in
    let origin = c.in-Some.origin.now in
    let rest = c.in-Some-split.rest.now in
    IfOk-weaker c.are_append_fields.result (λ are. IsTrue are → AreAppendFields origin rest) (λ are. IsTrue are → AreMessageFields fields) (λ are h t.
    message_fields fields origin c.in-Some.after.now c.in-Some-split.versions.now rest c.in-Some.ensures c.in-Some-split.ensures (c.in_ok-are_ids.ensures {u = tt} c.if-not-branch.false) (h t)) c.are_append_fields.ensures
