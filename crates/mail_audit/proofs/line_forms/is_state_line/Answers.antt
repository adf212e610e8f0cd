use Rattle.std.proofs.Common.{◌≡◌, ◌++◌, inl, inr, IsTrue, codes, rules}
use Rattle.std.proofs.lemmas.Result.{IfOk-weaker}
use Rattle.mail_audit.proofs.FormLemmas.{line_of}
use Rattle.mail_audit.specs.Forms.{AreMessageFields, AreTagFields, IsStateLine}
use Rattle.mail_audit.proofs.line_forms.is_state_line.Goals as goal

pub returns-then-eq : goal.returns-then-eq
returns-then-eq c =
    let fields = c.in-Some.fields.now in
    let word : c.in-Some.word.now ≡ codes "folder" = search rules in
    let line : c.args.line.now ≡ codes "folder " ++ fields = line_of c.args.line.now c.in-Some.word.now fields (codes "folder") c.in-Some.ensures word in
    IfOk-weaker c.are_delete_fields.result (λ has. IsTrue has → AreTagFields fields) (λ has. IsTrue has → IsStateLine c.args.line.now) (λ has h t. (fields, inl (line, h t))) c.are_delete_fields.ensures

pub returns-then-eq-2 : goal.returns-then-eq-2
returns-then-eq-2 c =
    let fields = c.in-Some.fields.now in
    let word : c.in-Some.word.now ≡ codes "subscribed" = search rules in
    let line : c.args.line.now ≡ codes "subscribed " ++ fields = line_of c.args.line.now c.in-Some.word.now fields (codes "subscribed") c.in-Some.ensures word in
    IfOk-weaker c.are_unsubscribe_fields.result (λ has. IsTrue has → AreTagFields fields) (λ has. IsTrue has → IsStateLine c.args.line.now) (λ has h t. (fields, inr (inr (line, h t)))) c.are_unsubscribe_fields.ensures

pub returns-then-eq-3 : goal.returns-then-eq-3
returns-then-eq-3 c =
    let fields = c.in-Some.fields.now in
    let word : c.in-Some.word.now ≡ codes "message" = search rules in
    let line : c.args.line.now ≡ codes "message " ++ fields = line_of c.args.line.now c.in-Some.word.now fields (codes "message") c.in-Some.ensures word in
    IfOk-weaker c.are_message_fields.result (λ has. IsTrue has → AreMessageFields fields) (λ has. IsTrue has → IsStateLine c.args.line.now) (λ has h t. (fields, inr (inl (line, h t)))) c.are_message_fields.ensures
