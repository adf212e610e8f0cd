use Rattle.std.proofs.Common.{◌∙◌, ap, sym}
use Rattle.std.proofs.lemmas.Bool.{eqb-true}
use Rattle.std.proofs.lemmas.Result.{IfOk-weaker}
use Rattle.imap_query.specs.ListNames.{name_answer}
use Rattle.std.specs.Prelude.{map}
use Rattle.imap_query.proofs.NamingLemmas.{shows_listed, shows_root, shows_subscribed}
use Rattle.imap_query.proofs.list_answers.list_names.Goals as goal

pub returns-then-is_empty : goal.returns-then-is_empty
returns-then-is_empty c =
    IfOk-weaker c.root.result _ _
    (λ answers h. shows_root c.args.mode c.args.reference.now c.args.pattern.now c.args.folders.now c.args.subscriptions.now answers.items (eqb-true _ _ (sym c.is_empty.ensures ∙ c.if-is_empty.true)) h)
    c.root.ensures

pub returns-then-mode : goal.returns-then-mode
returns-then-mode c =
    IfOk-weaker c.subscribed_names.result _ _
    (λ answers h. shows_subscribed c.args.mode c.args.reference.now c.args.pattern.now c.args.folders.now c.args.subscriptions.now answers.items (sym c.is_empty.ensures ∙ c.if-is_empty.false) c.if-mode.true h)
    c.subscribed_names.ensures

pub returns : goal.returns
returns c =
    IfOk-weaker c.name_answers.result _ _
    (λ answers h. shows_listed c.args.mode c.args.reference.now c.args.pattern.now c.args.folders.now c.args.subscriptions.now c.in_ok-entries.entries.items answers.items (sym c.is_empty.ensures ∙ c.if-is_empty.false) c.if-mode.false
    c.in_ok-entries.ensures (h ∙ ap (map (name_answer c.args.mode.return_subscribed c.args.subscriptions.now)) c.deref.ensures.value))
    c.name_answers.ensures
