use Rattle.std.proofs.Common.{◌≡◌, ◌++◌, ◌∷◌, [], ℕ, List, OnOk, OnErr, sym, subst}
use Rattle.imap_answers.specs.declared.answer.Answer.{Answer}
use Rattle.rev1_front.specs.Showing.{IsFrontOf}
use Rattle.rev1_connection.specs.ShownReplies.{AreShownIn}
use Rattle.rev1_connection.specs.declared.manner.Manner.{Manner}
use Rattle.rev1_connection.specs.declared.manner.Manner.TheVariants as manners
use Rattle.rev1_connection.proofs.ReplyLemmas.{none_err, planned_ok, renamed_ok}
use Rattle.rev1_connection.proofs.shown_answers.show_answer.Goals as goal

pub returns-in-Form-clause-ok : goal.returns-in-Form-clause-ok
returns-in-Form-clause-ok c =
    let r = c.show.result in
    let old = c.args.text.now.items in
    let new = c.show.new.text.items in
    let P : Manner → List Answer → Type 0 = λ m one. OnOk r ((given : List ℕ) × AreShownIn c.args.mode m one one given × (new ≡ old ++ given)) in
    subst (λ (m : Manner). P m (c.args.answer.now ∷ [])) (sym c.in-Form.is) (subst (λ (one : List Answer). P (manners.Form c.in-Form.form) one) c.from_ref.ensures.value c.show.ensures.ok)

pub returns-in-Form-clause-err : goal.returns-in-Form-clause-err
returns-in-Form-clause-err c =
    let r = c.show.result in
    let old = c.args.text.now.items in
    let new = c.show.new.text.items in
    let P : Manner → List Answer → Type 0 = λ m one. OnErr r ((front : List Answer) × (given : List ℕ) × IsFrontOf front one × AreShownIn c.args.mode m one front given × (new ≡ old ++ given)) in
    subst (λ (m : Manner). P m (c.args.answer.now ∷ [])) (sym c.in-Form.is) (subst (λ (one : List Answer). P (manners.Form c.in-Form.form) one) c.from_ref.ensures.value c.show.ensures.err)

pub returns-in-Plan-clause-ok : goal.returns-in-Plan-clause-ok
returns-in-Plan-clause-ok c =
    let r = c.show_planned.result in
    let old = c.args.text.now.items in
    let new = c.show_planned.new.text.items in
    let one = c.args.answer.now ∷ [] in
    subst (λ (m : Manner). OnOk r ((given : List ℕ) × AreShownIn c.args.mode m one one given × (new ≡ old ++ given))) (sym c.in-Plan.is) (planned_ok c.args.mode c.args.answer.now old new r c.in-Plan.plan c.show_planned.ensures.ok)

pub returns-in-Plan-clause-err : goal.returns-in-Plan-clause-err
returns-in-Plan-clause-err c = none_err c.args.mode c.args.answer.now c.args.text.now.items c.show_planned.new.text.items c.show_planned.result c.args.manner.now c.show_planned.ensures.err

pub returns-in-Renamed-clause-ok : goal.returns-in-Renamed-clause-ok
returns-in-Renamed-clause-ok c =
    let r = c.show_renamed.result in
    let old = c.args.text.now.items in
    let new = c.show_renamed.new.text.items in
    let one = c.args.answer.now ∷ [] in
    subst (λ (m : Manner). OnOk r ((given : List ℕ) × AreShownIn c.args.mode m one one given × (new ≡ old ++ given))) (sym c.in-Renamed.is) (renamed_ok c.args.mode c.args.answer.now old new r c.show_renamed.ensures.ok)

pub returns-in-Renamed-clause-err : goal.returns-in-Renamed-clause-err
returns-in-Renamed-clause-err c = none_err c.args.mode c.args.answer.now c.args.text.now.items c.show_renamed.new.text.items c.show_renamed.result c.args.manner.now c.show_renamed.ensures.err
