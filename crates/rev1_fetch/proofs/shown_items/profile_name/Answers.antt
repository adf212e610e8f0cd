use Rattle.std.proofs.Common.{◌++◌, ◌∷◌, [], None, ap, ◌∙◌}
use Rattle.std.proofs.lemmas.Result.{IfOk-weaker}
use Rattle.imap_answers.specs.declared.fetch_items.FetchItems.{FetchItems}
use Rattle.imap_answers.specs.declared.fetch_items.SectionData.{SectionData}
use Rattle.rev1_fetch.specs.ShownItems.{origin_of}
use Rattle.rev1_fetch.proofs.ShownLemmas.{name_is}
use Rattle.rev1_fetch.proofs.shown_items.profile_name.Goals as goal

pub returns : goal.returns
returns c =
    let section = c.args.asked.now.section in
    let origin = origin_of c.args.asked.now.partial in
    let octets = c.in_ok-new.field-0 in
    let part : SectionData = record { section = c.in_ok-copy.field-0; origin = c.origin_of.result; octets = octets } in
    let given : FetchItems = record { uid = None; flags = None; date = None; size = None; modseq = None; sections = c.new-3.result } in
    let sections =
    c.new-3.ensures ∙ c.in_ok-push.ensures.items ∙ ap (λ s. s ++ part ∷ []) c.new-sections.ensures.items ∙ (λ i. record { section = c.in_ok-copy.ensures i; origin = c.origin_of.ensures i; octets = octets } ∷ []) in
    IfOk-weaker c.name_in.result _ _
    (λ n h. h ∙ name_is section origin octets c.deref.result.now given (c.in_ok-new.ensures ∙ c.new.ensures.items)
    (λ i. record { uid = None; flags = None; date = None; size = None; modseq = None; sections = sections i })
    (c.deref.ensures.value ∙ c.in_ok-printed.ensures)) c.name_in.ensures
