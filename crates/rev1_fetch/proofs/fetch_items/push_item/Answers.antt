use Rattle.std.proofs.Common.{not, sym, ◌∙◌}
use Rattle.rev1_fetch.specs.ReadItems.{asked_plain, asked_text}
use Rattle.rev1_fetch.specs.declared.text_item.TextItem.TheVariants as texts
use Rattle.rev1_fetch.proofs.AskedLemmas.{if_err, memory_unread, on_ok, plain_asked, section_asked, section_unread, word_asked}
use Rattle.rev1_fetch.proofs.fetch_items.push_item.Goals as goal

pub returns-then-is_plain-clause-ok : goal.returns-then-is_plain-clause-ok
returns-then-is_plain-clause-ok c = on_ok c.push_plain.result (λ e. (asked_plain c.args.item.now, plain_asked c.args.item.now (sym c.is_plain.ensures ∙ c.if-is_plain.true), e)) c.push_plain.ensures.ok

pub returns-then-is_plain-clause-err : goal.returns-then-is_plain-clause-err
returns-then-is_plain-clause-err c = if_err c.push_plain.result _ _ (λ fault e. memory_unread c.args.item.now fault e) c.push_plain.ensures.err

pub returns-in-Some-clause-ok : goal.returns-in-Some-clause-ok
returns-in-Some-clause-ok c =
    on_ok c.push_text.result (λ e. (
      asked_text (texts.Word c.in-Some.found.word) c.in-Some.found.sets_seen,
      word_asked c.args.item.now c.in-Some.found (sym c.is_plain.ensures ∙ c.if-is_plain.false) (sym c.in-Some.ensures),
      e,
    )) c.push_text.ensures.ok

pub returns-in-Some-clause-err : goal.returns-in-Some-clause-err
returns-in-Some-clause-err c = if_err c.push_text.result _ _ (λ fault e. memory_unread c.args.item.now fault e) c.push_text.ensures.err

pub returns-in-None-clause-ok : goal.returns-in-None-clause-ok
returns-in-None-clause-ok c =
    on_ok c.push_section.result (λ h. (
      asked_text (texts.Section h.0) (not h.1),
      section_asked c.args.item.now h.0 h.1 (sym c.is_plain.ensures ∙ c.if-is_plain.false) (sym c.in-None.ensures) h.2,
      h.3,
    )) c.push_section.ensures.ok

pub returns-in-None-clause-err : goal.returns-in-None-clause-err
returns-in-None-clause-err c =
    if_err c.push_section.result _ _ (λ fault h. section_unread c.args.item.now fault (sym c.is_plain.ensures ∙ c.if-is_plain.false) (sym c.in-None.ensures) h) c.push_section.ensures.err
