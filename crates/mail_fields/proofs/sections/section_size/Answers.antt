use Rattle.std.proofs.Common.{◌∙◌, ap, sym, arith, subst, ◌≡◌, false, take, length, ℕ, get_or}
use Rattle.std.specs.List.{list_any}
use Rattle.mail_fields.specs.HeaderValues.{is_semicolon}
use Rattle.mail_fields.proofs.ElementLemmas.{section_all, section_cut}
use Rattle.mail_fields.proofs.sections.section_size.Goals as goal

pub returns-then-is_semicolon-clause-sections : goal.returns-then-is_semicolon-clause-sections
returns-then-is_semicolon-clause-sections c =
    let e : c.index-elements-size.result ≡ get_or c.args.elements.now c.loop-size.size c.index-elements-size.result = c.index-elements-size.is in
    section_cut c.args.elements.now c.loop-size.size c.index-elements-size.result c.loop-size-test.true c.loop-size.invariant (ap is_semicolon (sym e) ∙ sym c.is_semicolon.ensures ∙ c.if-is_semicolon.true)

pub returns-clause-sections : goal.returns-clause-sections
returns-clause-sections c =
    let t = c.loop-size-test.false in
    let u = c.loop-size.auto.size-end in
    let e : c.loop-size.size ≡ length c.args.elements.now = omega arith in
    section_all c.args.elements.now (subst (λ (n : ℕ). list_any is_semicolon (take n c.args.elements.now) ≡ false) e c.loop-size.invariant)
