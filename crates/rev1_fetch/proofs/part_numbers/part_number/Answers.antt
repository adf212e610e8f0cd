use Rattle.std.proofs.Common.{ℕ, List, Ok, ap, sym, ◌∙◌}
use Rattle.std.proofs.lemmas.Result.{err_from_is_err_and}
use Rattle.rev1_fetch.specs.PartNumbers.{NumberParts, after_numbers, found_number, leading_number, number_parts, part_number}
use Rattle.rev1_fetch.proofs.SectionLemmas.{found_none, found_some, number_fault, number_last, number_more, number_none, read_along}
use Rattle.rev1_fetch.proofs.part_numbers.part_number.Goals as goal

pub returns-in_err-found : goal.returns-in_err-found
returns-in_err-found c =
    let p = err_from_is_err_and c.from_residual.result c.from_residual.ensures.1 in
    rw (p.1, p.2) (number_fault c.args.section.now c.loop-turn.path.items c.loop-turn.rest.now c.loop-turn.turn c.loop-turn-test.true c.loop-turn.invariant c.in_err-found.field-0.0 c.in_err-found.ensures)

pub returns-in_default : goal.returns-in_default
returns-in_default c =
    let rest = c.loop-turn.rest.now in
    let none = found_none c.in_ok-found.field-0 (λ f. found_number f.number f.rest.now f.is_last) (leading_number rest) c.in_ok-found.ensures c.in_default.is in
    read_along c.after_numbers.result (λ n. number_parts n.path n.is_mime n.rest.now) (after_numbers c.new.result rest) (part_number c.args.section.now)
    (ap (λ (p : List ℕ). after_numbers p rest) c.new.ensures ∙ number_none c.args.section.now c.loop-turn.path.items rest c.loop-turn.turn c.loop-turn-test.true c.loop-turn.invariant none)
    c.after_numbers.ensures

pub returns-then-found : goal.returns-then-found
returns-then-found c =
    let rest = c.loop-turn.rest.now in
    let some = found_some c.in_ok-found.field-0 (λ f. found_number f.number f.rest.now f.is_last) (leading_number rest) c.in-Some.found c.in_ok-found.ensures c.in-Some.is in
    number_last c.args.section.now c.loop-turn.path.items rest c.loop-turn.turn c.loop-turn-test.true c.loop-turn.invariant (found_number c.in-Some.found.number c.in-Some.found.rest.now c.in-Some.found.is_last) some c.if-found.true c.push.new.self.items c.in_ok-push.ensures.items
    ∙ ap (λ (n : NumberParts). Ok n) (sym c.numbered.ensures)

pub loop-turn-preserved : goal.loop-turn-preserved
loop-turn-preserved c =
    let rest = c.loop-turn.rest.now in
    let some = found_some c.in_ok-found.field-0 (λ f. found_number f.number f.rest.now f.is_last) (leading_number rest) c.in-Some.found c.in_ok-found.ensures c.in-Some.is in
    number_more c.args.section.now c.loop-turn.path.items rest c.loop-turn.turn c.loop-turn-test.true c.loop-turn.invariant (found_number c.in-Some.found.number c.in-Some.found.rest.now c.in-Some.found.is_last) some c.if-found.false c.push.new.self.items c.in_ok-push.ensures.items
