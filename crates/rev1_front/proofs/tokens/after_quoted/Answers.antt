use Rattle.std.proofs.Common.{◌+◌, ◌-◌, ℕ, List, Some, length, drop, false, ap, sym, ◌∙◌, arith, length-drop}
use Rattle.std.proofs.lemmas.List.{take_all}
use Rattle.imap_grammar.specs.Reading.{quoted_at}
use Rattle.rev1_front.proofs.TokenLemmas.{place_closed, place_end, place_next, place_refused, rest_of}
use Rattle.rev1_front.proofs.tokens.after_quoted.Goals as goal

pub returns-then-is_closing : goal.returns-then-is_closing
returns-then-is_closing c =
    let rest = drop (c.loop-place.place + 1) c.args.octets.now in
    ap (λ (os : List ℕ). Some os)
    (take_all (length c.args.octets.now - (c.loop-place.place + 1)) rest (omega (arith, length-drop (c.loop-place.place + 1) c.args.octets.now)))
    ∙ place_closed c.args.octets.now c.loop-place.place c.loop-place.escaped (rest_of (quoted_at false c.args.octets.now)) c.loop-place-test.true c.loop-place.invariant (sym c.is_closing.ensures ∙ c.if-is_closing.true)

pub returns-then-not-is_allowed : goal.returns-then-not-is_allowed
returns-then-not-is_allowed c =
    place_refused c.args.octets.now c.loop-place.place c.loop-place.escaped (rest_of (quoted_at false c.args.octets.now)) c.loop-place-test.true c.loop-place.invariant (sym c.is_closing.ensures ∙ c.if-is_closing.false)
    (sym c.is_allowed.ensures ∙ c.if-not-is_allowed.true)

pub loop-place-preserved : goal.loop-place-preserved
loop-place-preserved c =
    place_next c.args.octets.now c.loop-place.place c.loop-place.escaped (rest_of (quoted_at false c.args.octets.now)) c.loop-place-test.true c.loop-place.invariant c.is_escape-escaped.result c.is_escape-escaped.ensures
    (sym c.is_closing.ensures ∙ c.if-is_closing.false) (sym c.is_allowed.ensures ∙ c.if-not-is_allowed.false)

pub returns : goal.returns
returns c = place_end c.args.octets.now c.loop-place.place c.loop-place.escaped (rest_of (quoted_at false c.args.octets.now)) c.loop-place-test.false c.loop-place.invariant
