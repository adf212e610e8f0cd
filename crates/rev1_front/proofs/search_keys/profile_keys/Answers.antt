use Rattle.std.proofs.Common.{◌+◌, ◌-◌, ℕ, List, length, drop, ap, ◌∙◌, arith, length-drop}
use Rattle.std.proofs.lemmas.List.{take_all}
use Rattle.rev1_front.specs.SearchReading.{keys_read, profile_keys}
use Rattle.rev1_front.proofs.KeyLemmas.{joined_keys, keys_begun, keys_done, keys_ended, keys_next}
use Rattle.rev1_front.proofs.SliceLemmas.{nil_is, nil_not}
use Rattle.rev1_front.proofs.search_keys.profile_keys.Goals as goal

pub loop-turn-init : goal.loop-turn-init
loop-turn-init c = keys_begun c.args.octets.now c.args.days.now c.new.result.items c.new.ensures.items

pub returns-then-is_empty : goal.returns-then-is_empty
returns-then-is_empty c =
    keys_ended c.args.octets.now c.args.days.now c.loop-turn.rest.now c.loop-turn.keys.text.items c.loop-turn.keys.asks_sent c.loop-turn.turn (profile_keys c.args.days.now c.args.octets.now)
    (nil_is c.loop-turn.rest.now c.is_empty.result c.is_empty.ensures c.if-is_empty.true) c.loop-turn.invariant

pub loop-turn-preserved : goal.loop-turn-preserved
loop-turn-preserved c =
    let f = c.in_ok-len.ensures in
    let rest = c.loop-turn.rest.now in
    ap (λ (r : List ℕ). joined_keys c.push_key.new.keys.text.items c.push_key.new.keys.asks_sent (keys_read (length c.args.octets.now - (c.loop-turn.turn + 1)) c.args.days.now r))
    (take_all (length rest - c.in_ok-len.len) (drop c.in_ok-len.len rest) (omega (arith, length-drop c.in_ok-len.len rest)))
    ∙ keys_next c.args.octets.now c.args.days.now c.loop-turn.rest.now c.loop-turn.keys.text.items c.push_key.new.keys.text.items c.loop-turn.keys.asks_sent c.push_key.new.keys.asks_sent c.loop-turn.turn c.in_ok-len.len
    (profile_keys c.args.days.now c.args.octets.now) c.loop-turn-test.true (nil_not c.loop-turn.rest.now c.is_empty.result c.is_empty.ensures c.if-is_empty.false) f.1 f.2 f.3 c.loop-turn.invariant

pub returns : goal.returns
returns c =
    keys_done c.args.octets.now c.args.days.now c.loop-turn.rest.now c.loop-turn.keys.text.items c.loop-turn.keys.asks_sent c.loop-turn.turn (profile_keys c.args.days.now c.args.octets.now) c.loop-turn-test.false c.loop-turn.invariant
