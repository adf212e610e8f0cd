use Rattle.std.proofs.Common.{◌≤◌, ◌<◌, length, arith, ◌∙◌}
use Rattle.std.proofs.lemmas.List.{length-set}
use Rattle.imap_node.proofs.SessionChangeLemmas.{after_notes_set, each_after_notes, rest_set}
use Rattle.imap_node.proofs.feeds.note_in.Goals as goal

pub returns : goal.returns
returns c =
    let old = c.args.feeds.now.items in
    let ended : length old ≤ c.loop-place.place = let a = c.loop-place-test.false in let b = c.len-place-end.ensures in let k = c.args.feeds.now.ok.0 in omega (arith, a, b, k) in
    each_after_notes c.args.change_notes.now c.args.places.now old c.loop-place.feeds.items c.loop-place.place c.loop-place.invariant.len ended c.loop-place.invariant.done c.loop-place.invariant.rest

pub loop-place-preserved : goal.loop-place-preserved
loop-place-preserved c =
    let change_notes = c.args.change_notes.now in
    let places = c.args.places.now in
    let old = c.args.feeds.now.items in
    let cur = c.loop-place.feeds.items in
    let k = c.loop-place.place in
    let was = c.index_mut.result.now in
    let feed = c.note_at.new.feed in
    let within : k < length cur = let a = c.loop-place-test.true in let b = c.len-place-end.ensures in let g = c.args.feeds.now.ok.0 in let e = c.loop-place.invariant.len in omega (arith, a, b, g, e) in
    record {
      len = length-set cur k feed ∙ c.loop-place.invariant.len;
      done = after_notes_set change_notes places old cur k was feed within c.index_mut.ensures.value c.note_at.ensures c.loop-place.invariant.done c.loop-place.invariant.rest;
      rest = rest_set change_notes places old cur k was feed within c.index_mut.ensures.value c.note_at.ensures c.loop-place.invariant.rest;
    }
