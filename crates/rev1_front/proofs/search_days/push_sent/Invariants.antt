use Rattle.std.proofs.Common.{◌≡◌, ◌++◌, take}
use Rattle.rev1_front.specs.SearchForms.{sent_uids}
use Rattle.rev1_front.proofs.DayLemmas.{has_uids, hits_text}
use Rattle.rev1_front.proofs.search_days.push_sent.Given as goal

abbrev pub invariant-loop-sent : goal.invariant-loop-sent
invariant-loop-sent l =
    (l.has_hit ≡ has_uids (sent_uids l.order l.day (take l.sent-index l.days)))
    × (l.keys.items ≡ l.initial.keys.items ++ hits_text (sent_uids l.order l.day (take l.sent-index l.days)))
