use Rattle.rev1_front.proofs.KeyLemmas.{sent_none, sent_some}
use Rattle.rev1_front.proofs.search_keys.push_sent_key.Goals as goal

pub returns-in_ok-extend_from_slice-in-None : goal.returns-in_ok-extend_from_slice-in-None
returns-in_ok-extend_from_slice-in-None c =
    let f = sent_none c.args.order c.args.days.now c.args.octets.now c.args.len c.text_end-end.result c.text_end-end.ensures.value c.args.keys.now.text.items c.extend_from_slice.new.self.items c.args.keys.now.asks_sent c.in-None.ensures
    c.in_ok-extend_from_slice-in-None.ensures.items in
    (c.text_end-end.ensures.within, f.0, f.1, f.2)

pub returns-in_ok-push_sent-in-Some : goal.returns-in_ok-push_sent-in-Some
returns-in_ok-push_sent-in-Some c =
    let f = sent_some c.args.order c.args.days.now c.args.octets.now c.args.len c.text_end-end.result c.text_end-end.ensures.value c.args.keys.now.text.items c.push_sent.new.keys.items c.args.keys.now.asks_sent c.in-Some.day c.in-Some.ensures
    c.in_ok-push_sent-in-Some.ensures in
    (c.text_end-end.ensures.within, f.0, f.1, f.2)
