use Rattle.rev1_front.proofs.KeyLemmas.{modseq_pushed}
use Rattle.rev1_front.proofs.search_keys.push_modseq.Goals as goal

pub returns : goal.returns
returns c =
    let f = modseq_pushed c.args.octets.now c.args.len c.entry_end-start.result c.text_end-end.result c.args.keys.now.items c.extend_from_slice.new.self.items c.extend_from_slice-2.new.self.items c.entry_end-start.ensures.value c.text_end-end.ensures.value
    c.in_ok-extend_from_slice.ensures.items c.in_ok-extend_from_slice-2.ensures.items in
    (c.text_end-end.ensures.within, f.0, f.1)
