use Rattle.std.proofs.Common.{◌∙◌, ap, sym, refl, arith, string_bytes, false, [], Some, drop, ◌+◌}
use Rattle.base64.specs.GeneralPurpose.{decoded_of}
use Rattle.mailbox_utf7.specs.Reading.{joined, text_read, text_read_next}
use Rattle.mailbox_utf7.proofs.ReadingLemmas.{ends_in_shift, ends_outside, joined_none, next_read}
use Rattle.mailbox_utf7.proofs.decoding.read.Goals as goal

pub loop-octet-init : goal.loop-octet-init
loop-octet-init c =
    (λ i. joined (Some (c.new-name.ensures.bytes i)) (text_read (decoded_of c.args.engine.now) false (c.new-symbols.ensures.items i) c.args.octets.now))
    ∙ joined_none (text_read (decoded_of c.args.engine.now) false [] c.args.octets.now)

pub returns-in_default : goal.returns-in_default
returns-in_default c =
    ap (λ n. text_read_next (decoded_of c.args.engine.now) (string_bytes c.read_octet.new.name) n c.read_octet.new.symbols.items (drop (c.loop-octet.octet-index + 1) c.args.octets.now)) (sym c.in_default.is)
    ∙ next_read (decoded_of c.args.engine.now) (string_bytes c.loop-octet.name) (string_bytes c.read_octet.new.name) c.loop-octet.symbols.items c.read_octet.new.symbols.items c.args.octets.now
    c.loop-octet.octet-index c.loop-octet.is_shifted c.in_ok-next.next _ _ c.loop-octet-test.true refl c.in_ok-next.ensures c.loop-octet.invariant

pub loop-octet-preserved : goal.loop-octet-preserved
loop-octet-preserved c =
    ap (λ n. text_read_next (decoded_of c.args.engine.now) (string_bytes c.read_octet.new.name) n c.read_octet.new.symbols.items (drop (c.loop-octet.octet-index + 1) c.args.octets.now)) (sym c.in-Some.is)
    ∙ next_read (decoded_of c.args.engine.now) (string_bytes c.loop-octet.name) (string_bytes c.read_octet.new.name) c.loop-octet.symbols.items c.read_octet.new.symbols.items c.args.octets.now
    c.loop-octet.octet-index c.loop-octet.is_shifted c.in_ok-next.next _ _ c.loop-octet-test.true refl c.in_ok-next.ensures c.loop-octet.invariant

pub returns-then-is_shifted : goal.returns-then-is_shifted
returns-then-is_shifted c =
    ends_in_shift (decoded_of c.args.engine.now) (string_bytes c.loop-octet.name) c.loop-octet.symbols.items c.args.octets.now c.loop-octet.octet-index c.loop-octet.is_shifted _ (omega arith) c.if-is_shifted.true c.loop-octet.invariant

pub returns : goal.returns
returns c =
    ends_outside (decoded_of c.args.engine.now) (string_bytes c.loop-octet.name) c.loop-octet.symbols.items c.args.octets.now c.loop-octet.octet-index c.loop-octet.is_shifted _ (omega arith) c.if-is_shifted.false c.loop-octet.invariant
