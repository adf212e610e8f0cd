use Rattle.std.proofs.Common.{◌∙◌, ap, sym, string_bytes, ◌∷◌, ◌++◌, option_map}
use Rattle.base64.specs.GeneralPurpose.{decoded_of}
use Rattle.mailbox_utf7.specs.Reading.{text_of_shift, text_read_after}
use Rattle.mailbox_utf7.proofs.ReadingLemmas.{if_ok, shift_ends, shift_grows}
use Rattle.mailbox_utf7.proofs.decoding.read_octet.Goals as goal

pub returns-then-not-is_shifted : goal.returns-then-not-is_shifted
returns-then-not-is_shifted c =
    if_ok c.read_direct.result _ _ (λ next step rest. ap (λ b. text_read_after (decoded_of c.args.engine.now) (string_bytes c.args.name.now) b c.args.symbols.now.items (c.args.octet ∷ rest)) c.if-not-is_shifted.true
    ∙ step (decoded_of c.args.engine.now) rest) c.read_direct.ensures

pub returns-then-octet-ne45 : goal.returns-then-octet-ne45
returns-then-octet-ne45 c rest =
    shift_grows (decoded_of c.args.engine.now) _ _ _ rest c.args.octet c.args.is_shifted c.if-not-is_shifted.false c.if-octet-ne45.true c.in_ok-push.ensures.items

pub returns : goal.returns
returns c rest =
    shift_ends (decoded_of c.args.engine.now) _ (string_bytes c.in-Some.text) _ _ _ rest c.args.octet c.args.is_shifted c.if-not-is_shifted.false c.if-octet-ne45.false (sym (ap (option_map (λ t. string_bytes t)) c.in-Some.is) ∙ c.in_ok-text.ensures ∙ ap (text_of_shift (decoded_of c.args.engine.now)) c.deref.ensures.value) (c.in_ok-push_str.ensures.bytes ∙ ap (λ t. string_bytes c.args.name.now ++ t) c.deref-2.ensures) c.clear.ensures.items
