use Rattle.std.proofs.Common.{◌∙◌, ap, sym, option_map, string_bytes}
use Rattle.base64.specs.GeneralPurpose.{decoded_of}
use Rattle.mailbox_utf7.specs.ModifiedUtf7.{encoding_of}
use Rattle.mailbox_utf7.proofs.DecodingLemmas.{agrees, differs, decodes_name, decodes_none, decodes_other}
use Rattle.mailbox_utf7.proofs.ShiftLemmas.{decoded_again}
use Rattle.mailbox_utf7.proofs.decoding.decode.Goals as goal

pub returns-in_default : goal.returns-in_default
returns-in_default c =
    decodes_none (decoded_of c.mailbox_engine-engine.result) c.args.octets.now (λ octets b. decoded_again c.mailbox_engine-engine.result octets c.mailbox_engine-engine.ensures b)
    (sym (ap (option_map (λ n. string_bytes n)) c.in_default.is) ∙ c.in_ok-name.ensures)

pub returns-then-ne : goal.returns-then-ne
returns-then-ne c =
    decodes_other (decoded_of c.mailbox_engine-engine.result) c.args.octets.now (string_bytes c.in-Some.name) (λ octets b. decoded_again c.mailbox_engine-engine.result octets c.mailbox_engine-engine.ensures b)
    (sym (ap (option_map (λ n. string_bytes n)) c.in-Some.is) ∙ c.in_ok-name.ensures)
    (λ e. differs c.as_slice.result.now c.args.octets.now c.ne.result c.ne.ensures c.if-ne.true (c.as_slice.ensures.value ∙ c.in_ok-encoding.ensures ∙ ap encoding_of c.deref.ensures ∙ e))

pub returns : goal.returns
returns c =
    decodes_name (decoded_of c.mailbox_engine-engine.result) c.args.octets.now (string_bytes c.in-Some.name) (λ octets b. decoded_again c.mailbox_engine-engine.result octets c.mailbox_engine-engine.ensures b)
    (sym (ap (option_map (λ n. string_bytes n)) c.in-Some.is) ∙ c.in_ok-name.ensures)
    (sym (c.as_slice.ensures.value ∙ c.in_ok-encoding.ensures ∙ ap encoding_of c.deref.ensures) ∙ agrees c.as_slice.result.now c.args.octets.now c.ne.result c.ne.ensures c.if-ne.false)
