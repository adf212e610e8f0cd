use Rattle.std.proofs.Common.{◌≡◌, ℕ, List, Option, IsTrue, MatchOption, ◌∙◌, sym, subst, rules}
use Rattle.imap_types.specs.Escape.{AreOctets, escape_text}
use Rattle.imap_types.specs.declared.escape.Escape.TheVariants.{Text}
use Rattle.mail_script.specs.Fields.{is_session_name}
use Rattle.mail_audit.proofs.LineLemmas.{no_name, no_speech, no_text, not_cut, spoken_of}
use Rattle.mail_audit.proofs.lines.read_spoken.Goals as goal

pub returns-in-Some-new : goal.returns-in-Some-new
returns-in-Some-new c =
    let copied : c.in_ok-to_vec.field-0.items ≡ c.in-Some.name.now = search rules in
    let named = c.in-Some-new.ensures in
    let shown = c.in-Some-speech.text.now in
    let read = subst (λ (unescaped : Option (List ℕ)). MatchOption unescaped ((octets : List ℕ) → AreOctets octets → shown ≡ escape_text Text octets → ⊥) (λ octets. AreOctets octets × (shown ≡ escape_text Text octets))) c.in-Some-2.is c.in_ok-text.ensures in (
      search rules,
      read.0,
      spoken_of c.args.line.now c.in-Some.name.now c.in-Some.sent.now shown c.in-Some-new.session c.in-Some-2.text c.in-Some-speech.speaker c.in-Some.ensures (named.1 ∙ copied) c.in-Some-speech.ensures read.1,
    )

pub returns-in_default : goal.returns-in_default
returns-in_default c = not_cut c.args.line.now c.in_default.ensures

pub returns-in_default-speech : goal.returns-in_default-speech
returns-in_default-speech c = no_speech c.args.line.now c.in-Some.name.now c.in-Some.sent.now c.in-Some.ensures c.in_default-speech.ensures

pub returns-in_default-2 : goal.returns-in_default-2
returns-in_default-2 c =
    let shown = c.in-Some-speech.text.now in
    let unread = rw c.in_default-2.is at c.in_ok-text.ensures in
    no_text c.args.line.now c.in-Some.name.now c.in-Some.sent.now c.in-Some.ensures c.in-Some-speech.speaker shown c.in-Some-speech.ensures unread

pub returns-in-None : goal.returns-in-None
returns-in-None c =
    let copied : c.in_ok-to_vec.field-0.items ≡ c.in-Some.name.now = search rules in
    no_name c.args.line.now c.in-Some.name.now c.in-Some.sent.now c.in-Some.ensures (λ n. c.in-None.ensures (subst (λ (xs : List ℕ). IsTrue (is_session_name xs)) (sym copied) n))
