use Rattle.std.proofs.Common.{◌≡◌, ◌≢◌, ◌⊎◌, inl, inr, ℕ, Bool, true, false, not, eqb, List, [], ◌∷◌, ◌++◌, Option, Some, None, Result, Ok, Err, MatchResult, refl, sym, ap, ◌∙◌, subst, append_assoc}
use Rattle.std.proofs.lemmas.Bool.{and_parts, and_from}
use Rattle.std.proofs.lemmas.List.{append-nil}
use Rattle.text_fields.specs.FieldReading.{cut_at, before_first_part}
use Rattle.text_fields.proofs.FieldLemmas.{chosen, cut_complete, cut_sound, before_first_part_some, lacks}
use Rattle.crdt_ops.specs.declared.op.Op.{Op as Operation}
use Rattle.crdt_ops.specs.declared.sound_op.Unsound.{Unsound as Rule}
use Rattle.crdt_ops.specs.declared.sound_op.Unsound.TheVariants.{OwnClockEntry, UncoveredId, UnlawfulName, UnlawfulFlags, DeleteOfInbox, Count}
use Rattle.crdt_ops.specs.Form.{Each}
use Rattle.crdt_ops.specs.Sound.{IsFirstFault, IsSound}
use Rattle.link_wire.specs.declared.line_fault.LineFault.{LineFault}
use Rattle.link_wire.specs.declared.line_fault.LineFault.TheVariants.{NotInForm, Unsound, NoMemory}
use Rattle.link_wire.specs.declared.wire_message.WireMessage.{WireMessage}
use Rattle.link_wire.specs.declared.wire_message.WireMessage.TheVariants.{Op}
use Rattle.link_wire.specs.MessageForm.{AreSpelled, HasFirstFault, IsInForm, IsLawful, IsLineFault, IsPayloadFault, IsSpelled}
use Rattle.link_wire.specs.MessageTexts.{line_text, message_text, payload_text}
use Rattle.link_wire.proofs.LineEndLemmas.{message_lacks}
use Rattle.link_wire.proofs.LineReadingLemmas.{one_message-by}

-- ---- cuts at the end of a line

-- what comes before a cut lacks the separator
pub cut_lacks : (separator : ℕ) (text : List ℕ) (parts : List ℕ × List ℕ) → cut_at separator text ≡ Some parts → lacks separator parts.0 ≡ true
cut_lacks separator [] parts h = absurd cc
cut_lacks separator (octet ∷ octets) parts h =
    elim (chosen (eqb octet separator) (Some ([], octets)) (before_first_part (octet ∷ []) (cut_at separator octets)) (Some parts) h) [
      | inl t ↦
          let e : ◌≡◌ {A = List ℕ × List ℕ} ([], octets) parts = let k = t.1 in cc in
          ap (λ (p : List ℕ × List ℕ). lacks separator p.0) (sym e)
      | inr f ↦
          let y = before_first_part_some (octet ∷ []) (cut_at separator octets) parts f.1 in
          ap (lacks separator) y.2 ∙ and_from (not (eqb octet separator)) (lacks separator y.0.0) (ap not f.0) (cut_lacks separator octets y.0 y.1)
    ]

-- a text without a cut lacks the separator
pub uncut_lacks : (separator : ℕ) (text : List ℕ) → cut_at separator text ≡ None → lacks separator text ≡ true
uncut_lacks separator [] h = refl
uncut_lacks separator (octet ∷ octets) h =
    elim (chosen (eqb octet separator) (Some ([], octets)) (before_first_part (octet ∷ []) (cut_at separator octets)) None h) [
      | inl t ↦ absurd (let k = t.1 in cc)
      | inr f ↦ and_from (not (eqb octet separator)) (lacks separator octets) (ap not f.0) (uncut_lacks separator octets (inside (cut_at separator octets) f.1))
    ]
  where
    inside : (o : Option (List ℕ × List ℕ)) → before_first_part (octet ∷ []) o ≡ None → o ≡ None
    inside None k = refl
    inside (Some x) k = absurd cc

-- and the other way round
pub lacks_uncut : (separator : ℕ) (text : List ℕ) → lacks separator text ≡ true → cut_at separator text ≡ None
lacks_uncut separator [] h = refl
lacks_uncut separator (octet ∷ octets) h =
    let p = and_parts (not (eqb octet separator)) (lacks separator octets) h in
    let f : eqb octet separator ≡ false = not_true (eqb octet separator) p.0 in
    rw f (ap (before_first_part (octet ∷ [])) (lacks_uncut separator octets p.1))
  where
    not_true : (b : Bool) → not b ≡ true → b ≡ false
    not_true true k = absurd cc
    not_true false k = refl

-- ---- the lines of a payload

each_append : {X : Type 0} (P : X → Type 0) (xs : List X) (x : X) → Each P xs → P x → Each P (xs ++ x ∷ [])
each_append P [] x h p = (p, tt)
each_append P (y ∷ ys) x h p = (h.0, each_append P ys x h.1 p)

payload_text-append : (messages : List WireMessage) (message : WireMessage) → payload_text (messages ++ message ∷ []) ≡ payload_text messages ++ line_text message
payload_text-append [] message = append-nil (line_text message)
payload_text-append (first ∷ messages) message = ap (λ (t : List ℕ). line_text first ++ t) (payload_text-append messages message) ∙ sym (append_assoc (line_text first) (payload_text messages) (line_text message))

-- one line more was read
pub one_line_more : (payload rest : List ℕ) (parts : List ℕ × List ℕ) (messages : List WireMessage) (message : WireMessage) → payload ≡ payload_text messages ++ rest → cut_at 10 rest ≡ Some parts → IsSpelled message parts.0 → payload ≡ payload_text (messages ++ message ∷ []) ++ parts.1
one_line_more payload rest parts messages message e cut s =
    let line : rest ≡ line_text message ++ parts.1 =
    cut_sound 10 rest parts cut ∙ ap (λ (t : List ℕ). t ++ 10 ∷ parts.1) s.1 ∙ sym (append_assoc (message_text message) (10 ∷ []) parts.1) in
    e ∙ ap (λ (t : List ℕ). payload_text messages ++ t) line ∙ sym (append_assoc (payload_text messages) (line_text message) parts.1)
    ∙ ap (λ (t : List ℕ). t ++ parts.1) (sym (payload_text-append messages message))

-- what has been read of a payload: whole lines of messages that may be acted on, and a rest
pub record HasBegun (payload : List ℕ) (messages : List WireMessage) (rest : List ℕ) : Type 0 where
  pub in_form : Each IsInForm messages
  pub lawful : Each IsLawful messages
  pub text_is : payload ≡ payload_text messages ++ rest

pub at_first : (payload : List ℕ) → HasBegun payload [] payload
at_first payload = record { in_form = tt; lawful = tt; text_is = refl }

pub one_more : (payload rest : List ℕ) (parts : List ℕ × List ℕ) (messages : List WireMessage) (message : WireMessage) → HasBegun payload messages rest → cut_at 10 rest ≡ Some parts → IsSpelled message parts.0 × IsLawful message → HasBegun payload (messages ++ message ∷ []) parts.1
one_more payload rest parts messages message b cut s = record {
  in_form = each_append IsInForm messages message b.in_form s.0.0;
  lawful = each_append IsLawful messages message b.lawful s.1;
  text_is = one_line_more payload rest parts messages message b.text_is cut s.0;
}

pub all_read : (payload rest : List ℕ) (messages : List WireMessage) → HasBegun payload messages rest → rest ≡ [] → AreSpelled messages payload × Each IsLawful messages
all_read payload rest messages b e =
    ((b.in_form, b.text_is ∙ ap (λ (t : List ℕ). payload_text messages ++ t) e ∙ append-nil (payload_text messages)), b.lawful)

first_fault : (fault : LineFault) (payload rest : List ℕ) (parts : List ℕ × List ℕ) (messages : List WireMessage) → HasBegun payload messages rest → cut_at 10 rest ≡ Some parts → IsLineFault fault parts.0 → HasFirstFault fault payload
first_fault fault payload rest parts messages b cut f = record {
  messages = messages;
  line = parts.0;
  rest = parts.1;
  in_form = b.in_form;
  lawful = b.lawful;
  no_lf = cut_lacks 10 rest parts cut;
  ends = inl (b.text_is ∙ ap (λ (t : List ℕ). payload_text messages ++ t) (cut_sound 10 rest parts cut), f);
}

-- a line has a fault
pub line_fails : (fault : LineFault) (payload rest : List ℕ) (parts : List ℕ × List ℕ) (messages : List WireMessage) → HasBegun payload messages rest → cut_at 10 rest ≡ Some parts → IsLineFault fault parts.0 → IsPayloadFault fault payload
line_fails NotInForm payload rest parts messages b cut f = first_fault NotInForm payload rest parts messages b cut f
line_fails (Unsound rule) payload rest parts messages b cut f = first_fault (Unsound rule) payload rest parts messages b cut f
line_fails NoMemory payload rest parts messages b cut f = tt

-- the last line has no end
pub end_fails : (payload rest : List ℕ) (messages : List WireMessage) → HasBegun payload messages rest → cut_at 10 rest ≡ None → rest ≢ [] → IsPayloadFault NotInForm payload
end_fails payload rest messages b cut some = record {
  messages = messages;
  line = rest;
  rest = [];
  in_form = b.in_form;
  lawful = b.lawful;
  no_lf = uncut_lacks 10 rest cut;
  ends = inr (b.text_is, some, refl);
}

-- ---- one list of messages a payload

-- the first line of a payload, whatever comes after the others
first_line : (message : WireMessage) (messages : List WireMessage) (more : List ℕ) → IsInForm message → cut_at 10 (payload_text (message ∷ messages) ++ more) ≡ Some (message_text message, payload_text messages ++ more)
first_line message messages more w =
    ap (cut_at 10) (append_assoc (line_text message) (payload_text messages) more ∙ append_assoc (message_text message) (10 ∷ []) (payload_text messages ++ more))
    ∙ cut_complete 10 (message_text message) (payload_text messages ++ more) (message_lacks message w)

first_of_payload : (message : WireMessage) (messages : List WireMessage) → IsInForm message → cut_at 10 (payload_text (message ∷ messages)) ≡ Some (message_text message, payload_text messages)
first_of_payload message messages w =
    ap (cut_at 10) (append_assoc (message_text message) (10 ∷ []) (payload_text messages))
    ∙ cut_complete 10 (message_text message) (payload_text messages) (message_lacks message w)

pub same_cut : (a b c d : List ℕ) (cut : Option (List ℕ × List ℕ)) → cut ≡ Some (a, b) → cut ≡ Some (c, d) → (a ≡ c) × (b ≡ d)
same_cut a b c d cut e f =
    let k : ◌≡◌ {A = Option (List ℕ × List ℕ)} (Some (a, b)) (Some (c, d)) = sym e ∙ f in
    let p : ◌≡◌ {A = List ℕ × List ℕ} (a, b) (c, d) = cc in
    (ap (λ (x : List ℕ × List ℕ). x.0) p, ap (λ (x : List ℕ × List ℕ). x.1) p)

pub no_cut : (parts : List ℕ × List ℕ) (cut : Option (List ℕ × List ℕ)) → cut ≡ None → cut ≡ Some parts → ⊥
no_cut parts cut e f = let k : ◌≡◌ {A = Option (List ℕ × List ℕ)} None (Some parts) = sym e ∙ f in cc

pub one_payload-by : (messages others : List WireMessage) (payload : List ℕ) → AreSpelled messages payload → AreSpelled others payload → messages ≡ others
one_payload-by [] [] payload s t = refl
one_payload-by [] (other ∷ others) payload s t = absurd (no_cut _ (cut_at 10 payload) (ap (cut_at 10) s.1) (ap (cut_at 10) t.1 ∙ first_of_payload other others t.0.0))
one_payload-by (message ∷ messages) [] payload s t = absurd (no_cut _ (cut_at 10 payload) (ap (cut_at 10) t.1) (ap (cut_at 10) s.1 ∙ first_of_payload message messages s.0.0))
one_payload-by (message ∷ messages) (other ∷ others) payload s t =
    let e = same_cut _ _ _ _ (cut_at 10 payload) (ap (cut_at 10) s.1 ∙ first_of_payload message messages s.0.0) (ap (cut_at 10) t.1 ∙ first_of_payload other others t.0.0) in
    let first = one_message-by (message_text message) message other (s.0.0, refl) (t.0.0, e.0) in
    let rest = one_payload-by messages others (payload_text messages) (s.0.1, refl) (t.0.1, e.1) in
    λ i. first i ∷ rest i

-- ---- a payload of messages that may be acted on has no fault

first_fault_unsound : (op : Operation) (rule : Rule) → IsFirstFault op rule → IsSound op → ⊥
first_fault_unsound op OwnClockEntry f s = f.0 s.own
first_fault_unsound op UncoveredId f s = f.0 s.covered
first_fault_unsound op UnlawfulName f s = f.0 s.name
first_fault_unsound op UnlawfulFlags f s = f.0 s.flags
first_fault_unsound op DeleteOfInbox f s = s.inbox_stays f.0
first_fault_unsound op Count f s = f.0 s.count

no_line_fault : (fault : LineFault) → fault ≢ NoMemory → (line : List ℕ) (message : WireMessage) → IsSpelled message line → IsLawful message → IsLineFault fault line → ⊥
no_line_fault NotInForm ne line message s l f = f message s
no_line_fault (Unsound rule) ne line message s l f =
    let same : message ≡ Op f.0 = one_message-by line message (Op f.0) s f.1 in
    let sound : IsSound f.0 = subst IsLawful same l in
    first_fault_unsound f.0 rule f.2 sound
no_line_fault NoMemory ne line message s l f = ne refl

-- if these are the lines before the fault
no_fault_after : (fault : LineFault) → fault ≢ NoMemory → (before messages : List WireMessage) (line rest payload : List ℕ) → Each IsInForm before → Each IsInForm messages → Each IsLawful messages → lacks 10 line ≡ true → payload ≡ payload_text messages → ((payload ≡ payload_text before ++ (line ++ 10 ∷ rest)) × IsLineFault fault line) ⊎ ((payload ≡ payload_text before ++ line) × (line ≢ [])) → ⊥
no_fault_after fault ne [] [] line rest payload b w l n e (inl f) = no_cut _ (cut_at 10 payload) (ap (cut_at 10) e) (ap (cut_at 10) f.0 ∙ cut_complete 10 line rest n)
no_fault_after fault ne [] [] line rest payload b w l n e (inr f) = f.1 (sym f.0 ∙ e)
no_fault_after fault ne [] (message ∷ messages) line rest payload b w l n e (inl f) =
    let same = same_cut _ _ _ _ (cut_at 10 payload) (ap (cut_at 10) f.0 ∙ cut_complete 10 line rest n) (ap (cut_at 10) e ∙ first_of_payload message messages w.0) in
    no_line_fault fault ne line message (w.0, same.0) l.0 f.1
no_fault_after fault ne [] (message ∷ messages) line rest payload b w l n e (inr f) =
    no_cut _ (cut_at 10 payload) (ap (cut_at 10) f.0 ∙ lacks_uncut 10 line n) (ap (cut_at 10) e ∙ first_of_payload message messages w.0)
no_fault_after fault ne (first ∷ before) [] line rest payload b w l n e (inl f) =
    no_cut _ (cut_at 10 payload) (ap (cut_at 10) e) (ap (cut_at 10) f.0 ∙ first_line first before (line ++ 10 ∷ rest) b.0)
no_fault_after fault ne (first ∷ before) [] line rest payload b w l n e (inr f) =
    no_cut _ (cut_at 10 payload) (ap (cut_at 10) e) (ap (cut_at 10) f.0 ∙ first_line first before line b.0)
no_fault_after fault ne (first ∷ before) (message ∷ messages) line rest payload b w l n e (inl f) =
    let same = same_cut _ _ _ _ (cut_at 10 payload) (ap (cut_at 10) e ∙ first_of_payload message messages w.0) (ap (cut_at 10) f.0 ∙ first_line first before (line ++ 10 ∷ rest) b.0) in
    no_fault_after fault ne before messages line rest (payload_text messages) b.1 w.1 l.1 n refl (inl (same.1, f.1))
no_fault_after fault ne (first ∷ before) (message ∷ messages) line rest payload b w l n e (inr f) =
    let same = same_cut _ _ _ _ (cut_at 10 payload) (ap (cut_at 10) e ∙ first_of_payload message messages w.0) (ap (cut_at 10) f.0 ∙ first_line first before line b.0) in
    no_fault_after fault ne before messages line rest (payload_text messages) b.1 w.1 l.1 n refl (inr (same.1, f.1))

no_first_fault : (fault : LineFault) → fault ≢ NoMemory → (messages : List WireMessage) (payload : List ℕ) → AreSpelled messages payload → Each IsLawful messages → HasFirstFault fault payload → ⊥
no_first_fault fault ne messages payload s l h =
    no_fault_after fault ne h.messages messages h.line h.rest payload h.in_form s.0 l h.no_lf s.1 (elim h.ends [ inl f ↦ inl (f.0, f.1) | inr f ↦ inr (f.0, f.1) ])

-- what is spelled so is read
pub only_read : {V : Type 0} (items : V → List WireMessage) (payload : List ℕ) (result : Result V LineFault) (messages : List WireMessage) → MatchResult result (λ v. AreSpelled (items v) payload × Each IsLawful (items v)) (λ fault. IsPayloadFault fault payload) → AreSpelled messages payload → Each IsLawful messages → MatchResult result (λ v. items v ≡ messages) (λ fault. fault ≡ NoMemory)
only_read items payload (Ok v) messages h s l = one_payload-by (items v) messages payload h.0 s
only_read items payload (Err NotInForm) messages h s l = absurd (no_first_fault NotInForm (λ e. let k : ◌≡◌ {A = LineFault} NotInForm NoMemory = e in cc) messages payload s l h)
only_read items payload (Err (Unsound rule)) messages h s l = absurd (no_first_fault (Unsound rule) (λ e. let k : ◌≡◌ {A = LineFault} (Unsound rule) NoMemory = e in cc) messages payload s l h)
only_read items payload (Err NoMemory) messages h s l = refl
