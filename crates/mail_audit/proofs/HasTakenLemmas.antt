use Rattle.std.proofs.Common.{◌≡◌, inl, inr, ℕ, ◌+◌, ◌<◌, ◌≤◌, Bool, true, false, List, [], ◌∷◌, ◌++◌, Some, None, length, length-append, append_assoc, append-nil, IsTrue, arith, ap, refl, sym, subst, ◌∙◌}
use Rattle.imap_types.specs.Escape.{AreOctets}
use Rattle.std.specs.Str.{bytes_eq}
use Rattle.imap_syntax.specs.Commands.{IsSpelled}
use Rattle.imap_syntax.specs.declared.command.Tagged.{Tagged}
use Rattle.imap_answers.specs.Printable.{IsPrintable}
use Rattle.imap_answers.specs.AnswerText.{text_of_answer}
use Rattle.imap_answers.specs.declared.answer.Answer.{Answer}
use Rattle.crdt_ops.specs.Form.{IsReplica}
use Rattle.crdt_ops.specs.declared.op.Op.{Op}
use Rattle.mail_script.specs.Fields.{is_session_name}
use Rattle.mail_script.specs.declared.transcript.Speaker.{Speaker}
use Rattle.mail_audit.specs.Audits.{Dumped, IsDumpBegin, IsNoEnd, IsSpokenLine, IsUnreadable, Part, Result, Spoken, sent_by, spoken_line, text_of}
use Rattle.mail_audit.specs.DumpLines.{IsPhase}
use Rattle.mail_audit.specs.Dumps.{AreDumped, dump_line, dump_text, inside_text}
use Rattle.mail_audit.specs.KnownSessions.{DecidesSent}
use Rattle.mail_audit.specs.Results.{IsResult}
use Rattle.mail_audit.specs.Sessions.{known_for}
use Rattle.mail_audit.specs.AuditProgress.{AreAudited, HasTakenDump, EndsAt, IsOpen}
use Rattle.mail_audit.specs.declared.open_dump.OpenDump.{OpenDump}
use Rattle.mail_audit.specs.Sessions.{Session}
use Rattle.mail_audit.specs.declared.verdict.AuditEnd.TheVariants.{No, Unreadable}
use Rattle.mail_audit.proofs.DumpLemmas.{open_first, open_last, open_more, open_wrong}
use Rattle.mail_audit.proofs.KnownSessionLemmas.{audited_append, unexplained_append, audited_result, audited_right}
use Rattle.mail_audit.proofs.SessionLemmas.{own_name, same_name}

-- the number of a line is the number of all lines up to it
pub length_append_one : (lines : List (List ℕ)) (line : List ℕ) (taken : ℕ) → taken ≡ length lines + 1 → taken ≡ length (lines ++ line ∷ [])
length_append_one lines line taken e =
    let n = length-append lines (line ∷ []) in
    let m : length (line ∷ []) ≡ 1 = refl in
    omega (arith, n, m, e)

-- a line that can't be read
pub unread : (lines : List (List ℕ)) (parts : List Part) (sessions : List Session) → AreAudited lines parts sessions → (line : List ℕ) (taken : ℕ) → taken ≡ length lines + 1 → (IsSpokenLine line → ⊥) → (IsDumpBegin line → ⊥) → (IsResult line → ⊥) → EndsAt lines line (Unreadable taken)
unread lines parts sessions audited line taken e s d n more = inl (record {
  front = lines;
  line = line;
  back = more;
  parts = parts;
  whole = refl;
  count = e;
  right = audited_right lines parts sessions audited;
  not_spoken = s;
  begins_no_dump = d;
  no_result = n;
})

-- the input ends within a dump
pub cut_short : (lines : List (List ℕ)) (sessions : List Session) (dump : OpenDump) (last : ℕ) → IsOpen lines sessions dump → last ≡ length lines → IsUnreadable lines last
cut_short lines sessions dump last is_open e =
    let n = ap length is_open.whole in
    let m = length-append is_open.front (dump_line dump.replica ∷ is_open.inside) in
    inr (record {
      front = is_open.front;
      inside = is_open.inside;
      back = [];
      parts = is_open.parts;
      replica = dump.replica;
      whole = is_open.whole ∙ ap (λ (ls : List (List ℕ)). is_open.front ++ dump_line dump.replica ∷ ls) (sym (append-nil is_open.inside));
      named = is_open.named;
      right = audited_right is_open.front is_open.parts sessions is_open.audited;
      not_ended = is_open.not_ended;
      after = omega (arith, n, m, e);
      at_most = omega (arith, n, m, e);
      within = omega (arith, e);
    })

-- ---- a line of a dump

module _ (lines : List (List ℕ)) (sessions : List Session) (old : OpenDump) (is_open : IsOpen lines sessions old) (line : List ℕ) (taken : ℕ) (count : taken ≡ length lines + 1) where
  pub line_number : taken ≡ old.first + 1 + length is_open.inside
  line_number =
      let n = ap length is_open.whole in
      let m = length-append is_open.front (dump_line old.replica ∷ is_open.inside) in
      let f = is_open.count in
      omega (arith, n, m, f, count)

  pub dump_continues : (new : OpenDump) → new.first ≡ old.first → new.replica ≡ old.replica → IsNoEnd line → IsPhase (is_open.inside ++ line ∷ []) new.phase → HasTakenDump (lines ++ line ∷ []) sessions (Some new)
  dump_continues new f r n p = open_more lines sessions old new line is_open f r n p

  pub has_ended : (ops : List Op) → AreDumped ops → text_of (is_open.inside ++ line ∷ []) ≡ inside_text ops → HasTakenDump (lines ++ line ∷ []) sessions None
  has_ended ops dumped e = (is_open.parts ++ Dumped (dump_text old.replica ops) ∷ [], open_last lines sessions old line ops is_open dumped e)

  pub is_wrong : (number : ℕ) → old.first < number → number ≤ old.first + 1 + length is_open.inside → EndsAt lines line (No number)
  is_wrong number a b more = open_wrong lines more sessions old line number is_open a b

  pub unread_inside : EndsAt lines line (Unreadable taken)
  unread_inside more =
      let whole = ap (λ (ls : List (List ℕ)). ls ++ line ∷ more) is_open.whole ∙ append_assoc is_open.front (dump_line old.replica ∷ is_open.inside) (line ∷ more) in
      let n = ap length is_open.whole in
      let m = length-append is_open.front (dump_line old.replica ∷ is_open.inside) in
      let k = length-append lines (line ∷ more) in
      inr (record {
        front = is_open.front;
        inside = is_open.inside;
        back = line ∷ more;
        parts = is_open.parts;
        replica = old.replica;
        whole = whole;
        named = is_open.named;
        right = audited_right is_open.front is_open.parts sessions is_open.audited;
        not_ended = is_open.not_ended;
        after = omega (arith, n, m, count);
        at_most = omega (arith, n, m, count);
        within = omega (arith, n, m, k, count);
      })

-- ---- another line

module _ (lines : List (List ℕ)) (parts : List Part) (sessions : List Session) (audited : AreAudited lines parts sessions) (line : List ℕ) where
  pub begins : (dump : OpenDump) → line ≡ dump_line dump.replica → IsReplica dump.replica → dump.first ≡ length lines + 1 → IsPhase [] dump.phase → HasTakenDump (lines ++ line ∷ []) sessions (Some dump)
  begins dump e r f p = open_first lines parts sessions dump line audited e r f p

  pub is_outcome_text : IsResult line → HasTakenDump (lines ++ line ∷ []) sessions None
  is_outcome_text r = (parts ++ Result line ∷ [], audited_result lines parts sessions line audited r)

module _ (lines : List (List ℕ)) (parts : List Part) (old new : List Session) (audited : AreAudited lines parts old) (session : List ℕ) (speaker : Speaker) (text reported : List ℕ) (named : IsTrue (is_session_name session)) (octets : AreOctets text) (whole : reported ≡ text ++ 13 ∷ 10 ∷ []) (taken : Bool) (matches : DecidesSent (known_for session old) (record { speaker = speaker; octets = reported }) taken (known_for session new)) where
  decides_at : (answer : Bool) → taken ≡ answer → DecidesSent (known_for session old) (sent_by speaker text) answer (known_for session new)
  decides_at answer e =
      subst (λ (b : Bool). DecidesSent (known_for session old) (sent_by speaker text) b (known_for session new)) e
      (subst (λ (os : List ℕ). DecidesSent (known_for session old) (record { speaker = speaker; octets = os }) taken (known_for session new)) whole matches)

  pub is_sent_effect : taken ≡ true → ((other : List ℕ) → bytes_eq other session ≡ false → known_for other new ≡ known_for other old) → HasTakenDump (lines ++ spoken_line session speaker text ∷ []) new None
  is_sent_effect e others = (parts ++ Spoken session speaker text ∷ [], audited_append same_name lines parts old new session speaker text audited named octets (decides_at true e) others)

  pub is_no_sent_effect : (one_command : (this that : Tagged) (frame : List ℕ) → IsSpelled this frame → IsSpelled that frame → this ≡ that) → (one_answer : (one other : Answer) (rest more : List ℕ) → IsPrintable one → IsPrintable other → text_of_answer one ++ rest ≡ text_of_answer other ++ more → (one ≡ other) × (rest ≡ more)) → (number : ℕ) → number ≡ length lines + 1 → taken ≡ false → EndsAt lines (spoken_line session speaker text) (No number)
  is_no_sent_effect one_command one_answer number n e more = unexplained_append one_command one_answer (λ xs. own_name xs xs refl) lines more parts old session speaker text number audited named octets (decides_at false e) n
