use Rattle.std.proofs.Common.{◌≡◌, inl, inr, ℕ, ◌+◌, true, false, List, [], ◌∷◌, ◌++◌, length, refl, sym, ap, ◌∙◌, subst, append_assoc, append-nil, IsTrue}
use Rattle.std.specs.List.{flat_map}
use Rattle.std.specs.Str.{bytes_eq}
use Rattle.std.proofs.lemmas.Bool.{cases_Bool}
use Rattle.imap_types.specs.Escape.{AreOctets}
use Rattle.imap_syntax.specs.Commands.{IsSpelled}
use Rattle.imap_syntax.specs.declared.command.Tagged.{Tagged}
use Rattle.imap_answers.specs.Printable.{IsPrintable}
use Rattle.imap_answers.specs.AnswerText.{text_of_answer}
use Rattle.imap_answers.specs.declared.answer.Answer.{Answer}
use Rattle.mail_script.specs.Fields.{is_session_name}
use Rattle.mail_script.specs.declared.transcript.Speaker.{Speaker}
use Rattle.mail_audit.specs.Audits.{AreRight, Each, IsNo, IsRightPart, Part, Spoken, Result, Dumped, ended_line, part_text, sent_by, sent_in, spoken_line, text_of}
use Rattle.mail_audit.specs.KnownSessions.{SessionKnowledge, TakesSent, TakesAllSent, RejectsSent, nothing_known}
use Rattle.mail_audit.specs.EventPasses.{PassesFrom}
use Rattle.mail_audit.specs.Results.{IsResult}
use Rattle.mail_audit.specs.Sessions.{known_for}
use Rattle.mail_audit.specs.AuditProgress.{AreAudited}
use Rattle.mail_audit.specs.SlotSteps.{SlotKnowledge, after_event}
use Rattle.mail_audit.specs.Transcripts.{AreEvents, IsExplainedTranscript, SentOctets}
use Rattle.mail_audit.specs.declared.event.SlotEvent.{SlotEvent}
use Rattle.mail_audit.specs.declared.in_progress.RunningCommand.{RunningCommand}
use Rattle.mail_audit.specs.Sessions.{Session}
use Rattle.mail_audit.proofs.DecisionLemmas.{explained}
use Rattle.mail_audit.proofs.EffectLemmas.{one_effect}
use Rattle.mail_audit.proofs.SlotStepLemmas.{passes_one}

-- ---- lists

pub flat_map_last : {X : Type 0} (f : X → List ℕ) (xs : List X) (x : X) → flat_map f (xs ++ x ∷ []) ≡ flat_map f xs ++ f x
flat_map_last f [] x = append-nil (f x)
flat_map_last f (y ∷ xs) x = ap (λ ys. f y ++ ys) (flat_map_last f xs x) ∙ sym (append_assoc (f y) (flat_map f xs) (f x))

pub each_last : {X : Type 0} (P : X → Type 0) (xs : List X) (x : X) → Each P xs → P x → Each P (xs ++ x ∷ [])
each_last P [] x e p = (p, tt)
each_last P (y ∷ xs) x e p = (e.0, each_last P xs x e.1 p)

-- the text of lines, and of their parts, with one more line
pub whole_last : (lines : List (List ℕ)) (line : List ℕ) (parts : List Part) (part : Part) → text_of lines ≡ flat_map part_text parts → ended_line line ≡ part_text part → text_of (lines ++ line ∷ []) ≡ flat_map part_text (parts ++ part ∷ [])
whole_last lines line parts part h e = flat_map_last ended_line lines line ∙ (λ i. h i ++ e i) ∙ sym (flat_map_last part_text parts part)

-- ---- octets that were sent

sent_last : (session other : List ℕ) (speaker : Speaker) (text : List ℕ) (parts : List Part) → bytes_eq session other ≡ true → sent_in session (parts ++ Spoken other speaker text ∷ []) ≡ sent_in session parts ++ sent_by speaker text ∷ []
sent_last session other speaker text [] e = rw e refl
sent_last session other speaker text (Spoken third s t ∷ parts) e =
    elim (cases_Bool (bytes_eq session third)) [
      | inl y ↦ rw y (ap (λ (ss : List SentOctets). sent_by s t ∷ ss) (sent_last session other speaker text parts e))
      | inr n ↦ rw n (sent_last session other speaker text parts e)
    ]
sent_last session other speaker text (Result line ∷ parts) e = sent_last session other speaker text parts e
sent_last session other speaker text (Dumped t ∷ parts) e = sent_last session other speaker text parts e

sent_elsewhere : (session other : List ℕ) (speaker : Speaker) (text : List ℕ) (parts : List Part) → bytes_eq session other ≡ false → sent_in session (parts ++ Spoken other speaker text ∷ []) ≡ sent_in session parts
sent_elsewhere session other speaker text [] e = rw e refl
sent_elsewhere session other speaker text (Spoken third s t ∷ parts) e =
    elim (cases_Bool (bytes_eq session third)) [
      | inl y ↦ rw y (ap (λ (ss : List SentOctets). sent_by s t ∷ ss) (sent_elsewhere session other speaker text parts e))
      | inr n ↦ rw n (sent_elsewhere session other speaker text parts e)
    ]
sent_elsewhere session other speaker text (Result line ∷ parts) e = sent_elsewhere session other speaker text parts e
sent_elsewhere session other speaker text (Dumped t ∷ parts) e = sent_elsewhere session other speaker text parts e

sent_after_result : (session line : List ℕ) (parts : List Part) → sent_in session (parts ++ Result line ∷ []) ≡ sent_in session parts
sent_after_result session line [] = refl
sent_after_result session line (Spoken third s t ∷ parts) =
    elim (cases_Bool (bytes_eq session third)) [
      | inl y ↦ rw y (ap (λ (ss : List SentOctets). sent_by s t ∷ ss) (sent_after_result session line parts))
      | inr n ↦ rw n (sent_after_result session line parts)
    ]
sent_after_result session line (Result l ∷ parts) = sent_after_result session line parts
sent_after_result session line (Dumped t ∷ parts) = sent_after_result session line parts

sent_after_dump : (session text : List ℕ) (parts : List Part) → sent_in session (parts ++ Dumped text ∷ []) ≡ sent_in session parts
sent_after_dump session text [] = refl
sent_after_dump session text (Spoken third s t ∷ parts) =
    elim (cases_Bool (bytes_eq session third)) [
      | inl y ↦ rw y (ap (λ (ss : List SentOctets). sent_by s t ∷ ss) (sent_after_dump session text parts))
      | inr n ↦ rw n (sent_after_dump session text parts)
    ]
sent_after_dump session text (Result l ∷ parts) = sent_after_dump session text parts
sent_after_dump session text (Dumped t ∷ parts) = sent_after_dump session text parts

-- ---- octets that were taken

takes_all_last : (old : SessionKnowledge) (sent : List SentOctets) (mid new : SessionKnowledge) (s : SentOctets) → TakesAllSent old sent mid → TakesSent mid s new → TakesAllSent old (sent ++ s ∷ []) new
takes_all_last old [] mid new s a h = (new, subst (λ (m : SessionKnowledge). TakesSent m s new) a h, refl)
takes_all_last old (x ∷ sent) mid new s a h = (a.0, a.1, takes_all_last a.0 sent mid new s a.2 h)

takes_all_events : (old : SessionKnowledge) (sent : List SentOctets) (new : SessionKnowledge) → TakesAllSent old sent new → (events : List SlotEvent) × AreEvents old.running sent events × PassesFrom old.known.live old.known.slots events
takes_all_events old [] new a = ([], refl, tt)
takes_all_events old (s ∷ sent) new a =
    let r = takes_all_events a.0 sent new a.2 in
    let h = a.1 in
    (h.0 ∷ r.0, (a.0.running, h.0, r.0, h.1, refl, r.1), (passes_one old.known h.0 r.0).1 (h.2, subst (λ (k : SlotKnowledge). PassesFrom k.live k.slots r.0) h.3 r.2))

takes_all_explained : (sent : List SentOctets) (new : SessionKnowledge) → TakesAllSent nothing_known sent new → IsExplainedTranscript sent
takes_all_explained sent new a = let r = takes_all_events nothing_known sent new a in (r.0, r.1, (explained r.0).1 r.2)

-- an audit that has taken these lines may answer yes
pub audited_right : (lines : List (List ℕ)) (parts : List Part) (sessions : List Session) → AreAudited lines parts sessions → AreRight lines parts
audited_right lines parts sessions h = record {
  whole = h.whole;
  right = h.right;
  explained = λ session. takes_all_explained (sent_in session parts) (known_for session sessions) (h.audited session);
}

module _ (same_name : (xs ys : List ℕ) → bytes_eq xs ys ≡ true → xs ≡ ys) where
  -- one more line of a transcript, whose octets can follow
  pub audited_append : (lines : List (List ℕ)) (parts : List Part) (old new : List Session) (session : List ℕ) (speaker : Speaker) (text : List ℕ) → AreAudited lines parts old → IsTrue (is_session_name session) → AreOctets text → TakesSent (known_for session old) (sent_by speaker text) (known_for session new) → ((other : List ℕ) → bytes_eq other session ≡ false → known_for other new ≡ known_for other old) → AreAudited (lines ++ spoken_line session speaker text ∷ []) (parts ++ Spoken session speaker text ∷ []) new
  audited_append lines parts old new session speaker text h named octets takes others = record {
    whole = whole_last lines (spoken_line session speaker text) parts (Spoken session speaker text) h.whole refl;
    right = each_last IsRightPart parts (Spoken session speaker text) h.right (named, octets);
    audited = λ other. elim (cases_Bool (bytes_eq other session)) [
      | inl y ↦
          let e : other ≡ session = same_name other session y in
          subst (λ (ss : List SentOctets). TakesAllSent nothing_known ss (known_for other new)) (sym (sent_last other session speaker text parts y))
          (takes_all_last nothing_known (sent_in other parts) (known_for other old) (known_for other new) (sent_by speaker text) (h.audited other)
          (subst (λ (o : List ℕ). TakesSent (known_for o old) (sent_by speaker text) (known_for o new)) (sym e) takes))
      | inr n ↦
          subst (λ (ss : List SentOctets). TakesAllSent nothing_known ss (known_for other new)) (sym (sent_elsewhere other session speaker text parts n))
          (subst (λ (g : SessionKnowledge). TakesAllSent nothing_known (sent_in other parts) g) (sym (others other n)) (h.audited other))
    ];
  }

-- one further line that reports a result
pub audited_result : (lines : List (List ℕ)) (parts : List Part) (sessions : List Session) (line : List ℕ) → AreAudited lines parts sessions → IsResult line → AreAudited (lines ++ line ∷ []) (parts ++ Result line ∷ []) sessions
audited_result lines parts sessions line h r = record {
  whole = whole_last lines line parts (Result line) h.whole refl;
  right = each_last IsRightPart parts (Result line) h.right r;
  audited = λ session. subst (λ (ss : List SentOctets). TakesAllSent nothing_known ss (known_for session sessions)) (sym (sent_after_result session line parts)) (h.audited session);
}

pub sent_of_dump : (session text : List ℕ) (parts : List Part) (sessions : List Session) → TakesAllSent nothing_known (sent_in session parts) (known_for session sessions) → TakesAllSent nothing_known (sent_in session (parts ++ Dumped text ∷ [])) (known_for session sessions)
sent_of_dump session text parts sessions h = subst (λ (ss : List SentOctets). TakesAllSent nothing_known ss (known_for session sessions)) (sym (sent_after_dump session text parts)) h

-- ---- octets that can't be taken

module _ (one_command : (this that : Tagged) (frame : List ℕ) → IsSpelled this frame → IsSpelled that frame → this ≡ that) (one_answer : (one other : Answer) (rest more : List ℕ) → IsPrintable one → IsPrintable other → text_of_answer one ++ rest ≡ text_of_answer other ++ more → (one ≡ other) × (rest ≡ more)) where
  rejected_at : (old new : SessionKnowledge) (sent : List SentOctets) (s : SentOctets) (events : List SlotEvent) → TakesAllSent old sent new → RejectsSent new s → AreEvents old.running (sent ++ s ∷ []) events → PassesFrom old.known.live old.known.slots events → ⊥
  rejected_at old new [] s events a r e p =
      let q = (passes_one old.known e.1 e.2).0 (subst (λ (es : List SlotEvent). PassesFrom old.known.live old.known.slots es) e.4 p) in
      (subst (λ (h : SessionKnowledge). RejectsSent h s) a r) e.0 e.1 e.3 q.0
  rejected_at old new (x ∷ sent) s events a r e p =
      let h = a.1 in
      let q = (passes_one old.known e.1 e.2).0 (subst (λ (es : List SlotEvent). PassesFrom old.known.live old.known.slots es) e.4 p) in
      let o = one_effect one_command one_answer old.running x.speaker x.octets a.0.running e.0 h.0 e.1 h.1 e.3 in
      let k : after_event old.known e.1 ≡ a.0.known = ap (after_event old.known) (sym o.1) ∙ sym h.3 in
      rejected_at a.0 new sent s e.2 a.2 r (subst (λ (running : List RunningCommand). AreEvents running (sent ++ s ∷ []) e.2) (sym o.0) e.5) (subst (λ (known : SlotKnowledge). PassesFrom known.live known.slots e.2) k q.1)

  rejected : (sent : List SentOctets) (new : SessionKnowledge) (s : SentOctets) → TakesAllSent nothing_known sent new → RejectsSent new s → ¬ IsExplainedTranscript (sent ++ s ∷ [])
  rejected sent new s a r x = rejected_at nothing_known new sent s x.0 a r x.1 ((explained x.0).0 x.2)

  -- one more line of a transcript, whose octets can't follow
  pub unexplained_append : (same : (xs : List ℕ) → bytes_eq xs xs ≡ true) (lines more : List (List ℕ)) (parts : List Part) (old : List Session) (session : List ℕ) (speaker : Speaker) (text : List ℕ) (number : ℕ) → AreAudited lines parts old → IsTrue (is_session_name session) → AreOctets text → RejectsSent (known_for session old) (sent_by speaker text) → number ≡ length lines + 1 → IsNo (lines ++ spoken_line session speaker text ∷ more) number
  unexplained_append same lines more parts old session speaker text number h named octets r n = inl (record {
    front = lines;
    back = more;
    parts = parts;
    session = session;
    speaker = speaker;
    text = text;
    whole = refl;
    count = n;
    right = audited_right lines parts old h;
    named = named;
    octets = octets;
    unexplained = subst (λ (ss : List SentOctets). ¬ IsExplainedTranscript ss) (sym (sent_last session session speaker text parts (same session))) (rejected (sent_in session parts) (known_for session old) (sent_by speaker text) (h.audited session) r);
  })
