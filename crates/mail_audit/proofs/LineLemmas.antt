use Rattle.std.proofs.Common.{◌≡◌, ℕ, List, ◌∷◌, ◌++◌, Option, Some, None, IsTrue, MatchOption, drop, get_or, codes, refl, sym, ap, ◌∙◌, subst, arith}
use Rattle.std.specs.Fmt.{decimal}
use Rattle.imap_types.specs.Escape.{AreOctets, escape_text}
use Rattle.imap_types.specs.declared.escape.Escape.TheVariants.{Text}
use Rattle.text_fields.proofs.FieldLemmas.{cut_complete, cut_sound, replica_complete, replica_sound}
use Rattle.text_fields.specs.Fields.{IsReplica}
use Rattle.text_fields.specs.FieldReading.{cut_at, replica_at}
use Rattle.mail_script.proofs.FieldLemmas.{session_no_space}
use Rattle.mail_script.specs.Fields.{is_session_name}
use Rattle.mail_script.specs.Transcript.{mark_of}
use Rattle.mail_script.specs.declared.transcript.Speaker.{Speaker}
use Rattle.mail_script.specs.declared.transcript.Speaker.TheVariants.{Client, Server}
use Rattle.mail_audit.specs.Audits.{IsDumpBegin, IsSpokenLine, spoken_line}
use Rattle.mail_audit.specs.Dumps.{dump_line}

-- ---- the first line of a dump

pub dump_of : (line digits : List ℕ) (parsed : Option ℕ) → line ≡ codes "dump " ++ digits → parsed ≡ replica_at digits → MatchOption parsed (IsDumpBegin line → ⊥) (λ replica. IsReplica replica × (line ≡ dump_line replica))
dump_of line digits None l e = λ d.
    let same : digits ≡ decimal d.0 = ap (λ (xs : List ℕ). drop 5 xs) (sym l ∙ d.2) in
    let k : ◌≡◌ {A = Option ℕ} None (Some d.0) = e ∙ ap replica_at same ∙ replica_complete d.0 d.1 in
    cc
dump_of line digits (Some replica) l e = let t = replica_sound digits replica (sym e) in (t.0, l ∙ ap (λ (d : List ℕ). codes "dump " ++ d) t.1)

-- ---- a line of a transcript

pub spoken_of : (line name sent audited session octets : List ℕ) (speaker : Speaker) → Some (name, sent) ≡ cut_at 32 line → session ≡ name → 32 ∷ sent ≡ mark_of speaker ++ audited → audited ≡ escape_text Text octets → line ≡ spoken_line session speaker octets
spoken_of line name sent audited session octets speaker c n m e = cut_sound 32 line (name, sent) (sym c) ∙ (λ i. sym n i ++ (m ∙ ap (λ (t : List ℕ). mark_of speaker ++ t) e) i)

-- a line of a transcript is cut after its session's name
cut_spoken : (session : List ℕ) (speaker : Speaker) (text : List ℕ) → IsTrue (is_session_name session) → (sent : List ℕ) × (cut_at 32 (spoken_line session speaker text) ≡ Some (session, sent)) × (32 ∷ sent ≡ mark_of speaker ++ escape_text Text text)
cut_spoken session Client text n = let sent = codes "C: " ++ escape_text Text text in (sent, cut_complete 32 session sent (session_no_space session n), refl)
cut_spoken session Server text n = let sent = codes "S: " ++ escape_text Text text in (sent, cut_complete 32 session sent (session_no_space session n), refl)

pub not_cut : (line : List ℕ) → None ≡ cut_at 32 line → IsSpokenLine line → ⊥
not_cut line e s =
    let c = cut_spoken s.0 s.1 s.2 s.3 in
    let k : ◌≡◌ {A = Option (List ℕ × List ℕ)} None (Some (s.0, c.0)) = e ∙ ap (cut_at 32) s.5 ∙ c.1 in
    cc

-- a text after one speaker's mark follows no other speaker's mark
same_text : (one other : Speaker) (xs ys : List ℕ) → mark_of one ++ xs ≡ mark_of other ++ ys → xs ≡ ys
same_text Client Client xs ys e = ap (λ (zs : List ℕ). drop 4 zs) e
same_text Client Server xs ys e = absurd (let k : 67 ≡ 83 = ap (λ (zs : List ℕ). get_or zs 1 0) e in omega (arith, k))
same_text Server Client xs ys e = absurd (let k : 83 ≡ 67 = ap (λ (zs : List ℕ). get_or zs 1 0) e in omega (arith, k))
same_text Server Server xs ys e = ap (λ (zs : List ℕ). drop 4 zs) e

module _ (line name sent : List ℕ) (cut : Some (name, sent) ≡ cut_at 32 line) where
  parts_of : (s : IsSpokenLine line) → (name ≡ s.0) × (32 ∷ sent ≡ mark_of s.1 ++ escape_text Text s.2)
  parts_of s =
      let c = cut_spoken s.0 s.1 s.2 s.3 in
      let k : ◌≡◌ {A = Option (List ℕ × List ℕ)} (Some (name, sent)) (Some (s.0, c.0)) = cut ∙ ap (cut_at 32) s.5 ∙ c.1 in
      let both : ◌≡◌ {A = List ℕ × List ℕ} (name, sent) (s.0, c.0) = cc in
      (ap (λ (p : List ℕ × List ℕ). p.0) both, ap (λ (p : List ℕ × List ℕ). 32 ∷ p.1) both ∙ c.2)

  -- the line belongs to no transcript, since it has no speaker's mark
  pub no_speech : ((speaker : Speaker) (text : List ℕ) → 32 ∷ sent ≡ mark_of speaker ++ text → ⊥) → IsSpokenLine line → ⊥
  no_speech n s = n s.1 (escape_text Text s.2) (parts_of s).1

  -- the line belongs to no transcript, since its text isn't properly escaped
  pub no_text : (speaker : Speaker) (audited : List ℕ) → 32 ∷ sent ≡ mark_of speaker ++ audited → ((octets : List ℕ) → AreOctets octets → audited ≡ escape_text Text octets → ⊥) → IsSpokenLine line → ⊥
  no_text speaker audited m n s = n s.2 s.4 (same_text speaker s.1 audited (escape_text Text s.2) (sym m ∙ (parts_of s).1))

  -- the line belongs to no transcript, since no session can have its name
  pub no_name : (IsTrue (is_session_name name) → ⊥) → IsSpokenLine line → ⊥
  no_name n s = n (subst (λ (xs : List ℕ). IsTrue (is_session_name xs)) (sym (parts_of s).0) s.3)
