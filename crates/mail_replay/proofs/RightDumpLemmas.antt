use Rattle.std.proofs.Common.{◌≡◌, inl, inr, ℕ, ◌<◌, List, [], ◌∷◌, ◌++◌, refl, sym, ap, ◌∙◌, subst, append_assoc, append-nil, codes, arith, if◌then◌else◌}
use Rattle.std.proofs.lemmas.Bool.Decides.{nat_tests}
use Rattle.std.proofs.lemmas.Grind.{flat_map-append}
use Rattle.std.specs.Fmt.{decimal}
use Rattle.std.specs.List.{flat_map}
use Rattle.std.specs.Ordering.{nat_cmp, ordering_then}
use Rattle.std.specs.Str.{bytes_eq}
use Rattle.std.specs.declared.cmp.Ordering.{Ordering}
use Rattle.std.specs.declared.cmp.Ordering.TheVariants.{Equal, Less}
use Rattle.tags_clocks.specs.declared.id.OpId.{OpId}
use Rattle.merge_laws.specs.Orders.{AreSound, HasId, HaveSameElements, IdsDetermine, IsCausal}
use Rattle.merge_laws.proofs.Causal.{causal_determines}
use Rattle.merge_laws.proofs.Lists.{element_of_id, id_in_front, id_of_element, split_at}
use Rattle.causal_inbox.specs.Inbox.{AreAscending, IsLess}
use Rattle.crdt_ops.specs.declared.op.Op.{Op}
use Rattle.crdt_ops.specs.Form.{Each, IsInForm, IsReplica}
use Rattle.crdt_ops.specs.Meanings.{MeansTheSame}
use Rattle.crdt_ops.specs.SortedSets.{id_order}
use Rattle.crdt_ops.specs.Sound.{IsSound}
use Rattle.crdt_ops.specs.Text.{ids_text, name_text}
use Rattle.crdt_ops.proofs.MeaningLemmas.{one_set_means_one}
use Rattle.mail_script.specs.Lines.{lines_of}
use Rattle.mail_audit.specs.Audits.{IsRight, IsRightPart, Part, Spoken, Result, Dumped, ended_line, part_text, sent_by, sent_in, text_of}
use Rattle.crdt_ops.specs.DumpLines.{message_line, op_line, state_text}
use Rattle.mail_audit.specs.Dumps.{AreOrdered, HasCauses, IsRightDump}
use Rattle.mail_audit.specs.Transcripts.{IsExplainedTranscript}
use Rattle.imap_connection.specs.Dumps.{IsDump}
use Rattle.mail_replay.proofs.DumpLineLemmas.{whole_lines}

abbrev id_of : Op → OpId
id_of op = op.id

abbrev clock_of : Op → List (ℕ × ℕ)
clock_of op = op.clock

-- ---- the order of the op lines

id_before : (i j : OpId) → IsLess i j → id_order i j ≡ Less
id_before i j h =
    elim h [
      | inl l ↦
          let less : nat_cmp i.replica j.replica ≡ Less = grind (arith, nat_tests, l) in
          ap (λ (o : Ordering). ordering_then o (nat_cmp i.number j.number)) less
      | inr p ↦
          let same : i.replica ≡ j.replica = p.0 in
          let lower : i.number < j.number = p.1 in
          let tied : nat_cmp i.replica j.replica ≡ Equal = grind (arith, nat_tests, same) in
          let less : nat_cmp i.number j.number ≡ Less = grind (arith, nat_tests, lower) in
          ap (λ (o : Ordering). ordering_then o (nat_cmp i.number j.number)) tied ∙ less
    ]

ordered : (ops : List Op) → AreAscending id_of ops → AreOrdered ops
ordered [] a = tt
ordered (o ∷ []) a = (tt, tt)
ordered (o ∷ p ∷ ops) a = (id_before o.id p.id (a.0 p (inl refl)), ordered (p ∷ ops) a.1)

-- ---- the causes

causes_among : (listed applied : List Op) → HaveSameElements listed applied → IsCausal id_of clock_of applied → HasCauses listed
causes_among listed applied same causal op h cause c =
    let s = split_at op applied ((same op).0 h) in
    let ripe = causal s.0 op s.1 s.2 in
    let has_id : HasId id_of applied cause = subst (λ (os : List Op). HasId id_of os cause) (sym s.2) (id_in_front id_of cause s.0 (op ∷ s.1) (ripe.0 cause c)) in
    let element = element_of_id id_of cause applied has_id in
    subst (HasId id_of listed) element.2 (id_of_element id_of element.0 listed ((same element.0).1 element.1))

-- ---- the lines after the op lines

same_state : (xs ys : List Op) → MeansTheSame xs ys → state_text xs ≡ state_text ys
same_state xs ys m = λ i.
    flat_map (λ (folder : List ℕ). (codes "folder " ++ (name_text folder ++ 32 ∷ (ids_text (m.folder_tags folder i) ++ 10 ∷ []))) ++ flat_map message_line (m.messages folder i)) (m.folders i)
    ++ flat_map (λ (name : List ℕ). codes "subscribed " ++ (name_text name ++ 32 ∷ (ids_text (m.subscription_tags name i) ++ 10 ∷ []))) (m.subscribed i)

grouped : (d n x s e : List ℕ) → d ++ n ++ x ++ s ++ e ++ n ≡ d ++ (n ++ (x ++ (s ++ (e ++ n))))
grouped d n x s e =
    append_assoc (d ++ n ++ x ++ s) e n
    ∙ append_assoc (d ++ n ++ x) s (e ++ n)
    ∙ append_assoc (d ++ n) x (s ++ (e ++ n))
    ∙ append_assoc d n (x ++ (s ++ (e ++ n)))

-- ---- a dump of operations that were applied in a causal order is right

pub right_dump : (replica : ℕ) (applied : List Op) (text : List ℕ) → IsReplica replica → AreSound IsInForm applied → AreSound IsSound applied → IsCausal id_of clock_of applied → IsDump replica applied text → IsRightDump text
right_dump replica applied text named form sound causal dump =
    let listed : List Op = dump.0 in
    let same : HaveSameElements listed applied = dump.2 in
    let determined : IdsDetermine id_of listed = λ a b h k e. causal_determines id_of clock_of applied a b causal ((same a).0 h) ((same b).0 k) e in
    let state : state_text applied ≡ state_text listed = sym (same_state listed applied (one_set_means_one listed applied same determined)) in (
      replica,
      listed,
      named,
      record {
        in_form = λ o h. form o ((same o).0 h);
        sound = λ o h. sound o ((same o).0 h);
        ascending = ordered listed dump.1;
        causes = causes_among listed applied same causal;
      },
      dump.3
          ∙ ap (λ (lines : List ℕ). codes "dump " ++ decimal replica ++ 10 ∷ [] ++ flat_map op_line listed ++ lines ++ codes "end" ++ 10 ∷ []) state
          ∙ grouped (codes "dump " ++ decimal replica) (10 ∷ []) (flat_map op_line listed) (state_text listed) (codes "end"),
    )

-- ---- the lines of a dump after right lines

dump_lines : (text : List ℕ) → IsRightDump text → text_of (lines_of text) ≡ text
dump_lines text dump =
    let d = codes "dump " ++ decimal dump.0 in
    let x = flat_map op_line dump.1 in
    let s = state_text dump.1 in
    let ended : text ≡ d ++ 10 ∷ [] ++ x ++ s ++ codes "end" ++ 10 ∷ [] = dump.4 ∙ sym (grouped d (10 ∷ []) x s (codes "end")) in
    subst (λ (t : List ℕ). text_of (lines_of t) ≡ t) (sym ended) (whole_lines (d ++ 10 ∷ [] ++ x ++ s ++ codes "end"))

each_last : {X : Type 0} (P : X → Type 0) (xs : List X) (x : X) → Each P xs → P x → Each P (xs ++ x ∷ [])
each_last P [] x h p = (p, tt)
each_last P (y ∷ xs) x h p = (h.0, each_last P xs x h.1 p)

-- a dump adds nothing to the texts sent in a session
sent_after_dump : (session : List ℕ) (parts : List Part) (text : List ℕ) → sent_in session (parts ++ Dumped text ∷ []) ≡ sent_in session parts
sent_after_dump session [] text = refl
sent_after_dump session (Spoken other speaker sent ∷ parts) text = λ i. if bytes_eq session other then sent_by speaker sent ∷ sent_after_dump session parts text i else sent_after_dump session parts text i
sent_after_dump session (Result line ∷ parts) text = sent_after_dump session parts text
sent_after_dump session (Dumped other ∷ parts) text = sent_after_dump session parts text

pub right_with_dump : (front : List (List ℕ)) (text : List ℕ) → IsRightDump text → IsRight front → IsRight (front ++ lines_of text)
right_with_dump front text dump right =
    let parts = right.0 in
    let before = right.1 in
    let lines = dump_lines text dump in (
      parts ++ Dumped text ∷ [],
      record {
        whole =
            flat_map-append ended_line front (lines_of text)
            ∙ (λ i. before.whole i ++ lines i)
            ∙ ap (λ (t : List ℕ). flat_map part_text parts ++ t) (sym (append-nil text))
            ∙ sym (flat_map-append part_text parts (Dumped text ∷ []));
        right = each_last IsRightPart parts (Dumped text) before.right dump;
        explained = λ session. subst IsExplainedTranscript (sym (sent_after_dump session parts text)) (before.explained session);
      },
    )
