use Rattle.std.proofs.Common.{◌≡◌, ◌++◌, inl, inr, ℕ, cond, eqb, eqb-true, List, [], ◌∷◌, Option, Some, None, Result, Ok, Err, IfOk, MatchResult, IsTrue, refl, sym, ap, ◌∙◌, subst, arith}
use Rattle.std.proofs.lemmas.Slice.Eq.{bytes_eq-Decides}
use Rattle.std.specs.Fmt.{decimal}
use Rattle.std.specs.Str.{bytes_eq}
use Rattle.tags_clocks.specs.declared.id.OpId.{OpId}
use Rattle.imap_types.specs.Escape.{AreOctets, escape_text}
use Rattle.imap_types.specs.declared.escape.Escape.TheVariants.{Text}
use Rattle.mail_script.specs.Fields.{IsFirstK, IsFirstUid, IsNumber, IsReplica, id_text, is_session_name}
use Rattle.mail_script.specs.Reading.{◌>>=◌, IsReading, agree_at, cut_at, deliver_at, fields_at, first_numbers_at, forge_at, id_at, join_at, keyword_at, line_at, moment_at, node_at, open_at, replica_at, session_at, session_and_text_at, word_or_words_at, words_at}
use Rattle.mail_script.specs.Script.{Means, first_numbers_text}
use Rattle.mail_script.specs.declared.script.ScriptWord.{ScriptWord}
use Rattle.mail_script.specs.declared.script.ScriptWord.TheVariants.{Node as NodeWord, Now as NowWord, Open as OpenWord, Line as LineWord, Send as SendWord, Poll as PollWord, Close as CloseWord, Show as ShowWord, Deliver as DeliverWord, Forge as ForgeWord, Drain as DrainWord, Agree as AgreeWord, Join as JoinWord, Restart as RestartWord}
use Rattle.mail_script.specs.declared.script.LineFault.{LineFault}
use Rattle.mail_script.specs.declared.script.LineFault.TheVariants.{NotALine, NoMemory}
use Rattle.mail_script.specs.declared.script.ScriptLine.{ScriptLine}
use Rattle.mail_script.specs.declared.script.ScriptLine.TheVariants.{Blank, Node, Now, Open, Line, Send, Poll, Close, Show, Deliver, Forge, Drain, Settle, Agree, Join, Restart}
use Rattle.text_fields.proofs.FieldLemmas.{bind_some, bound, chosen, cut_complete, cut_sound, decimal_lacks, id_complete, id_lacks, id_sound, replica_complete, replica_sound}
use Rattle.mail_script.proofs.FieldLemmas.{cut_none, first_numbers_complete, first_numbers_sound, moment_complete, moment_sound, session_complete, session_sound, spoken_complete, spoken_sound, numbers_text}
use Rattle.std.specs.Prelude.{codes}

-- how each word is spelled
abbrev keyword_text : ScriptWord → List ℕ
keyword_text NodeWord = codes "node"
keyword_text NowWord = codes "now"
keyword_text OpenWord = codes "open"
keyword_text LineWord = codes "line"
keyword_text SendWord = codes "send"
keyword_text PollWord = codes "poll"
keyword_text CloseWord = codes "close"
keyword_text ShowWord = codes "show"
keyword_text DeliverWord = codes "deliver"
keyword_text ForgeWord = codes "forge"
keyword_text DrainWord = codes "drain"
keyword_text AgreeWord = codes "agree"
keyword_text JoinWord = codes "join"
keyword_text RestartWord = codes "restart"

-- the word is this one of the table, or a later one
picked : (word text : List ℕ) (k : ScriptWord) (next : Option ScriptWord) (keyword : ScriptWord) → text ≡ keyword_text k → cond (bytes_eq word text) (Some k) next ≡ Some keyword → (next ≡ Some keyword → word ≡ keyword_text keyword) → word ≡ keyword_text keyword
picked word text k next keyword s h after =
    elim (chosen (bytes_eq word text) (Some k) next (Some keyword) h) [
      | inl t ↦ (bytes_eq-Decides word text).0 t.0 ∙ s ∙ ap keyword_text (let e = t.1 in cc)
      | inr f ↦ after f.1
    ]

keyword_sound : (word : List ℕ) (keyword : ScriptWord) → keyword_at word ≡ Some keyword → word ≡ keyword_text keyword
unfolding keyword_at
keyword_sound word keyword h =
    picked word (codes "node") NodeWord _ keyword refl h (λ h.
    picked word (codes "now") NowWord _ keyword refl h (λ h.
    picked word (codes "open") OpenWord _ keyword refl h (λ h.
    picked word (codes "line") LineWord _ keyword refl h (λ h.
    picked word (codes "send") SendWord _ keyword refl h (λ h.
    picked word (codes "poll") PollWord _ keyword refl h (λ h.
    picked word (codes "close") CloseWord _ keyword refl h (λ h.
    picked word (codes "show") ShowWord _ keyword refl h (λ h.
    picked word (codes "deliver") DeliverWord _ keyword refl h (λ h.
    picked word (codes "forge") ForgeWord _ keyword refl h (λ h.
    picked word (codes "drain") DrainWord _ keyword refl h (λ h.
    picked word (codes "agree") AgreeWord _ keyword refl h (λ h.
    picked word (codes "join") JoinWord _ keyword refl h (λ h.
    picked word (codes "restart") RestartWord _ keyword refl h (λ h.
    absurd (let k = h in cc)))))))))))))))

-- the line says what is read after each word
node_sound : (fields : List ℕ) (cut : Option (List ℕ × List ℕ)) (value : ScriptLine) → ((parts : List ℕ × List ℕ) → cut ≡ Some parts → fields ≡ parts.0 ++ 32 ∷ parts.1) → node_at cut fields ≡ Some value → Means (codes "node " ++ fields) value
unfolding node_at
node_sound fields None value c h =
    let r = bind_some (replica_at fields) _ value h in
    let e : Node r.0 1 1 ≡ value = let k = r.2 in cc in
    let t = replica_sound fields r.0 r.1 in
    subst (Means (codes "node " ++ fields)) e (t.0, (omega arith, omega arith), (omega arith, omega arith), inr (ap (λ (t : List ℕ). codes "node " ++ t) t.1, refl, refl))
node_sound fields (Some parts) value c h =
    let r = bind_some (replica_at parts.0) _ value h in
    let n = bind_some (first_numbers_at parts.1) _ value r.2 in
    let e : Node r.0 n.0.0 n.0.1 ≡ value = let k = n.2 in cc in
    let t = replica_sound parts.0 r.0 r.1 in
    let u = first_numbers_sound parts.1 n.0 n.1 in
    let text : fields ≡ decimal r.0 ++ first_numbers_text n.0.0 n.0.1 = c parts refl ∙ (λ i. t.1 i ++ u.2 i) in
    subst (Means (codes "node " ++ fields)) e (t.0, u.0, u.1, inl (ap (λ (t : List ℕ). codes "node " ++ t) text))

open_sound : (fields : List ℕ) (value : ScriptLine) → open_at fields ≡ Some value → Means (codes "open " ++ fields) value
unfolding open_at
open_sound fields value h =
    let c = bind_some (cut_at 32 fields) _ value h in
    let r = bind_some (replica_at c.0.0) _ value c.2 in
    let s = bind_some (session_at c.0.1) _ value r.2 in
    let e : Open r.0 s.0 ≡ value = let k = s.2 in cc in
    let t = replica_sound c.0.0 r.0 r.1 in
    let u = session_sound c.0.1 s.0 s.1 in
    let text : fields ≡ decimal r.0 ++ 32 ∷ s.0 = cut_sound 32 fields c.0 c.1 ∙ (λ i. t.1 i ++ 32 ∷ u.1 i) in
    subst (Means (codes "open " ++ fields)) e (t.0, u.0, ap (λ (t : List ℕ). codes "open " ++ t) text)

deliver_sound : (fields : List ℕ) (value : ScriptLine) → deliver_at fields ≡ Some value → Means (codes "deliver " ++ fields) value
unfolding deliver_at
deliver_sound fields value h =
    let c = bind_some (cut_at 32 fields) _ value h in
    let n = bind_some (id_at c.0.0) _ value c.2 in
    let r = bind_some (replica_at c.0.1) _ value n.2 in
    let e : Deliver n.0 r.0 ≡ value = let k = r.2 in cc in
    let t = id_sound c.0.0 n.0 n.1 in
    let u = replica_sound c.0.1 r.0 r.1 in
    let text : fields ≡ id_text n.0 ++ 32 ∷ decimal r.0 = cut_sound 32 fields c.0 c.1 ∙ (λ i. t.1 i ++ 32 ∷ u.1 i) in
    subst (Means (codes "deliver " ++ fields)) e (t.0.0, t.0.1, u.0, ap (λ (t : List ℕ). codes "deliver " ++ t) text)

agree_sound : (fields : List ℕ) (value : ScriptLine) → agree_at fields ≡ Some value → Means (codes "agree " ++ fields) value
unfolding agree_at
agree_sound fields value h =
    let c = bind_some (cut_at 32 fields) _ value h in
    let r = bind_some (replica_at c.0.0) _ value c.2 in
    let s = bind_some (replica_at c.0.1) _ value r.2 in
    let e : Agree r.0 s.0 ≡ value = let k = s.2 in cc in
    let t = replica_sound c.0.0 r.0 r.1 in
    let u = replica_sound c.0.1 s.0 s.1 in
    let text : fields ≡ decimal r.0 ++ 32 ∷ decimal s.0 = cut_sound 32 fields c.0 c.1 ∙ (λ i. t.1 i ++ 32 ∷ u.1 i) in
    subst (Means (codes "agree " ++ fields)) e (t.0, u.0, ap (λ (t : List ℕ). codes "agree " ++ t) text)

join_sound : (fields : List ℕ) (value : ScriptLine) → join_at fields ≡ Some value → Means (codes "join " ++ fields) value
unfolding join_at
join_sound fields value h =
    let c = bind_some (cut_at 32 fields) _ value h in
    let r = bind_some (replica_at c.0.0) _ value c.2 in
    let s = bind_some (replica_at c.0.1) _ value r.2 in
    let e : Join r.0 s.0 ≡ value = let k = s.2 in cc in
    let t = replica_sound c.0.0 r.0 r.1 in
    let u = replica_sound c.0.1 s.0 s.1 in
    let text : fields ≡ decimal r.0 ++ 32 ∷ decimal s.0 = cut_sound 32 fields c.0 c.1 ∙ (λ i. t.1 i ++ 32 ∷ u.1 i) in
    subst (Means (codes "join " ++ fields)) e (t.0, u.0, ap (λ (t : List ℕ). codes "join " ++ t) text)

forge_sound : (fields : List ℕ) (value : ScriptLine) → forge_at fields ≡ Some value → Means (codes "forge " ++ fields) value
unfolding forge_at
forge_sound fields value h =
    let c = bind_some (cut_at 32 fields) _ value h in
    let r = bind_some (replica_at c.0.0) _ value c.2 in
    let e : Forge r.0 c.0.1 ≡ value = let k = r.2 in cc in
    let t = replica_sound c.0.0 r.0 r.1 in
    let text : fields ≡ decimal r.0 ++ 32 ∷ c.0.1 = cut_sound 32 fields c.0 c.1 ∙ (λ i. t.1 i ++ 32 ∷ c.0.1) in
    subst (Means (codes "forge " ++ fields)) e (t.0, ap (λ (t : List ℕ). codes "forge " ++ t) text)

replica_line_sound : (word fields : List ℕ) (line : ℕ → ScriptLine) (value : ScriptLine) → ((r : ℕ) → IsReplica r → fields ≡ decimal r → Means (word ++ 32 ∷ fields) (line r)) → (replica_at fields >>= (λ r. Some (line r))) ≡ Some value → Means (word ++ 32 ∷ fields) value
replica_line_sound word fields line value means h =
    let r = bind_some (replica_at fields) (λ r. Some (line r)) value h in
    let e : line r.0 ≡ value = let k = r.2 in cc in
    let t = replica_sound fields r.0 r.1 in
    subst (Means (word ++ 32 ∷ fields)) e (means r.0 t.0 t.1)

spoken_line_sound : (word fields : List ℕ) (line : List ℕ → List ℕ → ScriptLine) (value : ScriptLine) → ((session text : List ℕ) → IsTrue (is_session_name session) → AreOctets text → fields ≡ session ++ 32 ∷ escape_text Text text → Means (word ++ 32 ∷ fields) (line session text)) → (session_and_text_at fields >>= (λ spoken. Some (line spoken.0 spoken.1))) ≡ Some value → Means (word ++ 32 ∷ fields) value
spoken_line_sound word fields line value means h =
    let s = bind_some (session_and_text_at fields) (λ spoken. Some (line spoken.0 spoken.1)) value h in
    let e : line s.0.0 s.0.1 ≡ value = let k = s.2 in cc in
    let t = spoken_sound fields s.0 s.1 in
    subst (Means (word ++ 32 ∷ fields)) e (means s.0.0 s.0.1 t.0 t.1 t.2)

now_sound : (fields : List ℕ) (value : ScriptLine) → (moment_at fields >>= (λ m. Some (Now m))) ≡ Some value → Means (codes "now " ++ fields) value
now_sound fields value h =
    let m = bind_some (moment_at fields) (λ m. Some (Now m)) value h in
    let e : Now m.0 ≡ value = let k = m.2 in cc in
    let t = moment_sound fields m.0 m.1 in
    subst (Means (codes "now " ++ fields)) e (t.0, ap (λ (t : List ℕ). codes "now " ++ t) t.1)

poll_sound : (fields : List ℕ) (value : ScriptLine) → (session_at fields >>= (λ s. Some (Poll s))) ≡ Some value → Means (codes "poll " ++ fields) value
poll_sound fields value h =
    let s = bind_some (session_at fields) (λ s. Some (Poll s)) value h in
    let e : Poll s.0 ≡ value = let k = s.2 in cc in
    let t = session_sound fields s.0 s.1 in
    subst (Means (codes "poll " ++ fields)) e (t.0, ap (λ (t : List ℕ). codes "poll " ++ t) t.1)

close_sound : (fields : List ℕ) (value : ScriptLine) → (session_at fields >>= (λ s. Some (Close s))) ≡ Some value → Means (codes "close " ++ fields) value
close_sound fields value h =
    let s = bind_some (session_at fields) (λ s. Some (Close s)) value h in
    let e : Close s.0 ≡ value = let k = s.2 in cc in
    let t = session_sound fields s.0 s.1 in
    subst (Means (codes "close " ++ fields)) e (t.0, ap (λ (t : List ℕ). codes "close " ++ t) t.1)

fields_sound : (keyword : ScriptWord) (fields : List ℕ) (value : ScriptLine) → fields_at keyword fields ≡ Some value → Means (keyword_text keyword ++ 32 ∷ fields) value
fields_sound NodeWord fields value h = node_sound fields (cut_at 32 fields) value (λ parts c. cut_sound 32 fields parts c) h
fields_sound NowWord fields value h = now_sound fields value h
fields_sound OpenWord fields value h = open_sound fields value h
fields_sound LineWord fields value h = spoken_line_sound (codes "line") fields Line value (λ s t i a e. (i, a, ap (λ (t : List ℕ). codes "line " ++ t) e)) h
fields_sound SendWord fields value h = spoken_line_sound (codes "send") fields Send value (λ s t i a e. (i, a, ap (λ (t : List ℕ). codes "send " ++ t) e)) h
fields_sound PollWord fields value h = poll_sound fields value h
fields_sound CloseWord fields value h = close_sound fields value h
fields_sound ShowWord fields value h = replica_line_sound (codes "show") fields Show value (λ r i e. (i, ap (λ (t : List ℕ). codes "show " ++ t) e)) h
fields_sound DeliverWord fields value h = deliver_sound fields value h
fields_sound ForgeWord fields value h = forge_sound fields value h
fields_sound DrainWord fields value h = replica_line_sound (codes "drain") fields Drain value (λ r i e. (i, ap (λ (t : List ℕ). codes "drain " ++ t) e)) h
fields_sound AgreeWord fields value h = agree_sound fields value h
fields_sound JoinWord fields value h = join_sound fields value h
fields_sound RestartWord fields value h = replica_line_sound (codes "restart") fields Restart value (λ r i e. (i, ap (λ (t : List ℕ). codes "restart " ++ t) e)) h

words_sound : (line : List ℕ) (value : ScriptLine) → words_at line ≡ Some value → Means line value
unfolding words_at
words_sound line value h =
    let c = bind_some (cut_at 32 line) _ value h in
    let k = bind_some (keyword_at c.0.0) _ value c.2 in
    let text : line ≡ keyword_text k.0 ++ 32 ∷ c.0.1 = cut_sound 32 line c.0 c.1 ∙ ap (λ (w : List ℕ). w ++ 32 ∷ c.0.1) (keyword_sound c.0.0 k.0 k.1) in
    subst (λ (t : List ℕ). Means t value) (sym text) (fields_sound k.0 c.0.1 value k.2)

line_of_words : (line : List ℕ) (value : ScriptLine) → word_or_words_at line ≡ Some value → Means line value
unfolding word_or_words_at
line_of_words line value h =
    elim (chosen (bytes_eq line (codes "settle")) (Some Settle) (words_at line) (Some value) h) [
      | inl t ↦
          let e : Settle ≡ value = let k = t.1 in cc in
          subst (Means line) e ((bytes_eq-Decides line (codes "settle")).0 t.0)
      | inr f ↦ words_sound line value f.1
    ]

-- a line says what is read from it
pub line_sound : (line : List ℕ) (value : ScriptLine) → line_at line ≡ Some value → Means line value
line_sound [] value h = let e : Blank ≡ value = cc in subst (Means []) e (inl refl)
line_sound (octet ∷ octets) value h =
    elim (chosen (eqb octet 35) (Some Blank) (word_or_words_at (octet ∷ octets)) (Some value) h) [
      | inl t ↦
          let e : Blank ≡ value = let k = t.1 in cc in
          let s : octet ≡ 35 = eqb-true octet 35 t.0 in
          subst (Means (octet ∷ octets)) e (inr (octets, (λ i. s i ∷ octets)))
      | inr f ↦ line_of_words (octet ∷ octets) value f.1
    ]

-- the first word of a line selects the reader of its fields
read_on : (keyword : ScriptWord) (fields : List ℕ) → line_at (keyword_text keyword ++ 32 ∷ fields) ≡ fields_at keyword fields
unfolding word_or_words_at words_at keyword_at
read_on NodeWord fields = refl
read_on NowWord fields = refl
read_on OpenWord fields = refl
read_on LineWord fields = refl
read_on SendWord fields = refl
read_on PollWord fields = refl
read_on CloseWord fields = refl
read_on ShowWord fields = refl
read_on DeliverWord fields = refl
read_on ForgeWord fields = refl
read_on DrainWord fields = refl
read_on AgreeWord fields = refl
read_on JoinWord fields = refl
read_on RestartWord fields = refl

read_of : (keyword : ScriptWord) (line fields : List ℕ) (value : ScriptLine) → line ≡ keyword_text keyword ++ 32 ∷ fields → fields_at keyword fields ≡ Some value → line_at line ≡ Some value
read_of keyword line fields value e h = ap line_at e ∙ read_on keyword fields ∙ h

node_complete : (r uid k : ℕ) → IsReplica r → IsFirstUid uid → IsFirstK k → node_at (cut_at 32 (decimal r ++ 32 ∷ numbers_text uid k)) (decimal r ++ 32 ∷ numbers_text uid k) ≡ Some (Node r uid k)
unfolding node_at
node_complete r uid k i u f =
    ap (λ (c : Option (List ℕ × List ℕ)). node_at c (decimal r ++ 32 ∷ numbers_text uid k)) (cut_complete 32 (decimal r) (numbers_text uid k) (decimal_lacks 32 r refl (omega arith)))
    ∙ bound (replica_at (decimal r)) _ r (replica_complete r i)
    ∙ bound (first_numbers_at (numbers_text uid k)) _ (uid, k) (first_numbers_complete uid k u f)

plain_node_complete : (r uid k : ℕ) → IsReplica r → uid ≡ 1 → k ≡ 1 → node_at (cut_at 32 (decimal r)) (decimal r) ≡ Some (Node r uid k)
unfolding node_at
plain_node_complete r uid k i u f =
    ap (λ (c : Option (List ℕ × List ℕ)). node_at c (decimal r)) (cut_none 32 (decimal r) (decimal_lacks 32 r refl (omega arith)))
    ∙ bound (replica_at (decimal r)) _ r (replica_complete r i)
    ∙ (λ j. Some (Node r (sym u j) (sym f j)))

open_complete : (r : ℕ) (session : List ℕ) → IsReplica r → IsTrue (is_session_name session) → open_at (decimal r ++ 32 ∷ session) ≡ Some (Open r session)
unfolding open_at
open_complete r session i s =
    bound (cut_at 32 (decimal r ++ 32 ∷ session)) _ (decimal r, session) (cut_complete 32 (decimal r) session (decimal_lacks 32 r refl (omega arith)))
    ∙ bound (replica_at (decimal r)) _ r (replica_complete r i)
    ∙ bound (session_at session) _ session (session_complete session s)

deliver_complete : (id : OpId) (r : ℕ) → IsReplica id.replica → IsNumber id.number → IsReplica r → deliver_at (id_text id ++ 32 ∷ decimal r) ≡ Some (Deliver id r)
unfolding deliver_at
deliver_complete id r i n s =
    bound (cut_at 32 (id_text id ++ 32 ∷ decimal r)) _ (id_text id, decimal r) (cut_complete 32 (id_text id) (decimal r) (id_lacks 32 id refl refl (i, n)))
    ∙ bound (id_at (id_text id)) _ id (id_complete id (i, n))
    ∙ bound (replica_at (decimal r)) _ r (replica_complete r s)

agree_complete : (r s : ℕ) → IsReplica r → IsReplica s → agree_at (decimal r ++ 32 ∷ decimal s) ≡ Some (Agree r s)
unfolding agree_at
agree_complete r s i j =
    bound (cut_at 32 (decimal r ++ 32 ∷ decimal s)) _ (decimal r, decimal s) (cut_complete 32 (decimal r) (decimal s) (decimal_lacks 32 r refl (omega arith)))
    ∙ bound (replica_at (decimal r)) _ r (replica_complete r i)
    ∙ bound (replica_at (decimal s)) _ s (replica_complete s j)

join_complete : (r s : ℕ) → IsReplica r → IsReplica s → join_at (decimal r ++ 32 ∷ decimal s) ≡ Some (Join r s)
unfolding join_at
join_complete r s i j =
    bound (cut_at 32 (decimal r ++ 32 ∷ decimal s)) _ (decimal r, decimal s) (cut_complete 32 (decimal r) (decimal s) (decimal_lacks 32 r refl (omega arith)))
    ∙ bound (replica_at (decimal r)) _ r (replica_complete r i)
    ∙ bound (replica_at (decimal s)) _ s (replica_complete s j)

-- the line that is a single word
settle_complete : line_at (codes "settle") ≡ Some Settle
unfolding word_or_words_at
settle_complete = refl

forge_complete : (r : ℕ) (operation : List ℕ) → IsReplica r → forge_at (decimal r ++ 32 ∷ operation) ≡ Some (Forge r operation)
unfolding forge_at
forge_complete r operation i =
    bound (cut_at 32 (decimal r ++ 32 ∷ operation)) _ (decimal r, operation) (cut_complete 32 (decimal r) operation (decimal_lacks 32 r refl (omega arith)))
    ∙ bound (replica_at (decimal r)) _ r (replica_complete r i)

-- what a line says is read from it
pub line_complete : (line : List ℕ) (value : ScriptLine) → Means line value → line_at line ≡ Some value
line_complete line Blank h = elim h [ inl e ↦ ap line_at e | inr c ↦ ap line_at c.1 ]
line_complete line (Node r uid k) h =
    elim (h.3) [
      | inl e ↦ read_of NodeWord line (decimal r ++ 32 ∷ numbers_text uid k) (Node r uid k) e (node_complete r uid k h.0 h.1 h.2)
      | inr e ↦ read_of NodeWord line (decimal r) (Node r uid k) e.0 (plain_node_complete r uid k h.0 e.1 e.2)
    ]
line_complete line (Now m) h = read_of NowWord line (decimal m) (Now m) h.1 (bound (moment_at (decimal m)) _ m (moment_complete m h.0))
line_complete line (Open r s) h = read_of OpenWord line (decimal r ++ 32 ∷ s) (Open r s) h.2 (open_complete r s h.0 h.1)
line_complete line (Line s t) h = read_of LineWord line (s ++ 32 ∷ escape_text Text t) (Line s t) h.2 (bound (session_and_text_at (s ++ 32 ∷ escape_text Text t)) _ (s, t) (spoken_complete s t h.0 h.1))
line_complete line (Send s t) h = read_of SendWord line (s ++ 32 ∷ escape_text Text t) (Send s t) h.2 (bound (session_and_text_at (s ++ 32 ∷ escape_text Text t)) _ (s, t) (spoken_complete s t h.0 h.1))
line_complete line (Poll s) h = read_of PollWord line s (Poll s) h.1 (bound (session_at s) _ s (session_complete s h.0))
line_complete line (Close s) h = read_of CloseWord line s (Close s) h.1 (bound (session_at s) _ s (session_complete s h.0))
line_complete line (Show r) h = read_of ShowWord line (decimal r) (Show r) h.1 (bound (replica_at (decimal r)) _ r (replica_complete r h.0))
line_complete line (Deliver id r) h = read_of DeliverWord line (id_text id ++ 32 ∷ decimal r) (Deliver id r) h.3 (deliver_complete id r h.0 h.1 h.2)
line_complete line (Forge r op) h = read_of ForgeWord line (decimal r ++ 32 ∷ op) (Forge r op) h.1 (forge_complete r op h.0)
line_complete line (Drain r) h = read_of DrainWord line (decimal r) (Drain r) h.1 (bound (replica_at (decimal r)) _ r (replica_complete r h.0))
line_complete line Settle h = ap line_at h ∙ settle_complete
line_complete line (Agree r s) h = read_of AgreeWord line (decimal r ++ 32 ∷ decimal s) (Agree r s) h.2 (agree_complete r s h.0 h.1)
line_complete line (Join r s) h = read_of JoinWord line (decimal r ++ 32 ∷ decimal s) (Join r s) h.2 (join_complete r s h.0 h.1)
line_complete line (Restart r) h = read_of RestartWord line (decimal r) (Restart r) h.1 (bound (replica_at (decimal r)) _ r (replica_complete r h.0))

pub ok_by : (line : List ℕ) (r : Result ScriptLine LineFault) → IsReading (λ value. value) r (line_at line) → IfOk r (λ value. Means line value)
ok_by line (Ok value) g = line_sound line value g
ok_by line (Err e) g = tt

pub only_by : (line : List ℕ) (r : Result ScriptLine LineFault) → IsReading (λ value. value) r (line_at line) → (meaning : ScriptLine) → Means line meaning → MatchResult r (λ value. value ≡ meaning) (λ fault. fault ≡ NoMemory)
only_by line (Ok value) g meaning s =
    let e : ◌≡◌ {A = Option ScriptLine} (Some value) (Some meaning) = sym g ∙ line_complete line meaning s in cc
only_by line (Err NoMemory) g meaning s = refl
only_by line (Err NotALine) g meaning s =
    let e : ◌≡◌ {A = Option ScriptLine} None (Some meaning) = sym g ∙ line_complete line meaning s in absurd cc

pub script_is_one : (line : List ℕ) (meaning other : ScriptLine) → Means line meaning → Means line other → meaning ≡ other
script_is_one line meaning other s t =
    let e : ◌≡◌ {A = Option ScriptLine} (Some meaning) (Some other) = sym (line_complete line meaning s) ∙ line_complete line other t in cc
