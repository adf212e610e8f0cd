use Rattle.std.proofs.Common.{◌≡◌, inl, inr, ℕ, zero, suc, ◌*◌, ◌/◌, ◌%◌, false, cond, eqb, eqb-true, eq-eqb, List, [], ◌∷◌, ◌++◌, Option, Some, None, Result, Ok, Err, MatchResult, length, drop, get_or, refl, sym, ap, ◌∙◌, subst, arith, codes}
use Rattle.std.proofs.lemmas.Bool.{and_parts, and_from, false≢true}
use Rattle.std.proofs.lemmas.Slice.Eq.{bytes_eq-Decides}
use Rattle.std.specs.Option.{option_map}
use Rattle.std.specs.Str.{bytes_eq}
use Rattle.hex.specs.declared.error.FromHexError.{FromHexError}
use Rattle.hex.specs.Hex.{IsBytes, decode_of, encode_lower}
use Rattle.hex.proofs.HexLemmas.{decode_of-encode_lower, decode_of-ok}
use Rattle.imap_types.specs.Escape.{AreOctets}
use Rattle.text_fields.specs.FieldReading.{◌>>=◌, cut_at, replica_at}
use Rattle.text_fields.proofs.FieldLemmas.{bind_some, bound, chosen, cut_complete, cut_sound, replica_complete, replica_sound, some_of}
use Rattle.crdt_ops.specs.declared.fault.OpFault.{OpFault}
use Rattle.crdt_ops.specs.declared.fault.OpFault.TheVariants.{NotInForm as NoOp, NoMemory as NoMemoryForOp}
use Rattle.crdt_ops.specs.declared.op.Op.{Op as Operation}
use Rattle.crdt_ops.specs.declared.sound_op.Unsound.{Unsound as Rule}
use Rattle.crdt_ops.specs.declared.sound_op.Unsound.TheVariants.{OwnClockEntry, UncoveredId, UnlawfulName, UnlawfulFlags, DeleteOfInbox, Count}
use Rattle.crdt_ops.specs.Form.{IsSpelled as IsOpSpelled}
use Rattle.crdt_ops.specs.Reading.{clock_at}
use Rattle.crdt_ops.specs.Text.{clock_text, op_text}
use Rattle.crdt_ops.proofs.ListLemmas.{clock_complete, clock_lacks, clock_sound}
use Rattle.crdt_ops.proofs.ReadLemmas.{one_by}
use Rattle.link_wire.specs.declared.line_fault.LineFault.{LineFault}
use Rattle.link_wire.specs.declared.line_fault.LineFault.TheVariants.{NotInForm, Unsound, NoMemory}
use Rattle.link_wire.specs.declared.line_word.LineWord.{LineWord}
use Rattle.link_wire.specs.declared.line_word.LineWord.TheVariants.{Op as OpWord, Have as HaveWord, Want as WantWord, Bye as ByeWord}
use Rattle.link_wire.specs.declared.wire_message.ByeReason.{ByeReason}
use Rattle.link_wire.specs.declared.wire_message.ByeReason.TheVariants.{Hello, Version, Name, Secret, Frame, Torn, Line, Unsound as Broken, Fork, Behind, Memory, Busy}
use Rattle.link_wire.specs.declared.wire_message.WireMessage.{WireMessage}
use Rattle.link_wire.specs.declared.wire_message.WireMessage.TheVariants.{Op, Have, Want, Ping, Bye}
use Rattle.link_wire.specs.LineFaults.{of_op_fault}
use Rattle.link_wire.specs.MessageForm.{IsInForm, IsLawful, IsLineFault, IsReasonInForm, IsSpelled}
use Rattle.link_wire.specs.LineReading.{IsReading, bye_at, chains_at, chains_of, have_at, plain_reason_at, reason_at, reason_of, reason_with_field_at, rule_at, want_at, word_at, word_text}
use Rattle.link_wire.specs.MessageTexts.{message_text, reason_text, rule_text}

-- ---- words

-- what a word says, by one text more
taken : {V : Type 0} (P : V → Type 0) (word text : List ℕ) (this next : Option V) (found : V) → (word ≡ text → this ≡ Some found → P found) → cond (bytes_eq word text) this next ≡ Some found → (next ≡ Some found → P found) → P found
taken P word text this next found here h more =
    elim (chosen (bytes_eq word text) this next (Some found) h) [
      | inl t ↦ here ((bytes_eq-Decides word text).0 t.0) t.1
      | inr f ↦ more f.1
    ]

picked : {V : Type 0} (P : V → Type 0) (word text : List ℕ) (v : V) (next : Option V) (found : V) → (word ≡ text → P v) → cond (bytes_eq word text) (Some v) next ≡ Some found → (next ≡ Some found → P found) → P found
picked {V} P word text v next found here h more = taken P word text (Some v) next found (λ e k. subst P (some_same v found k) (here e)) h more
  where
    some_same : (x y : V) → ◌≡◌ {A = Option V} (Some x) (Some y) → x ≡ y
    some_same x y e = cc

map_some : {A B : Type 0} (f : A → B) (r : Option A) (y : B) → option_map f r ≡ Some y → (x : A) × (r ≡ Some x) × (f x ≡ y)
map_some f None y h = absurd cc
map_some {A} {B} f (Some x) y h = (x, refl, (let e : ◌≡◌ {A = Option B} (Some (f x)) (Some y) = h in cc))

word_sound : (word : List ℕ) (found : LineWord) → word_at word ≡ Some found → word ≡ word_text found
unfolding word_at
word_sound word found h =
    let P = λ (w : LineWord). word ≡ word_text w in
    picked P word (codes "op") OpWord _ found (λ e. e) h (λ h.
    picked P word (codes "have") HaveWord _ found (λ e. e) h (λ h.
    picked P word (codes "want") WantWord _ found (λ e. e) h (λ h.
    picked P word (codes "bye") ByeWord None found (λ e. e) h (λ h. absurd cc))))

-- ---- reasons

rule_sound : (field : List ℕ) (rule : Rule) → rule_at field ≡ Some rule → field ≡ rule_text rule
unfolding rule_at
rule_sound field rule h =
    let P = λ (r : Rule). field ≡ rule_text r in
    picked P field (codes "U1") OwnClockEntry _ rule (λ e. e) h (λ h.
    picked P field (codes "U2") UncoveredId _ rule (λ e. e) h (λ h.
    picked P field (codes "U3") UnlawfulName _ rule (λ e. e) h (λ h.
    picked P field (codes "U4") UnlawfulFlags _ rule (λ e. e) h (λ h.
    picked P field (codes "U5") DeleteOfInbox _ rule (λ e. e) h (λ h.
    picked P field (codes "U6") Count None rule (λ e. e) h (λ h. absurd cc))))))

plain_sound : (word : List ℕ) (reason : ByeReason) → plain_reason_at word ≡ Some reason → IsReasonInForm reason × (word ≡ reason_text reason)
unfolding plain_reason_at
plain_sound word reason h =
    let P = λ (r : ByeReason). IsReasonInForm r × (word ≡ reason_text r) in
    picked P word (codes "hello") Hello _ reason (λ e. (tt, e)) h (λ h.
    picked P word (codes "version") Version _ reason (λ e. (tt, e)) h (λ h.
    picked P word (codes "name") Name _ reason (λ e. (tt, e)) h (λ h.
    picked P word (codes "secret") Secret _ reason (λ e. (tt, e)) h (λ h.
    picked P word (codes "frame") Frame _ reason (λ e. (tt, e)) h (λ h.
    picked P word (codes "torn") Torn _ reason (λ e. (tt, e)) h (λ h.
    picked P word (codes "line") Line _ reason (λ e. (tt, e)) h (λ h.
    picked P word (codes "memory") Memory _ reason (λ e. (tt, e)) h (λ h.
    picked P word (codes "busy") Busy None reason (λ e. (tt, e)) h (λ h. absurd cc)))))))))

field_sound : (word field : List ℕ) (reason : ByeReason) → reason_with_field_at word field ≡ Some reason → IsReasonInForm reason × (word ++ 32 ∷ field ≡ reason_text reason)
unfolding reason_with_field_at
field_sound word field reason h =
    let P = λ (r : ByeReason). IsReasonInForm r × (word ++ 32 ∷ field ≡ reason_text r) in
    taken P word (codes "unsound") _ _ reason
    (λ e k. let m = map_some Broken (rule_at field) reason k in subst P m.2 (tt, λ i. e i ++ 32 ∷ rule_sound field m.0 m.1 i)) h (λ h.
    taken P word (codes "fork") _ _ reason
    (λ e k. let m = map_some Fork (replica_at field) reason k in let r = replica_sound field m.0 m.1 in subst P m.2 (r.0, λ i. e i ++ 32 ∷ r.1 i)) h (λ h.
    taken P word (codes "behind") _ None reason
    (λ e k. let m = map_some Behind (replica_at field) reason k in let r = replica_sound field m.0 m.1 in subst P m.2 (r.0, λ i. e i ++ 32 ∷ r.1 i)) h (λ h. absurd cc)))

reason_sound : (text : List ℕ) (reason : ByeReason) → reason_at text ≡ Some reason → IsReasonInForm reason × (text ≡ reason_text reason)
unfolding reason_at
reason_sound text reason h = by_cut (cut_at 32 text) refl h
  where
    by_cut : (cut : Option (List ℕ × List ℕ)) → cut_at 32 text ≡ cut → reason_of text cut ≡ Some reason → IsReasonInForm reason × (text ≡ reason_text reason)
    by_cut None c k = plain_sound text reason k
    by_cut (Some parts) c k =
        let t = field_sound parts.0 parts.1 reason k in (t.0, cut_sound 32 text parts c ∙ t.1)

reason_complete : (reason : ByeReason) → IsReasonInForm reason → reason_at (reason_text reason) ≡ Some reason
unfolding reason_at plain_reason_at reason_with_field_at rule_at
reason_complete Hello w = refl
reason_complete Version w = refl
reason_complete Name w = refl
reason_complete Secret w = refl
reason_complete Frame w = refl
reason_complete Torn w = refl
reason_complete Line w = refl
reason_complete (Broken OwnClockEntry) w = refl
reason_complete (Broken UncoveredId) w = refl
reason_complete (Broken UnlawfulName) w = refl
reason_complete (Broken UnlawfulFlags) w = refl
reason_complete (Broken DeleteOfInbox) w = refl
reason_complete (Broken Count) w = refl
reason_complete (Fork replica) w = ap (option_map Fork) (replica_complete replica w)
reason_complete (Behind replica) w = ap (option_map Behind) (replica_complete replica w)
reason_complete Memory w = refl
reason_complete Busy w = refl

-- ---- chains

pub octets_by_bytes : (xs : List ℕ) → IsBytes xs → AreOctets xs
octets_by_bytes [] h = tt
octets_by_bytes (x ∷ xs) h = (h 0, octets_by_bytes xs (λ i. h (suc i)))

pub bytes_by_octets : (xs : List ℕ) → AreOctets xs → IsBytes xs
bytes_by_octets [] w i = omega arith
bytes_by_octets (x ∷ xs) w zero = w.0
bytes_by_octets (x ∷ xs) w (suc i) = bytes_by_octets xs w.1 i

pub chains_sound : (count : ℕ) (text chains : List ℕ) → chains_at count text ≡ Some chains → AreOctets chains × (length chains ≡ 16 * count) × (text ≡ encode_lower chains)
unfolding chains_at
chains_sound count text chains h = by_decoded (decode_of text) refl h
  where
    by_decoded : (d : Result (List ℕ) FromHexError) → decode_of text ≡ d → chains_of count text d ≡ Some chains → AreOctets chains × (length chains ≡ 16 * count) × (text ≡ encode_lower chains)
    by_decoded (Err e) d k = absurd cc
    by_decoded (Ok bytes) d k =
        let s = some_of _ bytes chains k in
        let p = and_parts _ _ s.0 in
        let q = and_parts _ _ p.0 in
        let most : length bytes / 16 ≡ count = eqb-true _ _ q.0 in
        let rest : length bytes % 16 ≡ 0 = eqb-true _ _ q.1 in
        let bytes_are = decode_of-ok text bytes d in
        let long : length bytes ≡ 16 * count = omega arith in
        subst (λ (chains : List ℕ). AreOctets chains × (length chains ≡ 16 * count) × (text ≡ encode_lower chains)) s.1
        (octets_by_bytes bytes bytes_are.3, long, sym ((bytes_eq-Decides (encode_lower bytes) text).0 p.1))

chains_complete : (count : ℕ) (chains : List ℕ) → AreOctets chains → length chains ≡ 16 * count → chains_at count (encode_lower chains) ≡ Some chains
unfolding chains_at
chains_complete count chains w l =
    ap (chains_of count (encode_lower chains)) (decode_of-encode_lower chains (bytes_by_octets chains w))
    ∙ ap (λ b. cond b (Some chains) None)
    (and_from _ _ (and_from _ _ (eq-eqb (length chains / 16) count (omega arith)) (eq-eqb (length chains % 16) 0 (omega arith))) ((bytes_eq-Decides (encode_lower chains) (encode_lower chains)).1 refl))

-- ---- what is read is spelled so

-- the line spells this message, and its operation, if any, may be applied
abbrev IsRead : List ℕ → WireMessage → Type 0
IsRead line message = IsInForm message × (line ≡ message_text message) × IsLawful message

have_sound : (fields : List ℕ) (message : WireMessage) → have_at fields ≡ Some message → IsRead (codes "have " ++ fields) message
unfolding have_at
have_sound fields message h =
    let p = bind_some (cut_at 32 fields) _ message h in
    let c = bind_some (clock_at p.0.0) _ message p.2 in
    let t = bind_some (chains_at (length c.0) p.0.1) _ message c.2 in
    let e : ◌≡◌ {A = Option WireMessage} (Some (Have c.0 t.0)) (Some message) = t.2 in
    let same : Have c.0 t.0 ≡ message = cc in
    let u = clock_sound p.0.0 c.0 c.1 in
    let v = chains_sound (length c.0) p.0.1 t.0 t.1 in
    subst (IsRead (codes "have " ++ fields)) same
    (((u.0, u.1), v.0, v.1), ap (λ (xs : List ℕ). codes "have " ++ xs) (cut_sound 32 fields p.0 p.1 ∙ (λ i. u.2 i ++ 32 ∷ v.2 i)), tt)

want_sound : (fields : List ℕ) (message : WireMessage) → want_at fields ≡ Some message → IsRead (codes "want " ++ fields) message
unfolding want_at
want_sound fields message h =
    let c = bind_some (clock_at fields) _ message h in
    let e : ◌≡◌ {A = Option WireMessage} (Some (Want c.0)) (Some message) = c.2 in
    let same : Want c.0 ≡ message = cc in
    let u = clock_sound fields c.0 c.1 in
    subst (IsRead (codes "want " ++ fields)) same ((u.0, u.1), ap (λ (xs : List ℕ). codes "want " ++ xs) u.2, tt)

bye_sound : (fields : List ℕ) (message : WireMessage) → bye_at fields ≡ Some message → IsRead (codes "bye " ++ fields) message
unfolding bye_at
bye_sound fields message h =
    let m = map_some Bye (reason_at fields) message h in
    let t = reason_sound fields m.0 m.1 in
    subst (IsRead (codes "bye " ++ fields)) m.2 (t.0, ap (λ (xs : List ℕ). codes "bye " ++ xs) t.1, tt)

-- ---- what is spelled so is read

first_differs : (a b : ℕ) (xs ys : List ℕ) → eqb a b ≡ false → a ∷ xs ≡ b ∷ ys → ⊥
first_differs a b xs ys f e = let same : a ≡ b = ap (λ (t : List ℕ). get_or t 0 0) e in false≢true (sym f ∙ eq-eqb a b same)

have_complete : (clock : List (ℕ × ℕ)) (chains : List ℕ) → IsInForm (Have clock chains) → have_at (clock_text clock ++ 32 ∷ encode_lower chains) ≡ Some (Have clock chains)
unfolding have_at
have_complete clock chains w =
    bound (cut_at 32 (clock_text clock ++ 32 ∷ encode_lower chains)) (λ parts. clock_at parts.0 >>= (λ clock. chains_at (length clock) parts.1 >>= (λ chains. Some (Have clock chains)))) (clock_text clock, encode_lower chains)
    (cut_complete 32 (clock_text clock) (encode_lower chains) (clock_lacks clock w.0.1))
    ∙ bound (clock_at (clock_text clock)) (λ clock. chains_at (length clock) (encode_lower chains) >>= (λ chains. Some (Have clock chains))) clock (clock_complete clock w.0.0 w.0.1)
    ∙ bound (chains_at (length clock) (encode_lower chains)) (λ chains. Some (Have clock chains)) chains (chains_complete (length clock) chains w.1 w.2)

have_only : (fields : List ℕ) (message : WireMessage) → IsSpelled message (codes "have " ++ fields) → have_at fields ≡ Some message
have_only fields (Op op) s = absurd (first_differs 104 111 _ _ refl s.1)
have_only fields (Have clock chains) s =
    let e : fields ≡ clock_text clock ++ 32 ∷ encode_lower chains = ap (λ (t : List ℕ). drop 5 t) s.1 in
    ap have_at e ∙ have_complete clock chains s.0
have_only fields (Want clock) s = absurd (first_differs 104 119 _ _ refl s.1)
have_only fields Ping s = absurd (first_differs 104 112 _ _ refl s.1)
have_only fields (Bye reason) s = absurd (first_differs 104 98 _ _ refl s.1)

want_only : (fields : List ℕ) (message : WireMessage) → IsSpelled message (codes "want " ++ fields) → want_at fields ≡ Some message
unfolding want_at
want_only fields (Op op) s = absurd (first_differs 119 111 _ _ refl s.1)
want_only fields (Have clock chains) s = absurd (first_differs 119 104 _ _ refl s.1)
want_only fields (Want clock) s =
    let e : fields ≡ clock_text clock = ap (λ (t : List ℕ). drop 5 t) s.1 in
    bound (clock_at fields) (λ clock. Some (Want clock)) clock (ap clock_at e ∙ clock_complete clock s.0.0 s.0.1)
want_only fields Ping s = absurd (first_differs 119 112 _ _ refl s.1)
want_only fields (Bye reason) s = absurd (first_differs 119 98 _ _ refl s.1)

bye_only : (fields : List ℕ) (message : WireMessage) → IsSpelled message (codes "bye " ++ fields) → bye_at fields ≡ Some message
unfolding bye_at
bye_only fields (Op op) s = absurd (first_differs 98 111 _ _ refl s.1)
bye_only fields (Have clock chains) s = absurd (first_differs 98 104 _ _ refl s.1)
bye_only fields (Want clock) s = absurd (first_differs 98 119 _ _ refl s.1)
bye_only fields Ping s = absurd (first_differs 98 112 _ _ refl s.1)
bye_only fields (Bye reason) s =
    let e : fields ≡ reason_text reason = ap (λ (t : List ℕ). drop 4 t) s.1 in
    ap (option_map Bye) (ap reason_at e ∙ reason_complete reason s.0)

op_only : (fields : List ℕ) (message : WireMessage) → IsSpelled message (codes "op " ++ fields) → (op : Operation) × (message ≡ Op op) × IsOpSpelled op fields
op_only fields (Op op) s = (op, refl, (s.0, ap (λ (t : List ℕ). drop 3 t) s.1))
op_only fields (Have clock chains) s = absurd (first_differs 111 104 _ _ refl s.1)
op_only fields (Want clock) s = absurd (first_differs 111 119 _ _ refl s.1)
op_only fields Ping s = absurd (first_differs 111 112 _ _ refl s.1)
op_only fields (Bye reason) s = absurd (first_differs 111 98 _ _ refl s.1)

-- ---- what the reader answers

-- the answer is right for the line
abbrev pub Reads : List ℕ → Result WireMessage LineFault → Type 0
Reads line result = MatchResult result (λ message. IsSpelled message line × IsLawful message) (λ fault. IsLineFault fault line)

reads_by : (line : List ℕ) (read : Option WireMessage) (result : Result WireMessage LineFault) → ((message : WireMessage) → read ≡ Some message → IsRead line message) → ((message : WireMessage) → IsSpelled message line → read ≡ Some message) → IsReading (λ message. message) result read → Reads line result
reads_by line read (Ok message) takes only g = let t = takes message g in ((t.0, t.1), t.2)
reads_by line read (Err NotInForm) takes only g = λ message s. let e : ◌≡◌ {A = Option WireMessage} None (Some message) = sym g ∙ only message s in cc
reads_by line read (Err (Unsound rule)) takes only g = absurd g
reads_by line read (Err NoMemory) takes only g = tt

pub reads_have : (fields : List ℕ) (result : Result WireMessage LineFault) → IsReading (λ message. message) result (have_at fields) → Reads (codes "have " ++ fields) result
reads_have fields result g = reads_by (codes "have " ++ fields) (have_at fields) result (have_sound fields) (have_only fields) g

pub reads_want : (fields : List ℕ) (result : Result WireMessage LineFault) → IsReading (λ message. message) result (want_at fields) → Reads (codes "want " ++ fields) result
reads_want fields result g = reads_by (codes "want " ++ fields) (want_at fields) result (want_sound fields) (want_only fields) g

pub reads_bye : (fields : List ℕ) (result : Result WireMessage LineFault) → IsReading (λ message. message) result (bye_at fields) → Reads (codes "bye " ++ fields) result
reads_bye fields result g = reads_by (codes "bye " ++ fields) (bye_at fields) result (bye_sound fields) (bye_only fields) g

pub op_spelled : (fields : List ℕ) (op : Operation) → IsOpSpelled op fields → IsSpelled (Op op) (codes "op " ++ fields)
op_spelled fields op s = (s.0, ap (λ (xs : List ℕ). codes "op " ++ xs) s.1)

pub op_unread : (fields : List ℕ) (fault : OpFault) → ((op : Operation) → IsOpSpelled op fields → fault ≡ NoMemoryForOp) → IsLineFault (of_op_fault fault) (codes "op " ++ fields)
op_unread fields NoOp h = λ message s.
    let o = op_only fields message s in
    let e : ◌≡◌ {A = OpFault} NoOp NoMemoryForOp = h o.0 o.2 in
    absurd cc
op_unread fields NoMemoryForOp h = tt

-- a line without a space that isn't `ping` spells nothing
pub no_space : (line : List ℕ) → bytes_eq line (codes "ping") ≡ false → cut_at 32 line ≡ None → (message : WireMessage) → IsSpelled message line → ⊥
no_space line f n (Op op) s = let e : ◌≡◌ {A = Option (List ℕ × List ℕ)} None (Some (codes "op", op_text op)) = sym n ∙ ap (cut_at 32) s.1 in cc
no_space line f n (Have clock chains) s = let e : ◌≡◌ {A = Option (List ℕ × List ℕ)} None (Some (codes "have", clock_text clock ++ 32 ∷ encode_lower chains)) = sym n ∙ ap (cut_at 32) s.1 in cc
no_space line f n (Want clock) s = let e : ◌≡◌ {A = Option (List ℕ × List ℕ)} None (Some (codes "want", clock_text clock)) = sym n ∙ ap (cut_at 32) s.1 in cc
no_space line f n Ping s = false≢true (sym f ∙ (bytes_eq-Decides line (codes "ping")).1 s.1)
no_space line f n (Bye reason) s = let e : ◌≡◌ {A = Option (List ℕ × List ℕ)} None (Some (codes "bye", reason_text reason)) = sym n ∙ ap (cut_at 32) s.1 in cc

-- the first word of a line that spells a message
first_word : (line : List ℕ) (parts : List ℕ × List ℕ) (word rest : List ℕ) → cut_at 32 line ≡ Some parts → cut_at 32 line ≡ Some (word, rest) → parts.0 ≡ word
first_word line parts word rest n e = let same : ◌≡◌ {A = Option (List ℕ × List ℕ)} (Some parts) (Some (word, rest)) = sym n ∙ e in let k : ◌≡◌ {A = List ℕ × List ℕ} parts (word, rest) = cc in ap (λ (p : List ℕ × List ℕ). p.0) k

-- a line whose first word is none of these spells nothing
pub no_word : (line : List ℕ) (parts : List ℕ × List ℕ) → bytes_eq line (codes "ping") ≡ false → cut_at 32 line ≡ Some parts → word_at parts.0 ≡ None → (message : WireMessage) → IsSpelled message line → ⊥
unfolding word_at
no_word line parts f n w (Op op) s =
    let e = first_word line parts (codes "op") (op_text op) n (ap (cut_at 32) s.1) in
    let k : ◌≡◌ {A = Option LineWord} None (Some OpWord) = sym w ∙ ap word_at e in cc
no_word line parts f n w (Have clock chains) s =
    let e = first_word line parts (codes "have") (clock_text clock ++ 32 ∷ encode_lower chains) n (ap (cut_at 32) s.1) in
    let k : ◌≡◌ {A = Option LineWord} None (Some HaveWord) = sym w ∙ ap word_at e in cc
no_word line parts f n w (Want clock) s =
    let e = first_word line parts (codes "want") (clock_text clock) n (ap (cut_at 32) s.1) in
    let k : ◌≡◌ {A = Option LineWord} None (Some WantWord) = sym w ∙ ap word_at e in cc
no_word line parts f n w Ping s = false≢true (sym f ∙ (bytes_eq-Decides line (codes "ping")).1 s.1)
no_word line parts f n w (Bye reason) s =
    let e = first_word line parts (codes "bye") (reason_text reason) n (ap (cut_at 32) s.1) in
    let k : ◌≡◌ {A = Option LineWord} None (Some ByeWord) = sym w ∙ ap word_at e in cc

-- the line is its first word and the fields
pub word_line : (line : List ℕ) (parts : List ℕ × List ℕ) (word : LineWord) → cut_at 32 line ≡ Some parts → word_at parts.0 ≡ Some word → line ≡ word_text word ++ 32 ∷ parts.1
word_line line parts word n w = cut_sound 32 line parts n ∙ ap (λ (xs : List ℕ). xs ++ 32 ∷ parts.1) (word_sound parts.0 word w)

-- ---- one message a line

some_message : (message other : WireMessage) (read : Option WireMessage) → read ≡ Some message → read ≡ Some other → message ≡ other
some_message message other read e f = let k : ◌≡◌ {A = Option WireMessage} (Some message) (Some other) = sym e ∙ f in cc

pub one_message-by : (line : List ℕ) (message other : WireMessage) → IsSpelled message line → IsSpelled other line → message ≡ other
one_message-by line (Op op) other s t =
    let o = op_only (op_text op) other (subst (IsSpelled other) s.1 t) in
    ap Op (one_by (op_text op) op o.0 (s.0, refl) o.2) ∙ sym o.1
one_message-by line (Have clock chains) other s t =
    let fields = clock_text clock ++ 32 ∷ encode_lower chains in
    some_message (Have clock chains) other (have_at fields) (have_only fields (Have clock chains) (s.0, refl)) (have_only fields other (subst (IsSpelled other) s.1 t))
one_message-by line (Want clock) other s t =
    some_message (Want clock) other (want_at (clock_text clock)) (want_only (clock_text clock) (Want clock) (s.0, refl)) (want_only (clock_text clock) other (subst (IsSpelled other) s.1 t))
one_message-by line Ping other s t = only_ping other (subst (IsSpelled other) s.1 t)
  where
    only_ping : (other : WireMessage) → IsSpelled other (codes "ping") → Ping ≡ other
    only_ping (Op op) t = absurd (first_differs 112 111 _ _ refl t.1)
    only_ping (Have clock chains) t = absurd (first_differs 112 104 _ _ refl t.1)
    only_ping (Want clock) t = absurd (first_differs 112 119 _ _ refl t.1)
    only_ping Ping t = refl
    only_ping (Bye reason) t = absurd (first_differs 112 98 _ _ refl t.1)
one_message-by line (Bye reason) other s t =
    some_message (Bye reason) other (bye_at (reason_text reason)) (bye_only (reason_text reason) (Bye reason) (s.0, refl)) (bye_only (reason_text reason) other (subst (IsSpelled other) s.1 t))
