use Rattle.std.proofs.Common.{◌≡◌, ℕ, eqb, not, true, List, [], ◌∷◌, ◌++◌, Option, Some, None, Result, Ok, Err, IfOk, IsTrue, Bool, inl, inr, drop, refl, sym, ap, ◌∙◌, subst, append_assoc, arith, codes}
use Rattle.std.proofs.lemmas.Bool.{and_from}
use Rattle.std.specs.List.{list_all}
use Rattle.crdt_ops.proofs.ListLemmas.{clock_lacks, name_lacks}
use Rattle.crdt_ops.specs.Form.{HasFields, IsDated, IsInForm, IsSpelled}
use Rattle.crdt_ops.specs.Text.{clock_text, flags_text, id_text, ids_text, kind_text, text_field, name_text, op_text}
use Rattle.crdt_ops.specs.declared.kind.Kind.{Kind}
use Rattle.crdt_ops.specs.declared.kind.Kind.TheVariants.{Create, Delete, Append, Expunge, Store, Subscribe, Unsubscribe}
use Rattle.crdt_ops.specs.declared.op.Op.{Op}
use Rattle.text_fields.proofs.FieldLemmas.{chosen, cut_complete, cut_sound, before_first_part_some, id_lacks}
use Rattle.text_fields.specs.FieldReading.{cut_at, before_first_part}
use Rattle.mail_audit.specs.Forms.{AreIdsText, AreAppendFields, AreMessageFields, AreTagFields}

-- the parts of a cut
front_of : Option (List ℕ × List ℕ) → List ℕ
front_of None = []
front_of (Some parts) = parts.0

back_of : Option (List ℕ × List ℕ) → List ℕ
back_of None = []
back_of (Some parts) = parts.1

head_of : List ℕ → ℕ
head_of [] = 0
head_of (x ∷ xs) = x

-- the part before the first separator lacks it
pub cut_lacks : (separator : ℕ) (text : List ℕ) (parts : List ℕ × List ℕ) → cut_at separator text ≡ Some parts → list_all (λ octet. not (eqb octet separator)) parts.0 ≡ true
cut_lacks separator [] parts h = absurd cc
cut_lacks separator (octet ∷ octets) parts h =
    elim (chosen (eqb octet separator) (Some ([], octets)) (before_first_part (octet ∷ []) (cut_at separator octets)) (Some parts) h) [
      | inl t ↦
          let e : ◌≡◌ {A = List ℕ × List ℕ} ([], octets) parts = let k = t.1 in cc in
          subst (λ (p : List ℕ × List ℕ). list_all (λ octet. not (eqb octet separator)) p.0 ≡ true) e refl
      | inr f ↦
          let y = before_first_part_some (octet ∷ []) (cut_at separator octets) parts f.1 in
          subst (λ (xs : List ℕ). list_all (λ octet. not (eqb octet separator)) xs ≡ true) (sym y.2) (and_from _ _ (ap not f.0) (cut_lacks separator octets y.0 y.1))
    ]

-- the parts of an operation's text after its id, and after its clock
after_id : (op : Op) (id back : List ℕ) → IsInForm op → list_all (λ octet. not (eqb octet 32)) id ≡ true → id ++ 32 ∷ back ≡ op_text op → (id ≡ id_text op.id) × (back ≡ clock_text op.clock ++ 32 ∷ kind_text op.kind)
unfolding front_of back_of
after_id op id back form l e =
    let tail = clock_text op.clock ++ 32 ∷ kind_text op.kind in
    let both : ◌≡◌ {A = Option (List ℕ × List ℕ)} (Some (id, back)) (Some (id_text op.id, tail)) =
    sym (cut_complete 32 id back l) ∙ ap (cut_at 32) e ∙ cut_complete 32 (id_text op.id) tail (id_lacks 32 op.id refl refl form.parts.id) in
    (ap front_of both, ap back_of both)

after_clock : (op : Op) (back : List ℕ) → IsInForm op → codes "- " ++ back ≡ clock_text op.clock ++ 32 ∷ kind_text op.kind → back ≡ kind_text op.kind
unfolding back_of
after_clock op back form e = ap back_of (ap (cut_at 32) e ∙ cut_complete 32 (clock_text op.clock) (kind_text op.kind) (clock_lacks op.clock form.parts.entries))

by_delete : (kind : Kind) (fields : List ℕ) → HasFields kind → codes "delete " ++ fields ≡ kind_text kind → AreTagFields fields
unfolding head_of
by_delete (Create folder) fields f e = absurd (let k : 100 ≡ 99 = ap head_of e in omega (arith, k))
by_delete (Delete folder seen) fields f e = (folder, seen, f.0, f.1, ap (drop 7) e)
by_delete (Append folder flags date text) fields f e = absurd (let k : 100 ≡ 97 = ap head_of e in omega (arith, k))
by_delete (Expunge folder old_ids) fields f e = absurd (let k : 100 ≡ 101 = ap head_of e in omega (arith, k))
by_delete (Store folder flags old_ids origin) fields f e = absurd (let k : 100 ≡ 115 = ap head_of e in omega (arith, k))
by_delete (Subscribe name) fields f e = absurd (let k : 100 ≡ 115 = ap head_of e in omega (arith, k))
by_delete (Unsubscribe name seen) fields f e = absurd (let k : 100 ≡ 117 = ap head_of e in omega (arith, k))

by_unsubscribe : (kind : Kind) (fields : List ℕ) → HasFields kind → codes "unsubscribe " ++ fields ≡ kind_text kind → AreTagFields fields
unfolding head_of
by_unsubscribe (Create folder) fields f e = absurd (let k : 117 ≡ 99 = ap head_of e in omega (arith, k))
by_unsubscribe (Delete folder seen) fields f e = absurd (let k : 117 ≡ 100 = ap head_of e in omega (arith, k))
by_unsubscribe (Append folder flags date text) fields f e = absurd (let k : 117 ≡ 97 = ap head_of e in omega (arith, k))
by_unsubscribe (Expunge folder old_ids) fields f e = absurd (let k : 117 ≡ 101 = ap head_of e in omega (arith, k))
by_unsubscribe (Store folder flags old_ids origin) fields f e = absurd (let k : 117 ≡ 115 = ap head_of e in omega (arith, k))
by_unsubscribe (Subscribe name) fields f e = absurd (let k : 117 ≡ 115 = ap head_of e in omega (arith, k))
by_unsubscribe (Unsubscribe name seen) fields f e = (name, seen, f.0, f.1, ap (drop 12) e)

-- the fields of a Delete are a name and ids
pub delete_fields : (op : Op) (fields : List ℕ) → IsSpelled op (codes "1:1 - delete " ++ fields) → AreTagFields fields
delete_fields op fields s =
    let clock = (after_id op (codes "1:1") (codes "- delete " ++ fields) s.0 refl s.1).1 in
    by_delete op.kind fields s.0.parts.fields (after_clock op (codes "delete " ++ fields) s.0 clock)

-- the fields of an Unsubscribe are a name and ids
pub unsubscribe_fields : (op : Op) (fields : List ℕ) → IsSpelled op (codes "1:1 - unsubscribe " ++ fields) → AreTagFields fields
unsubscribe_fields op fields s =
    let clock = (after_id op (codes "1:1") (codes "- unsubscribe " ++ fields) s.0 refl s.1).1 in
    by_unsubscribe op.kind fields s.0.parts.fields (after_clock op (codes "unsubscribe " ++ fields) s.0 clock)

by_append : (op : Op) (kind : Kind) (id rest : List ℕ) → IsInForm op → id ≡ id_text op.id → HasFields kind → IsDated kind → codes "append INBOX " ++ rest ≡ kind_text kind → AreAppendFields id rest
unfolding head_of back_of
by_append op (Create folder) id rest form i f d e = absurd (let k : 97 ≡ 99 = ap head_of e in omega (arith, k))
by_append op (Delete folder seen) id rest form i f d e = absurd (let k : 97 ≡ 100 = ap head_of e in omega (arith, k))
by_append op (Append folder flags date text) id rest form i f d e =
    let tail = flags_text flags ++ 32 ∷ (date ++ 32 ∷ text_field text) in
    let after : codes "INBOX " ++ rest ≡ name_text folder ++ 32 ∷ tail = ap (drop 7) e in
    let same : rest ≡ tail = ap back_of (ap (cut_at 32) after ∙ cut_complete 32 (name_text folder) tail (name_lacks folder)) in
    (op.id, flags, date, text, form.parts.id, f.1, d, f.3, i, same)
by_append op (Expunge folder old_ids) id rest form i f d e = absurd (let k : 97 ≡ 101 = ap head_of e in omega (arith, k))
by_append op (Store folder flags old_ids origin) id rest form i f d e = absurd (let k : 97 ≡ 115 = ap head_of e in omega (arith, k))
by_append op (Subscribe name) id rest form i f d e = absurd (let k : 97 ≡ 115 = ap head_of e in omega (arith, k))
by_append op (Unsubscribe name seen) id rest form i f d e = absurd (let k : 97 ≡ 117 = ap head_of e in omega (arith, k))

-- an id, and the fields of an Append after its folder
pub append_fields : (op : Op) (id rest : List ℕ) → list_all (λ octet. not (eqb octet 32)) id ≡ true → IsSpelled op ((id ++ codes " - append INBOX ") ++ rest) → AreAppendFields id rest
append_fields op id rest l s =
    let parts = after_id op id (codes "- append INBOX " ++ rest) s.0 l (sym (append_assoc id (codes " - append INBOX ") rest) ∙ s.1) in
    by_append op op.kind id rest s.0 parts.0 s.0.parts.fields s.0.date (after_clock op (codes "append INBOX " ++ rest) s.0 parts.1)

-- the ids that a Delete lists
pub listed_ids : (op : Op) (text : List ℕ) → IsSpelled op (codes "1:1 - delete a " ++ text) → AreIdsText text
unfolding back_of
listed_ids op text s =
    let t = delete_fields op (codes "a " ++ text) s in
    (t.1, t.3, ap back_of (ap (cut_at 32) t.4 ∙ cut_complete 32 (name_text t.0) (ids_text t.1) (name_lacks t.0)))

-- the fields of a message's line, part by part
pub message_fields : (fields origin after versions rest : List ℕ) → Some (origin, after) ≡ cut_at 32 fields → Some (versions, rest) ≡ cut_at 32 after → AreIdsText versions → AreAppendFields origin rest → AreMessageFields fields
message_fields fields origin after versions rest c d v l = (
  l.0,
  v.0,
  l.1,
  l.2,
  l.3,
  l.4,
  v.1,
  l.5,
  l.6,
  l.7,
  cut_sound 32 fields (origin, after) (sym c) ∙ (λ j. l.8 j ++ 32 ∷ (cut_sound 32 after (versions, rest) (sym d) ∙ (λ k. v.2 k ++ 32 ∷ l.9 k)) j),
)

-- ---- the results of reading such fields

pub if_delete : {E : Type 0} (result : Result Bool E) (fields : List ℕ) → IfOk result (λ spelled. IsTrue spelled → (op : Op) × IsSpelled op (codes "1:1 - delete " ++ fields)) → IfOk result (λ are. IsTrue are → AreTagFields fields)
if_delete (Ok spelled) fields h = λ t. let s = h t in delete_fields s.0 fields s.1
if_delete (Err why) fields h = tt

pub if_unsubscribe : {E : Type 0} (result : Result Bool E) (fields : List ℕ) → IfOk result (λ spelled. IsTrue spelled → (op : Op) × IsSpelled op (codes "1:1 - unsubscribe " ++ fields)) → IfOk result (λ are. IsTrue are → AreTagFields fields)
if_unsubscribe (Ok spelled) fields h = λ t. let s = h t in unsubscribe_fields s.0 fields s.1
if_unsubscribe (Err why) fields h = tt

pub if_append : {E : Type 0} (result : Result Bool E) (id rest front : List ℕ) → list_all (λ octet. not (eqb octet 32)) id ≡ true → front ≡ id ++ codes " - append INBOX " → IfOk result (λ spelled. IsTrue spelled → (op : Op) × IsSpelled op (front ++ rest)) → IfOk result (λ are. IsTrue are → AreAppendFields id rest)
if_append (Ok spelled) id rest front l e h = λ t. let s = h t in append_fields s.0 id rest l (subst (λ (f : List ℕ). IsSpelled s.0 (f ++ rest)) e s.1)
if_append (Err why) id rest front l e h = tt

pub if_listed : {E : Type 0} (result : Result Bool E) (text : List ℕ) → IfOk result (λ spelled. IsTrue spelled → (op : Op) × IsSpelled op (codes "1:1 - delete a " ++ text)) → IfOk result (λ are. IsTrue are → AreIdsText text)
if_listed (Ok spelled) text h = λ t. let s = h t in listed_ids s.0 text s.1
if_listed (Err why) text h = tt

-- a line of a word and its fields
pub line_of : (line word fields name : List ℕ) → Some (word, fields) ≡ cut_at 32 line → word ≡ name → line ≡ name ++ 32 ∷ fields
line_of line word fields name c e = cut_sound 32 line (word, fields) (sym c) ∙ ap (λ (w : List ℕ). w ++ 32 ∷ fields) e
