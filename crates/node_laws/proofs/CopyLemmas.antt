use Rattle.std.specs.Str.{bytes_eq}
use Rattle.std.specs.List.{filter}
use Rattle.std.proofs.lemmas.Slice.Eq.{bytes_eq-Decides}
use Rattle.std.proofs.lemmas.Bool.Decides.{eqb_tells}
use Rattle.std.proofs.Common.{◌≡◌, ◌⊎◌, inl, inr, ℕ, Bool, true, not, List, [], ◌∷◌, ◌++◌, map, Option, Some, None, refl, sym, ap, ◌∙◌, subst, append-nil, if◌then◌else◌}
use Rattle.std.proofs.lemmas.Bool.{cases_Bool}
use Rattle.crdt_ops.specs.declared.kind.Kind.{Kind}
use Rattle.crdt_ops.specs.declared.kind.Kind.TheVariants as kinds
use Rattle.crdt_ops.specs.declared.op.Op.{Op}
use Rattle.imap_answers.specs.declared.codes.Code.{Code}
use Rattle.imap_answers.specs.declared.codes.Code.TheVariants as codes
use Rattle.imap_commands.specs.CopyCommand.{append_of, appends_of, copied_code, expunge_of_moved, expunges_of_moved}
use Rattle.imap_commands.specs.MessageNames.{name_at, existing_messages, uid_in}
use Rattle.imap_commands.specs.Report.{are_some_gone, entry_at, gone_code, is_gone, message_at, row_for}
use Rattle.mailbox_rows.specs.ListedMessage.{ListedMessage}
use Rattle.mailbox_rows.specs.RowViews.{row_of}
use Rattle.merge_laws.specs.Orders.{IsIn}
use Rattle.session_view.specs.declared.view_entry.ViewEntry.{ViewEntry}
use Rattle.node_laws.specs.Copies.{AreCopied, appends_among, is_append_to}
use Rattle.node_laws.proofs.IdLemmas.{filter_append}
use Rattle.crdt_ops.specs.Ops.{id_of}

-- ---- the code of a COPY

gone_code_not_copy_uid : (rows : List ListedMessage) (view : List ViewEntry) (numbers : List ℕ) (v : ℕ) (sources copies : List ℕ) → ◌≡◌ {A = Option Code} (gone_code rows view numbers) (Some (codes.CopyUid v sources copies)) → ⊥
gone_code_not_copy_uid rows view numbers v sources copies e =
    elim (cases_Bool (are_some_gone rows view numbers)) [
      | inl t ↦ let k : ◌≡◌ {A = Option Code} (Some codes.ExpungeIssued) (Some (codes.CopyUid v sources copies)) = rw t at e in absurd cc
      | inr f ↦ let k : ◌≡◌ {A = Option Code} None (Some (codes.CopyUid v sources copies)) = rw f at e in absurd cc
    ]

pub code_parts : (rows : List ListedMessage) (view : List ViewEntry) (numbers : List ℕ) (u v : ℕ) (ss sources cs copies : List ℕ) → ◌≡◌ {A = Option Code} (copied_code u ss cs (gone_code rows view numbers)) (Some (codes.CopyUid v sources copies))
    → (u ≡ v) × (ss ≡ sources) × (cs ≡ copies)
code_parts rows view numbers u v [] sources cs copies e = absurd (gone_code_not_copy_uid rows view numbers v sources copies e)
code_parts rows view numbers u v (s ∷ ss) sources cs copies e = (cc, cc, cc)

-- ---- the Appends among the operations issued

kinds_among : (folder : List ℕ) (ops : List Op) → map (λ (o : Op). o.kind) (appends_among folder ops) ≡ filter (is_append_to folder) (map (λ (o : Op). o.kind) ops)
kinds_among folder [] = refl
kinds_among folder (o ∷ ops) =
    elim (cases_Bool (is_append_to folder o.kind)) [
      | inl t ↦ rw t (ap (λ (ks : List Kind). o.kind ∷ ks) (kinds_among folder ops))
      | inr f ↦ rw f (kinds_among folder ops)
    ]

append_filtered : (folder : List ℕ) (m : Option ListedMessage) → filter (is_append_to folder) (append_of folder m) ≡ append_of folder m
append_filtered folder None = refl
append_filtered folder (Some row) = let own : bytes_eq folder folder ≡ true = (bytes_eq-Decides folder folder).1 refl in rw own refl

pub appends_filtered : (folder : List ℕ) (rows : List ListedMessage) (view : List ViewEntry) (numbers : List ℕ) → filter (is_append_to folder) (appends_of folder rows view numbers) ≡ appends_of folder rows view numbers
appends_filtered folder rows view [] = refl
appends_filtered folder rows view (n ∷ numbers) =
    let m = message_at rows view n in
    filter_append (is_append_to folder) (append_of folder m) (appends_of folder rows view numbers)
    ∙ ap (λ (ks : List Kind). ks ++ filter (is_append_to folder) (appends_of folder rows view numbers)) (append_filtered folder m)
    ∙ ap (λ (ks : List Kind). append_of folder m ++ ks) (appends_filtered folder rows view numbers)

removal_out : (folder destination : List ℕ) (m : Option ListedMessage) → filter (is_append_to destination) (expunge_of_moved folder m) ≡ []
removal_out folder destination None = refl
removal_out folder destination (Some row) = refl

removals_out : (folder destination : List ℕ) (rows : List ListedMessage) (view : List ViewEntry) (numbers : List ℕ) → filter (is_append_to destination) (expunges_of_moved folder rows view numbers) ≡ []
removals_out folder destination rows view [] = refl
removals_out folder destination rows view (n ∷ numbers) =
    let m = message_at rows view n in
    filter_append (is_append_to destination) (expunge_of_moved folder m) (expunges_of_moved folder rows view numbers)
    ∙ ap (λ (ks : List Kind). ks ++ filter (is_append_to destination) (expunges_of_moved folder rows view numbers)) (removal_out folder destination m)
    ∙ removals_out folder destination rows view numbers

-- the Appends among the operations of MOVE
pub moves_filtered : (folder destination : List ℕ) (rows : List ListedMessage) (view : List ViewEntry) (numbers : List ℕ)
    → filter (is_append_to destination) (appends_of destination rows view numbers ++ expunges_of_moved folder rows view numbers) ≡ appends_of destination rows view numbers
moves_filtered folder destination rows view numbers =
    let appends = appends_of destination rows view numbers in
    filter_append (is_append_to destination) appends (expunges_of_moved folder rows view numbers)
    ∙ ap (λ (ks : List Kind). ks ++ filter (is_append_to destination) (expunges_of_moved folder rows view numbers)) (appends_filtered destination rows view numbers)
    ∙ ap (λ (ks : List Kind). appends ++ ks) (removals_out folder destination rows view numbers)
    ∙ append-nil appends

pub kinds_are : (folder : List ℕ) (issued : List Op) (intended appends : List Kind) → map (λ (o : Op). o.kind) issued ≡ intended → filter (is_append_to folder) intended ≡ appends → map (λ (o : Op). o.kind) (appends_among folder issued) ≡ appends
kinds_are folder issued intended appends e f = kinds_among folder issued ∙ ap (filter (is_append_to folder)) e ∙ f

-- ---- each source with its copy

row_of_in : (uid : ℕ) (rows : List ListedMessage) (row : ListedMessage) → row_of uid rows ≡ Some row → IsIn row rows × (row.uid ≡ uid)
row_of_in uid [] row e = absurd cc
row_of_in uid (r ∷ rows) row e =
    elim (eqb_tells r.uid uid) [
      | inl t ↦
          let k : ◌≡◌ {A = Option ListedMessage} (Some r) (Some row) = subst (λ (b : Bool). (if b then Some r else row_of uid rows) ≡ Some row) t.0 e in
          let same : r ≡ row = cc in
          (inl same, ap (λ (x : ListedMessage). x.uid) (sym same) ∙ t.1)
      | inr f ↦ let more = row_of_in uid rows row (subst (λ (b : Bool). (if b then Some r else row_of uid rows) ≡ Some row) f.0 e) in (inr more.0, more.1)
    ]

row_for_in : (rows : List ListedMessage) (o : Option ViewEntry) (row : ListedMessage) → row_for rows o ≡ Some row → IsIn row rows × (row.uid ≡ uid_in o)
row_for_in rows None row e = absurd cc
row_for_in rows (Some entry) row e = row_of_in entry.uid rows row e

cases_message : (m : Option ListedMessage) → (m ≡ None) ⊎ ((row : ListedMessage) × (m ≡ Some row))
cases_message None = inl refl
cases_message (Some row) = inr (row, refl)

module _ (rows added : List ListedMessage) (name : List ℕ) (view : List ViewEntry) where
  abbrev sources : List ℕ → List ℕ
  sources numbers = map (name_at true view) (existing_messages rows view numbers)

  copied_first : (n : ℕ) (row : ListedMessage) (numbers : List ℕ) (ops : List Op) (new : List ListedMessage) → row_for rows (entry_at view n) ≡ Some row → ((r : ListedMessage) → IsIn r new → IsIn r added)
      → map (λ (r : ListedMessage). r.origin) new ≡ map id_of ops → map (λ (o : Op). o.kind) ops ≡ kinds.Append name row.flags row.date row.text ∷ appends_of name rows view numbers
      → ((os : List Op) (rs : List ListedMessage) → ((r : ListedMessage) → IsIn r rs → IsIn r added) → map (λ (r : ListedMessage). r.origin) rs ≡ map id_of os → map (λ (o : Op). o.kind) os ≡ appends_of name rows view numbers
      → AreCopied rows added name (sources numbers) (map (λ (r : ListedMessage). r.uid) rs) os)
      → AreCopied rows added name (name_at true view n ∷ sources numbers) (map (λ (r : ListedMessage). r.uid) new) ops
  copied_first n row numbers [] new f h e k more = absurd cc
  copied_first n row numbers (op ∷ ops) [] f h e k more = absurd cc
  copied_first n row numbers (op ∷ ops) (r ∷ new) f h e k more =
      let row_is = row_for_in rows (entry_at view n) row f in
      let first : r.origin ≡ op.id = cc in
      let rest : map (λ (r : ListedMessage). r.origin) new ≡ map id_of ops = cc in
      let kind : op.kind ≡ kinds.Append name row.flags row.date row.text = cc in
      let others : map (λ (o : Op). o.kind) ops ≡ appends_of name rows view numbers = cc in (
        record {
          message = row;
          listed = row_is.0;
          numbered = row_is.1;
          bears = kind;
          added = record { row = r; listed = h r (inl refl); numbered = refl; appended = first };
        },
        more ops new (λ x i. h x (inr i)) rest others,
      )

  pub copied_all : (numbers : List ℕ) (ops : List Op) (new : List ListedMessage) → ((r : ListedMessage) → IsIn r new → IsIn r added)
      → map (λ (r : ListedMessage). r.origin) new ≡ map id_of ops → map (λ (o : Op). o.kind) ops ≡ appends_of name rows view numbers
      → AreCopied rows added name (sources numbers) (map (λ (r : ListedMessage). r.uid) new) ops
  copied_all [] [] [] h e k = tt
  copied_all [] [] (r ∷ new) h e k = absurd cc
  copied_all [] (op ∷ ops) new h e k = absurd cc
  copied_all (n ∷ numbers) ops new h e k =
      elim (cases_message (message_at rows view n)) [
        | inl none ↦
            let listed : existing_messages rows view (n ∷ numbers) ≡ existing_messages rows view numbers = ap (λ (m : Option ListedMessage). if not (is_gone m) then n ∷ existing_messages rows view numbers else existing_messages rows view numbers) none in
            let kind : appends_of name rows view (n ∷ numbers) ≡ appends_of name rows view numbers = ap (λ (m : Option ListedMessage). append_of name m ++ appends_of name rows view numbers) none in
            subst (λ (ns : List ℕ). AreCopied rows added name (map (name_at true view) ns) (map (λ (r : ListedMessage). r.uid) new) ops) (sym listed) (copied_all numbers ops new h e (k ∙ kind))
        | inr (row, some) ↦
            let listed : existing_messages rows view (n ∷ numbers) ≡ n ∷ existing_messages rows view numbers = ap (λ (m : Option ListedMessage). if not (is_gone m) then n ∷ existing_messages rows view numbers else existing_messages rows view numbers) some in
            let kind : appends_of name rows view (n ∷ numbers) ≡ kinds.Append name row.flags row.date row.text ∷ appends_of name rows view numbers = ap (λ (m : Option ListedMessage). append_of name m ++ appends_of name rows view numbers) some in
            subst (λ (ns : List ℕ). AreCopied rows added name (map (name_at true view) ns) (map (λ (r : ListedMessage). r.uid) new) ops) (sym listed)
            (copied_first n row numbers ops new some h e (k ∙ kind) (copied_all numbers))
      ]
