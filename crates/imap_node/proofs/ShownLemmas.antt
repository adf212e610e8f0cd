use Rattle.std.specs.Str.{bytes_eq}
use Rattle.std.specs.List.{list_all, list_any}
use Rattle.std.specs.Option.{unwrap_or}
use Rattle.std.proofs.Common.{◌≡◌, inl, inr, ℕ, ◌+◌, ◌*◌, true, not, List, [], ◌∷◌, ◌++◌, length-append, Option, Some, None, nat_eq, refl, sym, ap, ◌∙◌, subst, append_assoc, arith}
use Rattle.std.proofs.lemmas.Bool.{and_parts, cases_Bool, false≢true}
use Rattle.imap_answers.specs.Printable.{Each, IsAtom, IsFolded, IsModSeq, IsNonzero}
use Rattle.imap_types.specs.Names.{inbox}
use Rattle.mailbox_rows.specs.ListedMessage.{ListedMessage}
use Rattle.merge_laws.specs.Orders.{AreSound, IsIn}
use Rattle.merge_laws.proofs.Lists.{in_front}
use Rattle.tags_clocks.specs.declared.id.OpId.{OpId}
use Rattle.crdt_ops.proofs.MeaningLemmas.{folders_listed, subscribed_listed}
use Rattle.crdt_ops.proofs.Members.{any_in}
use Rattle.crdt_ops.specs.declared.kind.Kind.{Kind}
use Rattle.crdt_ops.specs.declared.kind.Kind.TheVariants as kinds
use Rattle.crdt_ops.specs.declared.op.Op.{Op}
use Rattle.crdt_ops.specs.Form.{is_word}
use Rattle.crdt_ops.specs.Sets.{folders_of, subscribed_names_of}
use Rattle.crdt_ops.specs.Sound.{IsSound}
use Rattle.crdt_ops.specs.TagLaws.{same_tag_is}
use Rattle.crdt_ops.specs.Tags.{FolderTag, MessageTag, SubscriptionTag, Tag, tag_added_by, adds, is_present, is_some_tag, name_of, removes}
use Rattle.session_view.specs.ViewState.{ViewState, rows_under}
use Rattle.imap_commands.specs.Printing.{AreNonzeroCounters, AreShowable}
use Rattle.imap_commands.specs.Printing.{IsShowable}
use Rattle.imap_commands.proofs.PrintSelectLemmas.{each_of}
use Rattle.uid_projection.specs.declared.first_numbers.Counters.{Counters}
use Rattle.uid_projection.specs.Incarnations.{folder_exists, k_of, uidvalidity_of}
use Rattle.uid_projection.specs.UidsAndModSeqs.{uidnext_of}
use Rattle.uid_projection.specs.Listing.{listing}
use Rattle.uid_projection.proofs.BoundLemmas.{bounds, rows_written}
use Rattle.uid_projection.proofs.NextOpLemmas.{validity_inbox, validity_present}
use Rattle.uid_projection.proofs.Presence.{applied_front}
use Rattle.imap_node.specs.Mailboxes.{counters_of, rows_for, validity_of}
use Rattle.imap_node.specs.Printing.{IsPresentable}

-- ---- listings

words_atoms : (keywords : List (List ℕ)) → list_all is_word keywords ≡ true → Each IsAtom keywords
words_atoms [] h = tt
words_atoms (keyword ∷ keywords) h = let both = and_parts (is_word keyword) (list_all is_word keywords) h in (both.0, words_atoms keywords both.1)

pub listing_showable : (start : Counters) (name : List ℕ) (ops : List Op) → IsPresentable start ops → AreShowable (listing start name ops)
listing_showable start name ops p =
    let b = bounds start name ops p.lawful p.lasting in
    let count = p.count in
    let next = b.uidnext in
    record {
      each = each_of IsShowable (listing start name ops) (λ row i.
          let w = b.rows row i in
          let f = rows_written start name ops row p.writable i in
          let first = w.uid_from in
          let below = w.uid in
          let from = w.modseq_from in
          let few = w.modseq in
          record {
            uid = (omega (arith, first), omega (arith, below, next));
            modseq = (omega (arith, from), omega (arith, few, count));
            flags = (f.flags.0, words_atoms row.flags.keywords f.flags.1);
            date = f.date;
            text = f.text;
          });
      rising = b.rising;
    }

under_showable : (uidvalidity : ℕ) (now : Option ℕ) (rows : List ListedMessage) → AreShowable rows → AreShowable (rows_under uidvalidity now rows)
under_showable uidvalidity None rows h = record { each = tt; rising = tt }
under_showable uidvalidity (Some now) rows h =
    elim (cases_Bool (nat_eq now uidvalidity)) [
      | inl t ↦ rw t h
      | inr f ↦ rw f (record { each = tt; rising = tt })
    ]

pub rows_showable : (start : Counters) (ops : List Op) (view : ViewState) → IsPresentable start ops → AreShowable (rows_for start ops view)
rows_showable start ops view p = under_showable view.uidvalidity (uidvalidity_of start view.name ops) (listing start view.name ops) (listing_showable start view.name ops p)

-- ---- a mailbox's counters

pub next_nonzero : (start : Counters) (name : List ℕ) (ops : List Op) → IsPresentable start ops → IsNonzero (uidnext_of start name ops)
next_nonzero start name ops p =
    let b = bounds start name ops p.lawful p.lasting in
    let first = b.uidnext_from in
    let last = b.uidnext in
    (omega (arith, first), omega (arith, last))

validity_by : (start : Counters) (name : List ℕ) (ops : List Op) (o : Option ℕ) (u : ℕ) → IsPresentable start ops → uidvalidity_of start name ops ≡ o → o ≡ Some u → IsNonzero (unwrap_or o 0)
validity_by start name ops None u p e s = absurd (none s)
  where
    none : ◌≡◌ {A = Option ℕ} None (Some u) → ⊥
    none e = cc
validity_by start name ops (Some v) u p e s =
    let b = bounds start name ops p.lawful p.lasting in
    let first = b.validity_from v e in
    let last = b.validity v e in
    (omega (arith, first), omega (arith, last))

-- an existing mailbox has a UIDVALIDITY
pub validity_nonzero : (start : Counters) (name : List ℕ) (ops : List Op) → IsPresentable start ops → folder_exists name ops ≡ true → IsNonzero (validity_of start name ops)
validity_nonzero start name ops p t =
    elim (cases_Bool (bytes_eq name inbox)) [
      | inl own ↦ validity_by start name ops (uidvalidity_of start name ops) start.replica p refl (sym (validity_inbox start ops name own))
      | inr other ↦ validity_by start name ops (uidvalidity_of start name ops) (65536 * k_of start name ops + start.replica) p refl (sym (validity_present start ops name other t (k_of start name ops) refl))
    ]

pub highest_nonzero : (start : Counters) (name : List ℕ) (ops : List Op) → IsPresentable start ops → IsModSeq (counters_of start name ops).highest_modseq
highest_nonzero start name ops p =
    let b = bounds start name ops p.lawful p.lasting in
    let first = b.highest_from in
    let last = b.highest in
    let count = p.count in
    (omega (arith, first), omega (arith, last, count))

pub counters_nonzero : (start : Counters) (name : List ℕ) (ops : List Op) → IsPresentable start ops → folder_exists name ops ≡ true → AreNonzeroCounters (counters_of start name ops)
counters_nonzero start name ops p t = record { uidnext = next_nonzero start name ops p; uidvalidity = validity_nonzero start name ops p t; highest = highest_nonzero start name ops p }

-- ---- if operations can be shown, those before them can be shown

pub shown_before : (start : Counters) (ops more : List Op) → IsPresentable start (ops ++ more) → IsPresentable start ops
shown_before start ops more p =
    let count = p.count in
    let l = length-append ops more in
    record {
      lawful = p.lawful;
      lasting = record {
        applied = applied_front ops more p.lasting.applied;
        not_exhausted = λ (front, o, back, k, h). p.lasting.not_exhausted (front, o, back ++ more, ap (λ xs. xs ++ more) k ∙ append_assoc front (o ∷ back) more, h);
      };
      writable = λ o i. p.writable o (in_front o ops more i);
      count = omega (arith, count, l);
    }

-- ---- names

tag_name : Tag → List ℕ
tag_name (FolderTag folder id) = folder
tag_name (MessageTag folder id) = folder
tag_name (SubscriptionTag name id) = name

named_by : (t : Tag) (id : OpId) (kind : Kind) → is_some_tag t (tag_added_by id kind) ≡ true → tag_name t ≡ name_of kind
unfolding tag_name
named_by t id (kinds.Create folder) h = ap tag_name (same_tag_is t (FolderTag folder id) h)
named_by t id (kinds.Delete folder seen) h = absurd (false≢true h)
named_by t id (kinds.Append folder flags date text) h = ap tag_name (same_tag_is t (MessageTag folder id) h)
named_by t id (kinds.Expunge folder old_ids) h = ap tag_name (same_tag_is t (FolderTag folder id) h)
named_by t id (kinds.Store folder flags old_ids origin) h = ap tag_name (same_tag_is t (MessageTag folder id) h)
named_by t id (kinds.Subscribe name) h = ap tag_name (same_tag_is t (SubscriptionTag name id) h)
named_by t id (kinds.Unsubscribe name seen) h = absurd (false≢true h)

-- the name of a present tag of sound operations is lawful, and so folded
tag_folded : (ops : List Op) (t : Tag) → AreSound IsSound ops → is_present ops t ≡ true → IsFolded (tag_name t)
tag_folded ops t sound p =
    let by = (any_in (adds t) ops).0 (and_parts (list_any (adds t) ops) (not (list_any (removes t) ops)) p).0 in
    subst IsFolded (sym (named_by t by.0.id by.0.kind by.2)) (sound by.0 by.1).name.folded

folder_folded : (ops : List Op) (name : List ℕ) → AreSound IsSound ops → IsIn name (folders_of ops) → IsFolded name
unfolding tag_name
folder_folded ops name sound i =
    elim (((folders_listed ops).1 name).0 i) [
      | inl e ↦ subst IsFolded (sym e) refl
      | inr t ↦ elim (t.1) [
        | inl p ↦ tag_folded ops (FolderTag name t.0) sound p
        | inr p ↦ tag_folded ops (MessageTag name t.0) sound p
      ]
    ]

subscription_folded : (ops : List Op) (name : List ℕ) → AreSound IsSound ops → IsIn name (subscribed_names_of ops) → IsFolded name
unfolding tag_name
subscription_folded ops name sound i = let t = ((subscribed_listed ops).1 name).0 i in tag_folded ops (SubscriptionTag name t.0) sound t.1

pub folders_folded : (ops : List Op) → AreSound IsSound ops → Each IsFolded (folders_of ops)
folders_folded ops sound = each_of IsFolded (folders_of ops) (λ name i. folder_folded ops name sound i)

pub subscriptions_folded : (ops : List Op) → AreSound IsSound ops → Each IsFolded (subscribed_names_of ops)
subscriptions_folded ops sound = each_of IsFolded (subscribed_names_of ops) (λ name i. subscription_folded ops name sound i)
