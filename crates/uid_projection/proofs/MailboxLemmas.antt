-- The messages that replace stored ones, and the stored ones.
use Rattle.std.proofs.Common.{◌≡◌, ◌⊎◌, inl, inr, ℕ, ◌+◌, ◌<◌, ◌≤◌, cond, Option, None, Some, IsSome, List, [], ◌∷◌, length, map, refl, sym, ap, ◌∙◌, subst, arith}
use Rattle.std.specs.Global.{Vec}
use Rattle.std.specs.List.{cons_option, filter_map, slice_get}
use Rattle.std.specs.Map.{lookup}
use Rattle.std.specs.Option.{option_map, unwrap_or}
use Rattle.std.proofs.lemmas.Bool.{cases_Bool, cases_order}
use Rattle.tags_clocks.specs.declared.id.OpId.{OpId}
use Rattle.merge_laws.specs.Orders.{IsIn}
use Rattle.crdt_ops.specs.declared.message.Message.{Message}
use Rattle.crdt_ops.specs.SortedSets.{same_id}
use Rattle.crdt_ops.specs.Sets.{MessageTagData, DatedText, no_dated_text}
use Rattle.crdt_ops.proofs.Members.{in_map}
use Rattle.imap_types.specs.declared.version.Version.{Version}
use Rattle.imap_types.specs.Unions.{union_of, united_flags, version_ids}
use Rattle.mailbox_rows.specs.RowViews.{epoch}
use Rattle.mailbox_rows.specs.MessageData.{first_of, owned_message_data, stored_message_data}
use Rattle.mailbox_rows.specs.declared.folder_messages.OwnedMessage.{OwnedMessage}
use Rattle.folder_state.specs.Contents.{AreVersions, Contents, HasVersion, IsMessageOf, IsVersion, flags_in, message_in}
use Rattle.folder_state.specs.FolderTables.{tag_data_in}
use Rattle.folder_state.specs.Tables.{contents_of}
use Rattle.folder_state.specs.MessageRefs.{message_of_data}
use Rattle.uid_projection.specs.declared.tag_changes.TagChange.{TagChange}
use Rattle.uid_projection.specs.declared.tag_changes.DatedTextRef.{DatedTextRef}
use Rattle.uid_projection.specs.declared.folder_ahead.FolderAhead.{FolderAhead}
use Rattle.uid_projection.specs.declared.folder_ahead.MailboxAhead.{MailboxAhead}
use Rattle.uid_projection.specs.declared.messages_ahead.MessagesAhead.{MessagesAhead}
use Rattle.uid_projection.specs.FolderAhead.{IsAhead, IsOwned, IsOwnedAt, IsOrderly, dated_texts_ahead, message_ahead}
use Rattle.uid_projection.specs.TagChanges.{IsWhole, tag_data_of, change_of, after_change, ids_listed, stored_of, list_of, origin_of, change_value}
use Rattle.uid_projection.proofs.TagChangesLemmas.{version_source}
use Rattle.uid_projection.proofs.IdLemmas.{slice_get_past, key_place, own_id, same_is}
use Rattle.uid_projection.proofs.PlaceLemmas.{left_body}

abbrev Fresh : Type 0
Fresh = List (OpId × OwnedMessage)

-- ---- the message of an origin, with versions of its own

flags_of_versions : (c : Contents) (f : List ℕ) (o : OpId) (vs : List Version) → ((v : Version) → IsIn v vs → c.tag_data f v.id ≡ Some (record { flags = v.flags; origin = o })) → map (λ (v : Version). v.flags) vs ≡ filter_map (flags_in c f) (version_ids vs)
flags_of_versions c f o [] h = refl
flags_of_versions c f o (v ∷ vs) h = λ k. cons_option (option_map (λ (b : MessageTagData). b.flags) (sym (h v (inl refl)) k)) (flags_of_versions c f o vs (λ w t. h w (inr t)) k)

date_of : (x : Option DatedText) → unwrap_or (option_map (λ (l : DatedText). l.date) x) epoch ≡ (unwrap_or x no_dated_text).date
date_of None = refl
date_of (Some l) = refl

text_of : (x : Option DatedText) → unwrap_or (option_map (λ (l : DatedText). l.text) x) [] ≡ (unwrap_or x no_dated_text).text
text_of None = refl
text_of (Some l) = refl

pub message_of_held : (a : FolderAhead) (c : Contents) (o : OpId) (m : OwnedMessage) → IsAhead c a → IsOwned a o m → HasVersion c a.name o → IsMessageOf c a.name o (Some (message_of_data o (owned_message_data m)))
message_of_held a c o m h owned has =
    let n = a.name in
    let vs = m.versions.items in
    let all = owned.versions in
    let carried = λ (v : Version) (t : IsIn v vs). sym (h.tag_data v.id) ∙ all.some.carried v t in
    let listed : AreVersions c n o (version_ids vs) = (
      all.some.ascending,
      λ i. (
        λ t. let w = (in_map (λ (v : Version). v.id) vs i).0 t in
            subst (λ z. IsVersion c n o z) w.2 (ap origin_of (carried w.0 w.1)),
        λ e. all.all i (ap origin_of (h.tag_data i) ∙ e),
      ),
    ) in
    let flags : united_flags vs ≡ union_of (filter_map (flags_in c n) (version_ids vs)) = ap union_of (flags_of_versions c n o vs carried) in
    let date : unwrap_or (option_map (λ date. date.now) m.date) epoch ≡ (unwrap_or (c.dated_texts o) no_dated_text).date =
    ap (λ x. unwrap_or x epoch) (owned.date ∙ ap (option_map (λ (l : DatedText). l.date)) (h.dated_texts o)) ∙ date_of (c.dated_texts o) in
    let text : unwrap_or (option_map (λ text. text.now) m.text) [] ≡ (unwrap_or (c.dated_texts o) no_dated_text).text =
    ap (λ x. unwrap_or x []) (owned.text ∙ ap (option_map (λ (l : DatedText). l.text)) (h.dated_texts o)) ∙ text_of (c.dated_texts o) in
    (refl, has, (listed, λ k. record { origin = o; versions = version_ids vs; flags = flags k; date = date k; text = text k }))

-- ---- a message that is as stored

filter_map_same : {X Y : Type 0} (f g : X → Option Y) (xs : List X) → ((x : X) → IsIn x xs → f x ≡ g x) → filter_map f xs ≡ filter_map g xs
filter_map_same f g [] h = refl
filter_map_same f g (x ∷ xs) h = λ k. cons_option (h x (inl refl) k) (filter_map_same f g xs (λ y t. h y (inr t)) k)

module _ (c v : Contents) (n : List ℕ) (o : OpId) (after : (i : OpId) → IsVersion c n o i → c.tag_data n i ≡ v.tag_data n i) (before : (i : OpId) → IsVersion v n o i → c.tag_data n i ≡ v.tag_data n i) where
  now_version : (i : OpId) → IsVersion v n o i → IsVersion c n o i
  now_version i e = ap origin_of (before i e) ∙ e

  then_version : (i : OpId) → IsVersion c n o i → IsVersion v n o i
  then_version i e = sym (ap origin_of (after i e)) ∙ e

  same_whole : (m : Message) → c.dated_texts o ≡ v.dated_texts o → AreVersions v n o m.versions → m ≡ message_in v n o m.versions → AreVersions c n o m.versions × (m ≡ message_in c n o m.versions)
  same_whole m dated_texts versions is =
      let flags : filter_map (flags_in v n) m.versions ≡ filter_map (flags_in c n) m.versions =
      filter_map_same (flags_in v n) (flags_in c n) m.versions (λ i t. sym (ap (option_map (λ (b : MessageTagData). b.flags)) (before i ((versions.1 i).0 t)))) in
      let back : v.dated_texts o ≡ c.dated_texts o = sym dated_texts in (
        (versions.0, λ i. (λ t. now_version i ((versions.1 i).0 t), λ e. (versions.1 i).1 (then_version i e))),
        is ∙ (λ k. record { origin = o; versions = m.versions; flags = union_of (flags k); date = (unwrap_or (back k) no_dated_text).date; text = (unwrap_or (back k) no_dated_text).text }),
      )

  pub same_message : (x : Option Message) → c.dated_texts o ≡ v.dated_texts o → HasVersion c n o → IsMessageOf v n o x → IsMessageOf c n o x
  same_message None dated_texts has none = absurd (none (has.0, then_version has.0 has.1))
  same_message (Some m) dated_texts has is_message =
      let e = is_message.0 in
      let whole = same_whole m dated_texts (subst (λ z. AreVersions v n z m.versions) e is_message.2.0) (subst (λ z. m ≡ message_in v n z m.versions) e is_message.2.1) in
      (e, has, (subst (λ z. AreVersions c n z m.versions) (sym e) whole.0, subst (λ z. m ≡ message_in c n z m.versions) (sym e) whole.1))

-- ---- an untouched origin

untouched_stored : (m : MessagesAhead) (o i : OpId) → IsWhole m → list_of m o ≡ None → origin_of (tag_data_in (stored_of m) i) ≡ Some o → (x : Option TagChange) → change_of m i ≡ x → tag_data_of m i ≡ tag_data_in (stored_of m) i
untouched_stored m o i whole none stored None x = left_body m i _ x refl
untouched_stored m o i whole none stored (Some change) x =
    absurd (let t = whole.touched i o (subst IsSome (sym x) cc) stored in let n = subst IsSome none t in cc)

untouched_ahead : (m : MessagesAhead) (o i : OpId) → IsWhole m → list_of m o ≡ None → origin_of (tag_data_of m i) ≡ Some o → tag_data_of m i ≡ tag_data_in (stored_of m) i
untouched_ahead m o i whole none here =
    elim (version_source m o i whole here (change_of m i) refl) [
      | inl p ↦ left_body m i _ p.0 refl
      | inr p ↦ absurd (subst (λ x. IsIn i (ids_listed x)) none p.3)
    ]

untouched_dated_text : (a : FolderAhead) (o : OpId) → IsOrderly a → list_of a.messages o ≡ None → (x : Option DatedTextRef) → lookup (same_id o) a.dated_texts.entries ≡ x → dated_texts_ahead a o ≡ (contents_of a.value.now).dated_texts o
untouched_dated_text a o orderly none None x = ap (λ (y : Option DatedTextRef). after_change ((contents_of a.value.now).dated_texts o) (option_map (λ dated. Some (change_value dated)) y)) x
untouched_dated_text a o orderly none (Some dated) x =
    absurd (let t = orderly.dated_texts o (subst IsSome (sym x) cc) in let n = subst IsSome none t in cc)

pub message_of_stored : (a : FolderAhead) (c : Contents) (o : OpId) (x : Option Message) → IsAhead c a → list_of a.messages o ≡ None → HasVersion c a.name o → IsMessageOf (contents_of a.value.now) a.name o x → IsMessageOf c a.name o x
message_of_stored a c o x h none has is_message =
    let m = a.messages in
    let n = a.name in
    let v = contents_of a.value.now in
    same_message c v n o
    (λ i e. sym (h.tag_data i) ∙ untouched_ahead m o i h.orderly.whole none (ap origin_of (h.tag_data i) ∙ e) ∙ sym (h.orderly.tag_data i))
    (λ i e. sym (h.tag_data i) ∙ untouched_stored m o i h.orderly.whole none (sym (ap origin_of (h.orderly.tag_data i)) ∙ e) (change_of m i) refl ∙ sym (h.orderly.tag_data i))
    x (sym (h.dated_texts o) ∙ untouched_dated_text a o h.orderly none (lookup (same_id o) a.dated_texts.entries) refl) has is_message

-- ---- all messages

-- Each message is that of its origin.
abbrev pub AreOwned : FolderAhead → Fresh → Type 0
AreOwned a fresh = (o : OpId) (m : OwnedMessage) → lookup (same_id o) fresh ≡ Some m → IsOwned a o m

-- Each origin before this place is present.
abbrev pub AreFresh : FolderAhead → ℕ → Fresh → Type 0
AreFresh a at fresh = (place : ℕ) (o : OpId) → place < at → option_map (λ e. e.0) (slice_get a.messages.versions.entries place) ≡ Some o → IsSome (lookup (same_id o) fresh)

pub are_owned_insert : (a : FolderAhead) (x : Option OpId) (old new : Fresh) → IsOwnedAt a x old new → IsOrderly a → AreOwned a old → AreOwned a new
are_owned_insert a None old new e orderly h = subst (AreOwned a) (sym e) h
are_owned_insert a (Some origin) old new w orderly h = λ o m e.
    elim (cases_Bool (same_id origin o)) [
      | inl t ↦
          let k : w.0 ≡ m = (let q = sym (w.2 o ∙ ap (λ b. cond b (Some w.0) (lookup (same_id o) old)) t) ∙ e in cc) in
          subst (λ z. IsOwned a z m) (same_is origin o t) (subst (IsOwned a origin) k (w.1 orderly))
      | inr f ↦ h o m (sym (w.2 o ∙ ap (λ b. cond b (Some w.0) (lookup (same_id o) old)) f) ∙ e)
    ]

stays : (a : FolderAhead) (x : Option OpId) (old new : Fresh) → IsOwnedAt a x old new → (o : OpId) → IsSome (lookup (same_id o) old) → IsSome (lookup (same_id o) new)
stays a None old new e o h = subst (λ es. IsSome (lookup (same_id o) es)) (sym e) h
stays a (Some origin) old new w o h =
    elim (cases_Bool (same_id origin o)) [
      | inl t ↦ subst IsSome (sym (w.2 o ∙ ap (λ b. cond b (Some w.0) (lookup (same_id o) old)) t)) cc
      | inr f ↦ subst IsSome (sym (w.2 o ∙ ap (λ b. cond b (Some w.0) (lookup (same_id o) old)) f)) h
    ]

is_fresh : (a : FolderAhead) (x : Option OpId) (old new : Fresh) → IsOwnedAt a x old new → (o : OpId) → x ≡ Some o → IsSome (lookup (same_id o) new)
is_fresh a None old new e o k = absurd cc
is_fresh a (Some origin) old new w o k =
    let e : origin ≡ o = cc in
    subst IsSome (sym (w.2 o ∙ ap (λ b. cond b (Some w.0) (lookup (same_id o) old)) (ap (same_id origin) (sym e) ∙ own_id origin))) cc

pub are_fresh_step : (a : FolderAhead) (at : ℕ) (old new : Fresh) → IsOwnedAt a (option_map (λ e. e.0) (slice_get a.messages.versions.entries at)) old new → AreFresh a at old → AreFresh a (at + 1) new
are_fresh_step a at old new w h = λ place o l e.
    elim (cases_less place at l) [
      | inl front ↦ stays a _ old new w o (h place o front e)
      | inr here ↦ is_fresh a _ old new w o (ap (λ p. option_map (λ e. e.0) (slice_get a.messages.versions.entries p)) (sym here) ∙ e)
    ]
  where
    cases_less : (i n : ℕ) → i < n + 1 → (i < n) ⊎ (i ≡ n)
    cases_less i n l =
        elim (cases_order i n) [
          | inl e ↦ inr e
          | inr (inl f) ↦ inl f
          | inr (inr b) ↦ absurd (omega (arith, l, b))
        ]

pub message_of_all : (a : FolderAhead) (at : ℕ) (m : MailboxAhead) → length a.messages.versions.entries ≤ at → (IsOrderly a → AreOwned a m.fresh.entries) → AreFresh a at m.fresh.entries
    → ((o : OpId) → IsMessageOf (contents_of a.value.now) a.name o (option_map (message_of_data o) (stored_message_data m.mailbox o)))
    → (c : Contents) → IsAhead c a → (o : OpId) → HasVersion c a.name o → IsMessageOf c a.name o (message_ahead m o)
message_of_all a at m long owned present stored c h o has = from (lookup (same_id o) m.fresh.entries) refl
  where
    no_list : (x : Option (Vec OpId)) → list_of a.messages o ≡ x → lookup (same_id o) m.fresh.entries ≡ None → list_of a.messages o ≡ None
    no_list None e n = e
    no_list (Some ids) e n =
        let w = key_place o a.messages.versions.entries (subst IsSome (sym e) cc) in
        absurd (let t = present w.0 o (within w.0 w.1 w.2) (ap (option_map (λ e. e.0)) w.2 ∙ ap (λ z. Some z) w.3) in let k = subst IsSome n t in cc)
      where
        within : (place : ℕ) (e : OpId × Vec OpId) → slice_get a.messages.versions.entries place ≡ Some e → place < at
        within place e s = elim (cases_order place at) [
          | inl k ↦ absurd (let n = slice_get_past a.messages.versions.entries place (omega (arith, long, k)) in let q = sym n ∙ s in cc)
          | inr (inl f) ↦ f
          | inr (inr b) ↦ absurd (let n = slice_get_past a.messages.versions.entries place (omega (arith, long, b)) in let q = sym n ∙ s in cc)
        ]

    from : (x : Option OwnedMessage) → lookup (same_id o) m.fresh.entries ≡ x → IsMessageOf c a.name o (message_ahead m o)
    from None e = subst (λ (x : Option OwnedMessage). IsMessageOf c a.name o (option_map (message_of_data o) (first_of (option_map owned_message_data x) (stored_message_data m.mailbox o)))) (sym e) (message_of_stored a c o _ h (no_list (list_of a.messages o) refl e) has (stored o))
    from (Some message) e = subst (λ (x : Option OwnedMessage). IsMessageOf c a.name o (option_map (message_of_data o) (first_of (option_map owned_message_data x) (stored_message_data m.mailbox o)))) (sym e) (message_of_held a c o message h (owned h.orderly o message e) has)
