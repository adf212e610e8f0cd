use Rattle.std.proofs.Common.{◌≡◌, ◌↔◌, ◌⊎◌, inl, inr, ℕ, ◌<◌, Bool, true, false, cond, Option, None, Some, IsSome, arith, length, List, [], ◌∷◌, map, refl, sym, ap, ◌∙◌, subst}
use Rattle.std.specs.Bool.{MatchBool}
use Rattle.std.specs.Global.{Vec}
use Rattle.std.specs.List.{cons_option, filter_map, list_any}
use Rattle.std.specs.Map.{keys_of, lookup}
use Rattle.std.specs.Option.{option_map, unwrap_or}
use Rattle.std.proofs.lemmas.Bool.{false≢true}
use Rattle.tags_clocks.specs.declared.id.OpId.{OpId}
use Rattle.tags_clocks.proofs.Decide.{ids_decide}
use Rattle.merge_laws.specs.Orders.{IsIn}
use Rattle.crdt_ops.specs.declared.message.Message.{Message}
use Rattle.crdt_ops.specs.declared.op.Op.{Op}
use Rattle.crdt_ops.specs.Meanings.{IsVersion as IsVersionBySet}
use Rattle.crdt_ops.specs.SortedSets.{IsListOf, id_order, same_id}
use Rattle.crdt_ops.specs.Sets.{MessageTagData, DatedText, tag_data_by, tag_data_from, first_some, dated_text_of, message_of, message_with, messages_of, no_dated_text, origins_of, tag_flags_of, versions_of}
use Rattle.crdt_ops.specs.Tags.{MessageTag, adds, is_present, removes}
use Rattle.imap_types.specs.declared.version.Version.{Version}
use Rattle.imap_types.specs.Unions.{union_of, united_flags, version_ids}
use Rattle.crdt_ops.proofs.Members.{any_in, in_map}
use Rattle.crdt_ops.proofs.OrderLemmas.{id_order_same, id_order_total, one_ascending}
use Rattle.crdt_ops.proofs.VersionLemmas.{origins_listed, versions_listed}
use Rattle.mailbox_rows.specs.declared.folder_messages.DatedText.{DatedText as StoredDatedText}
use Rattle.mailbox_rows.specs.MessageData.{message_data_of, versions_in}
use Rattle.folder_state.specs.Contents.{AreMessages, AreVersions, Contents, HasVersion, IsMadeBy, IsMessage, IsMessageOf, IsVersion, contents_by, effect_of, flags_in, message_in}
use Rattle.folder_state.specs.FolderTables.{AreIndexed, AreIndexedIn, AreVersionsOf, FolderContents, FolderTables, tag_data_in, folder_contents, versions_or_none, versions_at}
use Rattle.folder_state.specs.AfterOps.{contents_after}
use Rattle.folder_state.specs.MessageRefs.{stored_dated_text, stored_message, message_of_data}
use Rattle.folder_state.proofs.FolderTablesLemmas.{carried_by, message_tag_data, key_iff_lookup, no_versions, versions_by}
use Rattle.folder_state.proofs.SetLemmas.{contents_made}
use Rattle.folder_state.proofs.ContentsLemmas.{filter_map_same}

-- ---- the source of a tag's data

pub cond_some : {Y : Type 0} (b : Bool) (x : Option Y) (y : Y) → cond b x None ≡ Some y → b ≡ true
cond_some true x y h = refl
cond_some false x y h = absurd cc

data_source_by_tests : (a r : Bool) (x y : Option MessageTagData) (b : MessageTagData) → cond a x (cond r None y) ≡ Some b → (y ≡ Some b) ⊎ (cond a x None ≡ Some b)
data_source_by_tests true r x y b h = inr h
data_source_by_tests false true x y b h = absurd cc
data_source_by_tests false false x y b h = inl h

-- the data was present before, or one of the operations adds it
pub data_source : (ops : List Op) (c : Contents) (f : List ℕ) (i : OpId) (b : MessageTagData) → (contents_after c ops).tag_data f i ≡ Some b → (c.tag_data f i ≡ Some b) ⊎ ((o : Op) × IsIn o ops × (tag_data_from f i o ≡ Some b))
data_source [] c f i b h = inl h
data_source (o ∷ ops) c f i b h =
    elim (data_source ops (effect_of c o) f i b h) [
      | inr w ↦ inr (w.0, inr w.1, w.2)
      | inl k ↦ elim (data_source_by_tests (adds (MessageTag f i) o) (removes (MessageTag f i) o) (tag_data_by o.id o.kind) (c.tag_data f i) b k) [
        | inl t ↦ inl t
        | inr t ↦ inr (o, inl refl, t)
      ]
    ]

pub origin_some : (x : Option MessageTagData) (i : OpId) → option_map (λ (b : MessageTagData). b.origin) x ≡ Some i → (b : MessageTagData) × (x ≡ Some b) × (b.origin ≡ i)
origin_some None i h = absurd cc
origin_some (Some b) i h = let k : b.origin ≡ i = cc in (b, refl, k)

-- ---- versions by a set of operations

origin_present : (b : Bool) (x : Option MessageTagData) (o : OpId) → (option_map (λ (b : MessageTagData). b.origin) (cond b x None) ≡ Some o) ↔ ((b ≡ true) × (option_map (λ (b : MessageTagData). b.origin) x ≡ Some o))
origin_present true x o = (λ h. (refl, h), λ h. h.1)
origin_present false x o = (λ h. absurd (let k = h in cc), λ h. absurd (false≢true h.0))

-- a version of what a set of operations leaves is one that the set defines
pub version_is : (ops : List Op) (f : List ℕ) (o i : OpId) → IsVersion (contents_by ops) f o i ↔ IsVersionBySet ops f o i
version_is ops f o i = origin_present (is_present ops (MessageTag f i)) (first_some (tag_data_from f i) ops) o

pub versions_by_set : (v : Contents) (ops : List Op) (f : List ℕ) (o : OpId) (ids : List OpId) → IsMadeBy v ops → AreVersions v f o ids → ids ≡ versions_of ops f o
versions_by_set v ops f o ids m h =
    let k = subst (λ (w : Contents). AreVersions w f o ids) (contents_made v ops m) h in
    let l = versions_listed ops f o in
    one_ascending id_order_total id_order_same ids (versions_of ops f o) k.0 l.0
    (λ i. let e = version_is ops f o i in (λ t. (l.1 i).1 (e.0 ((k.1 i).0 t)), λ t. (k.1 i).1 (e.1 ((l.1 i).0 t))))

origins_are : (ops : List Op) (f : List ℕ) (o : OpId) → HasVersion (contents_by ops) f o ↔ IsIn o (origins_of ops f)
origins_are ops f o =
    let l = (origins_listed ops f).1 o in (
      λ h. l.1 (h.0, (version_is ops f o h.0).0 h.1),
      λ h. let w = l.0 h in (w.0, (version_is ops f o w.0).1 w.1),
    )

pub has_version_by_set : (v : Contents) (ops : List Op) (f : List ℕ) (o : OpId) → IsMadeBy v ops → HasVersion v f o ↔ IsIn o (origins_of ops f)
has_version_by_set v ops f o m = subst (λ (w : Contents). HasVersion w f o ↔ IsIn o (origins_of ops f)) (sym (contents_made v ops m)) (origins_are ops f o)

-- ---- the messages

present : {Y : Type 0} (b : Bool) (x : Option Y) → b ≡ true → cond b x None ≡ x
present true x h = refl
present false x h = absurd (false≢true h)

message_is : (ops : List Op) (f : List ℕ) (message : Message) → IsMessage (contents_by ops) f message → message ≡ message_of ops f message.origin
message_is ops f message h =
    let l = versions_listed ops f message.origin in
    let versions : message.versions ≡ versions_of ops f message.origin =
    one_ascending id_order_total id_order_same message.versions (versions_of ops f message.origin) h.0.0 l.0
    (λ i. let e = version_is ops f message.origin i in (λ t. (l.1 i).1 (e.0 ((h.0.1 i).0 t)), λ t. (h.0.1 i).1 (e.1 ((l.1 i).0 t)))) in
    let flags : filter_map (flags_in (contents_by ops) f) (versions_of ops f message.origin) ≡ filter_map (tag_flags_of ops f) (versions_of ops f message.origin) =
    filter_map_same (flags_in (contents_by ops) f) (tag_flags_of ops f) (versions_of ops f message.origin)
    (λ i t. ap (option_map (λ (b : MessageTagData). b.flags)) (present (is_present ops (MessageTag f i)) (first_some (tag_data_from f i) ops) ((l.1 i).0 t).0)) in
    h.1
    ∙ (λ k. message_in (contents_by ops) f message.origin (versions k))
    ∙ (λ k. message_with message.origin (versions_of ops f message.origin) (flags k) (dated_text_of ops))

map_origin : (g : OpId → Message) → ((o : OpId) → (g o).origin ≡ o) → (origins : List OpId) → map (λ (m : Message). m.origin) (map g origins) ≡ origins
map_origin g h [] = refl
map_origin g h (o ∷ os) = λ k. h o k ∷ map_origin g h os k

by_origin : (g : OpId → Message) (messages : List Message) → ((m : Message) → IsIn m messages → m ≡ g m.origin) → messages ≡ map g (map (λ (m : Message). m.origin) messages)
by_origin g [] h = refl
by_origin g (m ∷ ms) h = λ k. h m (inl refl) k ∷ by_origin g ms (λ x i. h x (inr i)) k

pub messages_by_set : (v : Contents) (ops : List Op) (f : List ℕ) (messages : List Message) → IsMadeBy v ops → AreMessages v f messages → messages ≡ messages_of ops f
messages_by_set v ops f messages m h =
    let k = subst (λ (w : Contents). AreMessages w f messages) (contents_made v ops m) h in
    let l = origins_listed ops f in
    let origins : map (λ (m : Message). m.origin) messages ≡ origins_of ops f =
    one_ascending id_order_total id_order_same (map (λ (m : Message). m.origin) messages) (origins_of ops f) k.0.0 l.0
    (λ o. let e = origins_are ops f o in (λ t. e.0 ((k.0.1 o).0 t), λ t. (k.0.1 o).1 (e.1 t))) in
    by_origin (message_of ops f) messages (λ m i. message_is ops f m (k.1 m i)) ∙ ap (map (message_of ops f)) origins

-- a message with all versions of its origin
pub message_whole : (c : Contents) (f : List ℕ) (o : OpId) (ids : List OpId) (first : OpId) (dated : Option DatedText) (m : Message)
    → AreVersions c f o ids → IsIn first ids → dated ≡ c.dated_texts o
    → m.origin ≡ o → m.versions ≡ ids → m.flags ≡ union_of (filter_map (flags_in c f) ids)
    → m.date ≡ (unwrap_or dated no_dated_text).date → m.text ≡ (unwrap_or dated no_dated_text).text
    → IsMessageOf c f o (Some m)
message_whole c f o ids first dated m t i r origin vs flags date text =
    let whole : m ≡ message_in c f o ids =
    λ k. record {
      origin = origin k;
      versions = vs k;
      flags = flags k;
      date = (date ∙ ap (λ (x : Option DatedText). (unwrap_or x no_dated_text).date) r) k;
      text = (text ∙ ap (λ (x : Option DatedText). (unwrap_or x no_dated_text).text) r) k;
    } in (
      origin,
      (first, (t.1 first).0 i),
      (
        subst (λ (x : OpId × List OpId). AreVersions c f x.0 x.1) (λ k. (sym origin k, sym vs k)) t,
        whole ∙ (λ k. message_in c f (sym origin k) (sym vs k)),
      ),
    )

message_of_is : (ops : List Op) (f : List ℕ) (o : OpId) (b : Bool) (x : Option Message) → list_any (same_id o) (origins_of ops f) ≡ b → IsMessageOf (contents_by ops) f o x → x ≡ cond b (Some (message_of ops f o)) None
message_of_is ops f o true None e h =
    let w = (any_in (same_id o) (origins_of ops f)).0 e in
    absurd (h ((origins_are ops f o).1 (subst (λ i. IsIn i (origins_of ops f)) (sym ((ids_decide o w.0).0 w.2)) w.1)))
message_of_is ops f o false None e h = refl
message_of_is ops f o true (Some m) e h = ap (λ (z : Message). Some z) (message_is ops f m h.2 ∙ ap (message_of ops f) h.0)
message_of_is ops f o false (Some m) e h =
    absurd (false≢true (sym e ∙ (any_in (same_id o) (origins_of ops f)).1 (o, (origins_are ops f o).0 h.1, (ids_decide o o).1 refl)))

pub message_by_set : (v : Contents) (ops : List Op) (f : List ℕ) (o : OpId) (x : Option Message) → IsMadeBy v ops → IsMessageOf v f o x → x ≡ cond (list_any (same_id o) (origins_of ops f)) (Some (message_of ops f o)) None
message_by_set v ops f o x m h = message_of_is ops f o (list_any (same_id o) (origins_of ops f)) x refl (subst (λ (w : Contents). IsMessageOf w f o x) (contents_made v ops m) h)

-- ---- messages of one folder

flags_by_tables : (c : Contents) (n : List ℕ) (o : OpId) (vs : List Version) → ((v : Version) → IsIn v vs → c.tag_data n v.id ≡ Some (message_tag_data o v.flags)) → map (λ (v : Version). v.flags) vs ≡ filter_map (flags_in c n) (version_ids vs)
flags_by_tables c n o [] h = refl
flags_by_tables c n o (v ∷ vs) h =
    (λ k. cons_option (option_map (λ (b : MessageTagData). b.flags) (sym (h v (inl refl)) k)) (flags_by_tables c n o vs (λ w t. h w (inr t)) k))

module _ (c : Contents) (n : List ℕ) (k : FolderTables) (indexed : AreIndexed k.messages k.origins) (same : (i : OpId) → c.tag_data n i ≡ (folder_contents k).tag_data i) where
  -- the versions of an origin
  pub versions_listed_in : (o : OpId) → AreVersions c n o (version_ids (versions_at k.messages o))
  versions_listed_in o = (
    indexed.ascending o,
    λ i. let b = versions_by k.messages k.origins indexed o i in (
      λ t. ap (option_map (λ (b : MessageTagData). b.origin)) (same i) ∙ b.0 t,
      λ t. b.1 (ap (option_map (λ (b : MessageTagData). b.origin)) (sym (same i)) ∙ t),
    ),
  )

  flags_of : (o : OpId) → united_flags (versions_at k.messages o) ≡ union_of (filter_map (flags_in c n) (version_ids (versions_at k.messages o)))
  flags_of o = ap union_of (flags_by_tables c n o (versions_at k.messages o) (λ v t. same v.id ∙ carried_by k.messages k.origins indexed o v t))

  -- the message of an origin, read from the tables
  pub message_exists : (dated_texts : List (OpId × StoredDatedText)) → ((i : OpId) → c.dated_texts i ≡ option_map stored_dated_text (lookup (same_id i) dated_texts)) → (o : OpId) → IsMessage c n (stored_message k.messages dated_texts o)
  message_exists dated_texts l o = (
    versions_listed_in o,
    λ j. let dated : DatedText = unwrap_or (sym (l o) j) no_dated_text in record { origin = o; versions = version_ids (versions_at k.messages o); flags = flags_of o j; date = dated.date; text = dated.text },
  )

  -- whether a version exists
  pub has_version_of_entry : (o : OpId) (vs : Vec Version) → lookup (same_id o) k.messages ≡ Some vs → HasVersion c n o
  has_version_of_entry o vs e =
      let w = first_in vs.items (indexed.some o vs e) in
      let here : IsIn w.0.id (version_ids (versions_at k.messages o)) = subst (λ xs. IsIn w.0.id (version_ids xs)) (sym (ap versions_or_none e)) ((in_map (λ (v : Version). v.id) vs.items w.0.id).1 (w.0, w.1, refl)) in
      (w.0.id, ((versions_listed_in o).1 w.0.id).0 here)
    where
      first_in : (vs : List Version) → 0 < length vs → (v : Version) × IsIn v vs
      first_in [] h = absurd (omega (arith, h))
      first_in (v ∷ vs) h = (v, inl refl)

  pub no_version : (o : OpId) → lookup (same_id o) k.messages ≡ None → HasVersion c n o → ⊥
  no_version o e h = no_versions k o indexed e h.0 (ap (option_map (λ (b : MessageTagData). b.origin)) (sym (same h.0)) ∙ h.1)

  -- the message of an origin, or none
  pub message_by_tables : (dated_texts : List (OpId × StoredDatedText)) → ((i : OpId) → c.dated_texts i ≡ option_map stored_dated_text (lookup (same_id i) dated_texts)) → (o : OpId) (x : Option (Vec Version)) → lookup (same_id o) k.messages ≡ x → IsMessageOf c n o (option_map (λ (vs : Vec Version). message_of_data o (message_data_of vs.items (lookup (same_id o) dated_texts))) x)
  message_by_tables dated_texts l o None e = no_version o e
  message_by_tables dated_texts l o (Some vs) e =
      let m : stored_message k.messages dated_texts o ≡ message_of_data o (message_data_of vs.items (lookup (same_id o) dated_texts)) =
      (λ j. let items = versions_or_none (e j) in record { origin = o; versions = version_ids items; flags = united_flags items; date = (date_is (lookup (same_id o) dated_texts)) j; text = (text_is (lookup (same_id o) dated_texts)) j }) in
      subst (λ (x : Message). IsMessageOf c n o (Some x)) m (refl, has_version_of_entry o vs e, message_exists dated_texts l o)
    where
      date_is : (x : Option StoredDatedText) → (unwrap_or (option_map stored_dated_text x) no_dated_text).date ≡ unwrap_or (option_map (λ (l : StoredDatedText). l.date) x) no_dated_text.date
      date_is None = refl
      date_is (Some l) = refl

      text_is : (x : Option StoredDatedText) → (unwrap_or (option_map stored_dated_text x) no_dated_text).text ≡ unwrap_or (option_map (λ (l : StoredDatedText). l.text) x) no_dated_text.text
      text_is None = refl
      text_is (Some l) = refl

  -- all messages
  pub messages_by_tables : (dated_texts : List (OpId × StoredDatedText)) → ((i : OpId) → c.dated_texts i ≡ option_map stored_dated_text (lookup (same_id i) dated_texts)) → (origins : List OpId) (messages : List Message) → IsListOf id_order (λ o. IsIn o (keys_of k.messages)) origins → messages ≡ map (stored_message k.messages dated_texts) origins → AreMessages c n messages
  messages_by_tables dated_texts l origins messages h e =
      subst (AreMessages c n) (sym e) (
        subst (IsListOf id_order (HasVersion c n)) (sym (map_origin (stored_message k.messages dated_texts) (λ o. refl) origins)) (
          h.0,
          λ o. (
            λ t. let w = key_lookup k.messages o ((h.1 o).0 t) in has_version_of_entry o w.0 w.1,
            λ v. (h.1 o).1 (key_from k.messages o (λ none. no_version o none v)),
          ),
        ),
        λ m i. let w = (in_map (stored_message k.messages dated_texts) origins m).0 i in subst (IsMessage c n) w.2 (message_exists dated_texts l w.0),
      )
    where
      key_lookup : (es : List (OpId × Vec Version)) (o : OpId) → IsIn o (keys_of es) → (vs : Vec Version) × (lookup (same_id o) es ≡ Some vs)
      key_lookup es o h = at (lookup (same_id o) es) refl ((key_iff_lookup es o).0 h)
        where
          at : (x : Option (Vec Version)) → lookup (same_id o) es ≡ x → IsSome (lookup (same_id o) es) → (vs : Vec Version) × (lookup (same_id o) es ≡ Some vs)
          at None e s = absurd (false≢true (subst IsSome e s))
          at (Some vs) e s = (vs, e)

      key_from : (es : List (OpId × Vec Version)) (o : OpId) → (lookup (same_id o) es ≡ None → ⊥) → IsIn o (keys_of es)
      key_from es o h = at (lookup (same_id o) es) refl
        where
          at : (x : Option (Vec Version)) → lookup (same_id o) es ≡ x → IsIn o (keys_of es)
          at None e = absurd (h e)
          at (Some vs) e = (key_iff_lookup es o).1 (subst IsSome (sym e) refl)

-- borrowed messages
pub some_message_ref : (c : Contents) (n : List ℕ) (folder : FolderContents) (o : OpId) (vs : List Version) (dated : Option DatedText) (m : Message)
    → ((i : OpId) → c.tag_data n i ≡ folder.tag_data i) → AreVersionsOf folder o vs → dated ≡ c.dated_texts o
    → m.origin ≡ o → m.versions ≡ version_ids vs → m.flags ≡ united_flags vs
    → m.date ≡ (unwrap_or dated no_dated_text).date → m.text ≡ (unwrap_or dated no_dated_text).text
    → IsMessageOf c n o (Some m)
some_message_ref c n folder o vs dated m same are l origin versions flags date text =
    let first = first_in vs are.some in
    message_whole c n o (version_ids vs) first.0.id dated m (
      are.ascending,
      λ i. let b = are.listed i in (λ t. ap (option_map (λ (b : MessageTagData). b.origin)) (same i) ∙ b.0 t, λ t. b.1 (ap (option_map (λ (b : MessageTagData). b.origin)) (sym (same i)) ∙ t)),
    ) ((in_map (λ (v : Version). v.id) vs first.0.id).1 (first.0, first.1, refl)) l origin versions
    (flags ∙ ap union_of (flags_by_tables c n o vs (λ v t. same v.id ∙ are.carried v t))) date text
  where
    first_in : (vs : List Version) → 0 < length vs → (v : Version) × IsIn v vs
    first_in [] h = absurd (omega (arith, h))
    first_in (v ∷ vs) h = (v, inl refl)

-- ---- a mailbox

message_of_items : (o : OpId) (x : Option (Vec Version)) (dated : Option StoredDatedText) → option_map (λ (vs : Vec Version). message_of_data o (message_data_of vs.items dated)) x ≡ option_map (message_of_data o) (option_map (λ (vs : List Version). message_data_of vs dated) (option_map (λ (vs : Vec Version). vs.items) x))
message_of_items o None dated = refl
message_of_items o (Some vs) dated = refl

pub mailbox_by_tables : (c : Contents) (n : List ℕ) (table : Option FolderTables) → AreIndexedIn table → ((i : OpId) → c.tag_data n i ≡ tag_data_in table i) → (dated_texts : List (OpId × StoredDatedText)) → ((i : OpId) → c.dated_texts i ≡ option_map stored_dated_text (lookup (same_id i) dated_texts)) → (o : OpId) (messages : Option (List (OpId × Vec Version))) → messages ≡ option_map (λ (k : FolderTables). k.messages) table → IsMessageOf c n o (option_map (message_of_data o) (option_map (λ (vs : List Version). message_data_of vs (lookup (same_id o) dated_texts)) (versions_in messages o)))
mailbox_by_tables c n None indexed tag_data dated_texts l o messages e =
    subst (λ (ms : Option (List (OpId × Vec Version))). IsMessageOf c n o (option_map (message_of_data o) (option_map (λ (vs : List Version). message_data_of vs (lookup (same_id o) dated_texts)) (versions_in ms o)))) (sym e)
    (λ h. let k : ◌≡◌ {A = Option OpId} None (Some o) = ap (option_map (λ (b : MessageTagData). b.origin)) (sym (tag_data h.0)) ∙ h.1 in absurd cc)
mailbox_by_tables c n (Some k) indexed tag_data dated_texts l o messages e =
    subst (λ (ms : Option (List (OpId × Vec Version))). IsMessageOf c n o (option_map (message_of_data o) (option_map (λ (vs : List Version). message_data_of vs (lookup (same_id o) dated_texts)) (versions_in ms o)))) (sym e)
    (subst (IsMessageOf c n o) (message_of_items o (lookup (same_id o) k.messages) (lookup (same_id o) dated_texts)) (message_by_tables c n k indexed tag_data dated_texts l o (lookup (same_id o) k.messages) refl))

-- whether a version exists, read from one folder
pub has_version_by_tables : (c : Contents) (n : List ℕ) (o : OpId) (table : Option FolderTables) → ((i : OpId) → c.tag_data n i ≡ tag_data_in table i) → (b : Bool) → MatchBool b ((i : OpId) × (option_map (λ (b : MessageTagData). b.origin) (tag_data_in table i) ≡ Some o)) ((i : OpId) → option_map (λ (b : MessageTagData). b.origin) (tag_data_in table i) ≡ Some o → ⊥) → (b ≡ true) ↔ HasVersion c n o
has_version_by_tables c n o table tag_data true h = (λ t. (h.0, ap (option_map (λ (b : MessageTagData). b.origin)) (tag_data h.0) ∙ h.1), λ t. refl)
has_version_by_tables c n o table tag_data false h = (λ t. absurd (false≢true t), λ w. absurd (h w.0 (ap (option_map (λ (b : MessageTagData). b.origin)) (sym (tag_data w.0)) ∙ w.1)))
