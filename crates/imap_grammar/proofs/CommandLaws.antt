-- The octets after a command's word are read as its arguments exactly when they spell arguments.
use Rattle.std.proofs.Common.{◌≡◌, ℕ, Bool, true, false, cond, codes, eqb, List, [], ◌∷◌, Option, Some, ap, inl, inr, sym, ◌∙◌, refl, subst}
use Rattle.std.proofs.lemmas.Bool.{eqb-true}
use Rattle.imap_syntax.specs.Commands.{word_of, arguments, condstore_parameter, first_word, own_word, status_item, modifier, returns, selection}
use Rattle.imap_syntax.specs.Languages.{◌⌢◌, exactly, sp, nothing, word, in_parens, listed, optional}
use Rattle.imap_grammar.specs.Reading.{after, after_word, both, is_nil, listed_at, map_read, mailbox_at, named, named_at, parens_at, follows_space, run_at, set_at, spaced, text_at, ◌>>=◌}
use Rattle.imap_grammar.specs.CommandReading.{append_of, arguments_at, condstore_at, copied_at, copy_of, fetch_of, list_of, move_of, opened_at, store_of, uid_arguments_at, uid_at, fetch_parts_at, store_parts_at, list_parts_at}
use Rattle.imap_grammar.specs.KeyReading.{search_of}
use Rattle.imap_syntax.specs.Items.{fetched}
use Rattle.imap_syntax.specs.MessageFlags.{stored}
use Rattle.imap_syntax.specs.Sets.{sequence_set}
use Rattle.imap_syntax.specs.declared.store.StoreAction.{StoreAction}
use Rattle.imap_syntax.specs.declared.store.StoreMode.{StoreMode}
use Rattle.imap_syntax.specs.declared.store.StoreMode.TheVariants as store
use Rattle.imap_grammar.proofs.AppendLaws.{append_parts}
use Rattle.imap_grammar.proofs.ListingLaws.{astring_no_paren, returns_end, returns_reads, selection_reads}
use Rattle.imap_grammar.proofs.FlagLaws.{stored_reads}
use Rattle.imap_grammar.proofs.ItemLaws.{fetched_reads}
use Rattle.imap_grammar.proofs.ModifierLaws.{modifier_reads}
use Rattle.imap_syntax.specs.Strings.{astring, begins_with, is_in, mailbox, pattern, run}
use Rattle.std.specs.List.{list_all}
use Rattle.imap_types.specs.Keywords.{to_lower_case}
use Rattle.imap_syntax.specs.Words.{command_word, uid_words, status_word, status_items, mode_word, store_actions, store_word}
use Rattle.imap_syntax.specs.declared.octet_class.OctetClass.TheVariants.{Astring, Atom, Item, Pattern}
use Rattle.imap_syntax.specs.declared.command.Command.{Command}
use Rattle.imap_syntax.specs.declared.command.Command.TheVariants as commands
use Rattle.imap_syntax.specs.declared.word.CommandWord.{CommandWord}
use Rattle.imap_syntax.specs.declared.word.CommandWord.TheVariants as words
use Rattle.imap_grammar.proofs.ReaderLaws.{HasPrefix, IsReader, IsWordEnd, IsArgEnd, after_complete, after_sound, bind_some, both_reads, chosen, closes_ends, closes_no_space, exactly_is, joined, parens_reads, parts_around, some_is, sp_ends, spaced_reads, to_end, with_nothing, without_nothing, closes_no_peek, optional_ends, follows_space_no, stopping}
use Rattle.imap_grammar.proofs.Lists.{listed_reads}
use Rattle.imap_grammar.proofs.SearchLaws.{search_parts}
use Rattle.imap_grammar.proofs.SetLaws.{set_reads}
use Rattle.imap_grammar.proofs.Spans.{run_reads}
use Rattle.imap_grammar.proofs.Texts.{mailbox_reads, text_reads}
use Rattle.imap_grammar.proofs.WordLaws.{after_word_complete, after_word_sound, ends_item, named_at_complete, named_at_sound, status_reads, table_reads, word_first}

-- A command that was read, with its word and its arguments.
abbrev pub IsReadCommand : CommandWord → List ℕ → Command × List ℕ → Type 0
IsReadCommand named octets x = (word_of x.0 ≡ named) × HasPrefix (arguments x.0) octets x.1

-- A command made from one value has its word, and its arguments are that value's text.
command_by : {A : Type 0} {read : List ℕ → Option (A × List ℕ)} {form : A → List ℕ → Type 0} (reads : IsReader read form IsArgEnd) (make : A → Command) (named : CommandWord)
    → ((value : A) (text : List ℕ) → form value text → (word_of (make value) ≡ named) × arguments (make value) text)
    → (octets : List ℕ) (x : Command × List ℕ) → map_read make read octets ≡ Some x → IsReadCommand named octets x
command_by {read} reads make named forward octets x h =
    let a = bind_some (read octets) _ x h in
    let f = reads.sound octets a.0 a.1 in
    let t = forward a.0.0 f.0 f.1 in
    subst (IsReadCommand named octets) (some_is (make a.0.0, a.0.1) x a.2) (t.0, (f.0, t.1, f.2))

again_by : {A : Type 0} {read : List ℕ → Option (A × List ℕ)} {form : A → List ℕ → Type 0} (reads : IsReader read form IsArgEnd) (make : A → Command) (value : A) (octets rest : List ℕ)
    → HasPrefix (form value) octets rest → IsArgEnd rest → map_read make read octets ≡ Some (make value, rest)
again_by reads make value octets rest f s = ap (λ r. r >>= λ first. Some (make first.0, first.1)) (reads.complete octets rest value f s)

command_bare : (this : Command) (named : CommandWord) (octets : List ℕ) (x : Command × List ℕ) → word_of this ≡ named → ((text : List ℕ) → text ≡ [] → arguments this text) → Some (this, octets) ≡ Some x → IsReadCommand named octets x
command_bare this named octets x e n h = subst (IsReadCommand named octets) (some_is (this, octets) x h) (e, ([], n [] refl, refl))

again_by_nothing : (this : Command) (octets rest : List ℕ) → HasPrefix nothing octets rest → ◌≡◌ {A = Option (Command × List ℕ)} (Some (this, octets)) (Some (this, rest))
again_by_nothing this octets rest f = ap (λ xs. Some (this, xs)) (exactly_is [] octets rest f)

ends_at_no_argument : (octets rest : List ℕ) → HasPrefix nothing octets rest → IsArgEnd rest → IsWordEnd octets
ends_at_no_argument octets rest f s = subst IsWordEnd (sym (exactly_is [] octets rest f)) (closes_ends rest s)

-- ---- The parts.

name_reads : IsReader (spaced mailbox_at) (λ value. sp ⌢ mailbox value) IsArgEnd
name_reads = to_end (spaced_reads mailbox_reads)

list_reads : IsReader list_parts_at (λ p. sp ⌢ selection p.0 ⌢ astring p.1.0 ⌢ sp ⌢ pattern p.1.1.0 ⌢ returns p.1.1.1) IsArgEnd
list_reads =
    spaced_reads (both_reads selection_reads
    (both_reads (text_reads Astring) (spaced_reads (both_reads (text_reads Pattern) returns_reads (λ octets rest value f s. returns_end value octets rest f s)))
    (λ octets rest value f s. sp_ends _ octets rest f))
    (λ octets rest value f s. let p = parts_around (astring value.0) _ octets rest f in astring_no_paren value.0 octets p.0 p.1))

login_reads : IsReader (spaced (both (text_at Astring) (spaced (text_at Astring)))) (λ p. sp ⌢ astring p.0 ⌢ sp ⌢ astring p.1) IsArgEnd
login_reads = to_end (spaced_reads (both_reads (text_reads Astring) (spaced_reads (text_reads Astring)) (λ octets rest value f s. sp_ends (astring value) octets rest f)))

enable_reads : IsReader (spaced (listed_at 32 (run_at Atom))) (λ names. sp ⌢ listed sp (run Atom) names) IsArgEnd
enable_reads = spaced_reads (listed_reads 32 (run_reads Atom) IsArgEnd closes_no_space closes_ends (λ octets. refl))

condstore_sound : (octets : List ℕ) (x : Bool × List ℕ) → condstore_at octets ≡ Some x → HasPrefix (condstore_parameter x.0) octets x.1
condstore_sound [] x h = subst (λ (y : Bool × List ℕ). HasPrefix (condstore_parameter y.0) [] y.1) (some_is (false, []) x h) ([], refl, refl)
condstore_sound (b ∷ bs) x h =
    elim (chosen (eqb b 32) (after (40 ∷ []) bs >>= λ inner. after_word (codes "CONDSTORE") inner >>= λ tail. after (41 ∷ []) tail >>= λ rest. Some (true, rest)) (Some (false, b ∷ bs)) (Some x) h) [
      | inl t ↦
          let i = bind_some (after (40 ∷ []) bs) _ x t.1 in
          let w = bind_some (after_word (codes "CONDSTORE") i.0) _ x i.2 in
          let e = bind_some (after (41 ∷ []) w.0) _ x w.2 in
          let space : HasPrefix sp (b ∷ bs) bs = (32 ∷ [], refl, ap (λ c. c ∷ bs) (eqb-true b 32 t.0)) in
          subst (λ (y : Bool × List ℕ). HasPrefix (condstore_parameter y.0) (b ∷ bs) y.1) (some_is (true, e.0) x e.2)
          (joined sp _ (b ∷ bs) bs e.0 space
          (joined (exactly (40 ∷ [])) _ bs i.0 e.0 (after_sound (40 ∷ []) bs i.0 i.1)
          (joined (word (codes "CONDSTORE")) _ i.0 w.0 e.0 (after_word_sound (codes "CONDSTORE") i.0 w.0 w.1) (after_sound (41 ∷ []) w.0 e.0 e.1))))
      | inr f ↦ subst (λ (y : Bool × List ℕ). HasPrefix (condstore_parameter y.0) (b ∷ bs) y.1) (some_is (false, b ∷ bs) x f.1) ([], refl, refl)
    ]

condstore_none : (rest : List ℕ) → begins_with 32 rest ≡ false → condstore_at rest ≡ Some (false, rest)
condstore_none [] h = refl
condstore_none (b ∷ bs) h = ap (λ c. cond c (after (40 ∷ []) bs >>= λ inner. after_word (codes "CONDSTORE") inner >>= λ tail. after (41 ∷ []) tail >>= λ rest. Some (true, rest)) (Some (false, b ∷ bs))) h

condstore_complete : (value : Bool) (octets rest : List ℕ) → HasPrefix (condstore_parameter value) octets rest → IsArgEnd rest → condstore_at octets ≡ Some (value, rest)
condstore_complete false octets rest f s = ap condstore_at (exactly_is [] octets rest f) ∙ condstore_none rest (closes_no_space rest s)
condstore_complete true octets rest f s =
    let p = parts_around sp _ octets rest f in
    let q = parts_around (exactly (40 ∷ [])) _ p.0 rest p.2 in
    let r = parts_around (word (codes "CONDSTORE")) (exactly (41 ∷ [])) q.0 rest q.2 in
    let close : r.0 ≡ 41 ∷ rest = exactly_is (41 ∷ []) r.0 rest r.2 in
    ap condstore_at (exactly_is (32 ∷ []) octets p.0 p.1)
    ∙ ap (λ r. r >>= λ inner. after_word (codes "CONDSTORE") inner >>= λ tail. after (41 ∷ []) tail >>= λ rest. Some (true, rest)) (after_complete (40 ∷ []) p.0 q.0 q.1)
    ∙ ap (λ r. r >>= λ tail. after (41 ∷ []) tail >>= λ rest. Some (true, rest)) (after_word_complete (codes "CONDSTORE") q.0 r.0 refl r.1 (ends_item r.0 (subst IsWordEnd (sym close) refl)))
    ∙ ap (λ r. r >>= λ rest. Some (true, rest)) (after_complete (41 ∷ []) r.0 rest r.2)

condstore_reads : IsReader condstore_at condstore_parameter IsArgEnd
condstore_reads = record { sound = condstore_sound; complete = λ octets rest value f s. condstore_complete value octets rest f s }

condstore_ends : (value : Bool) (octets rest : List ℕ) → HasPrefix (condstore_parameter value) octets rest → IsArgEnd rest → IsWordEnd octets
condstore_ends false octets rest f s = ends_at_no_argument octets rest f s
condstore_ends true octets rest f s = sp_ends (in_parens (word (codes "CONDSTORE"))) octets rest f

opened_reads : IsReader opened_at (λ p. sp ⌢ mailbox p.0 ⌢ condstore_parameter p.1) IsArgEnd
opened_reads = spaced_reads (both_reads mailbox_reads condstore_reads (λ octets rest value f s. condstore_ends value octets rest f s))

status_parts : IsReader (spaced (both mailbox_at (spaced (parens_at (listed_at 32 (named_at status_word status_items)))))) (λ p. sp ⌢ mailbox p.0 ⌢ sp ⌢ in_parens (listed sp status_item p.1)) IsArgEnd
status_parts =
    spaced_reads (both_reads mailbox_reads (spaced_reads (parens_reads (listed_reads 32 status_reads IsArgEnd closes_no_space closes_ends (λ octets. refl))))
    (λ octets rest value f s. sp_ends (in_parens (listed sp status_item value)) octets rest f))

copied_reads : IsReader copied_at (λ p. sp ⌢ sequence_set p.0 ⌢ sp ⌢ mailbox p.1) IsArgEnd
copied_reads = to_end (spaced_reads (both_reads set_reads (spaced_reads mailbox_reads) (λ octets rest value f s. sp_ends (mailbox value) octets rest f)))

uids_reads : IsReader (spaced set_at) (λ uids. sp ⌢ sequence_set uids) IsArgEnd
uids_reads = to_end (spaced_reads set_reads)

fetch_parts : IsReader fetch_parts_at (λ p. sp ⌢ sequence_set p.0 ⌢ sp ⌢ fetched p.1.0 ⌢ optional (modifier (codes "CHANGEDSINCE")) p.1.1) IsArgEnd
fetch_parts =
    spaced_reads (both_reads set_reads (spaced_reads (both_reads fetched_reads (modifier_reads (codes "CHANGEDSINCE") refl IsArgEnd (closes_no_peek 40))
    (λ octets rest value f s. optional_ends (modifier (codes "CHANGEDSINCE")) value octets rest f (closes_ends rest s))))
    (λ octets rest value f s. sp_ends _ octets rest f))

abbrev NoModifier : List ℕ → Type 0
NoModifier rest = IsWordEnd rest × (follows_space 40 rest ≡ false)

store_named : (mode : StoreMode) (silent : Bool) → named store_word store_actions (mode_word mode silent) ≡ Some (record { mode = mode; silent = silent })
store_named store.Replace false = refl
store_named store.Replace true = refl
store_named store.Add false = refl
store_named store.Add true = refl
store_named store.Remove false = refl
store_named store.Remove true = refl

store_letters : (mode : StoreMode) (silent : Bool) → (list_all (is_in Item) (to_lower_case (mode_word mode silent)) ≡ true) × (is_nil (to_lower_case (mode_word mode silent)) ≡ false)
store_letters store.Replace false = (refl, refl)
store_letters store.Replace true = (refl, refl)
store_letters store.Add false = (refl, refl)
store_letters store.Add true = (refl, refl)
store_letters store.Remove false = (refl, refl)
store_letters store.Remove true = (refl, refl)

action_reads : IsReader (named_at store_word store_actions) (λ action. word (store_word action)) IsWordEnd
action_reads = stopping (table_reads store_word store_actions (λ action. store_named action.mode action.silent) (λ action. (store_letters action.mode action.silent).0)) IsWordEnd ends_item

action_no_peek : (action : StoreAction) (Q : List ℕ → Type 0) (octets rest : List ℕ) → HasPrefix (sp ⌢ word (store_word action) ⌢ Q) octets rest → NoModifier octets
action_no_peek action Q octets rest f =
    let p = parts_around sp (word (store_word action) ⌢ Q) octets rest f in
    let q = parts_around (word (store_word action)) Q p.0 rest p.2 in
    let l = store_letters action.mode action.silent in
    (sp_ends (word (store_word action) ⌢ Q) octets rest f, ap (follows_space 40) (exactly_is (32 ∷ []) octets p.0 p.1) ∙ follows_space_no 40 p.0 (word_first (store_word action) p.0 q.0 40 l.0 l.1 refl q.1))

store_begin : (since : Option ℕ) (action : StoreAction) (Q : List ℕ → Type 0) (octets rest : List ℕ) → HasPrefix (optional (modifier (codes "UNCHANGEDSINCE")) since ⌢ sp ⌢ word (store_word action) ⌢ Q) octets rest → IsWordEnd octets
store_begin since action Q octets rest f =
    let p = parts_around (optional (modifier (codes "UNCHANGEDSINCE")) since) _ octets rest f in
    optional_ends (modifier (codes "UNCHANGEDSINCE")) since octets p.0 p.1 (sp_ends _ p.0 rest p.2)

store_parts : IsReader store_parts_at (λ p. sp ⌢ sequence_set p.0 ⌢ optional (modifier (codes "UNCHANGEDSINCE")) p.1.0 ⌢ sp ⌢ word (store_word p.1.1.0) ⌢ sp ⌢ stored p.1.1.1) IsArgEnd
store_parts =
    spaced_reads (both_reads set_reads
    (both_reads (modifier_reads (codes "UNCHANGEDSINCE") refl NoModifier (λ rest s. s.1))
    (spaced_reads (both_reads action_reads (spaced_reads stored_reads) (λ octets rest value f s. sp_ends (stored value) octets rest f)))
    (λ octets rest value f s. action_no_peek value.0 (sp ⌢ stored value.1) octets rest f))
    (λ octets rest value f s. store_begin value.0 value.1.0 (sp ⌢ stored value.1.1) octets rest f))

-- ---- Commands after UID.

-- Arguments that follow a word of their own.
abbrev Own : CommandWord → List ℕ → Command × List ℕ → Type 0
Own own octets x = (word_of x.0 ≡ words.Uid) × ((mid : List ℕ) → HasPrefix (sp ⌢ word (command_word own)) mid octets → HasPrefix (arguments x.0) mid x.1)

own_by : {A : Type 0} {read : List ℕ → Option (A × List ℕ)} {form : A → List ℕ → Type 0} (reads : IsReader read form IsArgEnd) (make : A → Command) (own : CommandWord)
    → ((value : A) → word_of (make value) ≡ words.Uid) → ((value : A) (text : List ℕ) → ((sp ⌢ word (command_word own)) ⌢ form value) text → arguments (make value) text)
    → (octets : List ℕ) (x : Command × List ℕ) → map_read make read octets ≡ Some x → Own own octets x
own_by {A} {read} {form} reads make own is forward octets x h =
    let a = bind_some (read octets) _ x h in
    let f = reads.sound octets a.0 a.1 in
    subst (Own own octets) (some_is (make a.0.0, a.0.1) x a.2)
    (is a.0.0, λ mid g. let j = joined (sp ⌢ word (command_word own)) (form a.0.0) mid octets a.0.1 g f in (j.0, forward a.0.0 j.0 j.1, j.2))

uid_sound : (own : CommandWord) (octets : List ℕ) (x : Command × List ℕ) → uid_arguments_at own octets ≡ Some x → Own own octets x
uid_sound words.Copy octets x h = own_by copied_reads (copy_of true) words.Copy (λ value. refl) (λ value text f. f) octets x h
uid_sound words.Move octets x h = own_by copied_reads (move_of true) words.Move (λ value. refl) (λ value text f. f) octets x h
uid_sound words.Expunge octets x h = own_by uids_reads commands.UidExpunge words.Expunge (λ value. refl) (λ value text f. f) octets x h
uid_sound words.Fetch octets x h = own_by fetch_parts (fetch_of true) words.Fetch (λ value. refl) (λ value text f. f) octets x h
uid_sound words.Store octets x h = own_by store_parts (store_of true) words.Store (λ value. refl) (λ value text f. f) octets x h
uid_sound words.Search octets x h = own_by search_parts (search_of true) words.Search (λ value. refl) (λ value text f. f) octets x h
uid_sound _ octets x h = absurd cc

uid_command : (octets : List ℕ) (x : Command × List ℕ) → uid_at octets ≡ Some x → IsReadCommand words.Uid octets x
uid_command octets x h =
    let a = bind_some (spaced (named_at command_word uid_words) octets) _ x h in
    let s = bind_some (after (32 ∷ []) octets) _ a.0 a.1 in
    let t = uid_sound a.0.0 a.0.1 x a.2 in
    let front = joined sp (word (command_word a.0.0)) octets s.0 a.0.1 (after_sound (32 ∷ []) octets s.0 s.1) (named_at_sound command_word uid_words s.0 a.0 s.2) in
    (t.0, t.1 octets front)

own_complete : (own : CommandWord) (octets mid : List ℕ) → named command_word uid_words (command_word own) ≡ Some own → list_all (is_in Item) (to_lower_case (command_word own)) ≡ true → HasPrefix (sp ⌢ word (command_word own)) octets mid → IsWordEnd mid
    → uid_at octets ≡ uid_arguments_at own mid
own_complete own octets mid e l f s =
    let p = parts_around sp (word (command_word own)) octets mid f in
    ap (λ r. r >>= named_at command_word uid_words >>= λ own. uid_arguments_at own.0 own.1) (after_complete (32 ∷ []) octets p.0 p.1)
    ∙ ap (λ r. r >>= λ own. uid_arguments_at own.0 own.1) (named_at_complete command_word uid_words own p.0 mid e l p.2 (ends_item mid s))

-- ---- The laws.

pub arguments_sound : (named : CommandWord) (octets : List ℕ) (x : Command × List ℕ) → arguments_at named octets ≡ Some x → IsReadCommand named octets x
arguments_sound words.Capability octets x h = command_bare commands.Capability words.Capability octets x refl (λ text e. e) h
arguments_sound words.Noop octets x h = command_bare commands.Noop words.Noop octets x refl (λ text e. e) h
arguments_sound words.Logout octets x h = command_bare commands.Logout words.Logout octets x refl (λ text e. e) h
arguments_sound words.Login octets x h = command_by login_reads (λ parts. commands.Login parts.0 parts.1) words.Login (λ value text f. (refl, f)) octets x h
arguments_sound words.Enable octets x h = command_by enable_reads commands.Enable words.Enable (λ value text f. (refl, f)) octets x h
arguments_sound words.Select octets x h = command_by opened_reads (λ parts. commands.Select parts.0 parts.1) words.Select (λ value text f. (refl, f)) octets x h
arguments_sound words.Examine octets x h = command_by opened_reads (λ parts. commands.Examine parts.0 parts.1) words.Examine (λ value text f. (refl, f)) octets x h
arguments_sound words.Create octets x h = command_by name_reads commands.Create words.Create (λ value text f. (refl, f)) octets x h
arguments_sound words.Delete octets x h = command_by name_reads commands.Delete words.Delete (λ value text f. (refl, f)) octets x h
arguments_sound words.Subscribe octets x h = command_by name_reads commands.Subscribe words.Subscribe (λ value text f. (refl, f)) octets x h
arguments_sound words.Unsubscribe octets x h = command_by name_reads commands.Unsubscribe words.Unsubscribe (λ value text f. (refl, f)) octets x h
arguments_sound words.ListNames octets x h = command_by list_reads list_of words.ListNames (λ value text f. (refl, f)) octets x h
arguments_sound words.Namespace octets x h = command_bare commands.Namespace words.Namespace octets x refl (λ text e. e) h
arguments_sound words.Status octets x h = command_by status_parts (λ parts. commands.Status parts.0 parts.1) words.Status (λ value text f. (refl, f)) octets x h
arguments_sound words.Idle octets x h = command_bare commands.Idle words.Idle octets x refl (λ text e. e) h
arguments_sound words.Close octets x h = command_bare commands.Close words.Close octets x refl (λ text e. e) h
arguments_sound words.Unselect octets x h = command_bare commands.Unselect words.Unselect octets x refl (λ text e. e) h
arguments_sound words.Expunge octets x h = command_bare commands.Expunge words.Expunge octets x refl (λ text e. e) h
arguments_sound words.Copy octets x h = command_by copied_reads (copy_of false) words.Copy (λ value text f. (refl, with_nothing _ text f)) octets x h
arguments_sound words.Move octets x h = command_by copied_reads (move_of false) words.Move (λ value text f. (refl, with_nothing _ text f)) octets x h
arguments_sound words.Uid octets x h = uid_command octets x h
arguments_sound words.Append octets x h = command_by append_parts append_of words.Append (λ value text f. (refl, f)) octets x h
arguments_sound words.Search octets x h = command_by search_parts (search_of false) words.Search (λ value text f. (refl, with_nothing _ text f)) octets x h
arguments_sound words.Fetch octets x h = command_by fetch_parts (fetch_of false) words.Fetch (λ value text f. (refl, with_nothing _ text f)) octets x h
arguments_sound words.Store octets x h = command_by store_parts (store_of false) words.Store (λ value text f. (refl, with_nothing _ text f)) octets x h
arguments_sound words.Rename octets x h = absurd cc
arguments_sound words.StartTls octets x h = absurd cc
arguments_sound words.Authenticate octets x h = absurd cc

copy_front : (by_uid : Bool) (own : CommandWord) (octets rest : List ℕ) (Q : List ℕ → Type 0) → HasPrefix (own_word by_uid own ⌢ sp ⌢ Q) octets rest → IsWordEnd octets
copy_front true own octets rest Q f =
    let p = parts_around (sp ⌢ word (command_word own)) _ octets rest f in
    sp_ends (word (command_word own)) octets p.0 p.1
copy_front false own octets rest Q f = sp_ends Q octets rest (without_nothing _ octets rest f)

-- A command that takes message numbers or UIDs is read in both forms.
either_complete : {A : Type 0} {read : List ℕ → Option (A × List ℕ)} {form : A → List ℕ → Type 0} (reads : IsReader read form IsArgEnd) (make : Bool → A → Command) (own : CommandWord) (value : A)
    → named command_word uid_words (command_word own) ≡ Some own → list_all (is_in Item) (to_lower_case (command_word own)) ≡ true
    → ((octets : List ℕ) → uid_arguments_at own octets ≡ map_read (make true) read octets) → ((octets : List ℕ) → arguments_at own octets ≡ map_read (make false) read octets)
    → ((octets rest : List ℕ) → HasPrefix (form value) octets rest → IsWordEnd octets)
    → (by_uid : Bool) (octets rest : List ℕ) → HasPrefix (own_word by_uid own ⌢ form value) octets rest → IsArgEnd rest → arguments_at (first_word by_uid own) octets ≡ Some (make by_uid value, rest)
either_complete {form} reads make own value e l tail plain ends true octets rest f s =
    let p = parts_around (own_word true own) (form value) octets rest f in
    own_complete own octets p.0 e l p.1 (ends p.0 rest p.2) ∙ tail p.0 ∙ again_by reads (make true) value p.0 rest p.2 s
either_complete {form} reads make own value e l tail plain ends false octets rest f s = plain octets ∙ again_by reads (make false) value octets rest (without_nothing _ octets rest f) s

pub arguments_complete : (this : Command) (octets rest : List ℕ) → HasPrefix (arguments this) octets rest → IsArgEnd rest → arguments_at (word_of this) octets ≡ Some (this, rest)
arguments_complete commands.Capability octets rest f s = again_by_nothing commands.Capability octets rest f
arguments_complete commands.Noop octets rest f s = again_by_nothing commands.Noop octets rest f
arguments_complete commands.Logout octets rest f s = again_by_nothing commands.Logout octets rest f
arguments_complete (commands.Login user password) octets rest f s = again_by login_reads (λ parts. commands.Login parts.0 parts.1) (user, password) octets rest f s
arguments_complete (commands.Enable names) octets rest f s = again_by enable_reads commands.Enable names octets rest f s
arguments_complete (commands.Select name condstore) octets rest f s = again_by opened_reads (λ parts. commands.Select parts.0 parts.1) (name, condstore) octets rest f s
arguments_complete (commands.Examine name condstore) octets rest f s = again_by opened_reads (λ parts. commands.Examine parts.0 parts.1) (name, condstore) octets rest f s
arguments_complete (commands.Create name) octets rest f s = again_by name_reads commands.Create name octets rest f s
arguments_complete (commands.Delete name) octets rest f s = again_by name_reads commands.Delete name octets rest f s
arguments_complete (commands.Subscribe name) octets rest f s = again_by name_reads commands.Subscribe name octets rest f s
arguments_complete (commands.Unsubscribe name) octets rest f s = again_by name_reads commands.Unsubscribe name octets rest f s
arguments_complete (commands.ListNames asked) octets rest f s =
    again_by list_reads list_of (asked.subscribed_only, (asked.reference, (asked.pattern, asked.return_subscribed))) octets rest f s
arguments_complete commands.Namespace octets rest f s = again_by_nothing commands.Namespace octets rest f
arguments_complete (commands.Status name items) octets rest f s = again_by status_parts (λ parts. commands.Status parts.0 parts.1) (name, items) octets rest f s
arguments_complete (commands.Append asked) octets rest f s = again_by append_parts append_of (asked.name, (asked.flags, (asked.date, asked.text))) octets rest f s
arguments_complete commands.Idle octets rest f s = again_by_nothing commands.Idle octets rest f
arguments_complete commands.Close octets rest f s = again_by_nothing commands.Close octets rest f
arguments_complete commands.Unselect octets rest f s = again_by_nothing commands.Unselect octets rest f
arguments_complete commands.Expunge octets rest f s = again_by_nothing commands.Expunge octets rest f
arguments_complete (commands.UidExpunge uids) octets rest f s =
    let p = parts_around (own_word true words.Expunge) _ octets rest f in
    own_complete words.Expunge octets p.0 refl refl p.1 (sp_ends (sequence_set uids) p.0 rest p.2) ∙ again_by uids_reads commands.UidExpunge uids p.0 rest p.2 s
arguments_complete (commands.Search asked) octets rest f s =
    either_complete search_parts search_of words.Search (asked.options, asked.steps) refl refl (λ from. refl) (λ from. refl) (λ from to g. sp_ends _ from to g) asked.by_uid octets rest f s
arguments_complete (commands.Fetch asked) octets rest f s =
    either_complete fetch_parts fetch_of words.Fetch (asked.messages, (asked.items, asked.changed_since)) refl refl (λ from. refl) (λ from. refl) (λ from to g. sp_ends _ from to g) asked.by_uid octets rest f s
arguments_complete (commands.Store asked) octets rest f s =
    either_complete store_parts store_of words.Store (asked.messages, (asked.unchanged_since, (asked.action, asked.flags))) refl refl (λ from. refl) (λ from. refl) (λ from to g. sp_ends _ from to g) asked.by_uid octets rest f s
arguments_complete (commands.Copy asked) octets rest f s =
    either_complete copied_reads copy_of words.Copy (asked.messages, asked.name) refl refl (λ from. refl) (λ from. refl) (λ from to g. sp_ends _ from to g) asked.by_uid octets rest f s
arguments_complete (commands.Move asked) octets rest f s =
    either_complete copied_reads move_of words.Move (asked.messages, asked.name) refl refl (λ from. refl) (λ from. refl) (λ from to g. sp_ends _ from to g) asked.by_uid octets rest f s

-- No octet of a word follows the command's word.
pub arguments_end : (this : Command) (octets rest : List ℕ) → HasPrefix (arguments this) octets rest → IsArgEnd rest → IsWordEnd octets
arguments_end commands.Capability octets rest f s = ends_at_no_argument octets rest f s
arguments_end commands.Noop octets rest f s = ends_at_no_argument octets rest f s
arguments_end commands.Logout octets rest f s = ends_at_no_argument octets rest f s
arguments_end (commands.Login user password) octets rest f s = sp_ends _ octets rest f
arguments_end (commands.Enable names) octets rest f s = sp_ends _ octets rest f
arguments_end (commands.Select name condstore) octets rest f s = sp_ends _ octets rest f
arguments_end (commands.Examine name condstore) octets rest f s = sp_ends _ octets rest f
arguments_end (commands.Create name) octets rest f s = sp_ends _ octets rest f
arguments_end (commands.Delete name) octets rest f s = sp_ends _ octets rest f
arguments_end (commands.Subscribe name) octets rest f s = sp_ends _ octets rest f
arguments_end (commands.Unsubscribe name) octets rest f s = sp_ends _ octets rest f
arguments_end (commands.ListNames asked) octets rest f s = sp_ends _ octets rest f
arguments_end commands.Namespace octets rest f s = ends_at_no_argument octets rest f s
arguments_end (commands.Status name items) octets rest f s = sp_ends _ octets rest f
arguments_end (commands.Append asked) octets rest f s = sp_ends _ octets rest f
arguments_end commands.Idle octets rest f s = ends_at_no_argument octets rest f s
arguments_end commands.Close octets rest f s = ends_at_no_argument octets rest f s
arguments_end commands.Unselect octets rest f s = ends_at_no_argument octets rest f s
arguments_end commands.Expunge octets rest f s = ends_at_no_argument octets rest f s
arguments_end (commands.UidExpunge uids) octets rest f s = copy_front true words.Expunge octets rest _ f
arguments_end (commands.Search asked) octets rest f s = copy_front asked.by_uid words.Search octets rest _ f
arguments_end (commands.Fetch asked) octets rest f s = copy_front asked.by_uid words.Fetch octets rest _ f
arguments_end (commands.Store asked) octets rest f s = copy_front asked.by_uid words.Store octets rest _ f
arguments_end (commands.Copy asked) octets rest f s = copy_front asked.by_uid words.Copy octets rest _ f
arguments_end (commands.Move asked) octets rest f s = copy_front asked.by_uid words.Move octets rest _ f
