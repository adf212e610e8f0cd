-- Worked examples of the intents and reports of STORE, EXPUNGE, UID EXPUNGE and COPY.
use Rattle.std.proofs.Common.{◌≡◌, refl, ℕ, zero, suc, Bool, true, false, List, [], ◌∷◌, Option, Some, None}
use Rattle.std.specs.Prelude.{Ok, Err}
use Rattle.crdt_ops.specs.declared.kind.Kind.TheVariants as kind
use Rattle.imap_answers.specs.declared.answer.Answer.{Answer}
use Rattle.imap_answers.specs.declared.answer.Answer.TheVariants.{Fetch}
use Rattle.imap_answers.specs.declared.codes.Code.TheVariants.{CopyUid, ExpungeIssued, Modified}
use Rattle.imap_answers.specs.declared.fixed_words.Refusal.TheVariants.{NoSuchMessage, ReadOnly, TooManyVersions}
use Rattle.imap_syntax.specs.declared.store.StoreMode.{StoreMode}
use Rattle.imap_syntax.specs.declared.store.StoreMode.TheVariants.{Add, Remove, Replace}
use Rattle.imap_types.specs.declared.flags.Flags.{Flags}
use Rattle.imap_types.specs.declared.sequence_set.SequenceBound.TheVariants.{Number}
use Rattle.imap_types.specs.declared.sequence_set.SequenceRange.{SequenceRange}
use Rattle.mailbox_rows.specs.ListedMessage.{ListedMessage}
use Rattle.session_view.specs.Views.{same_flags}
use Rattle.session_view.specs.declared.view_entry.ViewEntry.{ViewEntry}
use Rattle.tags_clocks.specs.declared.id.OpId.{OpId}
use Rattle.imap_commands.specs.Arguments.{OpenMailbox}
use Rattle.imap_commands.specs.FlagChange.{changed_flags}
use Rattle.imap_commands.specs.CopyCommand.{copy_report}
use Rattle.imap_commands.specs.ExpungeCommand.{close_intent, expunge_intent, uid_expunge_report}
use Rattle.imap_commands.specs.StoreCommand.{store_report, store_intent}
use Rattle.imap_syntax.specs.declared.arguments.Store.{Store}

abbrev bare : Flags
bare = record { answered = false; flagged = false; deleted = false; seen = false; draft = false; keywords = [] }

abbrev flagged : Flags
flagged = record bare { flagged = true }

abbrev seen : Flags
seen = record bare { seen = true }

abbrev versioned : ℕ → ℕ → OpId → List OpId → Flags → ListedMessage
versioned uid modseq origin versions flags = record { uid = uid; modseq = modseq; origin = origin; versions = versions; flags = flags; date = []; text = [] }

abbrev message : ℕ → ℕ → OpId → Flags → ListedMessage
message uid modseq id flags = versioned uid modseq id (id ∷ []) flags

abbrev copies : ℕ → OpId → List OpId
copies zero id = []
copies (suc n) id = id ∷ copies n id

abbrev shown : ℕ → ViewEntry
shown uid = record { uid = uid; flags = bare }

abbrev from_to : ℕ → ℕ → List SequenceRange
from_to a b = record { first = Number a; last = Number b } ∷ []

abbrev modseq_alone : ℕ → ℕ → Answer
modseq_alone n modseq = Fetch n (record { uid = None; flags = None; date = None; size = None; modseq = Some modseq; sections = [] })

abbrev store : Bool → List SequenceRange → Option ℕ → StoreMode → Bool → Flags → Store
store by_uid messages since mode silent flags = record { by_uid = by_uid; messages = messages; unchanged_since = since; action = record { mode = mode; silent = silent }; flags = flags }

module _ (a b c d e : OpId) (folder : List ℕ) where
  abbrev selected : List ListedMessage → List ViewEntry → Bool → OpenMailbox
  selected rows view read_only = record { name = folder; rows = rows; view = view; read_only = read_only }

  -- Three messages; the second changed after mod-sequence 4.
  abbrev before : List ListedMessage
  before = message 1 2 a bare ∷ message 2 5 b seen ∷ message 3 4 c bare ∷ []

  abbrev after : List ListedMessage
  after = message 1 6 d flagged ∷ message 2 5 b seen ∷ message 3 7 e flagged ∷ []

  abbrev view : List ViewEntry
  view = shown 1 ∷ shown 2 ∷ shown 3 ∷ []

  -- STORE 1:3 (UNCHANGEDSINCE 4) +FLAGS.SILENT (\Flagged)
  stores_two : store_intent (selected before view false) (store false (from_to 1 3) (Some 4) Add true flagged) ≡ Ok (kind.Store folder flagged (a ∷ []) a ∷ kind.Store folder flagged (c ∷ []) c ∷ [])
  unfolding changed_flags same_flags
  stores_two = refl

  reports_modseqs : store_report (selected before view false) after true (store false (from_to 1 3) (Some 4) Add true flagged) ≡ record {
    own = modseq_alone 1 6 ∷ modseq_alone 3 7 ∷ [];
    silent = record { number = 1; flags = flagged } ∷ record { number = 3; flags = flagged } ∷ [];
    code = Some (Modified (2 ∷ []));
  }
  unfolding changed_flags
  reports_modseqs = refl

  -- -FLAGS (\Flagged) of messages that lack it issues nothing.
  stores_none : store_intent (selected before view false) (store true (from_to 1 9) None Remove false flagged) ≡ Ok []
  unfolding changed_flags same_flags
  stores_none = refl

  -- A number that no message has is refused before the read-only mailbox is.
  out_of_range_first : store_intent (selected before view true) (store false (from_to 3 4) None Add false flagged) ≡ Err NoSuchMessage
  out_of_range_first = refl

  read_only_next : store_intent (selected before view true) (store false (from_to 1 3) None Add false flagged) ≡ Err ReadOnly
  read_only_next = refl

  -- The view has a message with UID 4, which is gone.
  gone_is_reported : uid_expunge_report (selected before (shown 3 ∷ shown 4 ∷ []) false) (from_to 4 4) ≡ record { own = []; silent = []; code = Some ExpungeIssued }
  gone_is_reported = refl

  -- COPY 1:2 into a mailbox whose UIDNEXT was 7, and which then has UIDs 7 and 8.
  copies_are_reported : copy_report (selected before view false) (record { by_uid = false; messages = from_to 1 2; name = folder }) (record { uidvalidity = 65537; uidnext = 7; rows = message 5 2 a bare ∷ message 7 3 d bare ∷ message 8 4 e bare ∷ [] }) ≡ record { own = []; silent = []; code = Some (CopyUid 65537 (1 ∷ 2 ∷ []) (7 ∷ 8 ∷ [])) }
  copies_are_reported = refl

  -- A message with two versions, shown as one: STORE 1 -FLAGS (\Seen) names both, and so does
  -- EXPUNGE.
  stores_for_both : store_intent (selected (versioned 1 4 a (b ∷ d ∷ []) (record flagged { seen = true }) ∷ []) (shown 1 ∷ []) false) (store false (from_to 1 1) None Remove false seen) ≡ Ok (kind.Store folder flagged (b ∷ d ∷ []) a ∷ [])
  unfolding changed_flags same_flags
  stores_for_both = refl

  expunges_both : expunge_intent (selected (versioned 1 4 a (b ∷ d ∷ []) (record bare { deleted = true }) ∷ []) [] false) ≡ Ok (kind.Expunge folder (b ∷ d ∷ []) ∷ [])
  expunges_both = refl

  -- A message with 65 versions can't be changed; with 64 it can. If nothing changes, nothing is
  -- refused.
  too_many_for_store : store_intent (selected (versioned 1 66 a (copies 65 b) seen ∷ []) (shown 1 ∷ []) false) (store false (from_to 1 1) None Replace false bare) ≡ Err TooManyVersions
  unfolding changed_flags same_flags
  too_many_for_store = refl

  few_enough_for_store : store_intent (selected (versioned 1 66 a (copies 64 b) seen ∷ []) (shown 1 ∷ []) false) (store false (from_to 1 1) None Replace false bare) ≡ Ok (kind.Store folder bare (copies 64 b) a ∷ [])
  unfolding changed_flags same_flags
  few_enough_for_store = refl

  unchanged_is_not_refused : store_intent (selected (versioned 1 66 a (copies 65 b) seen ∷ []) (shown 1 ∷ []) false) (store false (from_to 1 1) None Replace false seen) ≡ Ok []
  unfolding changed_flags same_flags
  unchanged_is_not_refused = refl

  too_many_for_close : close_intent (selected (versioned 1 66 a (copies 65 b) (record bare { deleted = true }) ∷ []) [] false) ≡ Err TooManyVersions
  too_many_for_close = refl
