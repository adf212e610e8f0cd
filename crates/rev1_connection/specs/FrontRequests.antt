-- What an item of the framer is to a session of a client that speaks IMAP4rev1 (RFC 3501, section
-- 6).

use Rattle.std.specs.Prelude.{◌≡◌, ◌⊎◌, ℕ, Bool, true, false, List, [], ◌∷◌, ◌++◌, codes, Option}
use Rattle.std.specs.Prelude.{Some, None, drop, if◌then◌else◌}
use Rattle.imap_answers.specs.declared.answer.Answer.{Answer}
use Rattle.imap_answers.specs.declared.answer.Answer.TheVariants as answers
use Rattle.imap_answers.specs.declared.fixed_words.Refusal.TheVariants as refusals
use Rattle.imap_lex.specs.declared.item.Item.{Item}
use Rattle.imap_lex.specs.declared.item.Item.TheVariants.{Ready, Frame, Refused}
use Rattle.imap_syntax.specs.Commands.{IsSpelled}
use Rattle.imap_syntax.specs.Faults.{HasTag, IsTagged}
use Rattle.imap_syntax.specs.declared.command.Tagged.{Tagged}
use Rattle.imap_syntax.specs.declared.idle.IdleLine.TheVariants as lines
use Rattle.imap_connection.specs.FaultAnswers.{IsLiteralAnswer}
use Rattle.mail_text.specs.TextSearch.{is_prefix}
use Rattle.rev1_front.specs.ClientFrames.{IsTaken}
use Rattle.rev1_front.specs.declared.fixed_texts.FrontRefusal.TheVariants as reasons
use Rattle.rev1_front.specs.declared.session.Awaited.{Awaited}
use Rattle.rev1_front.specs.declared.session.Awaited.TheVariants as awaited
use Rattle.rev1_front.specs.declared.taken.Taken.{Taken}
use Rattle.rev1_front.specs.declared.taken.Taken.TheVariants as taken
use Rattle.rev1_fetch.specs.FetchPlans.{IsRequest}
use Rattle.rev1_fetch.specs.declared.plan.FetchRequest.{FetchRequest}
use Rattle.rev1_fetch.specs.declared.plan.FetchRequest.TheVariants as fetches
use Rattle.rev1_fetch.specs.declared.text_item.TextItem.{TextItem}
use Rattle.rev1_connection.specs.declared.manner.Manner.TheVariants as manners
use Rattle.rev1_connection.specs.declared.request.FrontRequest.{FrontRequest}
use Rattle.rev1_connection.specs.declared.request.FrontRequest.TheVariants as requests
use Rattle.rev1_connection.specs.declared.session.FrontSession.{FrontSession}

-- What a frame is to a session that is this to the front.
abbrev pub request_of : Taken → FrontRequest
request_of (taken.Command tagged form) = requests.Command tagged (manners.Form form)
request_of (taken.AsksDays fetch) = requests.Days fetch
request_of (taken.Line tag line) = requests.Line tag line
request_of (taken.Rename tag from to) =
    requests.Rename (record { tag = tag; from = from; to = to })
request_of (taken.Challenge tag) = requests.Challenge tag
request_of it = requests.Immediate it

-- ---- FETCH with items that the profile hasn't (RFC 3501, section 6.4.5).

-- The word of FETCH or UID FETCH at the beginning of octets after a tag, and what follows it.
abbrev pub cut_fetch : List ℕ → Option (List ℕ × List ℕ)
cut_fetch octets =
    if is_prefix (codes " FETCH") octets then Some (codes " FETCH", drop 6 octets)
    else (if is_prefix (codes " UID FETCH") octets
    then Some (codes " UID FETCH", drop 10 octets) else None)

-- What a FETCH with a plan is, if these octets are its command of the profile: this command; or it
-- is none, and this is answered.
abbrev pub IsPlannedFetch : List ℕ → List TextItem → Answer → FrontRequest → Type 0
IsPlannedFetch octets plan answer request =
    ((tagged : Tagged) × IsSpelled tagged octets
    × (request ≡ requests.Command tagged (manners.Plan plan)))
    ⊎ (((tagged : Tagged) → IsSpelled tagged octets → ⊥)
    × (request ≡ requests.Immediate (taken.Answer answer)))

-- What a FETCH with this tag is, by what it asks for beside the profile; if that is nothing, this
-- is answered.
abbrev pub IsFetchBy : List ℕ → List ℕ → Option FetchRequest → Answer → FrontRequest → Type 0
IsFetchBy tag word None answer request = request ≡ requests.Immediate (taken.Answer answer)
IsFetchBy tag word (Some fetches.PartZero) answer request =
    request ≡ requests.Immediate (taken.Refused tag reasons.BadSyntax)
IsFetchBy tag word (Some (fetches.Planned rest plan)) answer request =
    IsPlannedFetch (tag ++ (word ++ rest.items)) plan answer request

-- What a frame with this tag is, by its FETCH, if it is one; else this is answered.
abbrev pub IsFetchAfter : List ℕ → Option (List ℕ × List ℕ) → Answer → FrontRequest → Type 0
IsFetchAfter tag None answer request = request ≡ requests.Immediate (taken.Answer answer)
IsFetchAfter tag (Some cut) answer request =
    (asked : Option FetchRequest) × IsRequest cut.1 asked
    × IsFetchBy tag cut.0 asked answer request

-- What a frame is that is no command of the profile and no form that the front knows: such a FETCH;
-- or this is answered.
abbrev pub IsUntakenRequest : List ℕ → Answer → FrontRequest → Type 0
IsUntakenRequest frame answer request =
    ((HasTag frame → ⊥) × (request ≡ requests.Immediate (taken.Answer answer)))
    ⊎ ((tag rest : List ℕ) × IsTagged frame tag rest
    × IsFetchAfter tag (cut_fetch (32 ∷ rest)) answer request)

-- ---- Items.

-- An answer says that memory ran out, and nothing of the frame.
abbrev pub lacks_memory : Answer → Bool
lacks_memory (answers.Refused tag refusals.NoMemory) = true
lacks_memory answer = false

abbrev pub IsAnsweredRequest : Bool → List ℕ → Answer → FrontRequest → Type 0
IsAnsweredRequest true frame answer request = request ≡ requests.Immediate (taken.Answer answer)
IsAnsweredRequest false frame answer request = IsUntakenRequest frame answer request

-- What a frame is that is this to the front.
abbrev pub IsTakenRequest : List ℕ → Taken → FrontRequest → Type 0
IsTakenRequest frame (taken.Answer answer) request =
    IsAnsweredRequest (lacks_memory answer) frame answer request
IsTakenRequest frame it request = request ≡ request_of it

-- What the beginning of a command that was refused for its literal is: a command that is refused
-- (RFC 9051, section 4.3), another line of IDLE, or no response.
abbrev pub IsRefusedRequest : Awaited → List ℕ → FrontRequest → Type 0
IsRefusedRequest awaited.Command octets request =
    (answer : Answer) × IsLiteralAnswer octets answer
    × (request ≡ requests.Immediate (taken.Answer answer))
IsRefusedRequest (awaited.Line tag) octets request = request ≡ requests.Line tag lines.Other
IsRefusedRequest (awaited.Response tag) octets request =
    request ≡ requests.Immediate (taken.Refused tag reasons.BadSyntax)

-- What an item is to a session. The notice that a literal may be sent is none.
abbrev pub IsItemRequest : FrontSession → Item → FrontRequest → Type 0
IsItemRequest session Ready request = ⊥
IsItemRequest session (Frame octets) request =
    (it : Taken) × IsTaken session.mode session.awaited octets it × IsTakenRequest octets it request
IsItemRequest session (Refused octets) request = IsRefusedRequest session.awaited octets request

-- The octets of an item.
abbrev pub octets_of_item : Item → List ℕ
octets_of_item Ready = []
octets_of_item (Frame octets) = octets
octets_of_item (Refused octets) = octets
