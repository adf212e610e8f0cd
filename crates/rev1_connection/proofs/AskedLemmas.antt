-- What a frame of a session that awaits a command isn't.
use Rattle.std.proofs.Common.{◌≡◌, inl, inr, ℕ, Bool, true, false, List, Option, Some, None, sym, subst}
use Rattle.rev1_front.specs.ClientFrames.{IsCarried, IsCommandFrame, IsOfFront, IsPlainTaken, IsSearchRead, IsUndated, LsubOfPattern, RenameOf, answer_to_response, known_days}
use Rattle.rev1_front.specs.SearchReading.{search_read}
use Rattle.rev1_front.specs.declared.authentication.PlainResponse.{PlainResponse}
use Rattle.rev1_front.specs.declared.authentication.PlainResponse.TheVariants as responses
use Rattle.rev1_front.specs.declared.form.Form.{Form}
use Rattle.rev1_front.specs.declared.frame_parts.FrontWord.{FrontWord}
use Rattle.rev1_front.specs.declared.frame_parts.FrontWord.TheVariants as words
use Rattle.rev1_front.specs.declared.search_days.SentDay.{SentDay}
use Rattle.rev1_front.specs.declared.session.Mode.{Mode}
use Rattle.rev1_front.specs.declared.session.Mode.TheVariants as modes
use Rattle.rev1_front.specs.declared.taken.Taken.{Taken}
use Rattle.rev1_front.specs.declared.taken.Taken.TheVariants as taken
use Rattle.imap_syntax.specs.declared.command.Tagged.{Tagged}

-- no line of IDLE
abbrev pub IsAsked : Taken → Type 0
IsAsked (taken.Line tag line) = ⊥
IsAsked it = Unit {0}

-- no search by days
abbrev pub IsDated : Taken → Type 0
IsDated (taken.AsksDays fetch) = ⊥
IsDated it = Unit {0}

asked_by : (it other : Taken) → it ≡ other → IsAsked other → IsAsked it
asked_by it other e a = subst (λ (x : Taken). IsAsked x) (sym e) a

carried_asked : (mode : Mode) (tagged : Tagged) (form : Form) (it : Taken) → IsCarried mode tagged form it → IsAsked it
carried_asked modes.Rev2 tagged form it h = asked_by it _ h tt
carried_asked modes.Rev1 tagged form it (inl h) = asked_by it _ h.2 tt
carried_asked modes.Rev1 tagged form it (inr h) = asked_by it _ h.1 tt

pub response_asked : (tag : List ℕ) (said : PlainResponse) → IsAsked (answer_to_response tag said)
response_asked tag (responses.Login user password) = tt
response_asked tag responses.OtherUser = tt
response_asked tag responses.Malformed = tt

plain_asked : (tag response : List ℕ) (it : Taken) → IsPlainTaken tag response it → IsAsked it
plain_asked tag response it (inl h) = asked_by it _ h.1 tt
plain_asked tag response it (inr h) = asked_by it (answer_to_response tag h.1) h.4 (response_asked tag h.1)

lsub_asked : (tag : List ℕ) (joined : Option (List ℕ)) (it : Taken) → LsubOfPattern tag joined it → IsAsked it
lsub_asked tag (Some pattern) it h = asked_by it _ h tt
lsub_asked tag None it h = asked_by it _ h tt

rename_asked : (tag : List ℕ) (from to : Option (List ℕ)) (it : Taken) → RenameOf tag from to it → IsAsked it
rename_asked tag (Some from) (Some to) it h = asked_by it _ h tt
rename_asked tag (Some from) None it h = asked_by it _ h tt
rename_asked tag None (Some to) it h = asked_by it _ h tt
rename_asked tag None None it h = asked_by it _ h tt

undated_asked : (mode : Mode) (frame : List ℕ) (by_uid : Bool) (tag inner : List ℕ) (asks : Bool) (it : Taken) → IsUndated mode frame by_uid tag inner asks it → IsAsked it
undated_asked mode frame by_uid tag inner true it h = asked_by it _ h.4 tt
undated_asked mode frame by_uid tag inner false it h = asked_by it _ h.4 tt

read_asked : (mode : Mode) (days : Option (List SentDay)) (frame : List ℕ) (by_uid : Bool) (tag : List ℕ) (read : Option (List ℕ × Bool)) (it : Taken) → IsSearchRead mode days frame by_uid tag read it → IsAsked it
read_asked mode days frame by_uid tag None it h = asked_by it _ h tt
read_asked mode None frame by_uid tag (Some read) it h = undated_asked mode frame by_uid tag read.0 read.1 it h
read_asked mode (Some days) frame by_uid tag (Some read) it h = asked_by it _ h.4 tt

front_asked : (mode : Mode) (days : Option (List SentDay)) (frame : List ℕ) (named : FrontWord) (tag rest : List ℕ) (it : Taken) → IsOfFront mode days frame named tag rest it → IsAsked it
front_asked mode days frame words.Check tag rest it h = asked_by it _ h.2 tt
front_asked mode days frame words.Id tag rest it h = asked_by it _ h tt
front_asked mode days frame words.Authenticate tag rest it h = plain_asked tag h.1 it h.4
front_asked mode days frame words.Lsub tag rest it h = lsub_asked tag h.1 it h.6
front_asked mode days frame words.Rename tag rest it h = rename_asked tag h.2 h.3 it h.7
front_asked mode days frame words.Status tag rest it h = carried_asked mode h.2 _ it h.5
front_asked mode days frame words.Search tag rest it h = read_asked mode days frame false tag (search_read (known_days days) rest) it h
front_asked mode days frame words.Uid tag rest it h = read_asked mode days frame true tag (search_read (known_days days) h.1) it h.5

pub command_asked : (mode : Mode) (days : Option (List SentDay)) (frame : List ℕ) (it : Taken) → IsCommandFrame mode days frame it → IsAsked it
command_asked mode days frame it h =
    elim h [
      | inl profile ↦ carried_asked mode profile.0 profile.1 it profile.4
      | inr other ↦ elim other [
        | inl front ↦ front_asked mode days frame front.1.0 front.1.1 front.1.2 it front.1.4
        | inr fault ↦ elim fault [ inl a ↦ asked_by it _ a.1 tt | inr b ↦ asked_by it _ b.5 tt ]
      ]
    ]
