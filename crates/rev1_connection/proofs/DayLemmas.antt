use Rattle.std.proofs.Common.{◌≡◌, inl, inr, ℕ, Bool, true, false, List, Option, Some, None}
use Rattle.imap_types.specs.Names.{fold_inbox}
use Rattle.imap_syntax.specs.declared.command.Command.TheVariants as commands
use Rattle.imap_syntax.specs.declared.command.Tagged.{Tagged}
use Rattle.rev1_front.specs.ClientFrames.{IsCarried, IsCommandFrame, IsOfFront, IsPlainTaken, IsSearchRead, LsubOfPattern, RenameOf, all_subscribed, answer_to_response}
use Rattle.rev1_front.specs.SearchReading.{search_read}
use Rattle.rev1_front.specs.declared.authentication.PlainResponse.{PlainResponse}
use Rattle.rev1_front.specs.declared.authentication.PlainResponse.TheVariants as responses
use Rattle.rev1_front.specs.declared.fixed_texts.FrontRefusal.TheVariants as reasons
use Rattle.rev1_front.specs.declared.form.Form.{Form}
use Rattle.rev1_front.specs.declared.form.Form.TheVariants as forms
use Rattle.rev1_front.specs.declared.frame_parts.FrontWord.{FrontWord}
use Rattle.rev1_front.specs.declared.frame_parts.FrontWord.TheVariants as words
use Rattle.rev1_front.specs.declared.search_days.SentDay.{SentDay}
use Rattle.rev1_front.specs.declared.session.Mode.{Mode}
use Rattle.rev1_front.specs.declared.session.Mode.TheVariants as modes
use Rattle.rev1_front.specs.declared.taken.Taken.{Taken}
use Rattle.rev1_front.specs.declared.taken.Taken.TheVariants as taken
use Rattle.rev1_connection.specs.FrontRequests.{request_of}
use Rattle.rev1_connection.specs.declared.manner.Manner.TheVariants as manners
use Rattle.rev1_connection.specs.declared.request.FrontRequest.TheVariants as requests

-- no command of the profile asks for days
carried_not : (mode : Mode) (tagged : Tagged) (form : Form) (fetch : Tagged) → IsCarried mode tagged form (taken.AsksDays fetch) → ⊥
carried_not modes.Rev2 tagged form fetch h = let e : taken.AsksDays fetch ≡ taken.Command tagged form = h in cc
carried_not modes.Rev1 tagged form fetch h = elim h [ inl a ↦ let e = a.2 in cc | inr b ↦ let e = b.1 in cc ]

response_not : (tag : List ℕ) (said : PlainResponse) (fetch : Tagged) → taken.AsksDays fetch ≡ answer_to_response tag said → ⊥
response_not tag (responses.Login user password) fetch h = let e : taken.AsksDays fetch ≡ taken.Command (record { tag = tag; command = commands.Login user password }) forms.Authenticate = h in cc
response_not tag responses.OtherUser fetch h = let e : taken.AsksDays fetch ≡ taken.Refused tag reasons.OtherUser = h in cc
response_not tag responses.Malformed fetch h = let e : taken.AsksDays fetch ≡ taken.Refused tag reasons.BadSyntax = h in cc

plain_not : (tag response : List ℕ) (fetch : Tagged) → IsPlainTaken tag response (taken.AsksDays fetch) → ⊥
plain_not tag response fetch h = elim h [ inl a ↦ let e = a.1 in cc | inr b ↦ response_not tag b.1 fetch b.4 ]

lsub_not : (tag : List ℕ) (joined : Option (List ℕ)) (fetch : Tagged) → LsubOfPattern tag joined (taken.AsksDays fetch) → ⊥
lsub_not tag (Some pattern) fetch h = let e : taken.AsksDays fetch ≡ taken.Command (record { tag = tag; command = commands.ListNames all_subscribed }) (forms.Lsub pattern) = h in cc
lsub_not tag None fetch h = let e : taken.AsksDays fetch ≡ taken.Refused tag reasons.NameNotAllowed = h in cc

rename_not : (tag : List ℕ) (from to : Option (List ℕ)) (fetch : Tagged) → RenameOf tag from to (taken.AsksDays fetch) → ⊥
rename_not tag (Some from) (Some to) fetch h = let e : taken.AsksDays fetch ≡ taken.Rename tag (fold_inbox from) (fold_inbox to) = h in cc
rename_not tag (Some from) None fetch h = let e : taken.AsksDays fetch ≡ taken.Refused tag reasons.NameNotAllowed = h in cc
rename_not tag None (Some to) fetch h = let e : taken.AsksDays fetch ≡ taken.Refused tag reasons.NameNotAllowed = h in cc
rename_not tag None None fetch h = let e : taken.AsksDays fetch ≡ taken.Refused tag reasons.NameNotAllowed = h in cc

read_not : (mode : Mode) (days : List SentDay) (frame : List ℕ) (by_uid : Bool) (tag : List ℕ) (read : Option (List ℕ × Bool)) (fetch : Tagged) → IsSearchRead mode (Some days) frame by_uid tag read (taken.AsksDays fetch) → ⊥
read_not mode days frame by_uid tag None fetch h = let e : taken.AsksDays fetch ≡ taken.Refused tag reasons.UnknownCharset = h in cc
read_not mode days frame by_uid tag (Some read) fetch h = let e = h.4 in cc

front_not : (mode : Mode) (days : List SentDay) (frame : List ℕ) (named : FrontWord) (tag rest : List ℕ) (fetch : Tagged) → IsOfFront mode (Some days) frame named tag rest (taken.AsksDays fetch) → ⊥
front_not mode days frame words.Check tag rest fetch h = let e = h.2 in cc
front_not mode days frame words.Id tag rest fetch h = let e : taken.AsksDays fetch ≡ taken.Identity tag = h in cc
front_not mode days frame words.Authenticate tag rest fetch h = plain_not tag h.1 fetch h.4
front_not mode days frame words.Lsub tag rest fetch h = lsub_not tag h.1 fetch h.6
front_not mode days frame words.Rename tag rest fetch h = rename_not tag h.2 h.3 fetch h.7
front_not mode days frame words.Status tag rest fetch h = carried_not mode h.2 _ fetch h.5
front_not mode days frame words.Search tag rest fetch h = read_not mode days frame false tag (search_read days rest) fetch h
front_not mode days frame words.Uid tag rest fetch h = read_not mode days frame true tag (search_read days h.1) fetch h.5

not_asked : (mode : Mode) (days : List SentDay) (frame : List ℕ) (fetch : Tagged) → IsCommandFrame mode (Some days) frame (taken.AsksDays fetch) → ⊥
not_asked mode days frame fetch h =
    elim h [
      | inl profile ↦ carried_not mode profile.0 profile.1 fetch profile.4
      | inr other ↦ elim other [
        | inl front ↦ front_not mode days frame front.1.0 front.1.1 front.1.2 fetch front.1.4
        | inr fault ↦ elim fault [ inl a ↦ let e = a.1 in cc | inr b ↦ let e = b.5 in cc ]
      ]
    ]

pub asked_once : (mode : Mode) (days : List SentDay) (frame : List ℕ) (it : Taken) (fetch : Tagged) → IsCommandFrame mode (Some days) frame it → request_of it ≡ requests.Days fetch → ⊥
asked_once mode days frame (taken.AsksDays own) fetch h e = not_asked mode days frame own h
asked_once mode days frame (taken.Answer answer) fetch h e = let k : requests.Immediate (taken.Answer answer) ≡ requests.Days fetch = e in cc
asked_once mode days frame (taken.Refused tag reason) fetch h e = let k : requests.Immediate (taken.Refused tag reason) ≡ requests.Days fetch = e in cc
asked_once mode days frame (taken.Identity tag) fetch h e = let k : requests.Immediate (taken.Identity tag) ≡ requests.Days fetch = e in cc
asked_once mode days frame (taken.Challenge tag) fetch h e = let k : requests.Challenge tag ≡ requests.Days fetch = e in cc
asked_once mode days frame (taken.Command tagged form) fetch h e = let k : requests.Command tagged (manners.Form form) ≡ requests.Days fetch = e in cc
asked_once mode days frame (taken.Line tag line) fetch h e = let k : requests.Line tag line ≡ requests.Days fetch = e in cc
asked_once mode days frame (taken.Rename tag from to) fetch h e = let k : requests.Rename (record { tag = tag; from = from; to = to }) ≡ requests.Days fetch = e in cc
