-- Lines of the front's own (RFC 3501, section 7; RFC 2971; RFC 5530).

use Rattle.std.specs.Prelude.{ℕ, List, [], ◌++◌, codes}
use Rattle.imap_answers.specs.AnswerText.{text_of_answer}
use Rattle.imap_answers.specs.Strings.{crlf}
use Rattle.imap_answers.specs.declared.fixed_words.Login.{Login}
use Rattle.imap_answers.specs.declared.fixed_words.Login.TheVariants as login
use Rattle.rev1_front.specs.declared.fixed_texts.FrontRefusal.{FrontRefusal}
use Rattle.rev1_front.specs.declared.fixed_texts.FrontRefusal.TheVariants as refusal
use Rattle.rev1_front.specs.declared.taken.Taken.{Taken}
use Rattle.rev1_front.specs.declared.taken.Taken.TheVariants as taken

-- What the front can do (RFC 3501, section 7.2.1). No LITERAL+: what is too big shall be refused
-- before it is sent.
abbrev pub capabilities : List ℕ
capabilities =
    codes "IMAP4rev1 IMAP4rev2 LITERAL- SASL-IR AUTH=PLAIN ID ENABLE IDLE "
    ++ codes "NAMESPACE UNSELECT UIDPLUS MOVE ESEARCH CONDSTORE STATUS=SIZE"

-- The answer to CAPABILITY (RFC 3501, section 7.2.1).
abbrev pub capability_line : List ℕ
capability_line = codes "* CAPABILITY " ++ (capabilities ++ codes "\r\n")

-- The greetings (RFC 3501, sections 7.1.1 and 7.1.4).
abbrev pub greeting_line : Login → List ℕ
greeting_line login.Required =
    codes "* OK [CAPABILITY " ++ (capabilities ++ codes "] ready\r\n")
greeting_line login.PreAuthenticated =
    codes "* PREAUTH [CAPABILITY " ++ (capabilities ++ codes "] ready\r\n")

-- The text after the tag of a command that the front refuses (RFC 3501, sections 7.1.2 and 7.1.3;
-- RFC 5530).
abbrev pub front_refusal_text : FrontRefusal → List ℕ
front_refusal_text refusal.UnknownCharset =
    codes "NO [BADCHARSET (US-ASCII UTF-8)] charset is not known"
front_refusal_text refusal.OtherUser = codes "NO [AUTHORIZATIONFAILED] no other user"
front_refusal_text refusal.NoSecondSession = codes "NO [UNAVAILABLE] no second session"
front_refusal_text refusal.GivenUp = codes "BAD authentication was given up"
front_refusal_text refusal.BadSyntax = codes "BAD syntax"
front_refusal_text refusal.NameNotAllowed = codes "NO [CANNOT] name not allowed"

-- The tagged line of a command that the front refuses.
abbrev pub refused_line : List ℕ → FrontRefusal → List ℕ
refused_line tag reason = tag ++ (codes " " ++ (front_refusal_text reason ++ crlf))

-- The answers to ID (RFC 2971, section 3).
abbrev pub identity_text : List ℕ → List ℕ
identity_text tag =
    codes "* ID (\"name\" \"Burknafel\")\r\n" ++ (tag ++ codes " OK ID completed\r\n")

-- The empty challenge of AUTHENTICATE PLAIN (RFC 3501, section 7.5; RFC 4616).
abbrev pub challenge_line : List ℕ
challenge_line = codes "+ \r\n"

-- What is answered to a frame at once: nothing if a port has to carry it out.
abbrev pub text_at_once : Taken → List ℕ
text_at_once (taken.Answer answer) = text_of_answer answer
text_at_once (taken.Refused tag reason) = refused_line tag reason
text_at_once (taken.Identity tag) = identity_text tag
text_at_once (taken.Challenge tag) = challenge_line
text_at_once _ = []
