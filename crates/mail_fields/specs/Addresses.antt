-- Lists of addresses (RFC 5322, section 3.4, with the obsolete forms of section 4.4).

use Rattle.std.specs.Prelude.{ℕ, Bool, true, false, not, ◌&&◌, ◌==◌, List, [], ◌∷◌, ◌++◌, codes}
use Rattle.std.specs.Prelude.{drop, length, nat_lt, take, if◌then◌else◌}
use Rattle.mail_fields.specs.AddressWords.{after, before, comment_of, count_before, domain_of}
use Rattle.mail_fields.specs.AddressWords.{is_among, joined_text, phrase_of, run_start}
use Rattle.mail_fields.specs.ElementReading.{is_octet_first}
use Rattle.mail_fields.specs.HeaderValues.{elements_of, is_semicolon, skip_blanks}
use Rattle.mail_fields.specs.declared.address_list.Address.{Address}
use Rattle.mail_fields.specs.declared.address_list.Address.TheVariants.{GroupEnd, GroupStart}
use Rattle.mail_fields.specs.declared.address_list.Address.TheVariants.{Mailbox as MailboxAddress}
use Rattle.mail_fields.specs.declared.mailboxes.Mailbox.{Mailbox}
use Rattle.mail_fields.specs.declared.address_list.Place.{Place}
use Rattle.mail_fields.specs.declared.address_list.Place.TheVariants.{AngleDomain, AngleLocal}
use Rattle.mail_fields.specs.declared.address_list.Place.TheVariants.{AngleRoute, AngleStart}
use Rattle.mail_fields.specs.declared.address_list.Place.TheVariants.{Domain, Words}
use Rattle.mail_fields.specs.declared.elements.Element.{Element}
use Rattle.mail_fields.specs.declared.elements.Element.TheVariants.{Blank, Comment, Octet, Quoted}

-- Whether one of these octets is among elements.
abbrev pub has_octet : List ℕ → List Element → Bool
has_octet sought elements = nat_lt (count_before sought elements) (length elements)

-- The phrase, or the comment if there is no phrase.
abbrev pub name_or : List ℕ → List ℕ → List ℕ
name_or comment phrase = if length phrase == 0 then comment else phrase

-- An address in angle brackets: a route from an `@` to a colon, if there are both; then the local
-- part before the first `@`, and the domain after it.
abbrev pub has_route : List Element → Bool
has_route inside = is_octet_first 64 (skip_blanks inside) && has_octet (codes ":") inside

abbrev pub route_of : List Element → List ℕ
route_of inside = if has_route inside then joined_text (before (codes ":") inside) else []

abbrev pub after_route : List Element → List Element
after_route inside = if has_route inside then after (codes ":") inside else inside

abbrev pub mailbox_at : List ℕ → List ℕ → List Element → Mailbox
mailbox_at name route elements = record {
  name = name;
  route = route;
  local_part = joined_text (before (codes "@") elements);
  host = domain_of (after (codes "@") elements);
}

abbrev pub angle_mailbox : List ℕ → List Element → Mailbox
angle_mailbox name inside = mailbox_at name (route_of inside) (after_route inside)

-- The words before an address in angle brackets that are its name: if an `@` comes first, the last
-- run of words before it isn't part of it.
abbrev pub name_words : List Element → List Element
name_words section =
    if has_octet (codes "@") (before (codes "<") section)
    then (take (run_start (before (codes "@") section)) (before (codes "@") section))
    else before (codes "<") section

-- An address without angle brackets: its local part is the last run of words before the `@`.
abbrev pub plain_mailbox : List ℕ → List Element → List Element → Mailbox
plain_mailbox comment words rest = record {
  name = name_or comment (phrase_of (take (run_start words) words));
  route = [];
  local_part = joined_text (drop (run_start words) words);
  host = domain_of rest;
}

-- Words without an address: a local part without a domain if they are one run, else a name.
abbrev pub words_mailbox : List ℕ → List Element → Mailbox
words_mailbox comment words =
    if run_start words == 0
    then record { name = comment; route = []; local_part = joined_text words; host = [] }
    else record { name = phrase_of words; route = []; local_part = []; host = [] }

-- The mailbox that a section of a list is, with the comment after it as its name if it has no
-- phrase.
abbrev pub mailbox_of : List Element → Mailbox
mailbox_of section =
    if has_octet (codes "<") section
    then (angle_mailbox (name_or (comment_of section) (phrase_of (name_words section)))
    (before (codes ">") (after (codes "<") section)))
    else (if has_octet (codes "@") section
    then (plain_mailbox (comment_of section) (before (codes "@") section)
    (after (codes "@") section))
    else words_mailbox (comment_of section) section)

-- A section with only blanks and comments is no mailbox.
abbrev pub section_addresses : List Element → List Address
section_addresses section =
    if length (skip_blanks section) == 0 then [] else MailboxAddress (mailbox_of section) ∷ []

abbrev pub group_end : Bool → List Address
group_end in_group = if in_group then GroupEnd ∷ [] else []

-- The place after an octet at a place; other elements than octets, blanks and comments are as the
-- octets of words.
abbrev pub after_octet_at : Place → ℕ → Place
after_octet_at Words octet =
    if octet == 60 then AngleStart else (if octet == 64 then Domain else Words)
after_octet_at Domain octet = if octet == 60 then AngleStart else Domain
after_octet_at AngleStart octet =
    if octet == 62 then Domain else (if octet == 64 then AngleRoute else AngleLocal)
after_octet_at AngleRoute octet =
    if octet == 62 then Domain else (if octet == 58 then AngleLocal else AngleRoute)
after_octet_at AngleLocal octet =
    if octet == 62 then Domain else (if octet == 64 then AngleDomain else AngleLocal)
after_octet_at AngleDomain octet = if octet == 62 then Domain else AngleDomain

abbrev pub place_after : Place → Element → Place
place_after place Blank = place
place_after place (Comment text) = place
place_after place (Octet octet) = after_octet_at place octet
place_after place (Quoted text) = after_octet_at place 34

-- Whether commas and semicolons end a mailbox at a place: not within angle brackets before the
-- domain. Whether a colon begins a group there: only after words.
abbrev pub is_open : Place → Bool
is_open Words = true
is_open Domain = true
is_open AngleStart = false
is_open AngleRoute = false
is_open AngleLocal = false
is_open AngleDomain = true

abbrev pub is_words : Place → Bool
is_words Words = true
is_words Domain = false
is_words AngleStart = false
is_words AngleRoute = false
is_words AngleLocal = false
is_words AngleDomain = false

abbrev pub begins_group : Bool → Place → Element → Bool
begins_group in_group place element =
    not in_group && is_words place && is_among (codes ":") element

abbrev pub ends_mailbox : Place → Element → Bool
ends_mailbox place element = is_open place && is_among (codes ",;") element

-- The addresses of a list from a place on: `section` are the elements before it since the last
-- comma, semicolon or group's colon. A semicolon and the list's end end a group.
abbrev pub addresses_from : Bool → Place → List Element → List Element → List Address
addresses_from in_group place section [] = section_addresses section ++ group_end in_group
addresses_from in_group place section (element ∷ elements) =
    if begins_group in_group place element
    then (GroupStart (phrase_of section) ∷ addresses_from true Words [] elements)
    else (if ends_mailbox place element
    then (section_addresses section ++ (group_end (in_group && is_semicolon element)
    ++ addresses_from (in_group && not (is_semicolon element)) Words [] elements))
    else addresses_from in_group (place_after place element) (section ++ element ∷ []) elements)

abbrev pub addresses_of : List ℕ → List Address
addresses_of value = addresses_from false Words [] (elements_of value)
