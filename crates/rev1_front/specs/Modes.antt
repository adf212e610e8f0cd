-- The version of IMAP that a session speaks (RFC 9051, section 6.3.1, ENABLE).

use Rattle.std.specs.Prelude.{Bool, true, false, List, if◌then◌else◌}
use Rattle.std.specs.List.{list_any}
use Rattle.imap_answers.specs.declared.answer.Answer.{Answer}
use Rattle.imap_answers.specs.declared.answer.Answer.TheVariants.{Enabled}
use Rattle.imap_answers.specs.declared.fixed_words.EnabledExtensions.{EnabledExtensions}
use Rattle.imap_answers.specs.declared.fixed_words.EnabledExtensions.TheVariants as extensions
use Rattle.rev1_front.specs.declared.session.Mode.{Mode}
use Rattle.rev1_front.specs.declared.session.Mode.TheVariants.{Rev2}

-- Whether IMAP4rev2 is among the extensions that are on.
abbrev pub has_rev2 : EnabledExtensions → Bool
has_rev2 extensions.Nothing = false
has_rev2 extensions.Condstore = false
has_rev2 extensions.Imap4Rev2 = true
has_rev2 extensions.CondstoreImap4Rev2 = true
has_rev2 extensions.Imap4Rev2Condstore = true

-- Whether an answer says that IMAP4rev2 is on (RFC 9051, section 7.2.1, ENABLED).
abbrev pub turns_rev2_on : Answer → Bool
turns_rev2_on (Enabled on) = has_rev2 on
turns_rev2_on _ = false

-- The mode of a session after these answers.
abbrev pub mode_after : Mode → List Answer → Mode
mode_after mode answers = if list_any turns_rev2_on answers then Rev2 else mode
