-- Worked examples of the definitions.
use Rattle.std.proofs.Common.{◌≡◌, [], ◌∷◌, refl}
use Rattle.std.specs.Prelude.{codes}
use Rattle.imap_answers.specs.declared.fixed_words.EnabledExtensions.TheVariants.{Nothing, Imap4Rev2Condstore}
use Rattle.imap_commands.specs.EnableCommand.{enabled_extensions}
use Rattle.imap_commands.specs.Mailboxes.{created_name}

created_drops_one : created_name (codes "a/") ≡ codes "a"
created_drops_one = refl

created_drops_only_one : created_name (codes "a//") ≡ codes "a/"
created_drops_only_one = refl

created_folds_inbox : created_name (codes "inbox/") ≡ codes "INBOX"
created_folds_inbox = refl

created_of_empty : created_name [] ≡ []
created_of_empty = refl

enabled_in_order : enabled_extensions (codes "imap4REV2" ∷ codes "X" ∷ codes "condstore" ∷ codes "IMAP4rev2" ∷ []) ≡ Imap4Rev2Condstore
enabled_in_order = refl

enabled_of_unknown : enabled_extensions (codes "X" ∷ []) ≡ Nothing
enabled_of_unknown = refl
