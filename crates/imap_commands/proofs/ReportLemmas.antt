use Rattle.std.proofs.Common.{◌≡◌, ◌∙◌, ap, sym, Bool, IfOk}
use Rattle.std.specs.Prelude.{Result, Ok, Err}
use Rattle.imap_commands.specs.Arguments.{OpenMailbox}
use Rattle.imap_commands.specs.MailStates.{MailState, open_mailbox}
use Rattle.imap_commands.specs.NamedMessages.{NamedMessages, messages_named_if_selected}
use Rattle.imap_commands.specs.declared.session.State.{State}
use Rattle.imap_commands.specs.declared.session.State.TheVariants.{Selected}
use Rattle.session_view.specs.ViewState.{ViewState}

-- a value in `Ok` that equals `x` equals `y` if `x` does
pub if_ok_is : {T E : Type 0} (r : Result T E) (x y : T) → x ≡ y → IfOk r (λ t. t ≡ x) → IfOk r (λ t. t ≡ y)
if_ok_is (Ok t) x y e h = h ∙ e
if_ok_is (Err why) x y e h = tt

-- the messages that a command names in the selected mailbox
pub named_in_mailbox : (mail : MailState) (state : State) (view : ViewState) (read_only : Bool) (mailbox : OpenMailbox) (find : OpenMailbox → NamedMessages) (named : NamedMessages) → state ≡ Selected view read_only → mailbox ≡ open_mailbox mail view read_only
    → named ≡ messages_named_if_selected state (λ view read_only. find (open_mailbox mail view read_only)) → named ≡ find mailbox
named_in_mailbox mail state view read_only mailbox find named selected is_mailbox f =
    f
    ∙ ap (λ (s : State). messages_named_if_selected s (λ (view : ViewState) (read_only : Bool). find (open_mailbox mail view read_only))) selected
    ∙ ap find (sym is_mailbox)
