-- How the users of a server are authenticated, by its settings.

use Rattle.imap_answers.specs.declared.fixed_words.Login.{Login}
use Rattle.imap_answers.specs.declared.fixed_words.Login.TheVariants.{PreAuthenticated, Required}
use Rattle.imap_node.specs.declared.sessions.Auth.{Auth}
use Rattle.imap_node.specs.declared.sessions.Auth.TheVariants as auths
use Rattle.server_settings.specs.declared.settings.Access.{Access}
use Rattle.server_settings.specs.declared.settings.Access.TheVariants.{Password, Preauth}

-- The login that a greeting asks for: none if the user is known, or else a LOGIN.
abbrev pub login_of : Access → Login
login_of Preauth = PreAuthenticated
login_of (Password user pass) = Required

-- How the users of sessions are authenticated: they are known beforehand, or must give exactly this
-- user and this password.
abbrev pub auth_of : Access → Auth
auth_of Preauth = auths.Preauth
auth_of (Password user pass) = auths.Password (record { user = user.now; password = pass.now })
