-- Types with parameters as they are written (RFC 2045, section 5.1).

use Rattle.std.specs.Prelude.{◌≡◌, ℕ, Bool, true, false, not, ◌&&◌, ◌||◌, ◌==◌, List, [], ◌∷◌, ◌++◌}
use Rattle.std.specs.Prelude.{codes, length, nat_lt, if◌then◌else◌}
use Rattle.std.specs.List.{list_all, list_any}
use Rattle.mail_fields.specs.HeaderValues.{is_line_end}
use Rattle.mail_fields.specs.declared.parameters.Parameter.{Parameter}

-- An octet of a token: printable US-ASCII, neither a space nor one of tspecials.
abbrev pub tspecials : List ℕ
tspecials = codes "()<>@,;:\\\"/[]?="

abbrev pub is_token_octet : ℕ → Bool
is_token_octet octet =
    nat_lt 32 octet && nat_lt octet 127 && not (list_any (λ special. special == octet) tspecials)

pub record IsToken (token : List ℕ) : Type 0 where
  pub octets : list_all is_token_octet token ≡ true
  pub some : (length token == 0) ≡ false

-- A text between quotes: a backslash comes before quotes and backslashes (RFC 5322, section 3.2.4).
abbrev pub escaped : List ℕ → List ℕ
escaped [] = []
escaped (octet ∷ octets) =
    if (octet == 34) || (octet == 92) then 92 ∷ octet ∷ escaped octets
    else octet ∷ escaped octets

-- Parameters that can be written: names are tokens, values have no line ends.
abbrev pub AreParameters : List Parameter → Type 0
AreParameters [] = Unit {0}
AreParameters (parameter ∷ parameters) =
    IsToken parameter.name × (list_any is_line_end parameter.value ≡ false)
    × AreParameters parameters

-- Parameters, each after a semicolon and with its value in quotes.
abbrev pub written_parameters : List Parameter → List ℕ → List ℕ
written_parameters [] rest = rest
written_parameters (parameter ∷ parameters) rest =
    codes "; " ++ (parameter.name ++ (codes "=\"" ++ (escaped parameter.value
    ++ (codes "\"" ++ written_parameters parameters rest))))

-- The value of a field with a type, its subtype and parameters, up to the line's end.
abbrev pub written_value : List ℕ → List ℕ → List Parameter → List ℕ
written_value major minor parameters =
    codes " " ++ (major ++ (codes "/" ++ (minor ++ written_parameters parameters (codes "\r\n"))))
