use Rattle.std.proofs.Common.{◌∙◌, ℕ, List, None, Some, ap, arith, length, nat_eq, sym, subst}
use Rattle.std.proofs.lemmas.Bool.{false≢true}
use Rattle.server_settings.specs.Settings.{IsNameText}
use Rattle.server_settings.proofs.TextLemmas.{no_octet, port_split, rsplit_is}
use Rattle.server_settings.proofs.link_words.port_of.Goals as goal

pub returns-in_err-host-clause-none : goal.returns-in_err-host-clause-none
returns-in_err-host-clause-none c = rw c.from_residual.ensures (λ is. port_split c.args.address.now None c.in_err-host.ensures.cases is)

pub returns-then-is_empty-clause-none : goal.returns-then-is_empty-clause-none
returns-then-is_empty-clause-none c = λ is.
    let parts = port_split c.args.address.now (Some (c.in_ok-host.host, c.in_ok-host.port)) c.in_ok-host.ensures.cases is in
    is.3 (sym parts.0 ∙ no_octet c.in_ok-host.host.now c.if-is_empty.ensures)

pub returns-in_err-number-clause-none : goal.returns-in_err-number-clause-none
returns-in_err-number-clause-none c = rw c.from_residual-in_err-number.ensures (λ is.
    let parts = port_split c.args.address.now (Some (c.in_ok-host.host, c.in_ok-host.port)) c.in_ok-host.ensures.cases is in
    c.in_err-number.ensures.none is.2 (subst (λ (t : List ℕ). IsNameText t is.2) (sym parts.1) is.4))

pub returns-clause-some : goal.returns-clause-some
returns-clause-some c = (
  c.in_ok-host.host.now,
  c.in_ok-host.port.now,
  c.in_ok-number.number,
  λ e. false≢true (c.if-is_empty.ensures ∙ ap (λ (octets : List ℕ). nat_eq (length octets) 0) e),
  c.in_ok-number.ensures.some,
  rsplit_is 58 c.args.address.now (c.in_ok-host.host, c.in_ok-host.port) c.in_ok-host.ensures.cases (omega arith),
)
