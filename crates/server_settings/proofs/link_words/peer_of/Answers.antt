use Rattle.std.proofs.Common.{sym, subst}
use Rattle.server_settings.specs.Links.{IsHostPort}
use Rattle.server_settings.proofs.TextLemmas.{one_address}
use Rattle.server_settings.proofs.link_words.peer_of.Goals as goal

pub returns-in_err-peer-clause-none : goal.returns-in_err-peer-clause-none
returns-in_err-peer-clause-none c = rw c.from_residual.ensures (λ peer is. c.in_err-peer.ensures.none peer is.0)

pub returns-in_err-port_of-clause-none : goal.returns-in_err-port_of-clause-none
returns-in_err-port_of-clause-none c = rw c.from_residual-in_err-port_of.ensures (λ peer is.
    c.in_err-port_of.ensures.none (subst IsHostPort (sym (one_address c.args.text.now c.in_ok-peer.peer peer c.in_ok-peer.ensures.some is.0)) is.1))
