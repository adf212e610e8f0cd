use Rattle.std.proofs.Common.{◌≡◌, inl, inr, [], ◌++◌, ◌∙◌, append-nil, refl, sym}
use Rattle.mail_replay.proofs.PartLemmas.{nothing_printed}
use Rattle.mail_replay.proofs.ScriptStateLemmas.{on_ok}
use Rattle.mail_replay.specs.Lines.{crlf}
use Rattle.mail_replay.proofs.script_service.serve.Goals as goal

pub returns-in-Open-clause-ok : goal.returns-in-Open-clause-ok
returns-in-Open-clause-ok c = rw c.in-Open.is c.open.ensures.ok

pub returns-in_ok-octets-in-Line-clause-ok : goal.returns-in_ok-octets-in-Line-clause-ok
returns-in_ok-octets-in-Line-clause-ok c =
    let e : c.deref.result.now ≡ c.in-Line.text ++ crlf = c.deref.ensures.value ∙ c.in_ok-octets-in-Line.ensures in
    let fed = c.feed.ensures.ok in
    rw (c.in-Line.is, sym e) fed

pub returns-in-Send-clause-ok : goal.returns-in-Send-clause-ok
returns-in-Send-clause-ok c =
    let e : c.as_bytes.result.now ≡ c.in-Send.text = c.as_bytes.ensures in
    let fed = c.feed-in-Send.ensures.ok in
    rw (c.in-Send.is, sym e) fed

pub returns-in-Show-clause-ok : goal.returns-in-Show-clause-ok
returns-in-Show-clause-ok c = rw c.in-Show.is (on_ok c.show.result (λ h. (h.0, (h.1, refl), h.2)) c.show.ensures.ok)

pub returns-in-Deliver-clause-ok : goal.returns-in-Deliver-clause-ok
returns-in-Deliver-clause-ok c = rw c.in-Deliver.is c.deliver.ensures.ok

pub returns-in-Drain-clause-ok : goal.returns-in-Drain-clause-ok
returns-in-Drain-clause-ok c = rw c.in-Drain.is c.drain.ensures.ok

pub declare-requires : goal.declare-requires
declare-requires c = rw c.in-Node.is at c.requires

pub returns-in-Node-clause-ok : goal.returns-in-Node-clause-ok
returns-in-Node-clause-ok c = rw c.in-Node.is (on_ok c.declare.result (λ d. ([], (refl, d), sym (append-nil _))) c.declare.ensures.ok)

pub returns-in-Poll-clause-ok : goal.returns-in-Poll-clause-ok
returns-in-Poll-clause-ok c = rw c.in-Poll.is c.poll.ensures.ok

pub returns-in-Poll-clause-memory : goal.returns-in-Poll-clause-memory
returns-in-Poll-clause-memory c =
    let polled = c.poll.ensures.memory in
    rw c.in-Poll.is (λ f. let h = polled f in (h.0, inr h.1, h.2))

pub returns-in-Node-clause-memory : goal.returns-in-Node-clause-memory
returns-in-Node-clause-memory c = λ e. ([], inl refl, sym (append-nil _))

pub returns-in-Open-clause-memory : goal.returns-in-Open-clause-memory
returns-in-Open-clause-memory c = rw c.in-Open.is c.open.ensures.memory

pub returns-in_ok-octets-in-Line-clause-memory : goal.returns-in_ok-octets-in-Line-clause-memory
returns-in_ok-octets-in-Line-clause-memory c =
    let e : c.deref.result.now ≡ c.in-Line.text ++ crlf = c.deref.ensures.value ∙ c.in_ok-octets-in-Line.ensures in
    let fed = c.feed.ensures.memory in
    rw (c.in-Line.is, sym e) (λ f. let h = fed f in (h.0, inr h.1, h.2))

pub returns-in-Send-clause-memory : goal.returns-in-Send-clause-memory
returns-in-Send-clause-memory c =
    let e : c.as_bytes.result.now ≡ c.in-Send.text = c.as_bytes.ensures in
    let fed = c.feed-in-Send.ensures.memory in
    rw (c.in-Send.is, sym e) (λ f. let h = fed f in (h.0, inr h.1, h.2))

pub returns-in-Close-clause-memory : goal.returns-in-Close-clause-memory
returns-in-Close-clause-memory c = λ e. ([], inl refl, sym (append-nil _))

pub returns-in-Show-clause-memory : goal.returns-in-Show-clause-memory
returns-in-Show-clause-memory c = λ e. nothing_printed _ _ _ _ _ (inl refl) c.show.ensures.err e

pub returns-in-Deliver-clause-memory : goal.returns-in-Deliver-clause-memory
returns-in-Deliver-clause-memory c = λ e. nothing_printed _ _ _ _ _ (inl refl) c.deliver.ensures.err e

pub returns-in-Forge-clause-memory : goal.returns-in-Forge-clause-memory
returns-in-Forge-clause-memory c = λ e. nothing_printed _ _ _ _ _ (inl refl) c.forge.ensures.err e

pub returns-in-Drain-clause-memory : goal.returns-in-Drain-clause-memory
returns-in-Drain-clause-memory c = λ e. nothing_printed _ _ _ _ _ (inl refl) c.drain.ensures.err e

pub returns-in-Agree-clause-ok : goal.returns-in-Agree-clause-ok
returns-in-Agree-clause-ok c = rw c.in-Agree.is (on_ok c.compare.result (λ h. (h.0, (h.1, refl), h.2)) c.compare.ensures.ok)

pub returns-in-Agree-clause-memory : goal.returns-in-Agree-clause-memory
returns-in-Agree-clause-memory c = λ e. nothing_printed _ _ _ _ _ (inl refl) c.compare.ensures.err e

pub returns-in-Join-clause-ok : goal.returns-in-Join-clause-ok
returns-in-Join-clause-ok c = rw c.in-Join.is c.join.ensures.ok

pub returns-in-Join-clause-memory : goal.returns-in-Join-clause-memory
returns-in-Join-clause-memory c = λ e. nothing_printed _ _ _ _ _ (inl refl) c.join.ensures.err e

pub returns-in-Restart-clause-ok : goal.returns-in-Restart-clause-ok
returns-in-Restart-clause-ok c = rw c.in-Restart.is (on_ok c.restart.result (λ d. ([], (refl, d), sym (append-nil _))) c.restart.ensures.ok)

pub returns-in-Restart-clause-memory : goal.returns-in-Restart-clause-memory
returns-in-Restart-clause-memory c = λ e. ([], inl refl, sym (append-nil _))
