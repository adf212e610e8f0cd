use Rattle.std.proofs.Common.{ℕ, List, ◌++◌, Option, Ok, sym, ap, ◌∙◌, arith}
use Rattle.std.proofs.lemmas.List.{append-nil}
use Rattle.std.specs.Option.{option_to_list}
use Rattle.std.proofs.lemmas.Result.{err_from_is_err_and}
use Rattle.link_wire.specs.Digests.{frame_digest}
use Rattle.link_wire.specs.Framing.{Cut, cut_from, with_payloads}
use Rattle.link_wire.proofs.CutLemmas.{header_stops, payload_front, payload_stops}
use Rattle.link_wire.proofs.frame_cut.cut_front.Goals as goal
use Rattle.link_wire.proofs.frame_cut.cut_front.Goals.{in-Some+in_ok-push, in_default}

pub returns-in_err-take_header-clause-err : goal.returns-in_err-take_header-clause-err
returns-in_err-take_header-clause-err c =
    let p = err_from_is_err_and c.from_residual.result c.from_residual.ensures.1 in
    rw (p.1, p.2) (header_stops c.args.limits (frame_digest c.args.key.now) c.args.progress.now c.args.payloads.now.items c.args.piece.now _ (omega arith) (omega arith) c.in_err-take_header.ensures.err)

pub returns-in_err-payload-clause-err : goal.returns-in_err-payload-clause-err
returns-in_err-payload-clause-err c =
    let p = err_from_is_err_and c.from_residual-in_err-payload.result c.from_residual-in_err-payload.ensures.1 in
    rw (p.1, p.2) (payload_stops c.args.limits (frame_digest c.args.key.now) c.args.progress.now c.args.payloads.now.items _ c.split_at.result.0.now c.args.piece.now _ c.split_at.ensures.front (omega arith) (omega arith) c.in_err-payload.ensures.err)

pub returns-clause-ok : goal.returns-clause-ok
returns-clause-ok c =
    let front = payload_front c.args.limits (frame_digest c.args.key.now) c.args.progress.now c.take_payload.new.self c.args.payloads.now.items _ _ c.split_at.result.0.now c.split_at.result.1.now c.args.piece.now c.split_at.ensures.front c.split_at.ensures.back (omega arith) (omega arith) c.in_ok-payload.ensures.ok in
    let on : List (List ℕ) → Cut = λ (all : List (List ℕ)). with_payloads all (cut_from c.args.limits (frame_digest c.args.key.now) (Ok c.take_payload.new.self) c.split_at.result.1.now) in
    let items = c.args.payloads.now.items in
    elim c.match-branch-3.branch [
      | in-Some+in_ok-push w ↦
          front ∙ ap on (ap (λ (o : Option (List ℕ)). items ++ option_to_list o) w.in-Some.is ∙ sym w.in_ok-push.ensures.items ∙ ap (λ v. v.items) (sym w.payloads-is))
      | in_default w ↦
          front ∙ ap on (ap (λ (o : Option (List ℕ)). items ++ option_to_list o) w.in_default.is ∙ append-nil items ∙ ap (λ v. v.items) (sym w.payloads-is))
    ]
