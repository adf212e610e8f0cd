use Rattle.std.proofs.Common.{[], ◌∷◌, ◌++◌, ◌∙◌, inl, inr, ℕ, List, Option, Result, Ok, Err, ap, sym, subst, append_assoc, append-nil}
use Rattle.imap_syntax.specs.declared.command.Tagged.{Tagged}
use Rattle.imap_connection.specs.Batches.{answers_by, tags_of}
use Rattle.std.specs.Prelude.{IfErr, IfOk}
use Rattle.imap_connection.specs.Conversations.{HasTaken, EndsOverItems, TakesItem}
use Rattle.imap_connection.specs.RequestSteps.{IsRequest}
use Rattle.imap_connection.specs.Requests.{StopsAt, texts}
use Rattle.imap_connection.specs.declared.answer_writer.UnprintedReply.{UnprintedReply}
use Rattle.imap_connection.specs.declared.end_reason.Ended.{Ended}
use Rattle.imap_connection.specs.declared.request.Request.{Request}
use Rattle.imap_connection.proofs.BatchLemmas.{taken_falters, taken_request, taken_stops, taken_answered, taken_unasked, taken_waits, leaves_append}
use Rattle.imap_connection.proofs.request_steps.take_item.Goals as goal

pub returns-in_default-clause-err : goal.returns-in_default-clause-err
returns-in_default-clause-err g c first from items output h =
    ([], taken_unasked g.P.Port.steps items output c.args.port.now c.args.idling.now c.args.batch.now c.args.item.now h, sym (append-nil c.args.text.now.items))

pub returns-in-Err-carry_out-clause-err : goal.returns-in-Err-carry_out-clause-err
returns-in-Err-carry_out-clause-err g c first from items output h =
    let t = c.in-Err-carry_out.ensures.err in
    let left = taken_falters g.P.Port.steps items output c.args.port.now c.args.idling.now c.args.batch.now c.in-Err-carry_out.ended t.0 c.carry_out.new.port h t.1 in
    (texts t.0, leaves_append g.P.Port.steps items c.args.item.now c.in-Err-carry_out.ended (output ++ texts t.0) c.carry_out.new.port left, t.2)

pub returns-in-Ok-push-clause-ok : goal.returns-in-Ok-push-clause-ok
returns-in-Ok-push-clause-ok g c first from items output h =
    let item = c.args.item.now in
    let asked = subst (λ (idling : Option (List ℕ)). IsRequest idling item c.in-Ok.request) c.as_ref.ensures.value c.in-Ok.ensures in
    let is = subst (λ (request : Request). IsRequest c.args.idling.now item request) c.in-Later.ensures.0 asked in
    let has_taken = taken_waits g.P.Port.steps items output c.args.port.now c.args.idling.now c.args.batch.now item c.in-Later.tagged h is c.in-Later.ensures.1 in
    let here = subst (λ (waiting : List Tagged). HasTaken g.P.Port.steps first from (items ++ item ∷ []) output c.args.port.now c.args.idling.now waiting) (sym c.in-Ok-push.ensures.ok) has_taken in
    ([], subst (λ (t : List ℕ). HasTaken g.P.Port.steps first from (items ++ item ∷ []) t c.args.port.now c.args.idling.now c.push.new.self) (sym (append-nil output)) here, sym (append-nil c.args.text.now.items))

pub returns-in-Err-clause-err : goal.returns-in-Err-clause-err
returns-in-Err-clause-err g c first from items output h =
    ([], taken_unasked g.P.Port.steps items output c.args.port.now c.args.idling.now c.args.batch.now c.args.item.now h, sym (append-nil c.args.text.now.items))

-- what holds of a result in each of its cases
ok_map : {A E : Type 0} {P Q : A → Type 0} (result : Result A E) → IfOk result P → ((value : A) → P value → Q value) → IfOk result Q
ok_map (Ok value) h f = f value h
ok_map (Err fault) h f = tt

err_map : {A E : Type 0} {P Q : E → Type 0} (result : Result A E) → IfErr result P → ((fault : E) → P fault → Q fault) → IfErr result Q
err_map (Ok value) h f = tt
err_map (Err fault) h f = f fault h

pub returns-in-Ok-carry_out-clause-ok : goal.returns-in-Ok-carry_out-clause-ok
returns-in-Ok-carry_out-clause-ok g c first from items output h =
    let item = c.args.item.now in
    let asked = subst (λ (idling : Option (List ℕ)). IsRequest idling item c.in-Ok.request) c.as_ref.ensures.value c.in-Ok.ensures in
    let is = subst (λ (request : Request). IsRequest c.args.idling.now item request) (sym c.in-Now.ensures) asked in
    let t = c.in-Ok-carry_out.ensures.ok in
    let all = texts (answers_by (tags_of c.args.batch.now) t.0) in
    let new = c.take_request.new in
    let has_conversed = taken_answered g.P.Port.steps items output c.args.port.now c.args.idling.now c.args.batch.now t.0 tt c.carry_out.new.port h t.1 in
    ok_map c.take_request.result c.take_request.ensures.ok (λ (unprinted : Option UnprintedReply) handled.
    subst (λ (waiting : List Tagged). TakesItem g.P.Port.steps first from (items ++ item ∷ []) output unprinted c.args.text.now.items new.port new.idling waiting new.text.items) (sym t.3)
    (taken_request g.P.Port.steps first from items output all c.carry_out.new.port c.args.idling.now item c.in-Now.request unprinted c.args.text.now.items c.carry_out.new.text.items new.text.items new.port new.idling has_conversed is t.2 handled))

pub returns-in-Ok-carry_out-clause-err : goal.returns-in-Ok-carry_out-clause-err
returns-in-Ok-carry_out-clause-err g c first from items output h =
    let item = c.args.item.now in
    let asked = subst (λ (idling : Option (List ℕ)). IsRequest idling item c.in-Ok.request) c.as_ref.ensures.value c.in-Ok.ensures in
    let is = subst (λ (request : Request). IsRequest c.args.idling.now item request) (sym c.in-Now.ensures) asked in
    let t = c.in-Ok-carry_out.ensures.ok in
    let all = texts (answers_by (tags_of c.args.batch.now) t.0) in
    let has_conversed = taken_answered g.P.Port.steps items output c.args.port.now c.args.idling.now c.args.batch.now t.0 tt c.carry_out.new.port h t.1 in
    err_map c.take_request.result c.take_request.ensures.err (λ (ended : Ended) r.
    let stops : StopsAt g.P.Port.steps c.carry_out.new.port c.args.idling.now item ended r.0 c.take_request.new.port = elim r.1 [ inl unasked ↦ inl unasked | inr some ↦ inr (c.in-Now.request, is, some) ] in
    let left = taken_stops g.P.Port.steps items (output ++ all) c.carry_out.new.port c.args.idling.now item ended r.0 c.take_request.new.port has_conversed stops in (
      all ++ texts r.0,
      subst (λ (x : List ℕ). EndsOverItems g.P.Port.steps first from (items ++ item ∷ []) ended x c.take_request.new.port) (append_assoc output all (texts r.0)) left,
      r.2 ∙ ap (λ (x : List ℕ). x ++ texts r.0) t.2 ∙ append_assoc c.args.text.now.items all (texts r.0),
    ))
