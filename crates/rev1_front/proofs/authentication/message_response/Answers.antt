use Rattle.std.proofs.Common.{inl, inr, List, ℕ, sym, subst, ◌∙◌}
use Rattle.rev1_front.specs.Plain.{IsMessage}
use Rattle.rev1_front.proofs.PlainLemmas.{is_message, no_fields, no_password, no_user, one_field, third_nul}
use Rattle.rev1_front.proofs.SliceLemmas.{nil_is, nil_not, no_nul, nul_in, other_octets, same_octets}
use Rattle.rev1_front.proofs.authentication.message_response.Goals as goal
use Rattle.rev1_front.proofs.authentication.message_response.Goals.{then-is_empty-via-then-is_empty, then-is_empty-via-else-is_empty+then-is_empty-2, then-is_empty-via-else-is_empty+else-is_empty-2+then-contains, else-not-is_empty-via-then-not-is_empty+else-ne, else-not-is_empty-via-else-not-is_empty}

pub returns-in_default : goal.returns-in_default
returns-in_default c = no_fields c.args.message.now c.in_default.ensures

pub returns-in_default-cut_at_nul : goal.returns-in_default-cut_at_nul
returns-in_default-cut_at_nul c =
    let f = c.in-Some.ensures in
    one_field c.args.message.now c.in-Some.identity.now c.in-Some.rest.now f.0 f.1 c.in_default-cut_at_nul.ensures

pub returns-then-is_empty : goal.returns-then-is_empty
returns-then-is_empty c =
    let f = c.in-Some.ensures in
    let g = c.in-Some-cut_at_nul.ensures in
    let user = c.in-Some-cut_at_nul.user.now in
    let password = c.in-Some-cut_at_nul.password.now in
    elim c.then-is_empty.branch [
      | then-is_empty-via-then-is_empty w ↦ no_user c.args.message.now c.in-Some.identity.now c.in-Some.rest.now f.0 f.1 user password g.0 g.1 (nil_is user c.is_empty.result c.is_empty.ensures w.if-is_empty.true)
      | then-is_empty-via-else-is_empty+then-is_empty-2 w ↦
          no_password c.args.message.now c.in-Some.identity.now c.in-Some.rest.now f.0 f.1 user password g.0 g.1 (nil_is password w.is_empty-else-is_empty.result w.is_empty-else-is_empty.ensures w.if-is_empty-2.true)
      | then-is_empty-via-else-is_empty+else-is_empty-2+then-contains w ↦
          third_nul c.args.message.now c.in-Some.identity.now c.in-Some.rest.now f.0 f.1 user password g.0 g.1 (nul_in password (sym w.contains.ensures.value ∙ w.if-contains.true))
    ]

pub returns-then-ne : goal.returns-then-ne
returns-then-ne c =
    let f = c.in-Some.ensures in
    let g = c.in-Some-cut_at_nul.ensures in
    let identity = c.in-Some.identity.now in
    let user = c.in-Some-cut_at_nul.user.now in
    let password = c.in-Some-cut_at_nul.password.now in (
      identity,
      user,
      password,
      is_message c.args.message.now identity c.in-Some.rest.now f.0 f.1 user password g.0 g.1 (nil_not user c.is_empty.result c.is_empty.ensures c.if-is_empty.false)
          (nil_not password c.is_empty-else-is_empty.result c.is_empty-else-is_empty.ensures c.if-is_empty-2.false) (no_nul password (sym c.contains.ensures.value ∙ c.if-contains.false)),
      nil_not identity c.is_empty-2.result c.is_empty-2.ensures c.if-not-is_empty.true,
      other_octets identity user c.ne.result c.ne.ensures c.if-ne.true,
    )

pub returns : goal.returns
returns c =
    let f = c.in-Some.ensures in
    let g = c.in-Some-cut_at_nul.ensures in
    let identity = c.in-Some.identity.now in
    let user = c.in-Some-cut_at_nul.user.now in
    let password = c.in-Some-cut_at_nul.password.now in
    let message : IsMessage identity user password c.args.message.now =
    is_message c.args.message.now identity c.in-Some.rest.now f.0 f.1 user password g.0 g.1 (nil_not user c.is_empty.result c.is_empty.ensures c.if-is_empty.false)
    (nil_not password c.is_empty-else-is_empty.result c.is_empty-else-is_empty.ensures c.if-is_empty-2.false) (no_nul password (sym c.contains.ensures.value ∙ c.if-contains.false)) in (
      identity,
      subst (λ (u : List ℕ). IsMessage identity u c.in_ok-from_slice-2.field-0 c.args.message.now) (sym c.in_ok-from_slice.ensures)
          (subst (λ (p : List ℕ). IsMessage identity user p c.args.message.now) (sym c.in_ok-from_slice-2.ensures) message),
      elim c.else-not-is_empty.branch [
        | else-not-is_empty-via-then-not-is_empty+else-ne w ↦ inr (same_octets identity user w.ne.result w.ne.ensures w.if-ne.false ∙ sym c.in_ok-from_slice.ensures)
        | else-not-is_empty-via-else-not-is_empty w ↦ inl (nil_is identity c.is_empty-2.result c.is_empty-2.ensures w.if-not-is_empty.false)
      ],
    )
