use Rattle.std.proofs.Common.{◌≡◌, true, false, cond, None, Some, sym, ap, subst, ◌∙◌, refl, inl, inr}
use Rattle.std.proofs.lemmas.Bool.{cases_Bool, false≢true}
use Rattle.imap_types.specs.DateTimeTests.{is_date_time}
use Rattle.imap_types.specs.DateTimes.{IsDateTime}
use Rattle.imap_types.proofs.DateTimeLemmas.{date_time_from_test, test_from_date_time}
use Rattle.imap_print.specs.Reading.{◌>>=◌}
use Rattle.imap_print.specs.ReadingAnswers.{date_at}
use Rattle.imap_print.proofs.ReadingLemmas.{octets_at-length}
use Rattle.imap_print.proofs.item_readers.date.Goals as goal

pub copy_from_slice-requires : goal.copy_from_slice-requires
copy_from_slice-requires c = sym (octets_at-length 28 c.args.bytes.now c.in_ok-front.front.now c.in_ok-front.rest.now c.in_ok-front.ensures)

pub returns-in-None : goal.returns-in-None
unfolding date_at
returns-in-None c =
    let front = c.in_ok-front.front.now in
    let test : is_date_time front ≡ false = elim (cases_Bool (is_date_time front)) [
      | inl t ↦ absurd (false≢true (c.in-None.ensures.exact.1 (subst IsDateTime (sym c.copy_from_slice.ensures.after) (date_time_from_test front t))))
      | inr f ↦ f
    ] in
    ap (λ o. o >>= λ date. cond (is_date_time date.0) (Some date) None) c.in_ok-front.ensures ∙ ap (λ b. cond b (Some (front, c.in_ok-front.rest.now)) None) test

pub returns-in-Some : goal.returns-in-Some
unfolding date_at
returns-in-Some c =
    let front = c.in_ok-front.front.now in
    let is : IsDateTime c.copy_from_slice.new.self = c.in-Some.ensures.exact.0 refl in
    let test : is_date_time front ≡ true = test_from_date_time front (subst IsDateTime c.copy_from_slice.ensures.after is) in
    ap (λ o. o >>= λ date. cond (is_date_time date.0) (Some date) None) c.in_ok-front.ensures ∙ ap (λ b. cond b (Some (front, c.in_ok-front.rest.now)) None) test
    ∙ (λ k. Some ((sym c.copy_from_slice.ensures.after ∙ sym c.in-Some.ensures.value) k, c.in_ok-front.rest.now))
