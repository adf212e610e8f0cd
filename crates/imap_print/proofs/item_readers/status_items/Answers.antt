use Rattle.std.proofs.Common.{◌∙◌, ap, codes}
use Rattle.imap_print.specs.Reading.{item_at}
use Rattle.imap_print.specs.ReadingAnswers.{small_option, status_items_at}
use Rattle.imap_print.proofs.item_readers.status_items.Goals as goal

pub returns-clause-items : goal.returns-clause-items
unfolding status_items_at
returns-clause-items c =
    let number1 = c.item-messages.ensures.number in
    let still1 = c.item-messages.ensures.none_yet in
    let rest1 = c.item-messages.ensures.rest in
    let number2 = c.item-uidnext.ensures.number ∙ (λ k. (item_at (still1 k) (codes "UIDNEXT ") (rest1 k)).0) in
    let still2 = c.item-uidnext.ensures.none_yet ∙ (λ k. (item_at (still1 k) (codes "UIDNEXT ") (rest1 k)).1) in
    let rest2 = c.item-uidnext.ensures.rest ∙ (λ k. (item_at (still1 k) (codes "UIDNEXT ") (rest1 k)).2) in
    let number3 = c.item-uidvalidity.ensures.number ∙ (λ k. (item_at (still2 k) (codes "UIDVALIDITY ") (rest2 k)).0) in
    let still3 = c.item-uidvalidity.ensures.none_yet ∙ (λ k. (item_at (still2 k) (codes "UIDVALIDITY ") (rest2 k)).1) in
    let rest3 = c.item-uidvalidity.ensures.rest ∙ (λ k. (item_at (still2 k) (codes "UIDVALIDITY ") (rest2 k)).2) in
    let number4 = c.item-unseen.ensures.number ∙ (λ k. (item_at (still3 k) (codes "UNSEEN ") (rest3 k)).0) in
    let still4 = c.item-unseen.ensures.none_yet ∙ (λ k. (item_at (still3 k) (codes "UNSEEN ") (rest3 k)).1) in
    let rest4 = c.item-unseen.ensures.rest ∙ (λ k. (item_at (still3 k) (codes "UNSEEN ") (rest3 k)).2) in
    let number5 = c.item-deleted.ensures.number ∙ (λ k. (item_at (still4 k) (codes "DELETED ") (rest4 k)).0) in
    let still5 = c.item-deleted.ensures.none_yet ∙ (λ k. (item_at (still4 k) (codes "DELETED ") (rest4 k)).1) in
    let rest5 = c.item-deleted.ensures.rest ∙ (λ k. (item_at (still4 k) (codes "DELETED ") (rest4 k)).2) in
    let number6 = c.item-size.ensures.number ∙ (λ k. (item_at (still5 k) (codes "SIZE ") (rest5 k)).0) in
    let still6 = c.item-size.ensures.none_yet ∙ (λ k. (item_at (still5 k) (codes "SIZE ") (rest5 k)).1) in
    let rest6 = c.item-size.ensures.rest ∙ (λ k. (item_at (still5 k) (codes "SIZE ") (rest5 k)).2) in
    let number7 = c.item-highest_modseq.ensures.number ∙ (λ k. (item_at (still6 k) (codes "HIGHESTMODSEQ ") (rest6 k)).0) in
    let rest7 = c.item-highest_modseq.ensures.rest ∙ (λ k. (item_at (still6 k) (codes "HIGHESTMODSEQ ") (rest6 k)).2) in
    λ k. record {
      messages = (c.narrow.ensures ∙ ap small_option number1) k;
      uidnext = (c.narrow-2.ensures ∙ ap small_option number2) k;
      uidvalidity = (c.narrow-3.ensures ∙ ap small_option number3) k;
      unseen = (c.narrow-4.ensures ∙ ap small_option number4) k;
      deleted = (c.narrow-5.ensures ∙ ap small_option number5) k;
      size = number6 k;
      highest_modseq = number7 k;
    }

pub returns-clause-rest : goal.returns-clause-rest
unfolding status_items_at
returns-clause-rest c =
    let number1 = c.item-messages.ensures.number in
    let still1 = c.item-messages.ensures.none_yet in
    let rest1 = c.item-messages.ensures.rest in
    let number2 = c.item-uidnext.ensures.number ∙ (λ k. (item_at (still1 k) (codes "UIDNEXT ") (rest1 k)).0) in
    let still2 = c.item-uidnext.ensures.none_yet ∙ (λ k. (item_at (still1 k) (codes "UIDNEXT ") (rest1 k)).1) in
    let rest2 = c.item-uidnext.ensures.rest ∙ (λ k. (item_at (still1 k) (codes "UIDNEXT ") (rest1 k)).2) in
    let number3 = c.item-uidvalidity.ensures.number ∙ (λ k. (item_at (still2 k) (codes "UIDVALIDITY ") (rest2 k)).0) in
    let still3 = c.item-uidvalidity.ensures.none_yet ∙ (λ k. (item_at (still2 k) (codes "UIDVALIDITY ") (rest2 k)).1) in
    let rest3 = c.item-uidvalidity.ensures.rest ∙ (λ k. (item_at (still2 k) (codes "UIDVALIDITY ") (rest2 k)).2) in
    let number4 = c.item-unseen.ensures.number ∙ (λ k. (item_at (still3 k) (codes "UNSEEN ") (rest3 k)).0) in
    let still4 = c.item-unseen.ensures.none_yet ∙ (λ k. (item_at (still3 k) (codes "UNSEEN ") (rest3 k)).1) in
    let rest4 = c.item-unseen.ensures.rest ∙ (λ k. (item_at (still3 k) (codes "UNSEEN ") (rest3 k)).2) in
    let number5 = c.item-deleted.ensures.number ∙ (λ k. (item_at (still4 k) (codes "DELETED ") (rest4 k)).0) in
    let still5 = c.item-deleted.ensures.none_yet ∙ (λ k. (item_at (still4 k) (codes "DELETED ") (rest4 k)).1) in
    let rest5 = c.item-deleted.ensures.rest ∙ (λ k. (item_at (still4 k) (codes "DELETED ") (rest4 k)).2) in
    let number6 = c.item-size.ensures.number ∙ (λ k. (item_at (still5 k) (codes "SIZE ") (rest5 k)).0) in
    let still6 = c.item-size.ensures.none_yet ∙ (λ k. (item_at (still5 k) (codes "SIZE ") (rest5 k)).1) in
    let rest6 = c.item-size.ensures.rest ∙ (λ k. (item_at (still5 k) (codes "SIZE ") (rest5 k)).2) in
    let number7 = c.item-highest_modseq.ensures.number ∙ (λ k. (item_at (still6 k) (codes "HIGHESTMODSEQ ") (rest6 k)).0) in
    let rest7 = c.item-highest_modseq.ensures.rest ∙ (λ k. (item_at (still6 k) (codes "HIGHESTMODSEQ ") (rest6 k)).2) in
    rest7
