use Rattle.std.proofs.Common.{◌≡◌, ◌+◌, ◌-◌, false, eqb, length, ◌∷◌, [], ◌++◌, Some, sym, ap, ◌∙◌}
use Rattle.imap_print.specs.declared.scanner.ScanClass.TheVariants.{Atom}
use Rattle.imap_print.specs.Reading.{after, is_in, lead, span, with_prefix, words_at}
use Rattle.imap_print.proofs.ReadingLemmas.{words_at-step}
use Rattle.imap_print.proofs.scanner.words.Goals as goal

pub loop-index-preserved : goal.loop-index-preserved
loop-index-preserved c =
    let rest = c.loop-index.rest.now in
    let parsed = c.loop-index.parsed.items in
    let unread = c.in-Some.unread.now in
    let word = (span (is_in Atom) unread).0 in
    let items : c.push.new.self.items ≡ parsed ++ word ∷ [] = c.in_ok-push.ensures.items ∙ ap (λ w. parsed ++ w ∷ []) (c.in_ok-from_slice.ensures ∙ c.span.ensures.front) in
    let some : after (lead c.loop-index.none_yet []) rest ≡ Some unread = ap (λ p. after p rest) (sym c.lead.ensures) ∙ sym c.in-Some.ensures in
    let filled : eqb (length word) 0 ≡ false = ap (λ w. eqb (length w) 0) (sym c.span.ensures.front) ∙ sym c.is_empty.ensures ∙ c.if-is_empty.false in
    ap (λ f. with_prefix f (words_at (c.args.count - (c.loop-index._index + 1)) false c.span.result.1.now)) items
    ∙ ap (λ r. with_prefix (parsed ++ word ∷ []) (words_at (c.args.count - (c.loop-index._index + 1)) false r)) c.span.ensures.rest
    ∙ sym (words_at-step c.loop-index._index c.args.count c.loop-index.none_yet parsed rest unread c.loop-index-test.true some filled) ∙ c.loop-index.invariant
