use Rattle.std.proofs.Common.{◌≡◌, ◌∙◌, ◌+◌, ◌∷◌, [], ◌++◌, ℕ, List, false, length, ap, subst, refl, arith, rules}
use Rattle.std.proofs.lemmas.Grind.{common_steps}
use Rattle.mail_parts.specs.Cuttings.{is_single}
use Rattle.mail_parts.specs.Reading.{begun_part, IsBodySize}
use Rattle.mail_parts.proofs.CuttingLemmas.{body_cut, body_read_at, body_message, body_single, header_at, if_ok, multipart_closed, multipart_open, no_part_at, no_part_left, none_at, one_more_part, own_line_at, part_line_at, parts_begun, parts_ended, size_at, tree_at, tree_read, trees_at}
use Rattle.mail_parts.proofs.cutting.+parts.Goals as goal

pub read_body-returns-then-not-is_whole-clause-read : goal.read_body-returns-then-not-is_whole-clause-read
read_body-returns-then-not-is_whole-clause-read t c =
    body_cut c.args.boundaries.now.items c.args.start.place c.args.start.depth c.args.content.now c.args.is_whole c.args.text.now _ _ c.args.parts.now.items c.in-Multipart.is c.if-not-is_whole.true (c.requires.cut c.if-not-is_whole.true)

pub read_body-returns-in-Single-clause-read : goal.read_body-returns-in-Single-clause-read
read_body-returns-in-Single-clause-read t c =
    body_single c.args.boundaries.now.items c.args.start.place c.args.start.depth c.args.content.now c.args.is_whole c.args.text.now c.body_size.result c.args.parts.now.items (ap (λ k. is_single k c.args.is_whole) c.in-Single.is)
    (subst (λ (b : List (List ℕ)). IsBodySize b c.args.text.now c.body_size.result) c.deref.ensures.value c.body_size.ensures)

pub read_body-returns-in-Opaque-clause-read : goal.read_body-returns-in-Opaque-clause-read
read_body-returns-in-Opaque-clause-read t c =
    body_single c.args.boundaries.now.items c.args.start.place c.args.start.depth c.args.content.now c.args.is_whole c.args.text.now c.body_size-in-Opaque.result c.args.parts.now.items (ap (λ k. is_single k c.args.is_whole) c.in-Opaque.is)
    (subst (λ (b : List (List ℕ)). IsBodySize b c.args.text.now c.body_size-in-Opaque.result) c.deref-in-Opaque.ensures.value c.body_size-in-Opaque.ensures)

pub read_body-returns-in-Message-clause-read : goal.read_body-returns-in-Message-clause-read
read_body-returns-in-Message-clause-read t c =
    if_ok c.read_part.result _ _ (λ size r. body_message c.args.boundaries.now.items c.args.start.place c.args.start.depth c.args.content.now c.args.is_whole c.args.text.now size c.args.parts.now.items c.read_part.new.parts.items c.in-Message.is
    (tree_at c.args.boundaries.now.items c.args.boundaries.now.items c.below.result.place c.args.start.place c.below.result.depth (c.args.start.depth + 1) c.below.result.in_digest false c.args.text.now size c.args.parts.now.items
    c.read_part.new.parts.items r refl c.below.ensures.place c.below.ensures.depth c.below.ensures.in_digest)) c.read_part.ensures.read

pub read_multipart-returns-then-line-eq0-clause-read : goal.read_multipart-returns-then-line-eq0-clause-read
read_multipart-returns-then-line-eq0-clause-read t c depth e =
    let pushed : c.push.new.self.items ≡ c.args.boundaries.now.items ++ c.args.own.now ∷ [] = c.in_ok-push.ensures.items ∙ ap (λ x. c.args.boundaries.now.items ++ x ∷ []) c.in_ok-copy.ensures in
    let l = own_line_at c.deref.result.now (c.args.boundaries.now.items ++ c.args.own.now ∷ []) c.as_bytes.result.now c.args.own.now c.split_at.result.1.now c.own_delimiter_size-line.result c.own_delimiter_size-line.ensures
    (c.deref.ensures.value ∙ c.in_ok-size.ensures.boundaries ∙ pushed) c.as_bytes.ensures in
    multipart_open c.args.boundaries.now.items c.args.own.now c.args.start.place depth c.args.start.in_digest c.args.text.now c.in_ok-size.size c.args.parts.now.items c.read_parts.new.parts.items
    (trees_at c.push.new.self.items (c.args.boundaries.now.items ++ c.args.own.now ∷ []) c.args.own.now c.args.start.place c.args.start.depth (depth + 1) c.args.start.in_digest c.args.text.now c.in_ok-size.size c.args.parts.now.items
    c.read_parts.new.parts.items c.in_ok-size.ensures.read pushed e)
    (none_at (c.args.boundaries.now.items ++ c.args.own.now ∷ []) c.args.own.now c.split_at.result.1.now _ (l.none c.if-line-eq0.true) c.split_at.ensures.back)

pub read_multipart-returns-clause-read : goal.read_multipart-returns-clause-read
read_multipart-returns-clause-read t c depth e =
    let pushed : c.push.new.self.items ≡ c.args.boundaries.now.items ++ c.args.own.now ∷ [] = c.in_ok-push.ensures.items ∙ ap (λ x. c.args.boundaries.now.items ++ x ∷ []) c.in_ok-copy.ensures in
    let l = own_line_at c.deref.result.now (c.args.boundaries.now.items ++ c.args.own.now ∷ []) c.as_bytes.result.now c.args.own.now c.split_at.result.1.now c.own_delimiter_size-line.result c.own_delimiter_size-line.ensures
    (c.deref.ensures.value ∙ c.in_ok-size.ensures.boundaries ∙ pushed) c.as_bytes.ensures in
    let n = c.if-line-eq0.false in
    let popped : c.pop.new.self.items ≡ c.args.boundaries.now.items = first_of (search rules, grind (arith, common_steps)) in
    multipart_closed c.args.boundaries.now.items c.args.own.now c.args.start.place depth c.args.start.in_digest c.args.text.now c.split_at.result.1.now c.split_at-2.result.1.now c.in_ok-size.size c.own_delimiter_size-line.result
    c.body_size.result c.args.parts.now.items c.read_parts.new.parts.items
    (trees_at c.push.new.self.items (c.args.boundaries.now.items ++ c.args.own.now ∷ []) c.args.own.now c.args.start.place c.args.start.depth (depth + 1) c.args.start.in_digest c.args.text.now c.in_ok-size.size c.args.parts.now.items
    c.read_parts.new.parts.items c.in_ok-size.ensures.read pushed e)
    c.split_at.ensures.back c.split_at-2.ensures.back l.within (l.some (omega arith)) (l.lines (omega arith))
    (size_at c.deref-2.result.now c.args.boundaries.now.items c.split_at-2.result.1.now c.body_size.result c.body_size.ensures (c.deref-2.ensures.value ∙ popped))

pub read_part-returns-clause-read : goal.read_part-returns-clause-read
read_part-returns-clause-read t c =
    let counted : length c.args.parts.now.items ≡ c.len-index.result = first_of (search rules, grind (arith, common_steps)) in
    let pushed : c.push.new.self.items
    ≡ c.args.parts.now.items ++ begun_part c.args.start.place c.args.start.depth c.args.start.in_digest c.in_ok-content.content c.header_of-header.result.size ∷ [] =
    c.in_ok-push.ensures.items ∙ ap (λ x. c.args.parts.now.items ++ x ∷ []) c.begun_part.ensures in
    tree_read c.args.boundaries.now.items c.args.start.place c.args.start.depth c.args.start.in_digest c.args.text.now c.split_at.result.0.now c.split_at.result.1.now c.header_of-header.result.size c.in_ok-size.size
    c.header_of-header.result.is_whole c.in_ok-content.content c.end_of-end.result _ c.args.parts.now.items c.read_body.new.parts.items c.end_part.new.parts.items
    (header_at c.deref.result.now c.args.boundaries.now.items c.args.text.now c.header_of-header.result.size c.header_of-header.result.is_whole c.header_of-header.ensures c.deref.ensures.value)
    c.split_at.ensures.front c.split_at.ensures.back c.in_ok-content.ensures
    (body_read_at c.args.boundaries.now.items (c.args.start.place + c.header_of-header.result.size) c.args.start.depth c.in_ok-content.content c.header_of-header.result.is_whole c.split_at.result.1.now c.in_ok-size.size
    c.push.new.self.items _ c.read_body.new.parts.items c.in_ok-size.ensures.read pushed)
    refl
    c.end_of-end.ensures
    (λ front back part l e. c.end_part.ensures front back part (l ∙ counted) e)

pub read_parts-returns-then-line-eq0-clause-read : goal.read_parts-returns-then-line-eq0-clause-read
read_parts-returns-then-line-eq0-clause-read t c =
    let counted : c.len.result ≡ length c.loop.parts.items = first_of (search rules, grind (arith, common_steps)) in
    let l = part_line_at c.deref-in-loop.result.now c.args.boundaries.now.items c.as_bytes.result.now c.args.own.now c.len.result (length c.loop.parts.items) c.split_at.result.1.now c.part_delimiter_size-line.result
    c.part_delimiter_size-line.ensures (c.deref-in-loop.ensures.value ∙ c.loop.invariant.same) c.as_bytes.ensures counted in
    parts_ended c.args.boundaries.now.items c.args.own.now c.args.start.place c.args.start.depth c.args.start.in_digest c.args.text.now c.body_size-size.result c.loop.size c.args.parts.now.items c.loop.parts.items
    (size_at c.deref.result.now c.args.boundaries.now.items c.args.text.now c.body_size-size.result c.body_size-size.ensures c.deref.ensures.value) c.loop.invariant.underway
    (no_part_at c.args.boundaries.now.items c.args.own.now (length c.loop.parts.items) c.split_at.result.1.now _ (l.none c.if-line-eq0.true) c.split_at.ensures.back)

pub read_parts-loop-preserved : goal.read_parts-loop-preserved
read_parts-loop-preserved t c =
    let counted : c.len.result ≡ length c.loop.parts.items = first_of (search rules, grind (arith, common_steps)) in
    let l = part_line_at c.deref-in-loop.result.now c.args.boundaries.now.items c.as_bytes.result.now c.args.own.now c.len.result (length c.loop.parts.items) c.split_at.result.1.now c.part_delimiter_size-line.result
    c.part_delimiter_size-line.ensures (c.deref-in-loop.ensures.value ∙ c.loop.invariant.same) c.as_bytes.ensures counted in
    let n = c.if-line-eq0.false in
    let f = c.loop.invariant.far in
    record {
      far = omega arith;
      same = c.in_ok-part_size.ensures.boundaries ∙ c.loop.invariant.same;
      underway = one_more_part c.args.boundaries.now.items c.args.own.now c.args.start.place c.args.start.depth c.args.start.in_digest c.args.text.now c.split_at.result.1.now c.split_at-in-loop.result.1.now c.body_size-size.result
          c.loop.size c.part_delimiter_size-line.result c.in_ok-part_size.part_size c.args.parts.now.items c.loop.parts.items c.read_part.new.parts.items c.loop.invariant.underway c.split_at.ensures.back
          c.split_at-in-loop.ensures.back l.within (l.some (omega arith)) (l.lines (omega arith))
          (tree_at c.loop.boundaries.items c.args.boundaries.now.items _ _ _ _ _ _ c.split_at-in-loop.result.1.now c.in_ok-part_size.part_size c.loop.parts.items c.read_part.new.parts.items c.in_ok-part_size.ensures.read
          c.loop.invariant.same refl refl refl);
    }

pub read_parts-loop-init : goal.read_parts-loop-init
read_parts-loop-init t c =
    record {
      far = omega arith;
      same = refl;
      underway = parts_begun c.args.boundaries.now.items c.args.own.now c.args.start.place c.args.start.depth c.args.start.in_digest c.args.text.now c.body_size-size.result c.args.parts.now.items
          (size_at c.deref.result.now c.args.boundaries.now.items c.args.text.now c.body_size-size.result c.body_size-size.ensures c.deref.ensures.value);
    }

pub read_parts-returns-clause-read : goal.read_parts-returns-clause-read
read_parts-returns-clause-read t c =
    let f = c.loop.invariant.far in
    parts_ended c.args.boundaries.now.items c.args.own.now c.args.start.place c.args.start.depth c.args.start.in_digest c.args.text.now c.body_size-size.result c.loop.size c.args.parts.now.items c.loop.parts.items
    (size_at c.deref.result.now c.args.boundaries.now.items c.args.text.now c.body_size-size.result c.body_size-size.ensures c.deref.ensures.value) c.loop.invariant.underway
    (no_part_left c.args.boundaries.now.items c.args.own.now (length c.loop.parts.items) c.args.text.now c.loop.size (omega arith))
