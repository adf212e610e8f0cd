-- How the three parts of a step change a folder.
use Rattle.std.proofs.Common.{◌≡◌, not, ◌&&◌, ◌||◌, cond, None, sym, ap, ◌∙◌}
use Rattle.std.specs.Option.{option_or}
use Rattle.tags_clocks.specs.declared.id.OpId.{OpId}
use Rattle.crdt_ops.specs.declared.op.Op.{Op}
use Rattle.crdt_ops.specs.Sets.{tag_data_by, dated_text_from}
use Rattle.crdt_ops.specs.Tags.{FolderTag, MessageTag, adds, removes}
use Rattle.folder_state.specs.Contents.{Contents, effect_of}
use Rattle.uid_projection.specs.declared.folder_ahead.FolderAhead.{FolderAhead}
use Rattle.uid_projection.specs.FolderAhead.{IsAhead, IsOrderly, tag_data_ahead, folder_of, dated_texts_ahead, tags_ahead}

module _ (op : Op) (a b d e : FolderAhead) (ab : folder_of b ≡ folder_of a) (bd : folder_of d ≡ folder_of b) (de : folder_of e ≡ folder_of d) where
  pub stepped : ((i : OpId) → tags_ahead b i ≡ (not (removes (FolderTag (folder_of a) i) op) && tags_ahead a i))
      → ((i : OpId) → tag_data_ahead b i ≡ cond (removes (MessageTag (folder_of a) i) op) None (tag_data_ahead a i))
      → ((i : OpId) → dated_texts_ahead b i ≡ dated_texts_ahead a i)
      → ((i : OpId) → tags_ahead d i ≡ (adds (FolderTag (folder_of b) i) op || tags_ahead b i))
      → ((i : OpId) → tag_data_ahead d i ≡ cond (adds (MessageTag (folder_of b) i) op) (tag_data_by op.id op.kind) (tag_data_ahead b i))
      → ((i : OpId) → dated_texts_ahead d i ≡ dated_texts_ahead b i)
      → ((i : OpId) → tags_ahead e i ≡ tags_ahead d i)
      → ((i : OpId) → tag_data_ahead e i ≡ tag_data_ahead d i)
      → ((i : OpId) → dated_texts_ahead e i ≡ option_or (dated_text_from i op) (dated_texts_ahead d i))
      → IsOrderly e → (c : Contents) → IsAhead c a → IsAhead (effect_of c op) e
  stepped tags_out bodies_out dated_texts_out tags_in bodies_in dated_texts_in tags_on bodies_on dated_texts_on orderly c h =
      let of_b : folder_of b ≡ folder_of e = sym bd ∙ sym de in
      let of_a : folder_of a ≡ folder_of e = sym ab ∙ of_b in
      record {
        orderly = orderly;
        tags = λ i.
            let was : tags_ahead a i ≡ c.tags (folder_of e) i = h.tags i ∙ ap (λ f. c.tags f i) of_a in
            let out : tags_ahead b i ≡ (not (removes (FolderTag (folder_of e) i) op) && c.tags (folder_of e) i) = tags_out i ∙ (λ k. not (removes (FolderTag (of_a k) i) op) && was k) in
            tags_on i ∙ tags_in i ∙ (λ k. adds (FolderTag (of_b k) i) op || out k);
        tag_data = λ i.
            let was : tag_data_ahead a i ≡ c.tag_data (folder_of e) i = h.tag_data i ∙ ap (λ f. c.tag_data f i) of_a in
            let out : tag_data_ahead b i ≡ cond (removes (MessageTag (folder_of e) i) op) None (c.tag_data (folder_of e) i) = bodies_out i ∙ (λ k. cond (removes (MessageTag (of_a k) i) op) None (was k)) in
            bodies_on i ∙ bodies_in i ∙ (λ k. cond (adds (MessageTag (of_b k) i) op) (tag_data_by op.id op.kind) (out k));
        dated_texts = λ i. dated_texts_on i ∙ ap (option_or (dated_text_from i op)) (dated_texts_in i ∙ dated_texts_out i ∙ h.dated_texts i);
      }
