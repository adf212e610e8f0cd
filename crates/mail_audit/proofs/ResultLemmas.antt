use Rattle.std.proofs.Common.{◌≡◌, ◌↔◌, ℕ, List, [], ◌∷◌, ◌++◌, Option, Some, None, sym, ap, ◌∙◌}
use Rattle.std.proofs.lemmas.List.{append_cancel_right}
use Rattle.std.specs.Prelude.{IfSome}
use Rattle.tags_clocks.specs.declared.id.OpId.{OpId}
use Rattle.text_fields.proofs.FieldLemmas.{id_sound, replica_sound}
use Rattle.text_fields.specs.Fields.{IsId, IsReplica}
use Rattle.text_fields.specs.FieldReading.{id_at, replica_at}

pub id_in_range : (text : List ℕ) (parsed : Option OpId) → parsed ≡ id_at text → IfSome parsed IsId
id_in_range text None e = tt
id_in_range text (Some id) e = (id_sound text id (sym e)).0

pub replica_in_range : (text : List ℕ) (parsed : Option ℕ) → parsed ≡ replica_at text → IfSome parsed IsReplica
replica_in_range text None e = tt
replica_in_range text (Some replica) e = (replica_sound text replica (sym e)).0

-- a text equals the line with LF exactly when the text without its LF equals the line
pub outcome_text_iff : (line reported text whole : List ℕ) → text ≡ reported ++ 10 ∷ [] → whole ≡ line ++ 10 ∷ [] → (text ≡ whole) ↔ (line ≡ reported)
outcome_text_iff line reported text whole a b = (
  λ e. append_cancel_right line reported (10 ∷ []) (sym b ∙ sym e ∙ a),
  λ e. a ∙ ap (λ (xs : List ℕ). xs ++ 10 ∷ []) (sym e) ∙ sym b,
)
