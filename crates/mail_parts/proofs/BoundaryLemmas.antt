use Rattle.std.proofs.Common.{◌≡◌, ℕ, Bool, ◌==◌, List, [], ◌∷◌, length, codes, cond, ap, ◌∙◌, refl, Some}
use Rattle.mail_fields.proofs.WrittenLemmas.{written_again}
use Rattle.mail_fields.specs.Written.{IsToken, written_value}
use Rattle.mail_parts.specs.ContentTypes.{IsBoundary, boundary_of, boundary_parameter, content_of_media, content_of_type, content_of_value, first_boundary, is_same_word}
use Rattle.mail_parts.specs.declared.content.Content.TheVariants.{Single, Multipart}

pub boundary_read : (minor boundary : List ℕ) (in_digest : Bool) → IsToken minor → IsBoundary boundary
    → content_of_value in_digest (Some (written_value (codes "multipart") minor (boundary_parameter boundary ∷ []))) ≡ Multipart boundary (is_same_word (codes "digest") minor)
boundary_read minor boundary in_digest m b =
    let t : IsToken (codes "multipart") = record { octets = refl; some = refl } in
    let n : IsToken (codes "boundary") = record { octets = refl; some = refl } in
    let is : boundary_of (boundary_parameter boundary) ≡ boundary = b.has_no_end_blanks in
    let first : first_boundary (boundary_parameter boundary ∷ []) ≡ boundary = (λ i. cond (length (is i) == 0) [] (is i)) ∙ (λ i. cond (b.some i) [] boundary) in
    ap (content_of_media in_digest) (written_again (codes "multipart") minor (boundary_parameter boundary ∷ []) t m (n, b.has_no_line_ends, tt))
    ∙ ap (content_of_type (codes "multipart") minor) first
    ∙ (λ i. cond (b.some i) Single (Multipart boundary (is_same_word (codes "digest") minor)))
