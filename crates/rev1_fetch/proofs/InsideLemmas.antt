-- Sections of the whole message beside those of the profile.
use Rattle.std.proofs.Common.{◌≡◌, ℕ, Bool, true, false, List, [], ◌∷◌, ◌++◌, codes, map, Option, Some, None, refl, sym, ap, ◌∙◌, append_assoc}
use Rattle.imap_types.specs.declared.section.Section.{Section}
use Rattle.imap_types.specs.declared.section.Section.TheVariants as sections
use Rattle.imap_syntax.specs.declared.fetch.FetchItem.TheVariants.{Body}
use Rattle.imap_syntax.specs.declared.fetch.Partial.{Partial}
use Rattle.imap_answers.specs.AnswerText.{body_text, origin_text, section_text}
use Rattle.imap_answers.specs.Strings.{literal_text}
use Rattle.imap_query.specs.FetchCommand.{partial_octets, section_of, section_part}
use Rattle.imap_query.specs.FetchCommand.{origin_of as inner_origin}
use Rattle.mail_parts.specs.declared.part.Part.{Part}
use Rattle.rev1_fetch.proofs.HeaderLemmas.{fields_same}
use Rattle.rev1_fetch.specs.ShownItems.{in_range, item_text, message_region, origin_of, part_section, selected}
use Rattle.rev1_fetch.specs.declared.text_item.TextItem.TheVariants.{Section as SectionItem}

region_is : (section : Section) (message : List ℕ) → selected section (message_region section message) ≡ section_of section message
region_is sections.Whole message = refl
region_is sections.Header message = refl
region_is sections.Text message = refl
region_is (sections.Fields names) message = fields_same true names message
region_is (sections.FieldsNot names) message = fields_same false names message

range_is : (partial : Option Partial) (octets : List ℕ) → in_range partial octets ≡ partial_octets partial octets
range_is None octets = refl
range_is (Some range) octets = refl

origin_is : (partial : Option Partial) → origin_of partial ≡ inner_origin partial
origin_is None = refl
origin_is (Some range) = refl

joined : (name origin octets : List ℕ) → (codes "BODY[" ++ (name ++ (codes "]" ++ origin))) ++ (codes " " ++ octets) ≡ codes "BODY[" ++ name ++ codes "]" ++ origin ++ codes " " ++ octets
joined name origin octets =
    ap (λ t. t ++ (codes " " ++ octets)) (sym (append_assoc (codes "BODY[" ++ name) (codes "]") origin ∙ append_assoc (codes "BODY[") name (codes "]" ++ origin)))
    ∙ sym (append_assoc (codes "BODY[" ++ name ++ codes "]" ++ origin) (codes " ") octets)

pub section_inside : (section : Section) (partial : Option Partial) (peek : Bool) (message : List ℕ) (parts : List Part) → item_text message parts (SectionItem (part_section [] false section partial)) ∷ [] ≡ map body_text (section_part message (Body peek section partial))
section_inside section partial peek message parts =
    let octets : List ℕ = in_range partial (selected section (message_region section message)) in
    let same : octets ≡ partial_octets partial (section_of section message) = range_is partial (selected section (message_region section message)) ∙ ap (partial_octets partial) (region_is section message) in
    ap (λ t. t ∷ [])
    (joined (section_text section) (origin_text (origin_of partial)) (literal_text octets)
    ∙ ap (λ o. codes "BODY[" ++ section_text section ++ codes "]" ++ origin_text o ++ codes " " ++ literal_text octets) (origin_is partial)
    ∙ ap (λ o. codes "BODY[" ++ section_text section ++ codes "]" ++ origin_text (inner_origin partial) ++ codes " " ++ literal_text o) same)
