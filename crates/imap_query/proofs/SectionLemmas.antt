-- FETCH without sections.
use Rattle.std.proofs.Common.{◌≡◌, ℕ, false, List, [], ◌∷◌, refl}
use Rattle.imap_syntax.specs.declared.fetch.FetchItem.{FetchItem}
use Rattle.imap_syntax.specs.declared.fetch.FetchItem.TheVariants as item
use Rattle.imap_query.specs.FetchCommand.{sections_of_items, asks_part}
use Rattle.imap_query.specs.declared.fetch_command.Part.TheVariants as part

pub no_sections : (text : List ℕ) (items : List FetchItem) → asks_part part.Section items ≡ false → [] ≡ sections_of_items text items
no_sections text [] h = refl
no_sections text (item.Uid ∷ items) h = no_sections text items h
no_sections text (item.Flags ∷ items) h = no_sections text items h
no_sections text (item.InternalDate ∷ items) h = no_sections text items h
no_sections text (item.Size ∷ items) h = no_sections text items h
no_sections text (item.ModSeq ∷ items) h = no_sections text items h
no_sections text (item.Body peek section partial ∷ items) h = cc
