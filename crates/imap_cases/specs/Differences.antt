-- Notes of exactly the messages that differ between a view and a listing (RFC 9051, section 7.5).

use Rattle.std.specs.Prelude.{List, [], ◌∷◌, ◌++◌, Option, Some, None, if◌then◌else◌}
use Rattle.mailbox_rows.specs.ListedMessage.{ListedMessage}
use Rattle.mailbox_rows.specs.RowViews.{row_of}
use Rattle.session_view.specs.Views.{has_uid, same_flags}
use Rattle.session_view.specs.declared.notes.Note.{Note}
use Rattle.session_view.specs.declared.notes.Note.TheVariants.{New, Gone, Changed}
use Rattle.session_view.specs.declared.view_entry.ViewEntry.{ViewEntry}

-- The note of a view's message that is gone or has other flags in the listing.
abbrev pub note_by_row : ViewEntry → Option ListedMessage → List Note
note_by_row e None = Gone e.uid ∷ []
note_by_row e (Some row) = if same_flags e.flags row.flags then [] else Changed e.uid ∷ []

abbrev pub notes_of_entries : List ListedMessage → List ViewEntry → List Note
notes_of_entries rows [] = []
notes_of_entries rows (e ∷ es) = note_by_row e (row_of e.uid rows) ++ notes_of_entries rows es

-- The notes of the listing's messages that the view lacks.
abbrev pub notes_of_rows : List ViewEntry → List ListedMessage → List Note
notes_of_rows view [] = []
notes_of_rows view (row ∷ rows) =
    (if has_uid view row.uid then [] else New row.uid ∷ []) ++ notes_of_rows view rows
