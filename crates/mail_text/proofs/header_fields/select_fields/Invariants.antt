use Rattle.std.proofs.Common.{◌≡◌, ◌+◌, ◌≤◌, ◌++◌, length}
use Rattle.mail_text.specs.HeaderFields.{is_requested_field, fields_of}
use Rattle.mail_text.specs.SelectedLines.{selected_lines}
use Rattle.mail_text.specs.TextLines.{lines_of}
use Rattle.mail_text.proofs.header_fields.select_fields.Given as goal

abbrev pub invariant-loop : goal.invariant-loop
invariant-loop l =
    (l.counter + length l.rest ≤ length l.text)
    × (l.output.items ++ selected_lines (is_requested_field l.named l.names) l.selected (lines_of l.rest) ≡ fields_of l.named l.names l.text)
