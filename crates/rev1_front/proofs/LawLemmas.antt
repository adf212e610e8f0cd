use Rattle.std.proofs.Common.{◌≡◌, ◌⊎◌, inl, inr, ℕ, List, [], ◌∷◌, ◌++◌, flat_map, ap, ◌∙◌, None}
use Rattle.imap_grammar.proofs.FrameLaws.{has_tag as tag_sound, read_complete}
use Rattle.imap_syntax.specs.Commands.{IsSpelled}
use Rattle.imap_syntax.specs.Faults.{HasTag}
use Rattle.imap_syntax.specs.declared.command.Tagged.{Tagged}
use Rattle.imap_answers.specs.AnswerText.{text_of_answer}
use Rattle.imap_answers.specs.declared.answer.Answer.{Answer}
use Rattle.imap_answers.specs.declared.answer.Answer.TheVariants as answers
use Rattle.imap_answers.specs.declared.fixed_words.Refusal.{Refusal}
use Rattle.imap_answers.specs.declared.fixed_words.Refusal.TheVariants as refusals
use Rattle.rev1_front.specs.ClientFrames.{IsCommandFrame, IsReason}
use Rattle.rev1_front.specs.Showing.{EachIsShown, IsNamed, IsPlain}
use Rattle.rev1_front.specs.declared.form.Form.TheVariants.{Plain}
use Rattle.rev1_front.specs.declared.session.Mode.TheVariants.{Rev2}
use Rattle.rev1_front.specs.declared.taken.Taken.{Taken}
use Rattle.rev1_front.specs.declared.taken.Taken.TheVariants as taken

-- a name is shown as it is
named_rev2 : (answer named : Answer) → IsNamed Rev2 answer named → named ≡ answer
named_rev2 (answers.Greeting login) named h = h
named_rev2 (answers.Continue awaited) named h = h
named_rev2 answers.Capability named h = h
named_rev2 (answers.Enabled extensions) named h = h
named_rev2 answers.Namespace named h = h
named_rev2 (answers.Flags flags) named h = h
named_rev2 (answers.Exists count) named h = h
named_rev2 (answers.Expunge number) named h = h
named_rev2 (answers.List name state subscribed) named h = h.2 ∙ ap (λ n. answers.List n state subscribed) h.1
named_rev2 (answers.UntaggedOk notice) named h = h
named_rev2 (answers.Status name items) named h = h.2 ∙ ap (λ n. answers.Status n items) h.1
named_rev2 (answers.Search tag by_uid results) named h = h
named_rev2 (answers.Fetch number items) named h = h
named_rev2 (answers.Bye reason) named h = h
named_rev2 answers.NoTag named h = h
named_rev2 answers.LiteralTooLong named h = h
named_rev2 (answers.Completed tag code command) named h = h
named_rev2 (answers.Refused tag reason) named h = h

-- answers are shown as they are
pub each_rev2 : (given : List Answer) (text : List ℕ) → EachIsShown Rev2 Plain given text → text ≡ flat_map text_of_answer given
each_rev2 [] text e = e
each_rev2 (answer ∷ given) text e =
    let plain : IsPlain Rev2 answer e.0 = e.2 in
    e.4 ∙ ap (λ first. first ++ e.1) (plain.2 ∙ ap text_of_answer (named_rev2 answer plain.0 plain.1))
    ∙ ap (λ rest. text_of_answer answer ++ rest) (each_rev2 given e.1 e.3)

-- a frame that spells a command has a tag
has_tag : (frame : List ℕ) (tagged : Tagged) → IsSpelled tagged frame → HasTag frame
has_tag frame tagged s =
    let r = read_complete frame tagged s in
    (tagged.tag, r.rest, tag_sound frame (tagged.tag, r.rest) r.tag)

-- a spelled frame is refused only without memory
refused_rev2 : (frame : List ℕ) (tagged : Tagged) (it : Taken) (tag : List ℕ) → IsSpelled tagged frame → (reason : Refusal) → IsReason Rev2 None frame reason → it ≡ taken.Answer (answers.Refused tag reason)
    → (it ≡ taken.Command tagged Plain) ⊎ ((tag : List ℕ) × (it ≡ taken.Answer (answers.Refused tag refusals.NoMemory)))
refused_rev2 frame tagged it tag s refusals.NoSuchMailbox h e = absurd h
refused_rev2 frame tagged it tag s refusals.NoDestination h e = absurd h
refused_rev2 frame tagged it tag s refusals.MailboxExists h e = absurd h
refused_rev2 frame tagged it tag s refusals.NameNotAllowed h e = absurd h
refused_rev2 frame tagged it tag s refusals.InboxStays h e = absurd h
refused_rev2 frame tagged it tag s refusals.NotInProfile h e = absurd (h.0.0 tagged s)
refused_rev2 frame tagged it tag s refusals.LoginFailed h e = absurd h
refused_rev2 frame tagged it tag s refusals.ReadOnly h e = absurd h
refused_rev2 frame tagged it tag s refusals.TooManyKeywords h e = absurd h
refused_rev2 frame tagged it tag s refusals.TooManyVersions h e = absurd h
refused_rev2 frame tagged it tag s refusals.KeywordTooLong h e = absurd h
refused_rev2 frame tagged it tag s refusals.NumberUsedUp h e = absurd h
refused_rev2 frame tagged it tag s refusals.LiteralTooLong h e = absurd h
refused_rev2 frame tagged it tag s refusals.NoMemory h e = inr (tag, e)
refused_rev2 frame tagged it tag s refusals.NoStoreRoom h e = absurd h
refused_rev2 frame tagged it tag s refusals.UnknownCommand h e = absurd (h.0.0 tagged s)
refused_rev2 frame tagged it tag s refusals.BadSyntax h e = absurd (h.0.0 tagged s)
refused_rev2 frame tagged it tag s refusals.NotNow h e = absurd h
refused_rev2 frame tagged it tag s refusals.NoSuchMessage h e = absurd h
refused_rev2 frame tagged it tag s refusals.DoneExpected h e = absurd h

-- a spelled frame is its own command
pub frame_rev2 : ((this that : Tagged) (frame : List ℕ) → IsSpelled this frame → IsSpelled that frame → this ≡ that) → (frame : List ℕ) (tagged : Tagged) (it : Taken) → IsSpelled tagged frame
    → IsCommandFrame Rev2 None frame it → (it ≡ taken.Command tagged Plain) ⊎ ((tag : List ℕ) × (it ≡ taken.Answer (answers.Refused tag refusals.NoMemory)))
frame_rev2 one frame tagged it s (inl p) =
    inl (p.4 ∙ ap (λ f. taken.Command p.0 f) p.3 ∙ ap (λ t. taken.Command t Plain) (one p.0 tagged frame p.2 s))
frame_rev2 one frame tagged it s (inr (inl u)) = absurd (u.0 tagged s)
frame_rev2 one frame tagged it s (inr (inr (inl n))) = absurd (n.0 (has_tag frame tagged s))
frame_rev2 one frame tagged it s (inr (inr (inr r))) = refused_rev2 frame tagged it r.0 s r.2 r.4 r.5
