use Rattle.std.proofs.Common.{◌≡◌, ◌≢◌, ℕ, ◌+◌, ◌-◌, ◌<◌, ◌≤◌, Bool, true, false, List, [], ◌∷◌, ◌++◌, length, Option, Some, None, Result, Ok, Err, ◌⊎◌, inl, inr, sym, refl, ap, ◌∙◌, subst, append_assoc, arith}
use Rattle.std.specs.List.{flat_map}
use Rattle.std.specs.Option.{option_to_list}
use Rattle.std.proofs.lemmas.Bool.{cases_Bool, cases_lt, cases_eq}
use Rattle.std.proofs.lemmas.List.{append-nil, length_push}
use Rattle.std.proofs.lemmas.List.Concat.{flat_map-append}
use Rattle.imap_lex.specs.declared.fault.FrameFaultKind.{FrameFaultKind}
use Rattle.imap_lex.specs.declared.fault.FrameFaultKind.TheVariants.{LineTooLong, LiteralTooLong, NulByte}
use Rattle.imap_lex.specs.declared.item.Item.{Item}
use Rattle.imap_lex.specs.declared.item.Item.TheVariants.{Frame, Refused}
use Rattle.imap_lex.specs.declared.limits.Limits.{Limits}
use Rattle.imap_lex.specs.Marks.{IsMarked}
use Rattle.imap_lex.specs.Frames.{AreCommands, AreFrames, ArePartsOfCommand, AreWithinLimits, FailsAt, HasNoCrlf, HasNoNul, IsFrame, IsLine, IsOpenLine, IsOpenLiteral, IsPart, IsRefusedFront, MakesFault, Part, announced_octets, octets_of, octets_outside, readies, ready}
use Rattle.imap_lex.specs.MarkReading.{line_mark}
use Rattle.imap_lex.specs.Framing.{Cut, FrameProgress, after_octet, cut_from, is_end, octets_so_far, ready_item, start, with_items}
use Rattle.imap_lex.proofs.CutLemmas.{cut_of-fault}
use Rattle.imap_lex.proofs.LineLemmas.{end_parts, ended_line, no_nul_both, open_line_append}
use Rattle.imap_lex.proofs.MarkLemmas.{mark_is, unmarked_is}
use Rattle.imap_lex.proofs.StepLemmas.{announced_of-push, at_line, at_literal, ended, ended_literal, ended_too_long, ended_whole, literal_whole, octets_of-push, outside_of-push, readies-push, ready_is, step_end, step_full, step_line, step_literal, step_nul}
use Rattle.imap_lex.proofs.RunLemmas.{run_step}

-- A rest, and the framer's progress after it.
abbrev pub HasProgress : Limits → List ℕ → List Item → FrameProgress → Type 0
HasProgress limits rest items p =
    ((o : IsOpenLine limits rest items) × (p ≡ at_line o.parts o.line))
    ⊎ ((o : IsOpenLiteral limits rest items) × (p ≡ at_literal o.parts o.line o.n o.literal))

-- A stream that gave these items, and the framer's progress after it.
pub record HasRead (limits : Limits) (stream : List ℕ) (items : List Item) (p : FrameProgress) : Type 0 where
  pub commands : List (List ℕ × List Item)
  pub last : List Item
  pub rest : List ℕ
  pub are_commands : AreCommands limits commands
  pub progress : HasProgress limits rest last p
  pub stream_is : stream ≡ flat_map (λ c. c.0) commands ++ rest
  pub items_are : items ≡ flat_map (λ c. c.1) commands ++ last

flat_map-push : {X A : Type 0} (f : X → List A) (xs : List X) (x : X) → flat_map f (xs ++ x ∷ []) ++ [] ≡ flat_map f xs ++ f x
flat_map-push f xs x = append-nil (flat_map f (xs ++ x ∷ [])) ∙ flat_map-append f xs (x ∷ []) ∙ ap (λ t. flat_map f xs ++ t) (append-nil (f x))

-- The effect of an octet on a rest: the rest continues, a command or a refused prefix is complete,
-- or there is a fault.
pub data Change (limits : Limits) (rest : List ℕ) (items : List Item) (p : FrameProgress) (octet : ℕ) : Type 0 where
  longer : (item : Option Item) (q : FrameProgress) → after_octet limits p octet ≡ Ok (item, q) → HasProgress limits (rest ++ octet ∷ []) (items ++ option_to_list item) q → Change limits rest items p octet
  finished : (item : Item) → after_octet limits p octet ≡ Ok (Some item, start) → IsFrame limits (rest ++ octet ∷ []) (items ++ item ∷ []) ⊎ IsRefusedFront limits (rest ++ octet ∷ []) (items ++ item ∷ []) → Change limits rest items p octet
  failed : (why : FrameFaultKind) → after_octet limits p octet ≡ Err why → MakesFault limits rest octet why → Change limits rest items p octet

empty_is_open : HasNoCrlf []
empty_is_open [] back e = cc
empty_is_open (x ∷ xs) back e = cc

parts_push : (parts : List Part) (part : Part) → ArePartsOfCommand parts → IsPart part → ArePartsOfCommand (parts ++ part ∷ [])
parts_push [] part h k = (k, tt)
parts_push (p ∷ ps) part h k = (h.0, parts_push ps part h.1 k)

-- One further octet of a line.
taken_more : (limits : Limits) (parts : List Part) (line : List ℕ) (octet : ℕ) → AreWithinLimits limits parts line → octet ≢ 0 → octets_outside parts + length line < limits.line → AreWithinLimits limits parts (line ++ octet ∷ [])
taken_more limits parts line octet h nul l =
    let n = length_push line octet in
    record {
      are_parts = h.are_parts;
      outside = omega arith;
      announced = h.announced;
      no_nul = subst HasNoNul (append_assoc (octets_of parts) line (octet ∷ [])) (no_nul_both (octets_of parts ++ line) (octet ∷ []) h.no_nul (nul, tt));
    }

-- One further part.
taken_part : (limits : Limits) (parts : List Part) (part : Part) → AreWithinLimits limits parts part.line → IsPart part → announced_octets parts + length part.literal ≤ limits.literals → HasNoNul part.literal → AreWithinLimits limits (parts ++ part ∷ []) []
taken_part limits parts part h is_part fits nul =
    let o = outside_of-push parts part in
    let a = announced_of-push parts part in
    let l = h.outside in
    let text : (octets_of parts ++ part.line) ++ part.literal ≡ octets_of (parts ++ part ∷ []) ++ [] =
    append_assoc (octets_of parts) part.line part.literal ∙ sym (octets_of-push parts part) ∙ sym (append-nil (octets_of (parts ++ part ∷ [])))
    in
    record {
      are_parts = parts_push parts part h.are_parts is_part;
      outside = omega arith;
      announced = omega arith;
      no_nul = subst HasNoNul text (no_nul_both (octets_of parts ++ part.line) part.literal h.no_nul nul);
    }

-- A line with a mark is followed by an open literal, or by an open line if the literal is complete.
literal_progress : (limits : Limits) (parts : List Part) (line : List ℕ) (n : ℕ) (plus : Bool) (literal rest : List ℕ) (items : List Item) → AreWithinLimits limits parts line → IsLine line → IsMarked n plus line → announced_octets parts + n ≤ limits.literals → length literal ≤ n → HasNoNul literal → rest ≡ octets_of parts ++ (line ++ literal) → items ≡ readies parts ++ ready plus → HasProgress limits rest items (at_literal parts line n literal)
literal_progress limits parts line n plus literal rest items taken ends mark fits l nul e f =
    elim (cases_lt (length literal) n) [
      | inl short ↦ inr (
        record { parts = parts; line = line; n = n; plus = plus; literal = literal; taken = taken; ends = ends; mark = mark; fits = fits; short = short; no_nul = nul; text_is = e; items_are = f },
        refl,
      )
      | inr long ↦
          let part : Part = record { line = line; plus = plus; literal = literal } in
          let same : length literal ≡ n = omega arith in
          let is_part : IsPart part = record { line = ends; mark = subst (λ (k : ℕ). IsMarked k plus line) (sym same) mark } in
          inl (
            record {
              parts = parts ++ part ∷ [];
              line = [];
              taken = taken_part limits parts part taken is_part (omega arith) nul;
              open_line = empty_is_open;
              text_is = e ∙ sym (octets_of-push parts part) ∙ sym (append-nil (octets_of (parts ++ part ∷ [])));
              items_are = f ∙ sym (readies-push parts part);
            },
            literal_whole parts part n same,
          )
    ]

-- LF after CR.
end_change : (limits : Limits) (rest : List ℕ) (items : List Item) (o : IsOpenLine limits rest items) → octets_outside o.parts + length o.line < limits.line → is_end o.line 10 ≡ true → (m : Option (ℕ × Bool)) → line_mark (o.line ++ 10 ∷ []) ≡ m → Change limits rest items (at_line o.parts o.line) 10
end_change limits rest items o l e m k =
    let s = end_parts o.line 10 e in
    let text : List ℕ = o.line ++ 10 ∷ [] in
    let ends : IsLine text = ended_line o.line s.0 o.open_line s.2 in
    let taken : AreWithinLimits limits o.parts text = taken_more limits o.parts o.line 10 o.taken (λ z. omega arith) l in
    let whole : rest ++ 10 ∷ [] ≡ octets_of o.parts ++ text = ap (λ t. t ++ 10 ∷ []) o.text_is ∙ append_assoc (octets_of o.parts) o.line (10 ∷ []) in
    let step : after_octet limits (at_line o.parts o.line) 10 ≡ ended limits o.parts text = step_end limits o.parts o.line l e in
    by_mark m k ends taken whole step where
      too_long : (n : ℕ) (plus : Bool) → IsMarked n plus (o.line ++ 10 ∷ []) → limits.literals - announced_octets o.parts < n → IsLine (o.line ++ 10 ∷ []) → AreWithinLimits limits o.parts (o.line ++ 10 ∷ []) → rest ++ 10 ∷ [] ≡ octets_of o.parts ++ (o.line ++ 10 ∷ []) → after_octet limits (at_line o.parts o.line) 10 ≡ ended limits o.parts (o.line ++ 10 ∷ []) → Change limits rest items (at_line o.parts o.line) 10
      too_long n true mark long ends taken whole step =
          let a = taken.announced in
          failed LiteralTooLong (step ∙ ended_too_long limits o.parts (o.line ++ 10 ∷ []) n true mark long)
          (refl, record { parts = o.parts; line = o.line; n = n; taken = taken; ends = ends; mark = mark; too_long = omega arith; rest_is = o.text_is })
      too_long n false mark long ends taken whole step =
          let a = taken.announced in
          finished (Refused (rest ++ 10 ∷ []))
          (step ∙ ended_too_long limits o.parts (o.line ++ 10 ∷ []) n false mark long ∙ ap (λ t. Ok (Some (Refused t), start)) (sym whole))
          (inr (record { parts = o.parts; line = o.line ++ 10 ∷ []; n = n; taken = taken; ends = ends; mark = mark; too_long = omega arith; text_is = whole; items_are = ap (λ t. t ++ Refused (rest ++ 10 ∷ []) ∷ []) o.items_are }))

      by_mark : (m : Option (ℕ × Bool)) → line_mark (o.line ++ 10 ∷ []) ≡ m → IsLine (o.line ++ 10 ∷ []) → AreWithinLimits limits o.parts (o.line ++ 10 ∷ []) → rest ++ 10 ∷ [] ≡ octets_of o.parts ++ (o.line ++ 10 ∷ []) → after_octet limits (at_line o.parts o.line) 10 ≡ ended limits o.parts (o.line ++ 10 ∷ []) → Change limits rest items (at_line o.parts o.line) 10
      by_mark None k ends taken whole step =
          let unmarked = unmarked_is (o.line ++ 10 ∷ []) k in
          finished (Frame (rest ++ 10 ∷ []))
          (step ∙ ended_whole limits o.parts (o.line ++ 10 ∷ []) unmarked ∙ ap (λ t. Ok (Some (Frame t), start)) (sym whole))
          (inl (record { parts = o.parts; line = o.line ++ 10 ∷ []; taken = taken; ends = ends; unmarked = unmarked; text_is = whole; items_are = ap (λ t. t ++ Frame (rest ++ 10 ∷ []) ∷ []) o.items_are }))
      by_mark (Some (n, plus)) k ends taken whole step =
          let mark = mark_is (o.line ++ 10 ∷ []) n plus k in
          elim (cases_lt (limits.literals - announced_octets o.parts) n) [
            | inl long ↦ too_long n plus mark long ends taken whole step
            | inr short ↦
                let a = taken.announced in
                longer (ready_item plus) (at_literal o.parts (o.line ++ 10 ∷ []) n [])
                (step ∙ ended_literal limits o.parts (o.line ++ 10 ∷ []) n plus mark short)
                (literal_progress limits o.parts (o.line ++ 10 ∷ []) n plus [] (rest ++ 10 ∷ []) (items ++ option_to_list (ready_item plus)) taken ends mark (omega arith) (omega arith) tt
                (whole ∙ ap (λ t. octets_of o.parts ++ t) (sym (append-nil (o.line ++ 10 ∷ []))))
                (ap (λ t. t ++ option_to_list (ready_item plus)) o.items_are ∙ ap (λ t. readies o.parts ++ t) (ready_is plus)))
          ]

line_change : (limits : Limits) (rest : List ℕ) (items : List Item) (octet : ℕ) (o : IsOpenLine limits rest items) → octet ≢ 0 → Change limits rest items (at_line o.parts o.line) octet
line_change limits rest items octet o nul =
    let l = o.taken.outside in
    elim (cases_lt (octets_outside o.parts + length o.line) limits.line) [
      | inr full ↦ failed LineTooLong (step_full limits o.parts o.line octet nul full) (nul, record { parts = o.parts; line = o.line; taken = o.taken; open_line = o.open_line; full = omega arith; rest_is = o.text_is })
      | inl room ↦ elim (cases_Bool (is_end o.line octet)) [
        | inl t ↦
            let s = end_parts o.line octet t in
            subst (λ (b : ℕ). Change limits rest items (at_line o.parts o.line) b) (sym s.1)
            (end_change limits rest items o room (subst (λ (b : ℕ). is_end o.line b ≡ true) s.1 t) (line_mark (o.line ++ 10 ∷ [])) refl)
        | inr f ↦ longer None (at_line o.parts (o.line ++ octet ∷ [])) (step_line limits o.parts o.line octet nul room f)
            (inl (
              record {
                parts = o.parts;
                line = o.line ++ octet ∷ [];
                taken = taken_more limits o.parts o.line octet o.taken nul room;
                open_line = open_line_append o.line octet o.open_line f;
                text_is = ap (λ t. t ++ octet ∷ []) o.text_is ∙ append_assoc (octets_of o.parts) o.line (octet ∷ []);
                items_are = append-nil items ∙ o.items_are;
              },
              refl,
            ))
      ]
    ]

literal_change : (limits : Limits) (rest : List ℕ) (items : List Item) (octet : ℕ) (o : IsOpenLiteral limits rest items) → octet ≢ 0 → Change limits rest items (at_literal o.parts o.line o.n o.literal) octet
literal_change limits rest items octet o nul =
    let n = length_push o.literal octet in
    let short = o.short in
    longer None (at_literal o.parts o.line o.n (o.literal ++ octet ∷ [])) (step_literal limits o.parts o.line o.n o.literal octet nul o.short)
    (literal_progress limits o.parts o.line o.n o.plus (o.literal ++ octet ∷ []) (rest ++ octet ∷ []) (items ++ []) o.taken o.ends o.mark o.fits (omega arith) (no_nul_both o.literal (octet ∷ []) o.no_nul (nul, tt))
    (ap (λ t. t ++ octet ∷ []) o.text_is ∙ append_assoc (octets_of o.parts) (o.line ++ o.literal) (octet ∷ []) ∙ ap (λ t. octets_of o.parts ++ t) (append_assoc o.line o.literal (octet ∷ [])))
    (append-nil items ∙ o.items_are))

change : (limits : Limits) (rest : List ℕ) (items : List Item) (p : FrameProgress) (octet : ℕ) → HasProgress limits rest items p → Change limits rest items p octet
change limits rest items p octet progress =
    elim (cases_eq octet 0) [
      | inl e ↦ failed NulByte (step_nul limits p octet e) e
      | inr nul ↦ elim progress [
        | inl o ↦ subst (λ (p : FrameProgress). Change limits rest items p octet) (sym o.1) (line_change limits rest items octet o.0 nul)
        | inr o ↦ subst (λ (p : FrameProgress). Change limits rest items p octet) (sym o.1) (literal_change limits rest items octet o.0 nul)
      ]
    ]

-- Equal streams are read alike.
reread : (limits : Limits) (stream stream' : List ℕ) (items items' : List Item) (p : FrameProgress) → stream' ≡ stream → items' ≡ items → HasRead limits stream items p → HasRead limits stream' items' p
reread limits stream stream' items items' p e f h =
    record { commands = h.commands; last = h.last; rest = h.rest; are_commands = h.are_commands; progress = h.progress; stream_is = e ∙ h.stream_is; items_are = f ∙ h.items_are }

frames_of : (limits : Limits) (stream : List ℕ) (items : List Item) (p : FrameProgress) (h : HasRead limits stream items p) → AreFrames limits stream items h.rest
frames_of limits stream items p h =
    record {
      commands = h.commands;
      last = h.last;
      are_commands = h.are_commands;
      is_rest = elim h.progress [ inl o ↦ inl o.0 | inr o ↦ inr o.0 ];
      stream_is = h.stream_is;
      items_are = h.items_are;
    }

refail : (limits : Limits) (stream stream' : List ℕ) (items items' : List Item) (why : FrameFaultKind) → stream' ≡ stream → items' ≡ items → FailsAt limits stream items why → FailsAt limits stream' items' why
refail limits stream stream' items items' why e f h =
    record { front = h.front; octet = h.octet; after = h.after; rest = h.rest; stream_is = e ∙ h.stream_is; before = subst (λ (xs : List Item). AreFrames limits h.front xs h.rest) (sym f) h.before; fault = h.fault }

octets_of_progress : (limits : Limits) (rest : List ℕ) (items : List Item) (p : FrameProgress) → HasProgress limits rest items p → rest ≡ octets_so_far p
octets_of_progress limits rest items p progress =
    elim progress [
      | inl o ↦ o.0.text_is ∙ ap octets_so_far (sym o.1)
      | inr o ↦ o.0.text_is ∙ sym (append-nil (octets_of o.0.parts ++ (o.0.line ++ o.0.literal))) ∙ ap octets_so_far (sym o.1)
    ]

commands_push : (limits : Limits) (commands : List (List ℕ × List Item)) (c : List ℕ × List Item) → AreCommands limits commands → IsFrame limits c.0 c.1 ⊎ IsRefusedFront limits c.0 c.1 → AreCommands limits (commands ++ c ∷ [])
commands_push limits [] c h k = (k, tt)
commands_push limits (d ∷ ds) c h k = (h.0, commands_push limits ds c h.1 k)

-- Nothing was read.
no_progress : (limits : Limits) → HasProgress limits [] [] start
no_progress limits = inl (
  record {
    parts = [];
    line = [];
    taken = record { are_parts = tt; outside = omega arith; announced = omega arith; no_nul = tt };
    open_line = empty_is_open;
    text_is = refl;
    items_are = refl;
  },
  refl,
)

-- One octet of a stream: either it is read, or it makes a fault.
abbrev pub ReadsOctet : (limits : Limits) (stream : List ℕ) (items : List Item) (p : FrameProgress) (rest : List ℕ) (octet : ℕ) → Type 0
ReadsOctet limits stream items p rest octet =
    ((item : Option Item) × (q : FrameProgress) × (after_octet limits p octet ≡ Ok (item, q)) × HasRead limits (stream ++ octet ∷ []) (items ++ option_to_list item) q)
    ⊎ ((why : FrameFaultKind) × (after_octet limits p octet ≡ Err why) × MakesFault limits rest octet why)

read_octet : (limits : Limits) (stream : List ℕ) (items : List Item) (p : FrameProgress) (octet : ℕ) (h : HasRead limits stream items p) → ReadsOctet limits stream items p h.rest octet
read_octet limits stream items p octet h =
    let text : stream ++ octet ∷ [] ≡ flat_map (λ c. c.0) h.commands ++ (h.rest ++ octet ∷ []) =
    ap (λ t. t ++ octet ∷ []) h.stream_is ∙ append_assoc (flat_map (λ c. c.0) h.commands) h.rest (octet ∷ [])
    in
    elim (change limits h.rest h.last p octet h.progress) [
      | longer item q e progress ↦ inl (
        item,
        q,
        e,
        record {
          commands = h.commands;
          last = h.last ++ option_to_list item;
          rest = h.rest ++ octet ∷ [];
          are_commands = h.are_commands;
          progress = progress;
          stream_is = text;
          items_are = ap (λ t. t ++ option_to_list item) h.items_are ∙ append_assoc (flat_map (λ c. c.1) h.commands) h.last (option_to_list item);
        },
      )
      | finished item e one ↦
          let c : List ℕ × List Item = (h.rest ++ octet ∷ [], h.last ++ item ∷ []) in
          inl (
            Some item,
            start,
            e,
            record {
              commands = h.commands ++ c ∷ [];
              last = [];
              rest = [];
              are_commands = commands_push limits h.commands c h.are_commands one;
              progress = no_progress limits;
              stream_is = text ∙ sym (flat_map-push (λ (c : List ℕ × List Item). c.0) h.commands c);
              items_are =
                  ap (λ t. t ++ item ∷ []) h.items_are
                  ∙ append_assoc (flat_map (λ c. c.1) h.commands) h.last (item ∷ [])
                  ∙ sym (flat_map-push (λ (c : List ℕ × List Item). c.1) h.commands c);
            },
          )
      | failed why e m ↦ inr (why, e, m)
    ]

-- Several octets of a stream: either they are read, or one of them makes a fault.
abbrev pub ReadsStretch : (limits : Limits) (past : List ℕ) (items : List Item) (p : FrameProgress) (octets : List ℕ) → Type 0
ReadsStretch limits past items p octets =
    ((more : List Item) × (q : FrameProgress) × (cut_from limits (Ok p) octets ≡ (more, Ok q)) × HasRead limits (past ++ octets) (items ++ more) q)
    ⊎ ((more : List Item) × (why : FrameFaultKind) × (cut_from limits (Ok p) octets ≡ (more, Err why)) × FailsAt limits (past ++ octets) (items ++ more) why)

read_stretch : (limits : Limits) (past : List ℕ) (items : List Item) (p : FrameProgress) (octets : List ℕ) → HasRead limits past items p → ReadsStretch limits past items p octets
read_stretch limits past items p [] h = inl ([], p, refl, reread limits past (past ++ []) items (items ++ []) p (append-nil past) (append-nil items) h)
read_stretch limits past items p (b ∷ bs) h =
    elim (read_octet limits past items p b h) [
      | inl s ↦
          let given_items : List Item = option_to_list s.0 in
          let step : cut_from limits (Ok p) (b ∷ bs) ≡ with_items given_items (cut_from limits (Ok s.1) bs) = run_step limits p b bs (Ok (s.0, s.1)) s.2 in
          elim (read_stretch limits (past ++ b ∷ []) (items ++ given_items) s.1 bs s.3) [
            | inl r ↦ inl (
              given_items ++ r.0,
              r.1,
              step ∙ ap (with_items given_items) r.2,
              reread limits ((past ++ b ∷ []) ++ bs) (past ++ b ∷ bs) ((items ++ given_items) ++ r.0) (items ++ (given_items ++ r.0)) r.1
                  (sym (append_assoc past (b ∷ []) bs)) (sym (append_assoc items given_items r.0)) r.3,
            )
            | inr r ↦ inr (
              given_items ++ r.0,
              r.1,
              step ∙ ap (with_items given_items) r.2,
              refail limits ((past ++ b ∷ []) ++ bs) (past ++ b ∷ bs) ((items ++ given_items) ++ r.0) (items ++ (given_items ++ r.0)) r.1
                  (sym (append_assoc past (b ∷ []) bs)) (sym (append_assoc items given_items r.0)) r.3,
            )
          ]
      | inr s ↦ inr (
        [],
        s.0,
        run_step limits p b bs (Err s.0) s.1 ∙ ap (with_items []) (cut_of-fault limits s.0 bs),
        record {
          front = past;
          octet = b;
          after = bs;
          rest = h.rest;
          stream_is = refl;
          before = subst (λ (xs : List Item). AreFrames limits past xs h.rest) (sym (append-nil items)) (frames_of limits past items p h);
          fault = s.2;
        },
      )
    ]

-- A whole stream.
read_all : (limits : Limits) (stream : List ℕ) → ReadsStretch limits [] [] start stream
read_all limits stream =
    read_stretch limits [] [] start stream
    (record { commands = []; last = []; rest = []; are_commands = tt; progress = no_progress limits; stream_is = refl; items_are = refl })

-- Items read without a fault are those of frames.
pub frames_by_given : (limits : Limits) (stream : List ℕ) (items : List Item) (p : FrameProgress) → cut_from limits (Ok start) stream ≡ (items, Ok p) → AreFrames limits stream items (octets_so_far p)
frames_by_given limits stream items p e =
    elim (read_all limits stream) [
      | inl r ↦
          let k : ◌≡◌ {A = Cut} (r.0, Ok r.1) (items, Ok p) = sym r.2 ∙ e in
          let xs : r.0 ≡ items = ap (λ c. c.0) k in
          let state : ◌≡◌ {A = Result FrameProgress FrameFaultKind} (Ok r.1) (Ok p) = ap (λ c. c.1) k in
          let q : r.1 ≡ p = cc in
          let rest : r.3.rest ≡ octets_so_far p = octets_of_progress limits r.3.rest r.3.last r.1 r.3.progress ∙ ap octets_so_far q in
          subst (λ (xs : List Item). AreFrames limits stream xs (octets_so_far p)) xs
          (subst (λ (t : List ℕ). AreFrames limits stream r.0 t) rest (frames_of limits stream r.0 r.1 r.3))
      | inr r ↦
          let k : ◌≡◌ {A = Cut} (r.0, Err r.1) (items, Ok p) = sym r.2 ∙ e in
          let state : ◌≡◌ {A = Result FrameProgress FrameFaultKind} (Err r.1) (Ok p) = ap (λ c. c.1) k in
          absurd cc
    ]

-- A stream that ends in a fault fails at an octet.
pub fault_by_given : (limits : Limits) (stream : List ℕ) (items : List Item) (why : FrameFaultKind) → cut_from limits (Ok start) stream ≡ (items, Err why) → FailsAt limits stream items why
fault_by_given limits stream items why e =
    elim (read_all limits stream) [
      | inl r ↦
          let k : ◌≡◌ {A = Cut} (r.0, Ok r.1) (items, Err why) = sym r.2 ∙ e in
          let state : ◌≡◌ {A = Result FrameProgress FrameFaultKind} (Ok r.1) (Err why) = ap (λ c. c.1) k in
          absurd cc
      | inr r ↦
          let k : ◌≡◌ {A = Cut} (r.0, Err r.1) (items, Err why) = sym r.2 ∙ e in
          let xs : r.0 ≡ items = ap (λ c. c.0) k in
          let state : ◌≡◌ {A = Result FrameProgress FrameFaultKind} (Err r.1) (Err why) = ap (λ c. c.1) k in
          let q : r.1 ≡ why = cc in
          subst (λ (w : FrameFaultKind). FailsAt limits stream items w) q (subst (λ (xs : List Item). FailsAt limits stream xs r.1) xs r.3)
    ]
