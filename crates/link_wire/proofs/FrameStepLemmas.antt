use Rattle.std.proofs.Common.{◌≡◌, ◌≢◌, ℕ, ◌+◌, ◌^◌, ◌<◌, ◌≤◌, true, eqb, eqb-true, leb, leb-true, List, [], ◌∷◌, ◌++◌, length, Option, Some, None, Ok, Err, ◌⊎◌, inl, inr, sym, refl, ap, ◌∙◌, subst, append_assoc, arith}
use Rattle.std.specs.Str.{bytes_eq}
use Rattle.std.proofs.lemmas.Bool.{cases_Bool, eqb-false, leb-false}
use Rattle.std.proofs.lemmas.List.{append-nil, length_push}
use Rattle.std.proofs.lemmas.Slice.Eq.{bytes_eq-Decides}
use Rattle.link_wire.specs.declared.fault.FrameFault.{FrameFault}
use Rattle.link_wire.specs.declared.fault.FrameFault.TheVariants.{BadHeader, TooManyFrames, BadDigest}
use Rattle.link_wire.specs.declared.header.Header.{Header}
use Rattle.link_wire.specs.declared.limits.Limits.{Limits}
use Rattle.link_wire.specs.Digests.{Digest}
use Rattle.link_wire.specs.Frames.{IsFrame, IsHeader, IsOpenHeader, IsOpenPayload, IsRest, MakesFault, frame_text, header_line, header_text}
use Rattle.link_wire.specs.Framing.{FrameProgress, Outcome, after_header, after_header_octet, after_octet, end_of_payload, header_at, octets_so_far, start}
use Rattle.link_wire.proofs.CutLemmas.{inside, payload_octet}
use Rattle.link_wire.proofs.HeaderLemmas.{header_complete, header_line_is, no_lf_both}

-- This much of a header has come after `count` frames.
abbrev pub at_line : ℕ → List ℕ → FrameProgress
at_line count line = record { number = count; line = line; header = None; payload = [] }

-- The header with this announcement and tag.
abbrev pub header_of : ℕ → List ℕ → Header
header_of announced tag = record { announced = announced; tag = tag }

-- A header and this much of its payload has come, as the frame with this number.
abbrev pub at_payload : ℕ → ℕ → List ℕ → List ℕ → FrameProgress
at_payload number announced tag payload = inside number (header_text announced tag) (header_of announced tag) payload

-- This has come of a payload.
pub record IsInPayload (limits : Limits) (count : ℕ) (p : FrameProgress) (text : List ℕ) : Type 0 where
  pub open_payload : IsOpenPayload limits (count + 1) text
  pub so_far : p ≡ at_payload (count + 1) open_payload.announced open_payload.tag open_payload.payload

-- After `count` frames this text has come of the next.
abbrev pub HasCome : Limits → ℕ → FrameProgress → List ℕ → Type 0
HasCome limits count p text = (IsOpenHeader limits text × (p ≡ at_line count text)) ⊎ IsInPayload limits count p text

pub rest_of : (limits : Limits) (count : ℕ) (p : FrameProgress) (text : List ℕ) → HasCome limits count p text → IsRest limits count text × (octets_so_far p ≡ text)
rest_of limits count p text h =
    elim h [
      | inl l ↦ (inl l.0, ap octets_so_far l.1 ∙ append-nil text)
      | inr r ↦ (inr r.open_payload, ap octets_so_far r.so_far ∙ sym r.open_payload.text_is)
    ]

-- What an octet brings after this text.
pub record Quiet (limits : Limits) (count : ℕ) (text : List ℕ) (octet : ℕ) (outcome : Outcome) : Type 0 where
  pub after : FrameProgress
  pub outcome_is : outcome ≡ Ok (None, after)
  pub has_come : HasCome limits count after (text ++ octet ∷ [])

pub record IsReading (limits : Limits) (digest : Digest) (count : ℕ) (text : List ℕ) (octet : ℕ) (outcome : Outcome) : Type 0 where
  pub payload : List ℕ
  pub outcome_is : outcome ≡ Ok (Some payload, start (count + 1))
  pub frame : IsFrame limits digest (count + 1) payload
  pub text_is : text ++ octet ∷ [] ≡ frame_text digest (count + 1) payload

pub record Breaks (limits : Limits) (digest : Digest) (count : ℕ) (text : List ℕ) (octet : ℕ) (outcome : Outcome) : Type 0 where
  pub why : FrameFault
  pub outcome_is : outcome ≡ Err why
  pub fault : MakesFault limits digest count text octet why

abbrev pub Step : Limits → Digest → ℕ → List ℕ → ℕ → Outcome → Type 0
Step limits digest count text octet outcome =
    Quiet limits count text octet outcome ⊎ (IsReading limits digest count text octet outcome ⊎ Breaks limits digest count text octet outcome)

some_header : (h other : Header) → ◌≡◌ {A = Option Header} (Some h) (Some other) → h ≡ other
some_header h other e = cc

-- LF, by what the line spells.
step_lf : (limits : Limits) (digest : Digest) (count : ℕ) (line : List ℕ) (found : Option Header) → limits.payload < 2 ^ 64 → IsOpenHeader limits line → header_at limits line ≡ found → Step limits digest count line 10 (after_header limits (at_line count line) found)
step_lf limits digest count line None l o e =
    inr (inr (record {
      why = BadHeader;
      outcome_is = refl;
      fault = (
        o,
        inl (
          refl,
          λ h.
              let k : header_at limits line ≡ Some (header_of h.announced h.tag) = ap (header_at limits) h.line_is ∙ header_complete limits h.announced h.tag l h.header in
              absurd cc,
        ),
      );
    }))
step_lf limits digest count line (Some h) l o e =
    let is : IsHeader limits h.announced h.tag × (line ≡ header_line h.announced h.tag) = header_line_is limits line h l e o.within o.no_lf in
    elim (cases_Bool (leb limits.frames count)) [
      | inl t ↦ inr (inr (record {
        why = TooManyFrames;
        outcome_is = rw t refl;
        fault = (o, refl, record { announced = h.announced; tag = h.tag; header = is.0; line_is = is.1 }, leb-true limits.frames count t);
      }))
      | inr f ↦
          let less : count < limits.frames = leb-false limits.frames count f in
          inl (record {
            after = inside (count + 1) (line ++ 10 ∷ []) h [];
            outcome_is = rw f refl;
            has_come = inr (record {
              open_payload = record {
                announced = h.announced;
                tag = h.tag;
                payload = [];
                header = is.0;
                counted = omega arith;
                short = is.0.some;
                text_is = ap (λ (t : List ℕ). t ++ 10 ∷ []) is.1 ∙ sym (append-nil (header_text h.announced h.tag));
              };
              so_far = ap (λ (t : List ℕ). inside (count + 1) (t ++ 10 ∷ []) h []) is.1;
            });
          })
    ]

step_header : (limits : Limits) (digest : Digest) (count : ℕ) (line : List ℕ) (octet : ℕ) → limits.payload < 2 ^ 64 → IsOpenHeader limits line → Step limits digest count line octet (after_header_octet limits (at_line count line) octet)
step_header limits digest count line octet l o =
    elim (cases_Bool (eqb octet 10)) [
      | inl t ↦
          let e : octet ≡ 10 = eqb-true octet 10 t in
          subst (λ (n : ℕ). Step limits digest count line n (after_header_octet limits (at_line count line) n)) (sym e) (step_lf limits digest count line (header_at limits line) l o refl)
      | inr f ↦
          let n : octet ≢ 10 = eqb-false octet 10 f in
          let within = o.within in
          elim (cases_Bool (leb limits.header (length line))) [
            | inl t ↦
                let reached : limits.header ≤ length line = leb-true limits.header (length line) t in
                inr (inr (record { why = BadHeader; outcome_is = rw (f, t) refl; fault = (o, inr (n, omega arith)) }))
            | inr g ↦
                let less : length line < limits.header = leb-false limits.header (length line) g in
                let more : length (line ++ octet ∷ []) ≡ length line + 1 = length_push line octet in
                inl (record {
                  after = at_line count (line ++ octet ∷ []);
                  outcome_is = rw (f, g) refl;
                  has_come = inl (record { within = omega arith; no_lf = no_lf_both line (octet ∷ []) o.no_lf (rw f refl) }, refl);
                })
          ]
    ]

step_payload : (limits : Limits) (digest : Digest) (count : ℕ) (text : List ℕ) (octet : ℕ) (o : IsOpenPayload limits (count + 1) text) → Step limits digest count text octet (end_of_payload digest (at_payload (count + 1) o.announced o.tag (o.payload ++ octet ∷ [])) (header_of o.announced o.tag))
step_payload limits digest count text octet o =
    let number : ℕ = count + 1 in
    let more : List ℕ = o.payload ++ octet ∷ [] in
    let n : length more ≡ length o.payload + 1 = length_push o.payload octet in
    let short = o.short in
    let text_more : text ++ octet ∷ [] ≡ header_text o.announced o.tag ++ more = ap (λ (t : List ℕ). t ++ octet ∷ []) o.text_is ∙ append_assoc (header_text o.announced o.tag) o.payload (octet ∷ []) in
    elim (cases_Bool (eqb (length more) o.announced)) [
      | inl t ↦
          let whole : length more ≡ o.announced = eqb-true (length more) o.announced t in
          elim (cases_Bool (bytes_eq (digest number o.announced more) o.tag)) [
            | inl u ↦
                let same : digest number o.announced more ≡ o.tag = (bytes_eq-Decides (digest number o.announced more) o.tag).0 u in
                let tag_is : o.tag ≡ digest number (length more) more = sym same ∙ ap (λ (a : ℕ). digest number a more) (sym whole) in
                inr (inl (record {
                  payload = more;
                  outcome_is = rw (t, u) refl;
                  frame = record {
                    header = subst (λ (a : ℕ). IsHeader limits a (digest number (length more) more)) (sym whole) (subst (λ (tag : List ℕ). IsHeader limits o.announced tag) tag_is o.header);
                    counted = o.counted;
                  };
                  text_is = text_more ∙ ap (λ (a : ℕ). header_text a o.tag ++ more) (sym whole) ∙ ap (λ (tag : List ℕ). header_text (length more) tag ++ more) tag_is;
                }))
            | inr g ↦ inr (inr (record {
              why = BadDigest;
              outcome_is = rw (t, g) refl;
              fault = record {
                open_payload = o;
                last = omega arith;
                differs = λ same. let u : bytes_eq (digest number o.announced more) o.tag ≡ true = (bytes_eq-Decides (digest number o.announced more) o.tag).1 same in absurd cc;
              };
            }))
          ]
      | inr f ↦
          let not_whole : length more ≢ o.announced = eqb-false (length more) o.announced f in
          inl (record {
            after = at_payload number o.announced o.tag more;
            outcome_is = rw f refl;
            has_come = inr (record {
              open_payload = record {
                announced = o.announced;
                tag = o.tag;
                payload = more;
                header = o.header;
                counted = o.counted;
                short = omega arith;
                text_is = text_more;
              };
              so_far = refl;
            });
          })
    ]

pub step : (limits : Limits) (digest : Digest) (count : ℕ) (p : FrameProgress) (text : List ℕ) (octet : ℕ) → limits.payload < 2 ^ 64 → HasCome limits count p text → Step limits digest count text octet (after_octet limits digest p octet)
step limits digest count p text octet l h =
    elim h [
      | inl o ↦ subst (λ (p : FrameProgress). Step limits digest count text octet (after_octet limits digest p octet)) (sym o.1) (step_header limits digest count text octet l o.0)
      | inr r ↦
          let o = r.open_payload in
          subst (λ (p : FrameProgress). Step limits digest count text octet (after_octet limits digest p octet)) (sym r.so_far)
          (subst (Step limits digest count text octet) (sym (payload_octet limits digest (count + 1) (header_text o.announced o.tag) (header_of o.announced o.tag) o.payload octet o.short))
          (step_payload limits digest count text octet o))
    ]
