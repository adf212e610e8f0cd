use Rattle.std.proofs.Common.{◌≡◌, ◌≢◌, ℕ, ◌+◌, List, [], ◌∷◌, ◌++◌, Option, Some, None, Result, Ok, Err, IfErr, OnOk, length, length-append, append_assoc, append-nil, arith, ap, sym, refl, subst, ◌∙◌}
use Rattle.std.specs.Prelude.{IsErrAnd}
use Rattle.std.specs.Io.KnownBytes.{Appends, Consumes, IsAtEnd, Keeps}
use Rattle.mail_script.specs.Lines.{lines_of}
use Rattle.mail_script.specs.Reading.{cut_at}
use Rattle.mail_script.specs.Script.{Means}
use Rattle.mail_script.specs.declared.script.ScriptLine.{ScriptLine}
use Rattle.mail_script.proofs.LineLemmas.{lines_last}
use Rattle.mail_replay.specs.Lines.{IsBad, ServesLine, ServesInPart}
use Rattle.mail_replay.specs.Replays.{HasServedLines, HasBadLine, EndsEarly, FirstInPart, Replays, ServesAll, HasLineWithoutMemory, empty_script_contents}
use Rattle.mail_replay.specs.ScriptState.{ScriptContents}
use Rattle.mail_replay.specs.declared.replay_end.ReplayEnd.{ReplayEnd}
use Rattle.mail_replay.specs.declared.replay_end.ReplayEnd.TheVariants.{Done, BadScript, ReadFailed, WriteFailed, NoMemory}
use Rattle.mail_replay.proofs.LineLemmas.{appends_both, appends_none, nothing_in_part, serves_both}

-- The progress of a replay: the whole lines of the octets read were served, and a part of the next
-- line is left.
pub record HasReadFrom (script : List ℕ) (held left held' : Option (List ℕ)) (setup : ScriptContents) (served : ℕ) (text : List ℕ) : Type 0 where
  pub read : List ℕ
  pub rest : List ℕ
  pub script_is : script ≡ read ++ rest
  pub left_is : left ≡ Some rest
  pub front : List (List ℕ)
  pub out : List ℕ
  pub lines : (more : List ℕ) → lines_of (read ++ more) ≡ front ++ lines_of (text ++ more)
  pub count : served ≡ length front
  pub serves : ServesAll empty_script_contents front out setup
  pub writes : Appends held held' out

abbrev pub HasRead : Option (List ℕ) → Option (List ℕ) → Option (List ℕ) → Option (List ℕ) → ScriptContents → ℕ → List ℕ → Type 0
HasRead start held left held' setup served text = (script : List ℕ) → start ≡ Some script → HasReadFrom script held left held' setup served text

pub read_at_first : (start held : Option (List ℕ)) (setup : ScriptContents) (text : List ℕ) → setup ≡ empty_script_contents → text ≡ [] → HasRead start held start held setup 0 text
read_at_first start held setup text s t script e = record {
  read = [];
  rest = script;
  script_is = refl;
  left_is = e;
  front = [];
  out = [];
  lines = λ more. ap (λ (zs : List ℕ). lines_of (zs ++ more)) (sym t);
  count = refl;
  serves = (refl, s);
  writes = appends_none held;
}

keeps_known : (rest : List ℕ) (left : Option (List ℕ)) → Keeps (Some rest) left → left ≡ Some rest
keeps_known rest None k = absurd k
keeps_known rest (Some xs) k = ap Some k

consumes_known : (rest bs : List ℕ) (left : Option (List ℕ)) → Consumes (Some rest) left bs → (more : List ℕ) × (left ≡ Some more) × (rest ≡ bs ++ more)
consumes_known rest bs None k = absurd k
consumes_known rest bs (Some more) k = (more, refl, k)

module _ (start held left held' : Option (List ℕ)) (setup : ScriptContents) (served : ℕ) (text : List ℕ) (has_read : HasRead start held left held' setup served text) where
  -- a failed read took no octets
  pub read_unchanged : (left' : Option (List ℕ)) → Keeps left left' → HasRead start held left' held' setup served text
  read_unchanged left' k script e =
      let f = has_read script e in
      record {
        read = f.read;
        rest = f.rest;
        script_is = f.script_is;
        left_is = keeps_known f.rest left' (subst (λ (o : Option (List ℕ)). Keeps o left') f.left_is k);
        front = f.front;
        out = f.out;
        lines = f.lines;
        count = f.count;
        serves = f.serves;
        writes = f.writes;
      }

  module _ (script : List ℕ) (f : HasReadFrom script held left held' setup served text) where
    -- the lines of a script are those that were served and those of the texts not yet served
    whole : lines_of script ≡ f.front ++ lines_of (text ++ f.rest)
    whole = ap lines_of f.script_is ∙ f.lines f.rest

    -- octets that are read follow those read before
    joined : (bs more : List ℕ) → lines_of ((f.read ++ bs) ++ more) ≡ f.front ++ lines_of ((text ++ bs) ++ more)
    joined bs more = ap lines_of (append_assoc f.read bs more) ∙ f.lines (bs ++ more) ∙ ap (λ (zs : List ℕ). f.front ++ lines_of zs) (sym (append_assoc text bs more))

    -- the lines of a script after octets are read
    after : (bs more : List ℕ) → f.rest ≡ bs ++ more → lines_of script ≡ f.front ++ lines_of ((text ++ bs) ++ more)
    after bs more e = whole ∙ ap (λ (zs : List ℕ). f.front ++ lines_of zs) (ap (λ (zs : List ℕ). text ++ zs) e ∙ sym (append_assoc text bs more))

  -- the lines of a piece that was read are served
  pub read_on : (bs : List ℕ) (left' held2 : Option (List ℕ)) (setup' : ScriptContents) (served' : ℕ) (text' : List ℕ) → Consumes left left' bs
      → HasServedLines held' setup served (text ++ bs) held2 setup' served' text' → HasRead start held left' held2 setup' served' text'
  read_on bs left' held2 setup' served' text' k a script e =
      let f = has_read script e in
      let p = consumes_known f.rest bs left' (subst (λ (o : Option (List ℕ)). Consumes o left' bs) f.left_is k) in
      let n : length (f.front ++ a.front) ≡ length f.front + length a.front = length-append f.front a.front in
      record {
        read = f.read ++ bs;
        rest = p.0;
        script_is = f.script_is ∙ ap (λ (zs : List ℕ). f.read ++ zs) p.2 ∙ sym (append_assoc f.read bs p.0);
        left_is = p.1;
        front = f.front ++ a.front;
        out = f.out ++ a.out;
        lines = λ more. joined script f bs more ∙ ap (λ (ls : List (List ℕ)). f.front ++ ls) (a.lines more) ∙ sym (append_assoc f.front a.front (lines_of (text' ++ more)));
        count = omega (arith, f.count, a.count, n);
        serves = serves_both empty_script_contents setup setup' f.front a.front f.out a.out f.serves a.serves;
        writes = appends_both held held' held2 f.out a.out f.writes a.writes;
      }

  -- a line of a piece that was read is bad
  pub read_to_bad : (bs : List ℕ) (left' held2 : Option (List ℕ)) (number : ℕ) → Consumes left left' bs → HasBadLine held' setup served (text ++ bs) held2 number
      → (script : List ℕ) → start ≡ Some script → Replays script (BadScript number) left' held held2
  read_to_bad bs left' held2 number k b script e =
      let f = has_read script e in
      let p = consumes_known f.rest bs left' (subst (λ (o : Option (List ℕ)). Consumes o left' bs) f.left_is k) in
      let n : length (f.front ++ b.front) ≡ length f.front + length b.front = length-append f.front b.front in (
        f.front ++ b.front,
        lines_of (b.after ++ p.0),
        b.line,
        f.out ++ b.out,
        b.setup',
        after script f bs p.0 p.2 ∙ ap (λ (ls : List (List ℕ)). f.front ++ ls) (b.lines p.0) ∙ sym (append_assoc f.front b.front (b.line ∷ lines_of (b.after ++ p.0))),
        omega (arith, f.count, b.count, n),
        serves_both empty_script_contents setup b.setup' f.front b.front f.out b.out f.serves b.serves,
        b.bad,
        appends_both held held' held2 f.out b.out f.writes b.writes,
      )

  -- memory runs out for a line of a piece that was read
  pub read_to_stop : (bs : List ℕ) (left' held2 : Option (List ℕ)) → Consumes left left' bs → HasLineWithoutMemory held' setup (text ++ bs) held2
      → (script : List ℕ) → start ≡ Some script → Replays script NoMemory left' held held2
  read_to_stop bs left' held2 k b script e =
      let f = has_read script e in
      let p = consumes_known f.rest bs left' (subst (λ (o : Option (List ℕ)). Consumes o left' bs) f.left_is k) in (
        f.front ++ b.front,
        b.back p.0,
        f.out ++ b.out,
        b.part,
        b.setup',
        after script f bs p.0 p.2 ∙ ap (λ (ls : List (List ℕ)). f.front ++ ls) (b.lines p.0) ∙ sym (append_assoc f.front b.front (b.back p.0)),
        serves_both empty_script_contents setup b.setup' f.front b.front f.out b.out f.serves b.serves,
        b.first p.0,
        subst (λ (zs : List ℕ). Appends held held2 zs) (sym (append_assoc f.out b.out b.part)) (appends_both held held' held2 f.out (b.out ++ b.part) f.writes b.writes),
      )

  -- a read failed
  pub read_to_failure : cut_at 10 text ≡ None → (script : List ℕ) → start ≡ Some script → Replays script ReadFailed left held held'
  read_to_failure none script e = let f = has_read script e in (f.read, f.rest, text, f.front, f.out, setup, f.script_is, f.left_is, (none, f.lines), f.serves, f.writes)

  module _ (left' : Option (List ℕ)) (k : Consumes left left' []) (end : IsAtEnd left') (script : List ℕ) (e : start ≡ Some script) where
    -- at the script's end the remaining lines are those of the text that is left
    last_lines : (f : HasReadFrom script held left held' setup served text) → lines_of script ≡ f.front ++ lines_of text
    last_lines f =
        let p = consumes_known f.rest [] left' (subst (λ (o : Option (List ℕ)). Consumes o left' []) f.left_is k) in
        let none : p.0 ≡ [] = subst (λ (o : Option (List ℕ)). IsAtEnd o) p.1 end in
        whole script f ∙ ap (λ (zs : List ℕ). f.front ++ lines_of zs) (ap (λ (zs : List ℕ). text ++ zs) (p.2 ∙ none) ∙ append-nil text)

    pub read_to_end : (held2 : Option (List ℕ)) (out : List ℕ) (setup' : ScriptContents) → ServesAll setup (lines_of text) out setup' → Appends held' held2 out → Replays script Done left' held held2
    read_to_end held2 out setup' serves writes =
        let f = has_read script e in (
          f.out ++ out,
          setup',
          subst (λ (ls : List (List ℕ)). ServesAll empty_script_contents ls (f.out ++ out) setup') (sym (last_lines f)) (serves_both empty_script_contents setup setup' f.front (lines_of text) f.out out f.serves serves),
          appends_both held held' held2 f.out out f.writes writes,
        )

    pub read_to_bad_last : (held2 : Option (List ℕ)) (number : ℕ) → number ≡ served + 1 → lines_of text ≡ text ∷ [] → IsBad setup text → Appends held' held2 [] → Replays script (BadScript number) left' held held2
    read_to_bad_last held2 number n one bad writes =
        let f = has_read script e in (
          f.front,
          [],
          text,
          f.out,
          setup,
          last_lines f ∙ ap (λ (ls : List (List ℕ)). f.front ++ ls) one,
          omega (arith, n, f.count),
          f.serves,
          bad,
          subst (λ (zs : List ℕ). Appends held held2 zs) (append-nil f.out) (appends_both held held' held2 f.out [] f.writes writes),
        )

    pub read_to_stop_last : (held2 : Option (List ℕ)) (more : List ℕ) → FirstInPart setup (lines_of text) more → Appends held' held2 more → Replays script NoMemory left' held held2
    read_to_stop_last held2 more first writes =
        let f = has_read script e in
        (f.front, lines_of text, f.out, more, setup, last_lines f, f.serves, first, appends_both held held' held2 f.out more f.writes writes)

-- memory runs out at the start
pub stopped_at_first : (script : List ℕ) (left held : Option (List ℕ)) → Replays script NoMemory left held held
stopped_at_first script left held = ([], lines_of script, [], [], empty_script_contents, refl, (refl, refl), nothing_in_part empty_script_contents (lines_of script), appends_none held)

-- an early end for one cause is one for any cause that follows from it
pub ends_by : (end : ReplayEnd) {HasBadLine HasBadLine' : ℕ → Type 0} {HasLineWithoutMemory HasLineWithoutMemory' : Type 0} → ((number : ℕ) → HasBadLine number → HasBadLine' number) → (HasLineWithoutMemory → HasLineWithoutMemory') → EndsEarly HasBadLine HasLineWithoutMemory end → EndsEarly HasBadLine' HasLineWithoutMemory' end
ends_by Done b s h = absurd h
ends_by (BadScript number) b s h = b number h
ends_by ReadFailed b s h = absurd h
ends_by WriteFailed b s h = tt
ends_by NoMemory b s h = s h

-- the result of a replay that ends early
pub replays_by : (script : List ℕ) (left held held' : Option (List ℕ)) (end : ReplayEnd) {HasBadLine : ℕ → Type 0} {HasLineWithoutMemory : Type 0} → ((number : ℕ) → HasBadLine number → Replays script (BadScript number) left held held')
    → (HasLineWithoutMemory → Replays script NoMemory left held held') → EndsEarly HasBadLine HasLineWithoutMemory end → Replays script end left held held'
replays_by script left held held' Done b s h = absurd h
replays_by script left held held' (BadScript number) b s h = b number h
replays_by script left held held' ReadFailed b s h = absurd h
replays_by script left held held' WriteFailed b s h = tt
replays_by script left held held' NoMemory b s h = s h

-- an error that a `?` passes on
pub err_passed : {T E : Type 0} (r : Result T E) (end : E) (Q P : E → Type 0) → IsErrAnd r Q → ((e : E) → Q e → e ≡ end) → P end → IfErr r P
err_passed (Ok x) end Q P h same p = tt
err_passed (Err e) end Q P h same p = subst P (sym (same e h)) p

-- an empty text has no line
pub none_served : (held : Option (List ℕ)) (setup : ScriptContents) (text : List ℕ) → length text ≡ 0
    → (out : List ℕ) × (new : ScriptContents) × ServesAll setup (lines_of text) out new × Appends held held out
none_served held setup [] e = ([], setup, (refl, refl), appends_none held)
none_served held setup (octet ∷ text) e = absurd (omega (arith, e))

-- a text without a line end is one line
pub one_line : (text : List ℕ) → cut_at 10 text ≡ None → length text ≢ 0 → lines_of text ≡ text ∷ []
one_line text none n = lines_last text none (λ e. n (ap length e))

-- a served line is the only line of a text that has one
pub one_served : {T E : Type 0} (r : Result T E) (held held' : Option (List ℕ)) (setup new : ScriptContents) (text : List ℕ) (P : Type 0) → lines_of text ≡ text ∷ []
    → OnOk r ((meaning : ScriptLine) × (more : List ℕ) × Means text meaning × ServesLine setup meaning more new × Appends held held' more × P)
    → OnOk r ((out : List ℕ) × (new' : ScriptContents) × ServesAll setup (lines_of text) out new' × Appends held held' out)
one_served (Err e) held held' setup new text P one o = tt
one_served (Ok x) held held' setup new text P one o =
    (o.1, new, subst (λ (ls : List (List ℕ)). ServesAll setup ls o.1 new) (sym one) (o.0, o.1, new, [], o.2, o.3, sym (append-nil o.1), (refl, refl)), o.4)

-- a line for which memory runs out is the first of a text that has one
pub one_in_part : (setup : ScriptContents) (text : List ℕ) (more : List ℕ) → lines_of text ≡ text ∷ [] → ServesInPart setup text more → FirstInPart setup (lines_of text) more
one_in_part setup text more one h = subst (λ (ls : List (List ℕ)). FirstInPart setup ls more) (sym one) h
