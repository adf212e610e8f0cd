use Rattle.std.proofs.Common.{◌≡◌, ◌⊎◌, ◌+◌, ◌<◌, ◌≤◌, inl, inr, ℕ, zero, suc, length, take, drop, get_or, arith, Bool, true, false, List, [], ◌∷◌, ◌++◌, Option, Some, None, Result, Ok, Err, refl, sym, ap, ◌∙◌, subst, append_assoc, append-nil, if◌then◌else◌}
use Rattle.std.specs.Prelude.{◌&&◌}
use Rattle.std.proofs.lemmas.Bool.{false≢true}
use Rattle.std.proofs.lemmas.Grind.{flat_map-append}
use Rattle.imap_answers.specs.AnswerText.{text_of_answer}
use Rattle.imap_answers.specs.declared.answer.Answer.{Answer}
use Rattle.imap_lex.specs.declared.item.Item.{Item}
use Rattle.imap_commands.specs.Commands.{is_brief, is_idle}
use Rattle.imap_commands.proofs.RuleLemmas.{brief_wakes}
use Rattle.imap_node.specs.declared.reply.Reply.{Reply}
use Rattle.imap_syntax.specs.declared.command.Command.{Command}
use Rattle.imap_syntax.specs.declared.command.Command.TheVariants as commands
use Rattle.imap_syntax.specs.declared.command.Tagged.{Tagged}
use Rattle.imap_connection.specs.PortCalls.{PortCall}
use Rattle.imap_connection.specs.PortCalls as asked
use Rattle.imap_connection.specs.Batches.{AreAsked, CarriesCommands, EndsInBatch, EndsInReply, answers_by, are_brief, tags_of}
use Rattle.imap_connection.specs.Conversation.{IsPrefixOf}
use Rattle.imap_connection.specs.Conversations.{EndsAtItem, Converses, HasTaken, EndsOverItems, LacksAnswers, TakesItem}
use Rattle.imap_connection.specs.EndReasons.{end_reason_of}
use Rattle.imap_connection.specs.RequestSteps.{IsRequest}
use Rattle.imap_connection.specs.Replies.{answers_of}
use Rattle.imap_connection.specs.Requests.{AnswersItem, StopsAt, TakesRequest, is_done, is_logout, texts}
use Rattle.imap_connection.specs.declared.answer_writer.UnprintedReply.{UnprintedReply}
use Rattle.imap_connection.specs.declared.request.Request.{Request}
use Rattle.imap_connection.specs.declared.end_reason.Ended.{Ended}
use Rattle.imap_connection.specs.declared.end_reason.Ended.TheVariants.{NoMemory}
use Rattle.imap_connection.specs.declared.fault.PortFault.{PortFault}
use Rattle.imap_connection.specs.declared.request.Request.TheVariants as requests
use Rattle.imap_connection.proofs.ConversationsLemmas.{ends_at_item_append, converses-append, ends_over_items_append, lacks_answers_append, leaves_first}
use Rattle.imap_connection.proofs.RequestLemmas.{of_command}

-- ---- brief commands

none_below_zero : (i : ℕ) → i < 0 → ⊥
none_below_zero i h = omega (arith, h)

brief_no_logout : (command : Command) → is_brief command ≡ true → is_logout command ≡ false
brief_no_logout commands.Logout e = absurd (false≢true e)
brief_no_logout _ e = refl

none_if : {A : Type 0} (b d : Bool) (x : A) → b ≡ false → None ≡ (if b && d then Some x else None)
none_if false d x e = refl
none_if true d x e = absurd (false≢true (sym e))

false_if : (b d : Bool) → b ≡ false → false ≡ (b && d)
false_if false d e = refl
false_if true d e = absurd (false≢true (sym e))

first_true : (b d : Bool) → (b && d) ≡ true → b ≡ true
first_true true d e = refl
first_true false d e = e

second_true : (b d : Bool) → (b && d) ≡ true → d ≡ true
second_true true d e = e
second_true false d e = absurd (false≢true e)

both_true : (b d : Bool) → b ≡ true → d ≡ true → (b && d) ≡ true
both_true true d e f = f
both_true false d e f = e

first_brief : (tagged : Tagged) (rest : List Tagged) → are_brief (tagged ∷ rest) ≡ true → is_brief tagged.command ≡ true
first_brief tagged rest e = first_true (is_brief tagged.command) (are_brief rest) e

rest_brief : (tagged : Tagged) (rest : List Tagged) → are_brief (tagged ∷ rest) ≡ true → are_brief rest ≡ true
rest_brief tagged rest e = second_true (is_brief tagged.command) (are_brief rest) e

pub brief_more : (all : List Tagged) (tagged : Tagged) → are_brief all ≡ true → is_brief tagged.command ≡ true → are_brief (all ++ tagged ∷ []) ≡ true
brief_more [] tagged a t = both_true (is_brief tagged.command) true t refl
brief_more (one ∷ all) tagged a t =
    both_true (is_brief one.command) (are_brief (all ++ tagged ∷ [])) (first_brief one all a) (brief_more all tagged (rest_brief one all a) t)

asked_more : (items : List Item) (all : List Tagged) (item : Item) (tagged : Tagged) → AreAsked items all → IsRequest None item (requests.Command tagged) → AreAsked (items ++ item ∷ []) (all ++ tagged ∷ [])
asked_more [] [] item tagged a i = (i, tt)
asked_more [] (one ∷ all) item tagged a i = absurd a
asked_more (first ∷ items) [] item tagged a i = absurd a
asked_more (first ∷ items) (one ∷ all) item tagged a i = (a.0, asked_more items all item tagged a.1 i)

pub texts-append : (xs ys : List Answer) → texts (xs ++ ys) ≡ texts xs ++ texts ys
texts-append xs ys = flat_map-append text_of_answer xs ys

pub no_answers : (tags : List (List ℕ)) (replies : List Reply) → answers_by tags (take 0 replies) ≡ []
no_answers [] replies = refl
no_answers (tag ∷ tags) replies = refl

next_answers : (tags : List (List ℕ)) (replies : List Reply) (i : ℕ) (tag : List ℕ) (reply : Reply) → i < length tags → i < length replies → tag ≡ get_or tags i tag → reply ≡ get_or replies i reply
    → answers_by tags (take (suc i) replies) ≡ answers_by tags (take i replies) ++ answers_of tag reply
next_answers [] replies i tag reply h k e f = absurd (none_below_zero i h)
next_answers (t ∷ tags) [] i tag reply h k e f = absurd (none_below_zero i k)
next_answers (t ∷ tags) (r ∷ replies) zero tag reply h k e f = ap (λ (rest : List Answer). answers_of t r ++ rest) (no_answers tags replies) ∙ append-nil (answers_of t r) ∙ ap (λ (x : List ℕ). answers_of x r) (sym e) ∙ ap (λ (x : Reply). answers_of tag x) (sym f)
next_answers (t ∷ tags) (r ∷ replies) (suc i) tag reply h k e f =
    ap (λ (rest : List Answer). answers_of t r ++ rest) (next_answers tags replies i tag reply (omega (arith, h)) (omega (arith, k)) e f)
    ∙ sym (append_assoc (answers_of t r) (answers_by tags (take i replies)) (answers_of tag reply))

-- one further reply
pub answers_next : (tags : List (List ℕ)) (replies : List Reply) (i : ℕ) (tag : List ℕ) (reply : Reply) → i < length tags → i < length replies → tag ≡ get_or tags i tag → reply ≡ get_or replies i reply
    → answers_by tags (take (i + 1) replies) ≡ answers_by tags (take i replies) ++ answers_of tag reply
answers_next tags replies i tag reply h k e f =
    let one : i + 1 ≡ suc i = omega arith in
    ap (λ (n : ℕ). answers_by tags (take n replies)) one ∙ next_answers tags replies i tag reply h k e f

first_answers : (tags : List (List ℕ)) (replies : List Reply) (tag : List ℕ) (reply : Reply) → answers_by (tag ∷ tags) (take 1 (reply ∷ replies)) ≡ answers_of tag reply
first_answers tags replies tag reply = ap (λ (rest : List Answer). answers_of tag reply ++ rest) (no_answers tags replies) ∙ append-nil (answers_of tag reply)

-- only one reply
pub answers_at : (tags : List (List ℕ)) (replies : List Reply) (i : ℕ) (tag : List ℕ) (reply : Reply) → i < length tags → i < length replies → tag ≡ get_or tags i tag → reply ≡ get_or replies i reply
    → answers_by (drop i tags) (take 1 (drop i replies)) ≡ answers_of tag reply
answers_at [] replies i tag reply h k e f = absurd (none_below_zero i h)
answers_at (t ∷ tags) [] i tag reply h k e f = absurd (none_below_zero i k)
answers_at (t ∷ tags) (r ∷ replies) zero tag reply h k e f = first_answers tags replies t r ∙ ap (λ (x : List ℕ). answers_of x r) (sym e) ∙ ap (λ (x : Reply). answers_of tag x) (sym f)
answers_at (t ∷ tags) (r ∷ replies) (suc i) tag reply h k e f = answers_at tags replies i tag reply (omega (arith, h)) (omega (arith, k)) e f

module _ {S : Type 0} (steps : S → PortCall → Result Reply PortFault → S → Type 0) where
  -- there are at most as many replies as commands
  pub carries_fit : (all : List Tagged) (replies : List Reply) (given : Result (Unit {0}) PortFault) (old new : S) → CarriesCommands steps old all replies given new → length replies ≤ length (tags_of all)
  carries_fit [] [] given old new c = omega arith
  carries_fit [] (reply ∷ replies) given old new c = absurd c
  carries_fit (tagged ∷ all) [] given old new c = omega arith
  carries_fit (tagged ∷ all) (reply ∷ replies) given old new c = let rest = carries_fit all replies given c.0 new c.2 in omega (arith, rest)

  brief_taken : (old new : S) (item : Item) (tagged : Tagged) (reply : Reply) → IsRequest None item (requests.Command tagged) → is_brief tagged.command ≡ true → steps old (asked.Command tagged) (Ok reply) new
      → AnswersItem steps old None item (answers_of tagged.tag reply) new None false
  brief_taken old new item tagged reply i b s = (
    requests.Command tagged,
    i,
    (reply, s, refl, none_if (is_idle tagged.command) (is_done reply) tagged.tag (brief_wakes tagged.command b), false_if (is_logout tagged.command) (is_done reply) (brief_no_logout tagged.command b)),
  )

  carried : (items : List Item) (all : List Tagged) (replies : List Reply) (old new : S) (u : Unit {0}) → AreAsked items all → are_brief all ≡ true → CarriesCommands steps old all replies (Ok u) new
      → Converses steps old None items (texts (answers_by (tags_of all) replies)) new None
  carried [] [] [] old new u a b c = (refl, c, refl)
  carried [] [] (reply ∷ replies) old new u a b c = absurd c
  carried [] (tagged ∷ all) replies old new u a b c = absurd a
  carried (item ∷ items) [] replies old new u a b c = absurd a
  carried (item ∷ items) (tagged ∷ all) [] old new u a b c = absurd c
  carried (item ∷ items) (tagged ∷ all) (reply ∷ replies) old new u a b c = (
    answers_of tagged.tag reply,
    c.0,
    None,
    texts (answers_by (tags_of all) replies),
    brief_taken old c.0 item tagged reply a.0 (first_brief tagged all b) c.1,
    texts-append (answers_of tagged.tag reply) (answers_by (tags_of all) replies),
    carried items all replies c.0 new u a.1 (rest_brief tagged all b) c.2,
  )

  -- the port gave no reply to one of the commands
  faulted : (items : List Item) (all : List Tagged) (replies : List Reply) (old new : S) (fault : PortFault) → AreAsked items all → are_brief all ≡ true → CarriesCommands steps old all replies (Err fault) new
      → EndsAtItem steps old None items (end_reason_of fault) (texts (answers_by (tags_of all) replies)) new
  faulted [] [] [] old new fault a b c = absurd c
  faulted [] [] (reply ∷ replies) old new fault a b c = absurd c
  faulted [] (tagged ∷ all) replies old new fault a b c = absurd a
  faulted (item ∷ items) [] replies old new fault a b c = absurd a
  faulted (item ∷ items) (tagged ∷ all) [] old new fault a b c =
      record {
        front = [];
        item = item;
        back = items;
        before = [];
        mid = old;
        between = None;
        given = [];
        items_are = refl;
        answered = (refl, refl, refl);
        stops = inr (requests.Command tagged, a.0, inr (inr (inr (asked.Command tagged, fault, refl, c, refl, refl))));
        output_is = refl;
      }
  faulted (item ∷ items) (tagged ∷ all) (reply ∷ replies) old new fault a b c =
      let one = answers_of tagged.tag reply in
      let rest = answers_by (tags_of all) replies in
      let first : Converses steps old None (item ∷ []) (texts one) c.0 None = (one, c.0, None, [], brief_taken old c.0 item tagged reply a.0 (first_brief tagged all b) c.1, sym (append-nil (texts one)), (refl, refl, refl)) in
      let tail_ends = faulted items all replies c.0 new fault a.1 (rest_brief tagged all b) c.2 in
      subst (λ (output : List ℕ). EndsAtItem steps old None (item ∷ items) (end_reason_of fault) output new) (sym (texts-append one rest)) (ends_at_item_append steps old None (item ∷ []) items (end_reason_of fault) (texts one) c.0 None (texts rest) new first tail_ends)

  -- memory ran out for a reply to one of the commands
  lacks_answers : (items : List Item) (all : List Tagged) (replies : List Reply) (given : Result (Unit {0}) PortFault) (old new : S) (whole : ℕ) (answers first : List Answer) → AreAsked items all → are_brief all ≡ true
      → CarriesCommands steps old all replies given new → whole < length replies → answers ≡ answers_by (tags_of all) (take whole replies) ++ first → IsPrefixOf first (answers_by (drop whole (tags_of all)) (take 1 (drop whole replies)))
      → LacksAnswers steps old None items (texts answers) new
  lacks_answers [] [] [] given old new whole answers first a b c w e f = absurd (none_below_zero whole w)
  lacks_answers [] [] (reply ∷ replies) given old new whole answers first a b c w e f = absurd c
  lacks_answers [] (tagged ∷ all) replies given old new whole answers first a b c w e f = absurd a
  lacks_answers (item ∷ items) [] replies given old new whole answers first a b c w e f = absurd a
  lacks_answers (item ∷ items) (tagged ∷ all) [] given old new whole answers first a b c w e f = absurd (none_below_zero whole w)
  lacks_answers (item ∷ items) (tagged ∷ all) (reply ∷ replies) given old new zero answers first a b c w e f =
      record {
        front = [];
        batch = item ∷ items;
        back = [];
        before = [];
        mid = old;
        command = tagged;
        later = all;
        reply = reply;
        replies = replies;
        fault = given;
        written = first;
        items_are = sym (append-nil (item ∷ items));
        answered = (refl, refl, refl);
        asked = a;
        brief = b;
        carried_out = c;
        first_answers = subst (λ (xs : List Answer). IsPrefixOf first xs) (first_answers (tags_of all) replies tagged.tag reply) f;
        output_is = ap texts e;
      }
  lacks_answers (item ∷ items) (tagged ∷ all) (reply ∷ replies) given old new (suc whole) answers first a b c w e f =
      let one = answers_of tagged.tag reply in
      let rest = answers_by (tags_of all) (take whole replies) ++ first in
      let has_conversed : Converses steps old None (item ∷ []) (texts one) c.0 None = (one, c.0, None, [], brief_taken old c.0 item tagged reply a.0 (first_brief tagged all b) c.1, sym (append-nil (texts one)), (refl, refl, refl)) in
      let lacks = lacks_answers items all replies given c.0 new whole rest first a.1 (rest_brief tagged all b) c.2 (omega (arith, w)) refl f in
      let split : answers ≡ one ++ rest = e ∙ append_assoc one (answers_by (tags_of all) (take whole replies)) first in
      subst (λ (output : List ℕ). LacksAnswers steps old None (item ∷ items) output new) (sym (ap texts split ∙ texts-append one rest)) (lacks_answers_append steps old None (item ∷ []) items (texts one) c.0 None (texts rest) new has_conversed lacks)

  -- memory ran out before an item was given to the port
  ends_unasked : (old : S) (idling : Option (List ℕ)) (front : List Item) (item : Item) (back items : List Item) (output : List ℕ) (new : S) (between : Option (List ℕ)) → items ≡ front ++ item ∷ back → Converses steps old idling front output new between
      → EndsAtItem steps old idling items NoMemory (output ++ []) new
  ends_unasked old idling front item back items output new between e c =
      record { front = front; item = item; back = back; before = output; mid = new; between = between; given = []; items_are = e; answered = c; stops = inl (refl, refl, refl); output_is = refl }

  -- memory ran out before a batch was given to the port
  batch_unasked : (items : List Item) (all : List Tagged) (ended : Ended) (answers : List Answer) (old new : S) → AreAsked items all → ended ≡ NoMemory → answers ≡ [] → new ≡ old → ((all ≡ []) → ⊥) → EndsAtItem steps old None items ended (texts answers) new
  batch_unasked [] [] ended answers old new a e n s some = absurd (some refl)
  batch_unasked [] (tagged ∷ all) ended answers old new a e n s some = absurd a
  batch_unasked (item ∷ items) all ended answers old new a e n s some =
      let none : EndsAtItem steps old None (item ∷ items) NoMemory (texts []) old = ends_unasked old None [] item items (item ∷ items) [] old None refl (refl, refl, refl) in
      let here : EndsAtItem steps old None (item ∷ items) NoMemory (texts answers) old = subst (λ (xs : List Answer). EndsAtItem steps old None (item ∷ items) NoMemory (texts xs) old) (sym n) none in
      let ends : EndsAtItem steps old None (item ∷ items) ended (texts answers) old = subst (λ (x : Ended). EndsAtItem steps old None (item ∷ items) x (texts answers) old) (sym e) here in
      subst (λ (x : S). EndsAtItem steps old None (item ∷ items) ended (texts answers) x) (sym s) ends

  faltered : (items : List Item) (all : List Tagged) (ended : Ended) (answers : List Answer) (old new : S) → AreAsked items all → are_brief all ≡ true → EndsInBatch steps old all ended answers new
      → EndsOverItems steps old None items ended (texts answers) new
  faltered items all ended answers old new a b h =
      elim h [
        | inl none ↦ inr (inl (batch_unasked items all ended answers old new a none.0 none.1 none.2 none.3))
        | inr some ↦ elim some.3 [
          | inl fault ↦
              let c = subst (λ (given : Result (Unit {0}) PortFault). CarriesCommands steps old all some.0 given new) fault.1 some.2 in
              let broken = faulted items all some.0 old new fault.0 a b c in
              let same = subst (λ (output : List ℕ). EndsAtItem steps old None items (end_reason_of fault.0) output new) (sym (ap texts fault.3)) broken in
              inr (inl (subst (λ (e : Ended). EndsAtItem steps old None items e (texts answers) new) (sym fault.2) same))
          | inr lost ↦
              let in_reply = lost.1 in
              inr (inr (lost.0, lacks_answers items all some.0 some.1 old new in_reply.whole answers in_reply.first a b some.2 in_reply.within in_reply.answers_are in_reply.first_of_reply))
        ]
      ]

  -- no commands wait
  none_carried : (items : List Item) (all : List Tagged) (replies : List Reply) (old new : S) (idling : Option (List ℕ)) (u : Unit {0}) → items ≡ [] → AreAsked items all → CarriesCommands steps old all replies (Ok u) new
      → Converses steps old idling items (texts (answers_by (tags_of all) replies)) new idling
  none_carried [] [] [] old new idling u e a c = (refl, c, refl)
  none_carried [] [] (reply ∷ replies) old new idling u e a c = absurd c
  none_carried [] (tagged ∷ all) replies old new idling u e a c = absurd a
  none_carried (item ∷ items) all replies old new idling u e a c = cc

  none_given : (ended : Ended) (answers : List Answer) (old new : S) (idling : Option (List ℕ)) (replies : List Reply) (given : Result (Unit {0}) PortFault) → CarriesCommands steps old [] replies given new
      → ((fault : PortFault) × (given ≡ Err fault) × (ended ≡ end_reason_of fault) × (answers ≡ answers_by [] replies)) ⊎ ((ended ≡ NoMemory) × EndsInReply [] replies answers)
      → EndsOverItems steps old idling [] ended (texts answers) new
  none_given ended answers old new idling [] (Err fault) c k = absurd c
  none_given ended answers old new idling (reply ∷ replies) given c k = absurd c
  none_given ended answers old new idling [] (Ok u) c k =
      elim k [
        | inl fault ↦ let no : ◌≡◌ {A = Result (Unit {0}) PortFault} (Ok u) (Err fault.0) = fault.1 in cc
        | inr lost ↦ absurd (none_below_zero lost.1.whole lost.1.within)
      ]

  none_faltered : (items : List Item) (all : List Tagged) (ended : Ended) (answers : List Answer) (old new : S) (idling : Option (List ℕ)) → items ≡ [] → AreAsked items all → EndsInBatch steps old all ended answers new
      → EndsOverItems steps old idling items ended (texts answers) new
  none_faltered [] [] ended answers old new idling e a h =
      elim h [
        | inl none ↦ absurd (none.3 refl)
        | inr some ↦ none_given ended answers old new idling some.0 some.1 some.2 some.3
      ]
  none_faltered [] (tagged ∷ all) ended answers old new idling e a h = absurd a
  none_faltered (item ∷ items) all ended answers old new idling e a h = cc

  -- ---- items that were taken

  module _ {old : S} {idling : Option (List ℕ)} where
    pub taken_none : HasTaken steps old idling [] [] old idling []
    taken_none = record { front = []; back = []; items_are = refl; answered = (refl, refl, refl); waits = tt; brief = refl; awake = inl refl }

    -- a brief command joins those that wait
    pub taken_waits : (items : List Item) (output : List ℕ) (new : S) (between : Option (List ℕ)) (waiting : List Tagged) (item : Item) (tagged : Tagged)
        → HasTaken steps old idling items output new between waiting → IsRequest between item (requests.Command tagged) → is_brief tagged.command ≡ true
        → HasTaken steps old idling (items ++ item ∷ []) output new between (waiting ++ tagged ∷ [])
    taken_waits items output new between waiting item tagged g i b =
        let none = of_command between item tagged i in
        record {
          front = g.front;
          back = g.back ++ item ∷ [];
          items_are = ap (λ (xs : List Item). xs ++ item ∷ []) g.items_are ∙ append_assoc g.front g.back (item ∷ []);
          answered = g.answered;
          waits = asked_more g.back waiting item tagged g.waits (subst (λ (k : Option (List ℕ)). IsRequest k item (requests.Command tagged)) none i);
          brief = brief_more waiting tagged g.brief b;
          awake = inr none;
        }

    -- the commands that waited were given to the port
    pub taken_answered : (items : List Item) (output : List ℕ) (new : S) (between : Option (List ℕ)) (waiting : List Tagged) (replies : List Reply) (u : Unit {0}) (next : S)
        → HasTaken steps old idling items output new between waiting → CarriesCommands steps new waiting replies (Ok u) next
        → Converses steps old idling items (output ++ texts (answers_by (tags_of waiting) replies)) next between
    taken_answered items output new between waiting replies u next g c =
        let rest = texts (answers_by (tags_of waiting) replies) in
        let now : Converses steps new between g.back rest next between =
        elim g.awake [
          | inl nil ↦ none_carried g.back waiting replies new next between u nil g.waits c
          | inr none ↦ subst (λ (k : Option (List ℕ)). Converses steps new k g.back rest next k) (sym none) (carried g.back waiting replies new next u g.waits g.brief c)
        ] in
        subst (λ (xs : List Item). Converses steps old idling xs (output ++ rest) next between) (sym g.items_are) (converses-append steps old idling g.front g.back output new between rest next between g.answered now)

    pub taken_falters : (items : List Item) (output : List ℕ) (new : S) (between : Option (List ℕ)) (waiting : List Tagged) (ended : Ended) (answers : List Answer) (next : S)
        → HasTaken steps old idling items output new between waiting → EndsInBatch steps new waiting ended answers next → EndsOverItems steps old idling items ended (output ++ texts answers) next
    taken_falters items output new between waiting ended answers next g h =
        let now : EndsOverItems steps new between g.back ended (texts answers) next =
        elim g.awake [
          | inl nil ↦ none_faltered g.back waiting ended answers new next between nil g.waits h
          | inr none ↦ subst (λ (k : Option (List ℕ)). EndsOverItems steps new k g.back ended (texts answers) next) (sym none) (faltered g.back waiting ended answers new next g.waits g.brief h)
        ] in
        subst (λ (xs : List Item). EndsOverItems steps old idling xs ended (output ++ texts answers) next) (sym g.items_are) (ends_over_items_append steps old idling g.front g.back ended output new between (texts answers) next g.answered now)

    -- items after the one at which the conversation ended don't matter
    pub leaves_append : (items : List Item) (item : Item) (ended : Ended) (output : List ℕ) (new : S) → EndsOverItems steps old idling items ended output new → EndsOverItems steps old idling (items ++ item ∷ []) ended output new
    leaves_append items item ended output new h = leaves_first steps old idling items (items ++ item ∷ []) ended output new (item ∷ [], refl) h

    unasked_first : (front waiting : List Item) (item : Item) (items : List Item) (output : List ℕ) (new : S) (between : Option (List ℕ)) → items ≡ front ++ (waiting ++ item ∷ []) → Converses steps old idling front output new between
        → EndsAtItem steps old idling items NoMemory (output ++ []) new
    unasked_first front [] item items output new between e c = ends_unasked old idling front item [] items output new between e c
    unasked_first front (one ∷ waiting) item items output new between e c = ends_unasked old idling front one (waiting ++ item ∷ []) items output new between e c

    -- memory ran out before the port was called
    pub taken_unasked : (items : List Item) (output : List ℕ) (new : S) (between : Option (List ℕ)) (waiting : List Tagged) (item : Item)
        → HasTaken steps old idling items output new between waiting → EndsOverItems steps old idling (items ++ item ∷ []) NoMemory (output ++ []) new
    taken_unasked items output new between waiting item g =
        let here : items ++ item ∷ [] ≡ g.front ++ (g.back ++ item ∷ []) = ap (λ (xs : List Item). xs ++ item ∷ []) g.items_are ∙ append_assoc g.front g.back (item ∷ []) in
        inr (inl (unasked_first g.front g.back item (items ++ item ∷ []) output new between here g.answered))

    -- an item was answered at once
    pub taken_item : (items : List Item) (output : List ℕ) (new : S) (between : Option (List ℕ)) (item : Item) (given : List Answer) (next : S) (after : Option (List ℕ))
        → Converses steps old idling items output new between → AnswersItem steps new between item given next after false → HasTaken steps old idling (items ++ item ∷ []) (output ++ texts given) next after []
    taken_item items output new between item given next after c t =
        let one : Converses steps new between (item ∷ []) (texts given) next after = (given, next, after, [], t, sym (append-nil (texts given)), (refl, refl, refl)) in
        record {
          front = items ++ item ∷ [];
          back = [];
          items_are = sym (append-nil (items ++ item ∷ []));
          answered = converses-append steps old idling items (item ∷ []) output new between (texts given) next after c one;
          waits = tt;
          brief = refl;
          awake = inl refl;
        }

    pub taken_stops : (items : List Item) (output : List ℕ) (new : S) (between : Option (List ℕ)) (item : Item) (ended : Ended) (given : List Answer) (next : S)
        → Converses steps old idling items output new between → StopsAt steps new between item ended given next → EndsOverItems steps old idling (items ++ item ∷ []) ended (output ++ texts given) next
    taken_stops items output new between item ended given next c s =
        inr (inl (record { front = items; item = item; back = []; before = output; mid = new; between = between; given = given; items_are = refl; answered = c; stops = s; output_is = refl }))

  -- a request was handled after a batch, and its reply may not be printed yet
  pub taken_request : (old : S) (idling : Option (List ℕ)) (items : List Item) (output all : List ℕ) (mid : S) (between : Option (List ℕ)) (item : Item) (request : Request) (unprinted : Option UnprintedReply) (text held longer : List ℕ) (new : S) (after : Option (List ℕ))
      → Converses steps old idling items (output ++ all) mid between → IsRequest between item request → held ≡ text ++ all → TakesRequest steps mid between request unprinted held new after longer
      → TakesItem steps old idling (items ++ item ∷ []) output unprinted text new after [] longer
  taken_request old idling items output all mid between item request None text held longer new after c is e r =
      let has_taken = taken_item items (output ++ all) mid between item r.0 new after c (request, is, r.1) in (
        all ++ texts r.0,
        subst (λ (x : List ℕ). HasTaken steps old idling (items ++ item ∷ []) x new after []) (append_assoc output all (texts r.0)) has_taken,
        r.2 ∙ ap (λ (x : List ℕ). x ++ texts r.0) e ∙ append_assoc text all (texts r.0),
      )
  taken_request old idling items output all mid between item request (Some unprinted) text held longer new after c is e r =
      let given = answers_of unprinted.tag unprinted.reply in
      let has_taken = taken_item items (output ++ all) mid between item given new after c (request, is, r.0) in (
        all,
        subst (λ (x : List ℕ). HasTaken steps old idling (items ++ item ∷ []) x new after []) (append_assoc output all (texts given)) has_taken,
        r.1 ∙ e,
        λ front first.
            subst (λ (x : List ℕ). EndsOverItems steps old idling (items ++ item ∷ []) NoMemory x new) (append_assoc output all (texts front))
            (taken_stops items (output ++ all) mid between item NoMemory front new c (inr (request, is, inr (inl (refl, (given, after, false, r.0, first)))))),
      )
