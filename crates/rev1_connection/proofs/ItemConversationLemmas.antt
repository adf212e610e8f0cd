use Rattle.std.proofs.Common.{◌≡◌, inl, inr, ℕ, Bool, true, false, List, [], ◌∷◌, ◌++◌, Option, Some, None, Result, Ok, Err, IsErr, IsOk, refl, sym, ap, ◌∙◌, subst, append_assoc, append-nil}
use Rattle.std.specs.Prelude.{IfErr, is_ok}
use Rattle.std.proofs.lemmas.Bool.{false≢true}
use Rattle.imap_lex.specs.Framing.{Cut, FaultsNow, IsPrefix, FrameProgress, cut_from, start, with_items}
use Rattle.imap_lex.specs.declared.fault.FrameFaultKind.{FrameFaultKind}
use Rattle.imap_lex.specs.declared.fault.FrameFaultKind.TheVariants.{LineTooLong, LiteralTooLong, NulByte, NoMemory as Memory, Failed}
use Rattle.imap_lex.specs.declared.item.Item.{Item}
use Rattle.imap_lex.specs.declared.limits.Limits.{Limits}
use Rattle.imap_lex.proofs.CutLemmas.{cut_of-append}
use Rattle.imap_connection.proofs.ConversationsLemmas.{output-append, output_empty, output_part, last_output_after}
use Rattle.imap_connection.specs.Devices.{GivesOctets, IsOutput, TakesAllOrPart}
use Rattle.imap_connection.specs.EndReasons.{IsLastOutput}
use Rattle.imap_connection.specs.declared.end_reason.Ended.{Ended}
use Rattle.imap_connection.specs.declared.end_reason.Ended.TheVariants.{PeerClosed, Framing, ReadFailed, WriteFailed}
use Rattle.rev1_connection.specs.ItemConversations.{Converses, EndsAtItem, EndsOverCut, EndsOverOctets, HasAnswered, HasAnsweredSome, IsCut}

-- ---- the octets read

gave-append : (a b c : Option (List ℕ)) (x y : List ℕ) → GivesOctets a x b → GivesOctets b y c → GivesOctets a (x ++ y) c
gave-append None b c x y h k = tt
gave-append (Some old) b c x y h k =
    let k' : GivesOctets (Some h.0) y c = subst (λ (o : Option (List ℕ)). GivesOctets o y c) h.1 k in
    (k'.0, k'.1, h.2 ∙ (ap (λ t. x ++ t) k'.2 ∙ sym (append_assoc x y k'.0)))

gave-nil : (a : Option (List ℕ)) → GivesOctets a [] a
gave-nil None = tt
gave-nil (Some old) = (old, refl, refl)

-- ---- items

ok_or_err : (state : Result FrameProgress FrameFaultKind) → IsOk state → IsErr state → ⊥
ok_or_err (Ok p) o e = false≢true e
ok_or_err (Err why) o e = false≢true o

-- the items before a fault are the first of all
items_before_fault : (why : FrameFaultKind) (items : List Item) (state now : Result FrameProgress FrameFaultKind) (cut : Cut) → FaultsNow why items state now cut → IsPrefix items cut.0
items_before_fault Memory items state now cut f = f.2
items_before_fault LineTooLong items state now cut f = ([], ap (λ (k : Cut). k.0) f.2 ∙ sym (append-nil items))
items_before_fault LiteralTooLong items state now cut f = ([], ap (λ (k : Cut). k.0) f.2 ∙ sym (append-nil items))
items_before_fault NulByte items state now cut f = ([], ap (λ (k : Cut). k.0) f.2 ∙ sym (append-nil items))
items_before_fault Failed items state now cut f = (cut.0, ap (λ front. front ++ cut.0) (sym f.1))

module _ {S A : Type 0} (answers : S → A → Item → List ℕ → S → A → Type 0) (stops : S → A → Item → Ended → List ℕ → S → Type 0) where
  pub converses-append : (old : S) (session : A) (items more : List Item) (output : List ℕ) (mid : S) (between : A) (rest : List ℕ) (new : S) (after : A)
      → Converses answers stops old session items output mid between → Converses answers stops mid between more rest new after → Converses answers stops old session (items ++ more) (output ++ rest) new after
  converses-append old session [] more output mid between rest new after c d =
      let P : S → A → List ℕ → Type 0 = λ s i t. Converses answers stops s i more (t ++ rest) new after in
      subst (λ (t : List ℕ). P old session t) (sym c.0) (subst (λ (i : A). Converses answers stops old i more rest new after) c.2 (subst (λ (s : S). Converses answers stops s between more rest new after) c.1 d))
  converses-append old session (item ∷ items) more output mid between rest new after c d = (
    c.0,
    c.1,
    c.2,
    c.3 ++ rest,
    c.4,
    ap (λ t. t ++ rest) c.5 ∙ append_assoc c.0 c.3 rest,
    converses-append c.1 c.2 items more c.3 mid between rest new after c.6 d,
  )

  -- one item
  pub converses_one : (old : S) (session : A) (item : Item) (given : List ℕ) (new : S) (after : A) → answers old session item given new after → Converses answers stops old session (item ∷ []) given new after
  converses_one old session item given new after a = (given, new, after, [], a, sym (append-nil given), (refl, refl, refl))

  answered_append : (old : S) (session : A) (items more : List Item) (output : List ℕ) (mid : S) (between : A) (rest : List ℕ) (new : S)
      → Converses answers stops old session items output mid between → HasAnswered answers stops mid between more rest new → HasAnswered answers stops old session (items ++ more) (output ++ rest) new
  answered_append old session items more output mid between rest new c g =
      record { after = g.after; answered = converses-append old session items more output mid between rest new g.after c g.answered }

  answered_some_append : (old : S) (session : A) (items more : List Item) (output : List ℕ) (mid : S) (between : A) (rest : List ℕ) (new : S)
      → Converses answers stops old session items output mid between → HasAnsweredSome answers stops mid between more rest new → HasAnsweredSome answers stops old session (items ++ more) (output ++ rest) new
  answered_some_append old session items more output mid between rest new c g =
      record {
        front = items ++ g.front;
        first = (g.first.0, ap (λ t. items ++ t) g.first.1 ∙ sym (append_assoc items g.front g.first.0));
        answered_front = answered_append old session items g.front output mid between rest new c g.answered_front;
      }

  pub ends_at_item_append : (old : S) (session : A) (items more : List Item) (ended : Ended) (output : List ℕ) (mid : S) (between : A) (rest : List ℕ) (new : S)
      → Converses answers stops old session items output mid between → EndsAtItem answers stops mid between more ended rest new → EndsAtItem answers stops old session (items ++ more) ended (output ++ rest) new
  ends_at_item_append old session items more ended output mid between rest new c b =
      record {
        front = items ++ b.front;
        item = b.item;
        back = b.back;
        before = output ++ b.before;
        mid = b.mid;
        between = b.between;
        given = b.given;
        items_are = ap (λ t. items ++ t) b.items_are ∙ sym (append_assoc items b.front (b.item ∷ b.back));
        answered = converses-append old session items b.front output mid between b.before b.mid b.between c b.answered;
        stopped = b.stopped;
        output_is = ap (λ t. output ++ t) b.output_is ∙ sym (append_assoc output b.before b.given);
      }

  -- items after the one at which the conversation ended don't matter
  pub ends_first : (old : S) (session : A) (items all : List Item) (ended : Ended) (output : List ℕ) (new : S) → IsPrefix items all → EndsAtItem answers stops old session items ended output new → EndsAtItem answers stops old session all ended output new
  ends_first old session items all ended output new f b =
      record {
        front = b.front;
        item = b.item;
        back = b.back ++ f.0;
        before = b.before;
        mid = b.mid;
        between = b.between;
        given = b.given;
        items_are = f.1 ∙ ap (λ t. t ++ f.0) b.items_are ∙ append_assoc b.front (b.item ∷ b.back) f.0;
        answered = b.answered;
        stopped = b.stopped;
        output_is = b.output_is;
      }

  -- the conversation ends at an item after others
  pub ends_here : (old : S) (session : A) (front : List Item) (item : Item) (back items : List Item) (ended : Ended) (before : List ℕ) (mid : S) (between : A) (given : List ℕ) (new : S)
      → items ≡ front ++ item ∷ back → Converses answers stops old session front before mid between → stops mid between item ended given new → EndsAtItem answers stops old session items ended (before ++ given) new
  ends_here old session front item back items ended before mid between given new e c s =
      record {
        front = front;
        item = item;
        back = back;
        before = before;
        mid = mid;
        between = between;
        given = given;
        items_are = e;
        answered = c;
        stopped = s;
        output_is = refl;
      }

  -- ---- pieces

  is_cut_append : (why : FrameFaultKind) (old : S) (session : A) (items : List Item) (cut : Cut) (output : List ℕ) (mid : S) (between : A) (rest : List ℕ) (new : S)
      → Converses answers stops old session items output mid between → IsCut answers stops mid between cut why rest new → IsCut answers stops old session (with_items items cut) why (output ++ rest) new
  is_cut_append Memory old session items cut output mid between rest new c h = answered_some_append old session items cut.0 output mid between rest new c h
  is_cut_append LineTooLong old session items cut output mid between rest new c h = (h.0, answered_append old session items cut.0 output mid between rest new c h.1)
  is_cut_append LiteralTooLong old session items cut output mid between rest new c h = (h.0, answered_append old session items cut.0 output mid between rest new c h.1)
  is_cut_append NulByte old session items cut output mid between rest new c h = (h.0, answered_append old session items cut.0 output mid between rest new c h.1)
  is_cut_append Failed old session items cut output mid between rest new c h = absurd h

  ends_over_cut_append : (old : S) (session : A) (items : List Item) (cut : Cut) (ended : Ended) (output : List ℕ) (mid : S) (between : A) (rest : List ℕ) (new : S)
      → Converses answers stops old session items output mid between → EndsOverCut answers stops mid between cut ended rest new → EndsOverCut answers stops old session (with_items items cut) ended (output ++ rest) new
  ends_over_cut_append old session items cut ended output mid between rest new c h =
      elim h [
        | inl f ↦ inl (f.0, f.1, is_cut_append f.0 old session items cut output mid between rest new c f.2)
        | inr l ↦ inr (ends_at_item_append old session items cut.0 ended output mid between rest new c l)
      ]

  answered_cut : (old : S) (session : A) (items : List Item) (cut : Cut) (output : List ℕ) (new : S) (after : A) → cut.0 ≡ items → Converses answers stops old session items output new after → HasAnswered answers stops old session cut.0 output new
  answered_cut old session items cut output new after e c = record { after = after; answered = subst (λ (xs : List Item). Converses answers stops old session xs output new after) (sym e) c }

  -- all items of a piece were taken, and the framer failed
  cut_at_end : (why : FrameFaultKind) (old : S) (session : A) (items : List Item) (state now : Result FrameProgress FrameFaultKind) (cut : Cut) (output : List ℕ) (new : S) (after : A)
      → IsOk state → FaultsNow why items state now cut → Converses answers stops old session items output new after → IsCut answers stops old session cut why output new
  cut_at_end Memory old session items state now cut output new after o f c = record { front = items; first = f.2; answered_front = record { after = after; answered = c } }
  cut_at_end LineTooLong old session items state now cut output new after o f c = (ap (λ (k : Cut). k.1) f.2, answered_cut old session items cut output new after (ap (λ (k : Cut). k.0) f.2) c)
  cut_at_end LiteralTooLong old session items state now cut output new after o f c = (ap (λ (k : Cut). k.1) f.2, answered_cut old session items cut output new after (ap (λ (k : Cut). k.0) f.2) c)
  cut_at_end NulByte old session items state now cut output new after o f c = (ap (λ (k : Cut). k.1) f.2, answered_cut old session items cut output new after (ap (λ (k : Cut). k.0) f.2) c)
  cut_at_end Failed old session items state now cut output new after o f c = absurd (ok_or_err state o f.0)

  pub halts_cut : (why : FrameFaultKind) (old : S) (session : A) (items : List Item) (state now : Result FrameProgress FrameFaultKind) (cut : Cut) (output : List ℕ) (new : S) (after : A)
      → IsOk state → FaultsNow why items state now cut → Converses answers stops old session items output new after → EndsOverCut answers stops old session cut (Framing why) output new
  halts_cut why old session items state now cut output new after o f c = inl (why, refl, cut_at_end why old session items state now cut output new after o f c)

  -- the conversation ended at an item of a piece whose octets can't be cut any further
  pub halts_before : (why : FrameFaultKind) (old : S) (session : A) (items : List Item) (state now : Result FrameProgress FrameFaultKind) (cut : Cut) (ended : Ended) (output : List ℕ) (new : S)
      → FaultsNow why items state now cut → EndsAtItem answers stops old session items ended output new → EndsOverCut answers stops old session cut ended output new
  halts_before why old session items state now cut ended output new f l = inr (ends_first old session items cut.0 ended output new (items_before_fault why items state now cut f) l)

  -- ---- all octets read

  -- The octets read so far, and the state of the conversation over them.
  pub record Underway (limits : Limits) (old : S) (first : A) (left : Option (List ℕ)) (taken : Option (List ℕ)) (held : List ℕ) (new : S) (session : A) (rest : Option (List ℕ)) (now : Option (List ℕ)) (text : List ℕ) (state : Result FrameProgress FrameFaultKind) : Type 0 where
    pub octets : List ℕ
    pub output : List ℕ
    pub gave : GivesOctets left octets rest
    pub state_is : state ≡ (cut_from limits (Ok start) octets).1
    pub framer_ok : IsOk state
    pub answered : Converses answers stops old first (cut_from limits (Ok start) octets).0 output new session
    pub output_is : IsOutput taken held output now text

  -- The contract of the loop when it ends.
  abbrev pub HasEnded : Limits → S → A → Option (List ℕ) → Option (List ℕ) → List ℕ → Ended → Bool → S → Option (List ℕ) → Option (List ℕ) → List ℕ → Type 0
  HasEnded limits old first left taken held ended at_end new rest now text =
      (octets : List ℕ) × (output : List ℕ) × GivesOctets left octets rest × EndsOverOctets answers stops old first (cut_from limits (Ok start) octets) ended at_end output new × IsLastOutput ended taken held output now text

  module _ {limits : Limits} {old : S} {first : A} {left taken : Option (List ℕ)} {held : List ℕ} where
    pub underway_first : (session : A) (state : Result FrameProgress FrameFaultKind) → state ≡ Ok start → session ≡ first → Underway limits old first left taken held old session left taken held state
    underway_first session state s i =
        record { octets = []; output = []; gave = gave-nil left; state_is = s; framer_ok = ap is_ok s; answered = (refl, refl, i); output_is = output_empty taken held }

    pub underway_wrote : (new : S) (session : A) (rest now then : Option (List ℕ)) (text none : List ℕ) (state : Result FrameProgress FrameFaultKind)
        → Underway limits old first left taken held new session rest now text state → IsOutput now text [] then none → Underway limits old first left taken held new session rest then none state
    underway_wrote new session rest now then text none state u s =
        record {
          octets = u.octets;
          output = u.output;
          gave = u.gave;
          state_is = u.state_is;
          framer_ok = u.framer_ok;
          answered = u.answered;
          output_is = subst (λ (t : List ℕ). IsOutput taken held t then none) (append-nil u.output) (output-append taken now then held u.output text [] none u.output_is s);
        }

    -- further octets, and the conversation continues
    pub underway_next : (mid new : S) (session after : A) (rest further now then : Option (List ℕ)) (text more_text piece output : List ℕ) (state next : Result FrameProgress FrameFaultKind)
        → Underway limits old first left taken held mid session rest now text state → GivesOctets rest piece further
        → Converses answers stops mid session (cut_from limits state piece).0 output new after → IsOutput now text output then more_text → (next ≡ (cut_from limits state piece).1) × IsOk next
        → Underway limits old first left taken held new after further then more_text next
    underway_next mid new session after rest further now then text more_text piece output state next u g c s n =
        let cut = cut_from limits (Ok start) u.octets in
        let whole = cut_of-append limits (Ok start) u.octets piece in
        let here : Converses answers stops mid session (cut_from limits cut.1 piece).0 output new after = subst (λ (r : Result FrameProgress FrameFaultKind). Converses answers stops mid session (cut_from limits r piece).0 output new after) u.state_is c in
        record {
          octets = u.octets ++ piece;
          output = u.output ++ output;
          gave = gave-append left rest further u.octets piece u.gave g;
          state_is = n.0 ∙ ap (λ (r : Result FrameProgress FrameFaultKind). (cut_from limits r piece).1) u.state_is ∙ sym (ap (λ (k : Cut). k.1) whole);
          framer_ok = n.1;
          answered =
              subst (λ (k : Cut). Converses answers stops old first k.0 (u.output ++ output) new after) (sym whole) (converses-append old first cut.0 (cut_from limits cut.1 piece).0 u.output mid session output new after u.answered here);
          output_is = output-append taken now then held u.output text output more_text u.output_is s;
        }

    -- further octets, and the conversation ends
    pub underway_ends : (mid new : S) (session : A) (rest further now then : Option (List ℕ)) (text more_text piece output : List ℕ) (state : Result FrameProgress FrameFaultKind) (ended : Ended) (at_end : Bool)
        → Underway limits old first left taken held mid session rest now text state → GivesOctets rest piece further
        → EndsOverCut answers stops mid session (cut_from limits state piece) ended output new → IsLastOutput ended now text output then more_text
        → HasEnded limits old first left taken held ended at_end new further then more_text
    underway_ends mid new session rest further now then text more_text piece output state ended at_end u g h s =
        let cut = cut_from limits (Ok start) u.octets in
        let whole = cut_of-append limits (Ok start) u.octets piece in
        let here : EndsOverCut answers stops mid session (cut_from limits cut.1 piece) ended output new = subst (λ (r : Result FrameProgress FrameFaultKind). EndsOverCut answers stops mid session (cut_from limits r piece) ended output new) u.state_is h in
        let all : EndsOverCut answers stops old first (cut_from limits (Ok start) (u.octets ++ piece)) ended (u.output ++ output) new =
        subst (λ (k : Cut). EndsOverCut answers stops old first k ended (u.output ++ output) new) (sym whole) (ends_over_cut_append old first cut.0 (cut_from limits cut.1 piece) ended u.output mid session output new u.answered here) in
        (u.octets ++ piece, u.output ++ output, gave-append left rest further u.octets piece u.gave g, inr (inr (inr all)), last_output_after ended taken now then held u.output text output more_text u.output_is s)

    answered_now : (new : S) (session : A) (rest now : Option (List ℕ)) (text : List ℕ) (state : Result FrameProgress FrameFaultKind) → (u : Underway limits old first left taken held new session rest now text state)
        → HasAnswered answers stops old first (cut_from limits (Ok start) u.octets).0 u.output new
    answered_now new session rest now text state u = record { after = session; answered = u.answered }

    still_cut : (new : S) (session : A) (rest now : Option (List ℕ)) (text : List ℕ) (state : Result FrameProgress FrameFaultKind) → (u : Underway limits old first left taken held new session rest now text state) → IsOk (cut_from limits (Ok start) u.octets).1
    still_cut new session rest now text state u = subst (λ (r : Result FrameProgress FrameFaultKind). IsOk r) u.state_is u.framer_ok

    pub underway_closed : (new : S) (session : A) (rest further now : Option (List ℕ)) (text piece : List ℕ) (state : Result FrameProgress FrameFaultKind) (at_end : Bool) → Underway limits old first left taken held new session rest now text state
        → piece ≡ [] → GivesOctets rest piece further → at_end ≡ true → HasEnded limits old first left taken held PeerClosed at_end new further now text
    underway_closed new session rest further now text piece state at_end u e g t =
        let gave : GivesOctets left u.octets further = subst (λ (os : List ℕ). GivesOctets left os further) (append-nil u.octets) (gave-append left rest further u.octets [] u.gave (subst (λ (os : List ℕ). GivesOctets rest os further) e g)) in
        (u.octets, u.output, gave, inl (refl, t, still_cut new session rest now text state u, answered_now new session rest now text state u), inr ((λ x. cc), u.output_is))

    pub underway_read_failed : (new : S) (session : A) (rest further now : Option (List ℕ)) (text : List ℕ) (state : Result FrameProgress FrameFaultKind) (at_end : Bool) → Underway limits old first left taken held new session rest now text state
        → further ≡ rest → HasEnded limits old first left taken held ReadFailed at_end new further now text
    underway_read_failed new session rest further now text state at_end u e =
        (u.octets, u.output, subst (λ (r : Option (List ℕ)). GivesOctets left u.octets r) (sym e) u.gave, inr (inl (refl, still_cut new session rest now text state u, answered_now new session rest now text state u)), inr ((λ x. cc), u.output_is))

    pub underway_write_failed : (new : S) (session : A) (rest now then : Option (List ℕ)) (text left_text : List ℕ) (state : Result FrameProgress FrameFaultKind) (at_end : Bool) → Underway limits old first left taken held new session rest now text state
        → TakesAllOrPart false now text then → HasEnded limits old first left taken held WriteFailed at_end new rest then left_text
    underway_write_failed new session rest now then text left_text state at_end u t =
        let lost : TakesAllOrPart false taken (held ++ (u.output ++ [])) then = output_part taken now then held u.output text [] u.output_is (subst (λ (x : List ℕ). TakesAllOrPart false now x then) (sym (append-nil text)) t) in (
          u.octets,
          u.output,
          u.gave,
          inr (inr (inl (refl, still_cut new session rest now text state u, answered_now new session rest now text state u))),
          inl (refl, subst (λ (x : List ℕ). TakesAllOrPart false taken (held ++ x) then) (append-nil u.output) lost),
        )

-- ---- results

module _ {S A : Type 0} (answers : S → A → Item → List ℕ → S → A → Type 0) (stops : S → A → Item → Ended → List ℕ → S → Type 0) (old new : S) (session : A) (k l : Option (List ℕ)) (held left : List ℕ) where
  -- from the items to the octets that give them
  pub halts_whole : {T : Type 0} (r : Result T Ended) (items slice : List Item) (cut : Cut) → cut.0 ≡ items → slice ≡ items
      → IfErr r (λ ended. (output : List ℕ) × EndsAtItem answers stops old session slice ended output new × IsLastOutput ended k held output l left)
      → IfErr r (λ ended. (output : List ℕ) × EndsOverCut answers stops old session cut ended output new × IsLastOutput ended k held output l left)
  halts_whole (Ok x) items slice cut e d o = tt
  halts_whole (Err ended) items slice cut e d o = (o.0, inr (subst (λ (xs : List Item). EndsAtItem answers stops old session xs ended o.0 new) (d ∙ sym e) o.1), o.2)
