use Rattle.std.proofs.Common.{◌≡◌, ℕ, false, List, [], ◌∷◌, ◌++◌, Result, Ok, Err, OnOk, OnErr, refl, sym, ap, ◌∙◌, subst, append_assoc, append-nil}
use Rattle.std.proofs.lemmas.Bool.{false≢true}
use Rattle.imap_answers.specs.declared.answer.Answer.{Answer}
use Rattle.rev1_front.specs.Showing.{AreShown, EachIsShown, IsFrontOf}
use Rattle.rev1_front.specs.declared.form.Form.{Form}
use Rattle.rev1_front.specs.declared.form.Form.TheVariants as forms
use Rattle.rev1_front.specs.declared.session.Mode.{Mode}
use Rattle.rev1_connection.specs.ShownReplies.{AreShownIn, EachIsShownIn, IsPlanShown, is_lsub, rename_text, shows_whole}
use Rattle.rev1_connection.specs.declared.manner.Manner.{Manner}
use Rattle.rev1_connection.specs.declared.manner.Manner.TheVariants as manners
use Rattle.rev1_fetch.specs.declared.text_item.TextItem.{TextItem}

-- ---- one by one

each_append : (mode : Mode) (form : Form) (front more : List Answer) (a b : List ℕ) → EachIsShown mode form front a → EachIsShown mode form more b → EachIsShown mode form (front ++ more) (a ++ b)
each_append mode form [] more a b h k = subst (λ (t : List ℕ). EachIsShown mode form more (t ++ b)) (sym h) k
each_append mode form (answer ∷ front) more a b h k = (h.0, h.1 ++ b, h.2, each_append mode form front more h.1 b h.3 k, ap (λ t. t ++ b) h.4 ∙ append_assoc h.0 h.1 b)

each_in_append : (mode : Mode) (manner : Manner) (front more : List Answer) (a b : List ℕ) → EachIsShownIn mode manner front a → EachIsShownIn mode manner more b → EachIsShownIn mode manner (front ++ more) (a ++ b)
each_in_append mode manner [] more a b h k = subst (λ (t : List ℕ). EachIsShownIn mode manner more (t ++ b)) (sym h) k
each_in_append mode manner (answer ∷ front) more a b h k = (h.0, h.1 ++ b, h.2, each_in_append mode manner front more h.1 b h.3 k, ap (λ t. t ++ b) h.4 ∙ append_assoc h.0 h.1 b)

form_append : (mode : Mode) (form : Form) (all one front more : List Answer) (a b : List ℕ) → is_lsub form ≡ false → AreShown mode form all front a → AreShown mode form one more b → AreShown mode form all (front ++ more) (a ++ b)
form_append mode forms.Plain all one front more a b w h k = each_append mode forms.Plain front more a b h k
form_append mode forms.Capability all one front more a b w h k = each_append mode forms.Capability front more a b h k
form_append mode forms.Opening all one front more a b w h k = each_append mode forms.Opening front more a b h k
form_append mode forms.Search all one front more a b w h k = each_append mode forms.Search front more a b h k
form_append mode (forms.Status only_recent) all one front more a b w h k = each_append mode (forms.Status only_recent) front more a b h k
form_append mode (forms.Lsub pattern) all one front more a b w h k = absurd (false≢true (sym w))
form_append mode forms.Check all one front more a b w h k = each_append mode forms.Check front more a b h k
form_append mode forms.Authenticate all one front more a b w h k = each_append mode forms.Authenticate front more a b h k

-- answers that are shown one by one, after others
pub shown_append : (mode : Mode) (manner : Manner) (all one front more : List Answer) (a b : List ℕ) → shows_whole manner ≡ false → AreShownIn mode manner all front a → AreShownIn mode manner one more b → AreShownIn mode manner all (front ++ more) (a ++ b)
shown_append mode (manners.Form form) all one front more a b w h k = form_append mode form all one front more a b w h k
shown_append mode (manners.Plan plan) all one front more a b w h k = each_in_append mode (manners.Plan plan) front more a b h k
shown_append mode manners.Renamed all one front more a b w h k = each_in_append mode manners.Renamed front more a b h k

form_none : (mode : Mode) (form : Form) (given : List Answer) → AreShown mode form given [] []
form_none mode forms.Plain given = refl
form_none mode forms.Capability given = refl
form_none mode forms.Opening given = refl
form_none mode forms.Search given = refl
form_none mode (forms.Status r) given = refl
form_none mode (forms.Lsub p) given = refl
form_none mode forms.Check given = refl
form_none mode forms.Authenticate given = refl

-- nothing is shown of no answers
pub shown_none : (mode : Mode) (manner : Manner) (given : List Answer) → AreShownIn mode manner given [] []
shown_none mode (manners.Form form) given = form_none mode form given
shown_none mode (manners.Plan plan) given = refl
shown_none mode manners.Renamed given = refl

-- ---- the first answers

-- the first answers, and the first of those to one more
pub front_append : (all first rest : List Answer) (answer : Answer) (front : List Answer) → all ≡ first ++ answer ∷ rest → IsFrontOf front (answer ∷ []) → IsFrontOf (first ++ front) all
front_append all first rest answer front e f =
    (f.0 ++ rest, e ∙ ap (λ (xs : List Answer). first ++ (xs ++ rest)) f.1 ∙ ap (λ (xs : List Answer). first ++ xs) (append_assoc front f.0 rest) ∙ sym (append_assoc first front (f.0 ++ rest)))

-- ---- one answer

module _ (mode : Mode) (answer : Answer) (old new : List ℕ) where
  -- an answer to a FETCH with a plan
  pub planned_ok : {T E : Type 0} (r : Result T E) (plan : List TextItem) → OnOk r ((given : List ℕ) × IsPlanShown plan answer given × (new ≡ old ++ given))
      → OnOk r ((given : List ℕ) × AreShownIn mode (manners.Plan plan) (answer ∷ []) (answer ∷ []) given × (new ≡ old ++ given))
  planned_ok (Ok x) plan o = (o.0, (o.0, [], o.1, refl, sym (append-nil o.0)), o.2)
  planned_ok (Err e) plan o = tt

  -- an answer to the NOOP after a RENAME
  pub renamed_ok : {T E : Type 0} (r : Result T E) → OnOk r (new ≡ old ++ rename_text answer)
      → OnOk r ((given : List ℕ) × AreShownIn mode manners.Renamed (answer ∷ []) (answer ∷ []) given × (new ≡ old ++ given))
  renamed_ok (Ok x) o = (rename_text answer, (rename_text answer, [], refl, refl, sym (append-nil (rename_text answer))), o)
  renamed_ok (Err e) o = tt

  -- nothing was added
  pub none_err : {T E : Type 0} (r : Result T E) (manner : Manner) → OnErr r (new ≡ old)
      → OnErr r ((front : List Answer) × (given : List ℕ) × IsFrontOf front (answer ∷ []) × AreShownIn mode manner (answer ∷ []) front given × (new ≡ old ++ given))
  none_err (Ok x) manner o = tt
  none_err (Err e) manner o = ([], [], (answer ∷ [], refl), shown_none mode manner (answer ∷ []), o ∙ sym (append-nil old))
