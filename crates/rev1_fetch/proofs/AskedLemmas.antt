-- What an item asks for, and why it isn't read.
use Rattle.std.proofs.Common.{◌≡◌, ℕ, Bool, true, false, not, List, Option, Some, None, Result, Ok, Err, refl, sym, subst}
use Rattle.std.specs.Prelude.{IfErr, OnOk}
use Rattle.rev1_fetch.specs.FetchWords.{is_plain, word_item}
use Rattle.rev1_fetch.specs.ReadItems.{IsAsked, IsAskedBy, IsSectionItem, IsUnread, IsUnreadBy, asked_plain, asked_text}
use Rattle.rev1_fetch.specs.ReadSteps.{IsUnreadSection}
use Rattle.rev1_fetch.specs.declared.item_fault.ItemFault.{ItemFault}
use Rattle.rev1_fetch.specs.declared.item_fault.ItemFault.TheVariants.{NoMemory, PartZero, Unknown}
use Rattle.rev1_fetch.specs.declared.item_words.WordItem.{WordItem}
use Rattle.rev1_fetch.specs.declared.text_item.PartSection.{PartSection}
use Rattle.rev1_fetch.specs.declared.text_item.TextItem.TheVariants as texts

pub on_ok : {T E : Type 0} (r : Result T E) {P Q : Type 0} → (P → Q) → OnOk r P → OnOk r Q
on_ok (Ok x) f h = f h
on_ok (Err e) f h = h

pub if_err : {T E : Type 0} (r : Result T E) (P Q : E → Type 0) → ((e : E) → P e → Q e) → IfErr r P → IfErr r Q
if_err (Ok x) P Q f h = h
if_err (Err e) P Q f h = f e h

module _ (item : List ℕ) where
  pub plain_asked : is_plain item ≡ true → IsAsked item (asked_plain item)
  plain_asked e = subst (λ (p : Bool). IsAskedBy p (word_item item) item (asked_plain item)) (sym e) refl

  pub word_asked : (word : WordItem) → is_plain item ≡ false → word_item item ≡ Some word → IsAsked item (asked_text (texts.Word word.word) word.sets_seen)
  word_asked word e w =
      subst (λ (p : Bool). IsAskedBy p (word_item item) item (asked_text (texts.Word word.word) word.sets_seen)) (sym e)
      (subst (λ (o : Option WordItem). IsAskedBy false o item (asked_text (texts.Word word.word) word.sets_seen)) (sym w) refl)

  pub section_asked : (section : PartSection) (peek : Bool) → is_plain item ≡ false → word_item item ≡ None → IsSectionItem item (Ok (section, peek)) → IsAsked item (asked_text (texts.Section section) (not peek))
  section_asked section peek e w h =
      subst (λ (p : Bool). IsAskedBy p (word_item item) item (asked_text (texts.Section section) (not peek))) (sym e)
      (subst (λ (o : Option WordItem). IsAskedBy false o item (asked_text (texts.Section section) (not peek))) (sym w) (section, peek, h, refl))

  pub unread_section : (fault : ItemFault) → IsSectionItem item (Err fault) → IsUnreadSection item fault
  unread_section NoMemory h = tt
  unread_section PartZero h = h
  unread_section Unknown h = h

  none_unread : (fault : ItemFault) → IsUnreadSection item fault → IsUnreadBy false None item fault
  none_unread NoMemory h = tt
  none_unread PartZero h = h
  none_unread Unknown h = h

  pub section_unread : (fault : ItemFault) → is_plain item ≡ false → word_item item ≡ None → IsUnreadSection item fault → IsUnread item fault
  section_unread fault e w h =
      subst (λ (p : Bool). IsUnreadBy p (word_item item) item fault) (sym e) (subst (λ (o : Option WordItem). IsUnreadBy false o item fault) (sym w) (none_unread fault h))

  pub memory_unread : (fault : ItemFault) → fault ≡ NoMemory → IsUnread item fault
  memory_unread fault e = subst (λ (f : ItemFault). IsUnread item f) (sym e) tt
