use Rattle.std.proofs.Common.{◌≡◌, ◌⊎◌, inl, inr, ℕ, List, [], ◌∷◌, ◌++◌, map, sym, refl, ap, ◌∙◌, subst}
use Rattle.tags_clocks.specs.declared.id.OpId.{OpId}
use Rattle.merge_laws.specs.Orders.{IsIn, HasId}
use Rattle.merge_laws.proofs.Lists.{id_in_back, id_of_element}
use Rattle.causal_inbox.specs.declared.cause_index.CauseEntry.{CauseEntry}
use Rattle.causal_inbox.specs.CauseIndex.{AreApart, AreIndexed}
use Rattle.causal_inbox.proofs.ReceivedLemmas.{remaining_apart, only_id}
use Rattle.causal_inbox.proofs.CauseCountLemmas.{grown}

module _ {O : Type 0} (id : O → OpId) (clock : O → List (ℕ × ℕ)) where
  -- the index after operations are applied
  pub grown_all : (old ops all held : List O) (entries : List CauseEntry) → all ≡ old ++ ops → AreApart id held old → ((x : O) → IsIn x held → ¬ HasId id ops (id x)) → AreIndexed id clock [] old held entries → AreApart id held all × ((x : O) → IsIn x ops → HasId id all (id x)) × AreIndexed id clock (map id ops) all held entries
  grown_all old ops all held entries more disjoint new indexed =
      let disjoint' : AreApart id held all = remaining_apart id old ops all held held more disjoint (λ x t. (t, new x t)) in (
        disjoint',
        λ x t. subst (λ xs. HasId id xs (id x)) (sym more) (id_in_back id (id x) old ops (id_of_element id x ops t)),
        subst (λ xs. AreIndexed id clock (map id ops) xs held entries) (sym more) (grown id clock old ops held entries (subst (AreApart id held) more disjoint') indexed),
      )

  pub grown_one : (old all held : List O) (entries : List CauseEntry) (op : O) (i : OpId) → all ≡ old ++ op ∷ [] → i ≡ id op → AreApart id held old → ¬ HasId id held (id op) → AreIndexed id clock [] old held entries → AreApart id held all × HasId id all i × AreIndexed id clock (i ∷ []) all held entries
  grown_one old all held entries op i more is disjoint new indexed =
      let x = grown_all old (op ∷ []) all held entries more disjoint (λ y t. only_id id op y (λ e. new (subst (HasId id held) e (id_of_element id y held t)))) indexed in (
        x.0,
        subst (HasId id all) (sym is) (x.1 op (inl refl)),
        subst (λ j. AreIndexed id clock (j ∷ []) all held entries) (sym is) x.2,
      )
