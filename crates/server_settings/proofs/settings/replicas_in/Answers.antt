use Rattle.std.proofs.Common.{ℕ, List, codes, refl, subst}
use Rattle.std.specs.Prelude.{IfOk}
use Rattle.clap.specs.Words.{found_of}
use Rattle.server_settings.specs.Settings.{AreTexts, IsPlaceText}
use Rattle.server_settings.proofs.LinkLemmas.{values_are}
use Rattle.server_settings.proofs.settings.replicas_in.Goals as goal

pub returns-clause-words : goal.returns-clause-words
returns-clause-words c =
    let all = values_are (found_of c.args.matches.now) (codes "REPLICA") c.get_strs.result _ _ c.get_strs.ensures refl c.unwrap_or-texts.ensures in
    subst (λ (values : List (List ℕ)). IfOk c.places_of.result (λ places. AreTexts IsPlaceText values places.items)) all c.places_of.ensures.texts
