use Rattle.std.proofs.Common.{codes, refl, subst}
use Rattle.clap.specs.Words.{found_of}
use Rattle.server_settings.specs.Settings.{AreTexts, IsPlaceText}
use Rattle.server_settings.proofs.LinkLemmas.{values_are}
use Rattle.server_settings.proofs.settings.rev1_in.Goals as goal

pub returns-in-None-clause-words : goal.returns-in-None-clause-words
returns-in-None-clause-words c =
    let all = values_are (found_of c.args.matches.now) (codes "rev1") c.get_strs.result _ _ c.get_strs.ensures refl c.unwrap_or-texts.ensures in
    subst (λ texts. AreTexts IsPlaceText texts c.in-Ok.places.items) all c.in-Ok.ensures.texts
