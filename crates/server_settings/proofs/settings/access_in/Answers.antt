use Rattle.clap.specs.Words.{found_of}
use Rattle.server_settings.proofs.WordLemmas.{access_is_named}
use Rattle.server_settings.proofs.settings.access_in.Goals as goal

pub returns : goal.returns
returns c =
    access_is_named (found_of c.args.matches.now) c.get_flag-is_preauth.result c.get_str-user.result c.get_str-pass.result c.get_str-pass_file.result c.given_access_of.result c.given_access_of.ensures
    c.get_flag-is_preauth.ensures.none c.get_flag-is_preauth.ensures.value c.get_flag-is_preauth.ensures.other c.get_str-user.ensures c.get_str-pass.ensures c.get_str-pass_file.ensures
