use Rattle.std.proofs.Common.{◌≡◌, drop}
use Rattle.std.specs.List.{list_all}
use Rattle.imap_types.specs.Keywords.{is_lawful_keyword}
use Rattle.imap_commands.proofs.limits.are_lawful.Given as goal

abbrev pub invariant-loop-keyword : goal.invariant-loop-keyword
invariant-loop-keyword l = list_all is_lawful_keyword (drop l.keyword-index l.keywords) ≡ list_all is_lawful_keyword l.keywords
