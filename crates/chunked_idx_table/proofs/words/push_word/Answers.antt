use Rattle.std.proofs.Common.{◌∙◌, ap, map}
use Rattle.std.proofs.lemmas.List.{map-append}
use Rattle.chunked_idx_table.specs.Words.{position_kept, has_mark}
use Rattle.chunked_idx_table.proofs.Kept.{mark_pushed}
use Rattle.chunked_idx_table.proofs.words.push_word.Goals as goal

pub returns-clause-added : goal.returns-clause-added
returns-clause-added c = ap (map position_kept) c.in_ok-push.ensures.ok ∙ map-append position_kept c.args.words.now.items _

pub returns-clause-mark : goal.returns-clause-mark
returns-clause-mark c = ap has_mark c.in_ok-push.ensures.ok ∙ mark_pushed c.args.words.now.items c.args.word c.requires
