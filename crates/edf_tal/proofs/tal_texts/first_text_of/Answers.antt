use Rattle.std.proofs.Common.{lit<}
use Rattle.std.proofs.lemmas.Str.Pattern.{split_once_first}
use Rattle.edf_tal.proofs.TextFacts.{first_text_at}
use Rattle.edf_tal.proofs.tal_texts.first_text_of.Goals as goal

pub returns : goal.returns
returns c =
    first_text_at c.args.body.now c.split_once.result (split_once_first 20 c.args.body.now c.split_once.result c.split_once.ensures.cases (lit< tt))
