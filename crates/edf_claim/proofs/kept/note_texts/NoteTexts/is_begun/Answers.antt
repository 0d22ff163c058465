use Rattle.std.proofs.Common.{map}
use Rattle.edf_claim.proofs.PrefixFacts.{begun_among}
use Rattle.edf_claim.proofs.kept.note_texts.NoteTexts.is_begun.Goals as goal

pub returns : goal.returns
returns c =
    begun_among (map (λ t. t.items) c.args.self.now.remove_prefix.items) c.args.self.now.shortest.items c.deref.result.now c.args.text.now c.begins_with_one.result c.args.self.now.shortest_are c.deref.ensures.value c.begins_with_one.ensures
