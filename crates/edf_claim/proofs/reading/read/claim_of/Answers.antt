use Rattle.std.proofs.Common.{◌≡◌, map, sym, subst, SFits}
use Rattle.std.specs.Int.{w64}
use Rattle.std.proofs.Math.Facts.{to_z-of_z}
use Rattle.toml.specs.View.{table_view}
use Rattle.edf_claim.specs.Claims.{IsClaim}
use Rattle.edf_claim.specs.ClaimValues.{ClaimValue}
use Rattle.edf_claim.specs.Reading.{terms_of}
use Rattle.edf_claim.proofs.ReadingFacts.{table-says, terms-are, said-sound}
use Rattle.edf_claim.proofs.reading.read.claim_of.Goals as goal

pub invariant_of-result : goal.invariant_of-result
invariant_of-result c =
    let fits : SFits w64 c.args.shift = c.ranges.shift in
    let m = table_view c.args._table.now in
    let terms : ClaimValue = record {
      channels = c.args.lists.channels.items;
      keep = c.args.lists.keep.items;
      anonymous = c.args.lists.anonymous.items;
      shift = c.args.shift;
      remove = map (λ t. t.items) c.args.texts.remove.items;
      remove_prefix = map (λ t. t.items) c.args.texts.remove_prefix.items;
      blank = map (λ t. t.items) c.args.texts.blank.items;
    } in
    let same : terms ≡ terms_of m = terms-are m terms (record {
      channels = c.requires.channels;
      keep = c.requires.keep;
      anonymous = c.requires.anonymous;
      shift = c.requires.shift;
      remove = c.requires.remove;
      remove_prefix = c.requires.remove_prefix;
      blank = c.requires.blank;
    }) in
    rw (to_z-of_z fits) (subst (λ (t : ClaimValue). IsClaim t) (sym same) (said-sound m (terms_of m) (table-says m c.requires.passed)))

pub returns : goal.returns
returns c =
    let fits : SFits w64 c.args.shift = c.ranges.shift in
    let m = table_view c.args._table.now in
    let terms : ClaimValue = record {
      channels = c.args.lists.channels.items;
      keep = c.args.lists.keep.items;
      anonymous = c.args.lists.anonymous.items;
      shift = c.args.shift;
      remove = map (λ t. t.items) c.args.texts.remove.items;
      remove_prefix = map (λ t. t.items) c.args.texts.remove_prefix.items;
      blank = map (λ t. t.items) c.args.texts.blank.items;
    } in
    let same : terms ≡ terms_of m = terms-are m terms (record {
      channels = c.requires.channels;
      keep = c.requires.keep;
      anonymous = c.requires.anonymous;
      shift = c.requires.shift;
      remove = c.requires.remove;
      remove_prefix = c.requires.remove_prefix;
      blank = c.requires.blank;
    }) in
    rw (to_z-of_z fits) same
