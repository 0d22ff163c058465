use Rattle.std.proofs.Common.{◌∙◌, ap, length, option_map, refl, sym}
use Rattle.std.proofs.lemmas.Option.{slice_get_read}
use Rattle.edf_pace.specs.declared.walk.track.Track.{Track}
use Rattle.edf_pace.specs.walk.Pairs.{Places}
use Rattle.edf_findings.proofs.ToldFacts.{both-at, both-there, first-lacks, pair-at, second-lacks}
use Rattle.edf_findings.proofs.samples.claimed.CountedLabels.channel.Goals as goal

pub returns-in-Some-Some-clause-both : goal.returns-in-Some-Some-clause-both
returns-in-Some-Some-clause-both c =
    let got = c.in_ok-pair.ensures.lookup in
    let at = slice_get_read c.args.self.pairs.now (length c.args.self.pairs.now) c.in_ok-at.at c.in_ok-pair.pair.now refl (got.3).0 got.1 in
    let is = both-at c.args.self.headers.0.now c.args.self.headers.1.now c.args.self.labels.now c.args.self.pairs.now c.args.label.now c.in_ok-at.at c.in_ok-pair.pair.now c.requires.pairs c.in_ok-at.ensures at in
    both-there (c.in_ok-pair.pair.now).original (c.in_ok-pair.pair.now).export c.in-Some-Some.here c.in-Some-Some.there c.in-Some-Some.is-0 c.in-Some-Some.is-1 ∙ is

pub returns-in-Some-Some-clause-told : goal.returns-in-Some-Some-clause-told
returns-in-Some-Some-clause-told c =
    let got = c.in_ok-count.ensures.lookup in
    let pair = c.in_ok-pair.ensures.lookup in
    let at = slice_get_read c.args.self.pairs.now (length c.args.self.pairs.now) c.in_ok-at.at c.in_ok-pair.pair.now refl (pair.3).0 pair.1 in
    let are = pair-at c.args.self.headers.0.now c.args.self.headers.1.now c.args.self.labels.now c.args.self.pairs.now c.args.label.now c.in_ok-at.at c.in_ok-pair.pair.now c.requires.pairs c.in_ok-at.ensures at in
    record {
      at = c.in_ok-at.at;
      label_is = c.in_ok-at.ensures;
      count = c.in_ok-count.count.now;
      count_is = slice_get_read c.args.self.counts.now (length c.args.self.counts.now) c.in_ok-at.at c.in_ok-count.count.now refl (got.3).0 got.1;
      told = c.of.ensures.told;
      here = (c.in-Some-Some.here).place;
      here_is = sym (ap (λ (p : Places). p.0) are) ∙ ap (option_map (λ (track : Track). track.place)) c.in-Some-Some.is-0;
      there = (c.in-Some-Some.there).place;
      there_is = sym (ap (λ (p : Places). p.1) are) ∙ ap (option_map (λ (track : Track). track.place)) c.in-Some-Some.is-1;
      rate = c.of.ensures.rate;
      compared = c.of.ensures.compared;
    }

pub returns-in_default-clause-both : goal.returns-in_default-clause-both
returns-in_default-clause-both c =
    let got = c.in_ok-pair.ensures.lookup in
    let at = slice_get_read c.args.self.pairs.now (length c.args.self.pairs.now) c.in_ok-at.at c.in_ok-pair.pair.now refl (got.3).0 got.1 in
    let is = both-at c.args.self.headers.0.now c.args.self.headers.1.now c.args.self.labels.now c.args.self.pairs.now c.args.label.now c.in_ok-at.at c.in_ok-pair.pair.now c.requires.pairs c.in_ok-at.ensures at in
    second-lacks (c.in_ok-pair.pair.now).original (c.in_ok-pair.pair.now).export c.in_default.is-1 ∙ is

pub returns-in_default-2-clause-both : goal.returns-in_default-2-clause-both
returns-in_default-2-clause-both c =
    let got = c.in_ok-pair.ensures.lookup in
    let at = slice_get_read c.args.self.pairs.now (length c.args.self.pairs.now) c.in_ok-at.at c.in_ok-pair.pair.now refl (got.3).0 got.1 in
    let is = both-at c.args.self.headers.0.now c.args.self.headers.1.now c.args.self.labels.now c.args.self.pairs.now c.args.label.now c.in_ok-at.at c.in_ok-pair.pair.now c.requires.pairs c.in_ok-at.ensures at in
    first-lacks (c.in_ok-pair.pair.now).original (c.in_ok-pair.pair.now).export c.in_default.is-0 ∙ is
