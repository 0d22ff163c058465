use Rattle.std.proofs.Common.{◌≡◌, List, subst, option_map, IfSome, MatchOption}
use Rattle.edf_header.specs.Heads.{Head}
use Rattle.edf_header.specs.Sound.{IsSound}
use Rattle.edf_heads.specs.differences.ChannelDifferences.{HasNoChannel}
use Rattle.edf_heads.specs.ChannelIndexes.{IsChannelAt}
use Rattle.edf_heads.specs.Comparisons.{channel_of}
use Rattle.edf_heads.specs.declared.channel_index.Channel.{Channel}
use Rattle.edf_heads.proofs.ChannelFacts.{Answers, channel_found, channel_there, channel_named}
use Rattle.edf_heads.proofs.channel_index.ChannelIndex.channel.Goals as goal

pub returns-clause-named : goal.returns-clause-named
returns-clause-named c =
    subst (λ (h : Head). MatchOption c.find_label.result (HasNoChannel h c.args.label.now) (λ d. (d.signal.now).label ≡ c.args.label.now)) c.self.view_is
    (channel_named c.self.inside.header.now c.self.inside.sorted.items c.args.label.now c.find_label.result c.self.invariant (let P : List Channel → Type 0 = λ ss. Answers ss c.args.label.now c.find_label.result in subst P c.deref.ensures.value c.find_label.ensures))

pub returns-clause-there : goal.returns-clause-there
returns-clause-there c =
    subst (λ (h : Head). IfSome c.find_label.result (IsChannelAt h)) c.self.view_is
    (channel_there c.self.inside.header.now c.self.inside.sorted.items c.args.label.now c.find_label.result c.self.invariant (let P : List Channel → Type 0 = λ ss. Answers ss c.args.label.now c.find_label.result in subst P c.deref.ensures.value c.find_label.ensures))

pub returns-clause-found : goal.returns-clause-found
returns-clause-found c =
    subst (λ (h : Head). option_map (λ d. d.signal.now) c.find_label.result ≡ channel_of c.args.label.now h.signals) c.self.view_is
    (channel_found c.self.inside.header.now c.self.inside.sorted.items c.args.label.now c.find_label.result c.self.invariant (let P : List Channel → Type 0 = λ ss. Answers ss c.args.label.now c.find_label.result in subst P c.deref.ensures.value c.find_label.ensures))

pub returns-clause-sound : goal.returns-clause-sound
returns-clause-sound c = subst IsSound c.self.view_is c.self.invariant.sound
