-- What a claim says: which channels, annotations and intervals of time an export keeps of its original, what it makes anonymous, and by how much it moves the rest (this project's profile).
use Rattle.std.specs.Prelude.{◌≡◌, ◌≢◌, ℕ, ℤ, pos, neg_ℤ, ◌-◌, ◌≤ℤ◌, ◌<ℤ◌, ◌≤◌, ◌^◌, ◌⊎◌, List, [], ◌∷◌, length, map, slice_index, Some, None, codes, IsUtf8}
use Rattle.std.specs.List.{All}
use Rattle.edf_fields.specs.texts.OnsetsReading.{SpellsSpan}
use Rattle.edf_fields.specs.Lists.{Has}
use Rattle.edf_fields.specs.Distinct.{AreDistinct}
use Rattle.edf_claim.specs.declared.kept.interval.Interval.{Interval}
use Rattle.edf_fields.specs.declared.fields.which.Which.{Which}
use Rattle.edf_fields.specs.fields.SubfieldNames.{name_of}
use Rattle.toml.specs.Data.{string, integer, array, table, Items, no_items, item, Members, no_members, member, get_member}
use Rattle.toml.specs.Parse.{parse_document}
use Rattle.edf_fields.specs.texts.Printable.{IsPrintable}
use Rattle.edf_claim.specs.ClaimValues.{ClaimValue}

-- the array of these texts
abbrev pub text_items : List (List ℕ) → Items
text_items [] = no_items
text_items (t ∷ ts) = item (string t) (text_items ts)

-- the table has no key but these
abbrev pub HasOnlyKeys : List (List ℕ) → Members → Type 0
HasOnlyKeys keys no_members = Unit {0}
HasOnlyKeys keys (member key value rest) = Has keys key × HasOnlyKeys keys rest

-- the keys that a claim of format 1 may have
abbrev pub claim_keys : List (List ℕ)
claim_keys = codes "format" ∷ codes "channels" ∷ codes "keep" ∷ codes "anonymous" ∷ codes "shift" ∷ codes "remove" ∷ []

-- the keys that a claim of format 2 may have: two more
abbrev pub more_claim_keys : List (List ℕ)
more_claim_keys = codes "remove-prefix" ∷ codes "blank" ∷ claim_keys

-- the keys of an interval
abbrev pub interval_keys : List (List ℕ)
interval_keys = codes "from" ∷ codes "to" ∷ []

-- a label of at most 16 printable bytes, 32 to 126, that doesn't end with a space and isn't that of an annotation signal
pub record IsLabel (label : List ℕ) : Type 0 where
  pub short : length label ≤ 16
  pub printable : IsPrintable label
  pub ends : slice_index label (length label - 1) ≢ 32
  pub ordinary : label ≢ codes "EDF Annotations"

-- the table of one interval: exactly the keys `from` and `to`, texts that spell durations
pub record SaysInterval (entries : Members) (interval : Interval) : Type 0 where
  pub keys : HasOnlyKeys interval_keys entries
  pub from : List ℕ
  pub to : List ℕ
  pub from_there : get_member (codes "from") entries ≡ Some (string from)
  pub to_there : get_member (codes "to") entries ≡ Some (string to)
  pub from_is : SpellsSpan from interval.from_ps
  pub to_is : SpellsSpan to interval.to_ps

-- an array of the tables of these intervals, in order
abbrev pub AreIntervals : Items → List Interval → Type 0
AreIntervals items [] = items ≡ no_items
AreIntervals items (interval ∷ intervals) =
    (entries : Members) × (rest : Items) × (items ≡ item (table entries) rest) × SaysInterval entries interval × AreIntervals rest intervals

-- nothing follows the interval, or one that begins where it ends or later
abbrev pub IsFollowedBy : Interval → List Interval → Type 0
IsFollowedBy interval [] = Unit {0}
IsFollowedBy interval (next ∷ more) = interval.to_ps ≤ℤ next.from_ps

-- each interval ends before the next one begins, or where it does
abbrev pub AreInOrder : List Interval → Type 0
AreInOrder [] = Unit {0}
AreInOrder (interval ∷ intervals) = IsFollowedBy interval intervals × AreInOrder intervals

-- an interval of time from 0 on, whose end is behind its begin; a duration of 9 digits of seconds is below 10^21 picoseconds
pub record IsInterval (interval : Interval) : Type 0 where
  pub start : pos 0 ≤ℤ interval.from_ps
  pub order : interval.from_ps <ℤ interval.to_ps
  pub near : interval.to_ps <ℤ pos (10 ^ 21)

-- the table says this format
abbrev pub SaysFormat : ℕ → Members → Type 0
SaysFormat format entries = get_member (codes "format") entries ≡ Some (integer (pos format))

-- the format is one of the two that there are
abbrev pub HasFormat : Members → Type 0
HasFormat entries = SaysFormat 1 entries ⊎ SaysFormat 2 entries

-- the table has no key but those of its format
abbrev pub HasKeysOfFormat : Members → Type 0
HasKeysOfFormat entries = (SaysFormat 1 entries × HasOnlyKeys claim_keys entries) ⊎ (SaysFormat 2 entries × HasOnlyKeys more_claim_keys entries)

-- the channels that a table says: an array of these labels, at least one, none of them twice
pub record SaysChannels (entries : Members) (labels : List (List ℕ)) : Type 0 where
  pub there : get_member (codes "channels") entries ≡ Some (array (text_items labels))
  pub some : labels ≢ []
  pub each : All IsLabel labels
  pub distinct : AreDistinct labels

-- the intervals that a table says: an array of their tables, 1 to 1,000, in order
pub record SaysKeep (entries : Members) (intervals : List Interval) : Type 0 where
  pub items : Items
  pub there : get_member (codes "keep") entries ≡ Some (array items)
  pub tables : AreIntervals items intervals
  pub some : intervals ≢ []
  pub few : length intervals ≤ 1000
  pub each : All IsInterval intervals
  pub in_order : AreInOrder intervals

-- what a table makes anonymous: nothing where the key is absent, else the subfields of these names, none of them twice
pub record SaysAnonymous (entries : Members) (whiches : List Which) : Type 0 where
  pub said : ((get_member (codes "anonymous") entries ≡ None) × (whiches ≡ [])) ⊎ (get_member (codes "anonymous") entries ≡ Some (array (text_items (map name_of whiches))))
  pub distinct : AreDistinct whiches

-- the shift that a table says, in seconds: 0 where the key is absent
pub record SaysShift (entries : Members) (shift : ℤ) : Type 0 where
  pub said : ((get_member (codes "shift") entries ≡ None) × (shift ≡ pos 0)) ⊎ (get_member (codes "shift") entries ≡ Some (integer shift))
  pub not_far_back : neg_ℤ (pos (10 ^ 10)) ≤ℤ shift
  pub not_far_on : shift ≤ℤ pos (10 ^ 10)

-- the texts of annotations that a table removes: none where the key is absent, else these, none of them twice
pub record SaysRemove (entries : Members) (texts : List (List ℕ)) : Type 0 where
  pub said : ((get_member (codes "remove") entries ≡ None) × (texts ≡ [])) ⊎ (get_member (codes "remove") entries ≡ Some (array (text_items texts)))
  pub distinct : AreDistinct texts

-- the texts with which the text of a removed annotation begins, as a table says them: none where the key is absent, else these, none of them twice and none empty
pub record SaysRemovePrefix (entries : Members) (prefixes : List (List ℕ)) : Type 0 where
  pub said : ((get_member (codes "remove-prefix") entries ≡ None) × (prefixes ≡ [])) ⊎ (get_member (codes "remove-prefix") entries ≡ Some (array (text_items prefixes)))
  pub distinct : AreDistinct prefixes
  pub some_bytes : All (λ prefix. prefix ≢ []) prefixes

-- the texts of annotations that a table blanks: none where the key is absent, else these, none of them twice
pub record SaysBlank (entries : Members) (texts : List (List ℕ)) : Type 0 where
  pub said : ((get_member (codes "blank") entries ≡ None) × (texts ≡ [])) ⊎ (get_member (codes "blank") entries ≡ Some (array (text_items texts)))
  pub distinct : AreDistinct texts

-- the table says this claim: it is of format 1 or 2 and has no other keys than those of its format, and each key has its value, or is absent and has its default
pub record SaysClaim (entries : Members) (c : ClaimValue) : Type 0 where
  pub keys : HasKeysOfFormat entries
  pub channels : SaysChannels entries c.channels
  pub keep : SaysKeep entries c.keep
  pub anonymous : SaysAnonymous entries c.anonymous
  pub shift : SaysShift entries c.shift
  pub remove : SaysRemove entries c.remove
  pub remove_prefix : SaysRemovePrefix entries c.remove_prefix
  pub blank : SaysBlank entries c.blank

-- what holds of every claim, whatever table says it
pub record IsClaim (c : ClaimValue) : Type 0 where
  pub some_channels : c.channels ≢ []
  pub labels : All IsLabel c.channels
  pub distinct_channels : AreDistinct c.channels
  pub some_intervals : c.keep ≢ []
  pub few_intervals : length c.keep ≤ 1000
  pub intervals : All IsInterval c.keep
  pub in_order : AreInOrder c.keep
  pub distinct_anonymous : AreDistinct c.anonymous
  pub not_far_back : neg_ℤ (pos (10 ^ 10)) ≤ℤ c.shift
  pub not_far_on : c.shift ≤ℤ pos (10 ^ 10)
  pub distinct_remove : AreDistinct c.remove
  pub distinct_prefixes : AreDistinct c.remove_prefix
  pub some_prefixes : All (λ prefix. prefix ≢ []) c.remove_prefix
  pub distinct_blank : AreDistinct c.blank

-- the text is TOML that says this claim, in 65,536 bytes at the most
pub record SaysClaimText (text : List ℕ) (c : ClaimValue) : Type 0 where
  pub short : length text ≤ 65536
  pub utf8 : IsUtf8 text
  pub entries : Members
  pub parsed : parse_document text ≡ Some entries
  pub says : SaysClaim entries c

-- the text is TOML that says this claim, however long it is
pub record SaysClaimAtAnyLength (text : List ℕ) (c : ClaimValue) : Type 0 where
  pub utf8 : IsUtf8 text
  pub entries : Members
  pub parsed : parse_document text ≡ Some entries
  pub says : SaysClaim entries c

-- a table says at most one claim
abbrev pub SaysOneClaim : Type 0
SaysOneClaim = (entries : Members) (c d : ClaimValue) → SaysClaim entries c → SaysClaim entries d → c ≡ d
