-- Facts on tables.
use Rattle.std.proofs.Common.{◌≡◌, ◌∷◌, [], List, ℕ, map, refl, ap, ◌&&◌}
use Rattle.std.specs.Prelude.{String, string_bytes}
use Rattle.std.specs.List.{list_all}
use Rattle.std.specs.declared.alloc.Global.{Global}
use Rattle.toml.specs.View.{members_view}
use Rattle.toml.specs.declared.value.Value.{Value}
use Rattle.edf_fields.specs.Lists.{is_one_of}
use Rattle.edf_claim.specs.Reading.{keys_are}

-- the test over a map's keys, in order, is that over the entries
pub keys_known : (keys : List (List ℕ)) (es : List (String Global × Value)) → keys_are keys (members_view es) ≡ list_all (λ key. is_one_of keys (string_bytes key)) (map (λ entry. entry.0) es)
keys_known keys [] = refl
keys_known keys (e ∷ es) = ap (λ b. is_one_of keys (string_bytes e.0) && b) (keys_known keys es)
