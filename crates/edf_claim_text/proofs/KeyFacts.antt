-- The keys that format 2 has besides, one behind the other.
use Rattle.std.proofs.Common.{◌≡◌, ◌++◌, ℕ, List, codes, ap, ◌∙◌, append_assoc}
use Rattle.edf_claim.specs.ClaimValues.{ClaimValue}
use Rattle.edf_claim_text.specs.PlainTexts.{both_keys, texts_array}

pub both_said : (old first second : List ℕ) (c : ClaimValue) (prefixes blank : List (List ℕ)) → prefixes ≡ c.remove_prefix → blank ≡ c.blank
    → first ≡ old ++ texts_array (codes "remove-prefix") prefixes → second ≡ first ++ texts_array (codes "blank") blank
    → second ≡ old ++ both_keys c
unfolding both_keys
both_said old first second c prefixes blank are_prefixes are_blank one two =
    two ∙ ap (λ t. t ++ texts_array (codes "blank") blank) one
    ∙ append_assoc old (texts_array (codes "remove-prefix") prefixes) (texts_array (codes "blank") blank)
    ∙ ap (λ ps. old ++ (texts_array (codes "remove-prefix") ps ++ texts_array (codes "blank") blank)) are_prefixes
    ∙ ap (λ bs. old ++ (texts_array (codes "remove-prefix") c.remove_prefix ++ texts_array (codes "blank") bs)) are_blank
