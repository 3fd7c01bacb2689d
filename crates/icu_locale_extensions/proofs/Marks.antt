-- Marks are ASCII.
use Rattle.std.proofs.Common.{◌≡◌, ◌<◌, ℕ, true, not, ◌&&◌, ◌||◌, List, [], ◌∷◌}
use Rattle.std.proofs.Common.{arith}
use Rattle.std.specs.Str.{IsUtf8}
use Rattle.std.proofs.lemmas.Bool.{and_parts, false≢true}
use Rattle.std.proofs.lemmas.Bool.Decides.{nat_tests}
use Rattle.std.proofs.lemmas.Str.{IsUtf8-from_ascii}
use Rattle.std.proofs.lemmas.Str.Ascii.{IsAscii-nil, IsAscii-cons}
use Rattle.icu_locale_core.specs.Subtag.{is_alphanumeric}
use Rattle.icu_locale_extensions.specs.Extensions.{is_singleton, is_x, is_u, is_t, is_tkey, is_other_singleton}
use Rattle.icu_locale_extensions.proofs.Spellings.{IsUtf8-plain}

pub IsUtf8-tkey : (t : List ℕ) → is_tkey t ≡ true → IsUtf8 t
IsUtf8-tkey [] is = absurd (false≢true is)
IsUtf8-tkey (c ∷ []) is = absurd (false≢true is)
IsUtf8-tkey (c ∷ d ∷ []) is =
    let first : c < 128 = grind (arith, nat_tests) in
    let second : d < 128 = grind (arith, nat_tests) in
    IsUtf8-from_ascii (c ∷ d ∷ []) (IsAscii-cons c (d ∷ []) first (IsAscii-cons d [] second IsAscii-nil))
IsUtf8-tkey (c ∷ d ∷ e ∷ t) is = absurd (false≢true is)

pub IsUtf8-other : (t : List ℕ) → is_other_singleton t ≡ true → IsUtf8 t
IsUtf8-other t is =
    let both = and_parts (is_singleton t && is_alphanumeric t) (not (is_t t || (is_u t || is_x t))) is in
    IsUtf8-plain t (and_parts (is_singleton t) (is_alphanumeric t) both.0).1
