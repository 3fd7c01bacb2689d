-- The seven kinds of rules, and the one turn that they make (UTS #35 Part 1, Annex C "LocaleId Canonicalization").
use Rattle.std.specs.Str.{bytes_eq}
use Rattle.std.specs.Prelude.{◌==◌, ℕ, Bool, List, [], ◌∷◌, length, codes, Option, Some, None, is_some, unwrap_or, if◌then◌else◌}
use Rattle.std.specs.Option.{option_map, option_and_then, option_or}
use Rattle.std.specs.List.{find, list_any}
use Rattle.icu_locale_core.specs.Subtag.{is_alphabetic}
use Rattle.icu_locale_core.specs.TextSet.{text_cmp, empty, rising, len, image}
use Rattle.icu_locale_core.specs.declared.langid.LanguageIdentifier.{LanguageIdentifier}
use Rattle.icu_locale_core.specs.Maps.{value_at}
use Rattle.icu_locale.specs.LikelySubtags.{LikelySubtags, maximal}
use Rattle.icu_locale.specs.Rules.{is_known, matches, replaced, of_language}
use Rattle.icu_locale.specs.declared.canonicalizer.rules.Rule.{Rule}
use Rattle.icu_locale.specs.declared.canonicalizer.rules.Rules.{Rules}

-- without variants the rules of `language` are asked, with variants those of `language_variants`
abbrev pub rules_for : Rules → LanguageIdentifier → List Rule
rules_for rules x = if len x.variants == 0 then rules.language else rules.language_variants

-- kind 1: the first rule that matches, by matching of languages and variants
abbrev pub by_rule : Rules → LanguageIdentifier → Option LanguageIdentifier
by_rule rules x = option_map (λ r. replaced x r.source r.replacement)
    (find (λ r. matches x r.source) (rules_for rules x))

-- the language that stands for `sgn` in a region
abbrev pub sign_language : Rules → LanguageIdentifier → Option (List ℕ)
sign_language rules x = if bytes_eq x.language (codes "sgn")
    then option_and_then (value_at text_cmp rules.aliases.sgn_region) x.region else None

-- kind 2: the language `sgn` with a region that is a key of `sgn_region` becomes the language of that region
abbrev pub by_sign_region : Rules → LanguageIdentifier → Option LanguageIdentifier
by_sign_region rules x =
    option_map (λ l. replaced x
    (record { language = codes "sgn"; script = None; region = x.region; variants = empty })
    (of_language l)) (sign_language rules x)

-- the replacement of a known language, by the table for its length
abbrev pub language_alias : Rules → List ℕ → Option LanguageIdentifier
language_alias rules l =
    if is_known l
    then value_at text_cmp (if length l == 2 then rules.language_len2 else rules.language_len3) l
    else None

-- kind 3: a language that has an alias is replaced, and the variants of the alias are ignored
abbrev pub by_language_alias : Rules → LanguageIdentifier → Option LanguageIdentifier
by_language_alias rules x = option_map
    (λ b. replaced x (of_language x.language) (record b { variants = empty }))
    (language_alias rules x.language)

-- kind 4: a script that is a key of `script` is replaced
abbrev pub by_script : Rules → LanguageIdentifier → Option LanguageIdentifier
by_script rules x = option_map (λ s. record x { script = Some s })
    (option_and_then (value_at text_cmp rules.aliases.script) x.script)

-- the region that stands for one of letters or of digits
abbrev pub region_alias : Rules → List ℕ → Option (List ℕ)
region_alias rules r = value_at text_cmp
    (if is_alphabetic r then rules.aliases.region_alpha else rules.aliases.region_num) r

-- kind 5: a region that is a key of `region_alpha` or `region_num` is replaced
abbrev pub by_region : Rules → LanguageIdentifier → Option LanguageIdentifier
by_region rules x =
    option_map (λ r. record x { region = Some r }) (option_and_then (region_alias rules) x.region)

-- the likely region if it is in the list, else the first of the list
abbrev pub chosen : Option (List ℕ) → List (List ℕ) → Option (List ℕ)
chosen likely [] = None
chosen None (r ∷ rs) = Some r
chosen (Some l) (r ∷ rs) = if list_any (λ s. bytes_eq s l) (r ∷ rs) then Some l else Some r

-- the region of the maximal form of language and script alone
unfoldable pub likely_region : LikelySubtags → LanguageIdentifier → Option (List ℕ)
likely_region likely x = (maximal likely
    (record { language = x.language; script = x.script; region = None; variants = empty })).region

-- the region chosen for a key of `complex_region`
abbrev pub complex_region : LikelySubtags → Rules → LanguageIdentifier → Option (List ℕ)
complex_region likely rules x =
    option_and_then (λ rs. chosen (likely_region likely x) rs.items)
    (option_and_then (value_at text_cmp rules.aliases.complex_region) x.region)

-- kind 6: a region that is a key of `complex_region`, with a list that is not empty, is replaced by one of the list
abbrev pub by_complex_region : LikelySubtags → Rules → LanguageIdentifier
    → Option LanguageIdentifier
by_complex_region likely rules x =
    option_map (λ r. record x { region = Some r }) (complex_region likely rules x)

-- the variant that stands for another
abbrev pub variant_alias : Rules → List ℕ → Option (List ℕ)
variant_alias rules v = value_at text_cmp rules.aliases.variant v

-- kind 7: where some variant is a key of `variant`, every variant that is one is replaced
abbrev pub by_variant : Rules → LanguageIdentifier → Option LanguageIdentifier
by_variant rules x =
    if list_any (λ v. is_some (variant_alias rules v)) (rising x.variants)
    then Some (record x { variants = image (λ v. unwrap_or (variant_alias rules v) v) x.variants })
    else None

-- one turn: what the first kind that matches makes of x. The order of kinds is this project's. Annex C tries all rules in
-- one order, by how many parts they name; so `sgn-DE-aaland`, which comes to `gsg-AX` there, comes to `gsg` here
abbrev pub next : LikelySubtags → Rules → LanguageIdentifier → Option LanguageIdentifier
next likely rules x =
    option_or (by_rule rules x) (option_or (by_sign_region rules x)
    (option_or (by_language_alias rules x) (option_or (by_script rules x)
    (option_or (by_region rules x) (option_or (by_complex_region likely rules x)
    (by_variant rules x))))))

-- one turn of an identifier, or by language aliases alone of a transform language
abbrev pub next_of : LikelySubtags → Rules → Bool → LanguageIdentifier → Option LanguageIdentifier
next_of likely rules transform x =
    if transform then by_language_alias rules x else next likely rules x
