-- Lines that begin subtags, and the subtags of one kind that have names (UTS #35 Part 2, Display Name Elements).
use Rattle.std.specs.Prelude.{◌≡◌, ℕ, Bool, true, List, [], ◌∷◌, ◌++◌, codes, nat_eq, Option, None, Some, if◌then◌else◌}
use Rattle.std.specs.List.{flat_map, starts_with}
use Rattle.icu_locale_parts.specs.Parts.{members}
use Rattle.icu_provider.specs.declared.names.NameKey.{NameKey}
use Rattle.icu_provider.specs.declared.names.NameKey.TheVariants as key
use Rattle.icu_provider.specs.declared.names.NameMarker.{NameMarker}
use Rattle.icu_provider.specs.declared.names.NameMarker.TheVariants as names
use Rattle.icu_tables.specs.LentNames.{all_names}
use Rattle.icu_tables.specs.NamedKeys.{AreNamedKeys}
use Rattle.icu_locale_lines.specs.declared.work.subtag.SubtagKind.{SubtagKind}
use Rattle.icu_locale_lines.specs.declared.work.subtag.SubtagKind.TheVariants as kind
use Rattle.icu_locale_lines.specs.declared.work.subtag_list.SubtagList.{SubtagList}

-- the kinds of names that subtags of a kind have
abbrev pub markers_of : SubtagKind → List NameMarker
markers_of kind.Language = names.LanguageLongHeavy ∷ names.LanguageLongLight
    ∷ names.LanguageMediumHeavy ∷ names.LanguageMediumLight ∷ names.LanguageMediumTiny
    ∷ names.LanguageShortHeavy ∷ names.LanguageShortLight ∷ []
markers_of kind.Script = names.ScriptMediumHeavy ∷ names.ScriptMediumLight
    ∷ names.ScriptMediumTiny ∷ names.ScriptShortHeavy ∷ []
markers_of kind.Region = names.RegionMediumLight ∷ names.RegionMediumTiny
    ∷ names.RegionShortLight ∷ names.RegionShortTiny ∷ []
markers_of kind.Variant = names.VariantMediumHeavy ∷ []

-- the subtag of a kind that a key names alone
abbrev pub subtag_of : SubtagKind → NameKey → Option (List ℕ)
subtag_of kind.Language (key.Language x None None) = Some x
subtag_of kind.Script (key.Script x) = Some x
subtag_of kind.Region (key.Region x) = Some x
subtag_of kind.Variant (key.Variant x) = Some x
subtag_of other k = None

-- it, where it begins with a text
abbrev pub if_begun : (front : List ℕ) → Option (List ℕ) → List (List ℕ)
if_begun front None = []
if_begun front (Some x) = if starts_with nat_eq x front then x ∷ [] else []

-- the subtags of keys that begin with a text
abbrev pub began : SubtagKind → (front : List ℕ) → List NameKey → List (List ℕ)
began kind front ks = flat_map (λ k. if_begun front (subtag_of kind k)) ks

-- texts after others, a space before each where there are any
abbrev pub after_any : Bool → List (List ℕ) → List ℕ
after_any any xs = flat_map (λ x. (if any then codes " " else []) ++ x) xs

-- the subtags of a kind that have a name in a locale and begin with the line: each once, rising
abbrev pub IsListedLine : SubtagList → (line text : List ℕ) → Bool → Type 0
IsListedLine list line text accepted = (keys : List NameKey)
    × AreNamedKeys (all_names list.tables.now) (markers_of list.kind) list.locale keys
    × (text ≡ members (began list.kind line keys) ++ codes "\n") × (accepted ≡ true)
