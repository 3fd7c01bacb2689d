-- The lines that are written.
use Rattle.std.specs.Prelude.{ℕ, List, ◌++◌, codes, Bool, true, false, Option, Some, None}
use Rattle.std.specs.Fmt.{decimal}
use Rattle.icu_locale.specs.declared.directionality.Direction.{Direction}
use Rattle.icu_locale.specs.declared.directionality.Direction.TheVariants.{LeftToRight, RightToLeft}
use Rattle.icu_locale.specs.Canonical.{rg}
use Rattle.icu_locale_core.specs.Identifier.{written}
use Rattle.icu_locale_extensions.specs.Locales as whole
use Rattle.icu_locale_extensions.specs.declared.identifier.LocaleIdentifier.{LocaleIdentifier}
use Rattle.icu_locale_core.specs.Maps.{value_at}
use Rattle.icu_locale_core.specs.TextSet.{text_cmp}
use Rattle.icu_locale_core.specs.Value.{written_value}
use Rattle.icu_locale_names.specs.Pieces.{Piece, text_of, has_raw}
use Rattle.icu_locale_core.specs.declared.langid.LanguageIdentifier.{LanguageIdentifier}
use Rattle.icu_locale_core.specs.declared.locale.Locale.{Locale}
use Rattle.icu_locale.specs.declared.expander.TransformResult.{TransformResult}
use Rattle.icu_locale.specs.declared.expander.TransformResult.TheVariants.{Modified, Unmodified}

-- `M` or `U`
abbrev pub mark : TransformResult → List ℕ
mark Modified = codes "M"
mark Unmodified = codes "U"

-- a text, a tab, and whether anything was changed
abbrev pub changed_line : List ℕ → TransformResult → List ℕ
changed_line text m = text ++ (codes "\t" ++ (mark m ++ codes "\n"))

-- the identifier in written case, a tab, and whether it was changed
abbrev pub transformed_line : LanguageIdentifier → TransformResult → List ℕ
transformed_line x m = changed_line (written x) m

-- the identifier in written case, a tab, the value if there is one, a tab after it, and whether
-- anything was changed
abbrev pub override_line : LanguageIdentifier → Option (List (List ℕ)) → TransformResult → List ℕ
override_line x None m = transformed_line x m
override_line x (Some v) m =
    written x ++ (codes "\t" ++ (written_value v ++ (codes "\t" ++ (mark m ++ codes "\n"))))

-- the line of a canonical locale: its identifier, and its value at `rg` if there is one
abbrev pub canonical_line : Locale → TransformResult → List ℕ
canonical_line locale m =
    override_line locale.id (value_at text_cmp locale.extensions.unicode.keywords rg) m

-- a locale identifier in written case, a tab, and whether anything was changed
abbrev pub whole_line : LocaleIdentifier → TransformResult → List ℕ
whole_line x m = changed_line (whole.written x) m

-- `?`, a tab, and the name of the refusal
abbrev pub refused_line : List ℕ → List ℕ
refused_line name = codes "?\t" ++ (name ++ codes "\n")

-- the same, and behind tabs the first byte of the place of a fault and the byte after it
abbrev pub placed_line : List ℕ → (from to : ℕ) → List ℕ
placed_line name from to = codes "?\t" ++ (name ++ (codes "\t" ++ (decimal from
    ++ (codes "\t" ++ (decimal to ++ codes "\n")))))

-- `ltr`, `rtl` or `none`
abbrev pub direction_line : Option Direction → List ℕ
direction_line (Some LeftToRight) = codes "ltr\n"
direction_line (Some RightToLeft) = codes "rtl\n"
direction_line None = codes "none\n"

-- `yes` or `no`
abbrev pub settled_line : Bool → List ℕ
settled_line true = codes "yes\n"
settled_line false = codes "no\n"

-- `R` where a raw subtag was written, else `N`
abbrev pub raw_mark : Bool → List ℕ
raw_mark true = codes "R"
raw_mark false = codes "N"

-- the text of a name, a tab, and whether a raw subtag was written
abbrev pub named_line : List Piece → List ℕ
named_line pieces = text_of pieces ++ (codes "\t" ++ (raw_mark (has_raw pieces) ++ codes "\n"))

-- a place, a tab, and what is available as it is written
abbrev pub matched_line : ℕ → List ℕ → List ℕ
matched_line place shown = decimal place ++ (codes "\t" ++ (shown ++ codes "\n"))
