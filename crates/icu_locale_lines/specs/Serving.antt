-- What is served, and how far identifiers are from each other: the lines of both (UTS #35 Part 1, section 4.4).
use Rattle.std.specs.Prelude.{◌≡◌, ℕ, Bool, true, false, List, [], ◌∷◌, ◌++◌, codes, Option, Some, None, if◌then◌else◌}
use Rattle.std.specs.Fmt.{decimal}
use Rattle.std.specs.List.{slice_get}
use Rattle.std.specs.Option.{option_or}
use Rattle.icu_locale.specs.LikelySubtags.{LikelySubtags}
use Rattle.icu_locale_core.specs.Identifier.{parse_error_name}
use Rattle.icu_locale_core.specs.declared.langid.LanguageIdentifier.{LanguageIdentifier}
use Rattle.icu_locale_core.specs.declared.parse_error.ParseError.TheVariants.{InvalidSubtag}
use Rattle.icu_locale_extensions.specs.declared.syntax.Syntax.{Syntax}
use Rattle.icu_locale_matching.specs.Distance.{distance}
use Rattle.icu_locale_matching.specs.Nearest.{form_of}
use Rattle.icu_locale_matching.specs.Resolved.{resolved}
use Rattle.icu_locale_matching.specs.Service.{Service, IsServed, IsNearestTo, first_place, place_of}
use Rattle.icu_locale_matching.specs.declared.matcher.Match.{Match}
use Rattle.icu_provider.specs.declared.matching.LanguageMatching.{LanguageMatching}
use Rattle.icu_locale_extensions.specs.declared.identifier.LocaleIdentifier.{LocaleIdentifier}
use Rattle.icu_locale_extensions.specs.Locales.{written}
use Rattle.icu_locale_lines.specs.Lists.{ids_of, IsListedAnswer, IsWantedAnswer, TellsPlace}
use Rattle.icu_locale_lines.specs.Texts.{matched_line, refused_line}
use Rattle.icu_locale_lines.specs.declared.command.ServeTask.{ServeTask}
use Rattle.icu_locale_lines.specs.declared.command.Wishes.{Wishes}
use Rattle.icu_locale_lines.specs.declared.command.Wishes.TheVariants.{Header, Requests, Resolved}

-- the place of what is served, and that as it is available; or `none`
abbrev pub TellsServed : List LanguageIdentifier → List LocaleIdentifier → Option ℕ → List ℕ
    → Type 0
TellsServed available wholes None text = text ≡ codes "none\n"
TellsServed available wholes (Some place) text = TellsPlace available wholes place place text

-- the place of the first, where nothing is served and that is asked for
abbrev pub place_or_first : ServeTask → List LanguageIdentifier → Option ℕ → Option ℕ
place_or_first how available place =
    option_or place (if how.or_first then first_place available else None)

-- the line of a header: what is served for it
abbrev pub IsServedLine : ServeTask → Service → List LocaleIdentifier → List ℕ → List ℕ → Bool
    → Type 0
IsServedLine how s wholes header text accepted = (place : Option ℕ) × IsServed s header place
    × TellsServed s.available wholes (place_or_first how s.available place) text × (accepted ≡ true)

-- the line of requests: the nearest
abbrev pub IsNearestLine : ServeTask → Service → List LocaleIdentifier → List LanguageIdentifier
    → List ℕ → Bool → Type 0
IsNearestLine how s wholes requests text accepted = (found : Option Match)
    × IsNearestTo s requests found
    × TellsServed s.available wholes (place_or_first how s.available (place_of found)) text
    × (accepted ≡ true)

-- the place of what is served, and that with what is its reader's own; what is served to none as it is available
abbrev pub TellsResolved : ServeTask → List LanguageIdentifier → List LocaleIdentifier
    → List LocaleIdentifier → Option Match → List ℕ → Type 0
TellsResolved how available wholes wanted None text =
    TellsServed available wholes (place_or_first how available None) text
TellsResolved how available wholes wanted (Some m) text =
    (served : LanguageIdentifier) × (slice_get available m.available ≡ Some served)
    × (own : LocaleIdentifier) × (slice_get wanted m.request ≡ Some own)
    × (text ≡ matched_line m.available (written (resolved served own)))

-- the line of what a reader wants: the nearest, resolved
abbrev pub IsResolvedLine : ServeTask → Service → List LocaleIdentifier → List LocaleIdentifier
    → List ℕ → Bool → Type 0
IsResolvedLine how s wholes wanted text accepted = (found : Option Match)
    × IsNearestTo s (ids_of wanted) found
    × TellsResolved how s.available wholes wanted found text × (accepted ≡ true)

-- the answer to a line of wishes; a header is what it is in each syntax
abbrev pub IsWishAnswerTo : Wishes → Option Syntax → ServeTask → Service → List LocaleIdentifier
    → List ℕ → List ℕ → Bool → Type 0
IsWishAnswerTo Header syntax how s wholes line text accepted =
    IsServedLine how s wholes line text accepted
IsWishAnswerTo Requests syntax how s wholes line text accepted =
    IsListedAnswer syntax (IsNearestLine how s wholes) line text accepted
IsWishAnswerTo Resolved syntax how s wholes line text accepted =
    IsWantedAnswer syntax (IsResolvedLine how s wholes) line text accepted

abbrev pub IsWishAnswer : Option Syntax → ServeTask → Service → List LocaleIdentifier → List ℕ
    → List ℕ → Bool → Type 0
IsWishAnswer syntax how s wholes line text accepted =
    IsWishAnswerTo how.wishes syntax how s wholes line text accepted

-- the line of a distance
abbrev pub distance_line : ℕ → List ℕ
distance_line n = decimal n ++ codes "\n"

-- the line of two identifiers: how far the maximal form of the second is from that of the first;
-- any other number of them is refused
abbrev pub IsDistanceLine : LanguageMatching → LikelySubtags → List LanguageIdentifier → List ℕ
    → Bool → Type 0
IsDistanceLine t likely (d ∷ s ∷ []) text accepted =
    (text ≡ distance_line (distance t (form_of likely d) (form_of likely s))) × (accepted ≡ true)
IsDistanceLine t likely xs text accepted =
    (text ≡ refused_line (parse_error_name InvalidSubtag)) × (accepted ≡ false)
